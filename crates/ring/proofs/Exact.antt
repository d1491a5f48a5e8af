-- On a table with R1 to R4 the ring is the walk that closes or meets a border, so it is exactly the fan, none twice. Assumes nothing.
use mathlib.Core.Path.{◌≡◌}
use mathlib.Core.Logic.{◌≢◌}
use mathlib.Core.Bool.{Bool, true, false, cond}
use mathlib.Core.List.{List, [], ◌∷◌, ◌++◌}
use Prim.Native.Nat.{ℕ, zero, suc, ◌+◌, ◌<◌}
use native.Mathlib.Omega.{arith}
use borrow.Author.Tests.{eq-eqb, ne_eqb}
use Rattle.corner.specs.Corner.{absent, turn}
use Rattle.table.specs.Slots.{opposite_at}
use Rattle.table.specs.Table.{Table, vertex, Live, Shaped}
use Rattle.table.specs.Rules.{WellFormed}
use Rattle.fan.proofs.Fan.{swing_l, swing_r, Linked}
use Rattle.fan.proofs.Walk.{it, Stop, border, closes, Walk}
use Rattle.fan.proofs.Ring.{stuck_l, stuck_r}
use Rattle.fan.proofs.Visits.{after, Covers, Sound, w, v, leftward, rightward, ring_covers, fan_covers, covers_sound}
use Rattle.fan.proofs.Tables.{table_linked, table_fan}
use Rattle.ring.specs.Ring.{sweep, ring}

module _ (live : ℕ → Type 0) (co : List ℕ) (n : ℕ) (left : Bool) where
  abbrev swing : ℕ → ℕ
  swing d = turn left (opposite_at co (turn left d))

  abbrev stuck : ℕ → Type 0
  stuck d = opposite_at co (turn left d) ≡ absent

  module _ (c : ℕ) (W : Walk live stuck swing n c) where
    abbrev pub bordered : Stop stuck swing c (it swing c W.last) → Bool
    bordered (border s) = true
    bordered (closes s e) = false

    abbrev g : ℕ → ℕ
    g i = it swing c i

    side_from : (k i m : ℕ) → i + k ≡ W.last → k < m → sweep left co c m (g i) ≡ record { visits = after g i k; border = bordered W.ends }
    unfolding sweep
    side_from k i zero e h = absurd (omega arith)
    side_from zero i (suc m) e h = by W.ends
      where
        z : W.last ≡ i
        z = omega arith

        by : (x : Stop stuck swing c (it swing c W.last)) → sweep left co c (suc m) (g i) ≡ record { visits = []; border = bordered x }
        by (border s) = rw (eq-eqb (opposite_at co (turn left (g i))) absent (rw z at s))
        by (closes s q) =
            let s' : opposite_at co (turn left (g i)) ≢ absent = rw z at s in
            let q' : swing (g i) ≡ c = rw z at q in
            rw (ne_eqb (opposite_at co (turn left (g i))) absent s', eq-eqb (swing (g i)) c q')
    side_from (suc k) i (suc m) e h = by (side_from k (suc i) m (omega arith) (omega arith))
      where
        by : sweep left co c m (g (suc i)) ≡ record { visits = after g (suc i) k; border = bordered W.ends }
            → sweep left co c (suc m) (g i) ≡ record { visits = after g i (suc k); border = bordered W.ends }
        by r = rw (ne_eqb (opposite_at co (turn left (g i))) absent (W.moves i (omega arith)), ne_eqb (swing (g i)) c (W.opens i (omega arith)), r)

    pub side_is : sweep left co c n c ≡ record { visits = after g 0 W.last; border = bordered W.ends }
    side_is = side_from W.last 0 n (omega arith) W.small

module _ {live : ℕ → Type 0} {vtx : ℕ → ℕ} (co : List ℕ) (n : ℕ) (L : Linked live (opposite_at co) vtx) (below : (d : ℕ) → live d → d < n)
    (c : ℕ) (start : live c) where
  abbrev wl : Walk live (stuck_l (opposite_at co)) (swing_l (opposite_at co)) n c
  wl = w L n below c start

  abbrev wr : Walk live (stuck_r (opposite_at co)) (swing_r (opposite_at co)) n c
  wr = v L n below c start

  pub ring_exact : Covers live (opposite_at co) n c (ring co n c)
  unfolding ring leftward rightward
  ring_exact = by wl.ends (side_is live co n true c wl) (side_is live co n false c wr)
    where
      by : (x : Stop (stuck_l (opposite_at co)) (swing_l (opposite_at co)) c (it (swing_l (opposite_at co)) c wl.last))
          → sweep true co c n c ≡ record { visits = after (it (swing_l (opposite_at co)) c) 0 wl.last; border = bordered live co n true c wl x }
          → sweep false co c n c ≡ record { visits = after (it (swing_r (opposite_at co)) c) 0 wr.last; border = bordered live co n false c wr wr.ends }
          → Covers live (opposite_at co) n c
          (cond (sweep true co c n c).border ((c ∷ (sweep true co c n c).visits) ++ (sweep false co c n c).visits) (c ∷ (sweep true co c n c).visits))
      by (border s) p q = rw (p, q) (fan_covers L n below c start s)
      by (closes s e) p q = rw p (ring_covers L n below c start s e)

-- on a well-formed table: exactly the live corners of the corner's vertex
pub ring_sound : (t : Table) → Shaped t → WellFormed t → (c : ℕ) → Live t c → Sound (Live t) (vertex t) t.corners c (ring t.corner_opposite t.corners c)
ring_sound t S W c h =
    covers_sound (table_linked t S W) t.corners (λ d k. k.0) c h (table_fan t S W) (ring t.corner_opposite t.corners c)
    (ring_exact t.corner_opposite t.corners (table_linked t S W) (λ d k. k.0) c h)
