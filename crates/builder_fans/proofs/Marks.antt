-- The marks of the fans that are kept say what they should; with that, the code's pass is the build's. Assumes nothing.
use mathlib.Core.Path.{◌≡◌, refl, sym, ◌∙◌, subst}
use mathlib.Core.Logic.{◌≢◌, ◌⊎◌, inl, inr}
use mathlib.Core.Bool.{Bool, true, false, cond, not}
use mathlib.Core.List.{List, Memᴰ}
use Prim.Native.Nat.{ℕ, zero, suc, ◌+◌, ◌≤◌, ◌<◌}
use native.Mathlib.Omega.{arith}
use native.Mathlib.Decide.{ℕ_discrete}
use borrow.Author.Tests.{eqb-false, ne_eqb}
use lib.Dec.{eqb}
use lib.ListN.{length, get_or, replicate, length-replicate}
use Rattle.corner.specs.Corner.{absent}
use Rattle.table.specs.Slots.{relabel}
use Rattle.fan.proofs.Fan.{conn_vertex}
use Rattle.fan.proofs.Relabel.{length_relabel, relabel_in, relabel_out, relabel_stays}
use Rattle.builder_build.specs.Build.{Shared, mem, vertices}
use Rattle.builder_build.proofs.Settle.{mem_true, mem_false, vtx, corner, Whole, Exact}
use Rattle.builder_build.proofs.Folded.{get_d_replicate}
use Rattle.builder_fans.specs.Chains.{Threads, threads, threaded, mark_of, marked, spread_over}
use Rattle.builder_fans.proofs.Agree.{chain_lefts, fast_plain}

module _ (ring : ℕ → List ℕ) (vc : List ℕ) where
  one_length : (v : ℕ) (m : List ℕ) → length (mark_of ring vc v m) ≡ length m
  unfolding mark_of
  one_length v m = by (eqb (get_or vc v absent) absent)
    where
      by : (b : Bool) → length (cond b m (relabel (ring (get_or vc v absent)) 1 m)) ≡ length m
      by true = refl
      by false = length_relabel (ring (get_or vc v absent)) 1 m

  one_stays : (v : ℕ) (m : List ℕ) (c : ℕ) → c < length m → get_or m c 0 ≡ 1 → get_or (mark_of ring vc v m) c 0 ≡ 1
  unfolding mark_of
  one_stays v m c h e = by (eqb (get_or vc v absent) absent)
    where
      by : (b : Bool) → get_or (cond b m (relabel (ring (get_or vc v absent)) 1 m)) c 0 ≡ 1
      by true = e
      by false = relabel_stays (ring (get_or vc v absent)) 1 m c 0 h e

  one_in : (v : ℕ) (m : List ℕ) (c : ℕ) → c < length m → get_or vc v absent ≢ absent → Memᴰ c (ring (get_or vc v absent)) → get_or (mark_of ring vc v m) c 0 ≡ 1
  unfolding mark_of
  one_in v m c h n i = rw (ne_eqb _ _ n) (relabel_in (ring (get_or vc v absent)) 1 m c 0 h i)

  one_out : (v : ℕ) (m : List ℕ) (c : ℕ) → (get_or vc v absent ≢ absent → Memᴰ c (ring (get_or vc v absent)) → ⊥) → get_or (mark_of ring vc v m) c 0 ≡ get_or m c 0
  unfolding mark_of
  one_out v m c n = by (eqb (get_or vc v absent) absent) refl
    where
      by : (b : Bool) → eqb (get_or vc v absent) absent ≡ b → get_or (cond b m (relabel (ring (get_or vc v absent)) 1 m)) c 0 ≡ get_or m c 0
      by true e = refl
      by false e = relabel_out (ring (get_or vc v absent)) 1 m c 0 (n (eqb-false _ _ e))

  marked_stays : (k v : ℕ) (m : List ℕ) (c : ℕ) → c < length m → get_or m c 0 ≡ 1 → get_or (marked ring vc k v m) c 0 ≡ 1
  unfolding marked
  marked_stays zero v m c h e = e
  marked_stays (suc k) v m c h e = marked_stays k (suc v) (mark_of ring vc v m) c (rw (one_length v m) h) (one_stays v m c h e)

  marked_in : (k v : ℕ) (m : List ℕ) (c w : ℕ) → v ≤ w → w < v + k → c < length m → get_or vc w absent ≢ absent → Memᴰ c (ring (get_or vc w absent)) → get_or (marked ring vc k v m) c 0 ≡ 1
  unfolding marked
  marked_in zero v m c w a b h n i = absurd (omega arith)
  marked_in (suc k) v m c w a b h n i = by (ℕ_discrete w v)
      (λ z. marked_stays k (suc v) (mark_of ring vc v m) c (rw (one_length v m) h) (one_in v m c h (subst (λ (x : ℕ). get_or vc x absent ≢ absent) z n) (subst (λ (x : ℕ). Memᴰ c (ring (get_or vc x absent))) z i)))
      (λ z. marked_in k (suc v) (mark_of ring vc v m) c w (omega arith) (omega arith) (rw (one_length v m) h) n i)
    where
      by : Dec (w ≡ v) → (w ≡ v → get_or (marked ring vc k (suc v) (mark_of ring vc v m)) c 0 ≡ 1) → (w ≢ v → get_or (marked ring vc k (suc v) (mark_of ring vc v m)) c 0 ≡ 1) → get_or (marked ring vc k (suc v) (mark_of ring vc v m)) c 0 ≡ 1
      by (yes z) f g = f z
      by (no z) f g = g z

  marked_out : (k v : ℕ) (m : List ℕ) (c : ℕ) → ((w : ℕ) → get_or vc w absent ≢ absent → Memᴰ c (ring (get_or vc w absent)) → ⊥) → get_or (marked ring vc k v m) c 0 ≡ get_or m c 0
  unfolding marked
  marked_out zero v m c n = refl
  marked_out (suc k) v m c n = marked_out k (suc v) (mark_of ring vc v m) c n ∙ one_out v m c (n v)

  marked_length : (k v : ℕ) (m : List ℕ) → length (marked ring vc k v m) ≡ length m
  unfolding marked
  marked_length zero v m = refl
  marked_length (suc k) v m = marked_length k (suc v) (mark_of ring vc v m) ∙ one_length v m

-- ---- the fast pass, from a blank mark list and a blank flag list

module _ (n room vroom n₀ : ℕ) (opp : ℕ → ℕ) (ring : ℕ → List ℕ) (E : Exact n opp ring) (s : Shared) (W : Whole n room vroom opp s)
    (inside : n ≤ room) (count : s.nv ≡ n₀) (fits : n₀ ≤ vroom) where
  abbrev M : List ℕ
  M = marked ring s.vc n₀ 0 (replicate room 0)

  marks : (c : ℕ) → c < n → eqb (get_or M c 0) 0 ≡ not (mem c (ring (corner s (vtx s c))))
  marks c h = by (mem c (ring (corner s (vtx s c)))) refl
    where
      low : c < length {A = ℕ} (replicate room 0)
      low = rw (length-replicate {0} {A = ℕ} room 0) (omega arith)

      by : (b : Bool) → mem c (ring (corner s (vtx s c))) ≡ b → eqb (get_or M c 0) 0 ≡ not b
      by true e =
          let z : get_or M c 0 ≡ 1 = marked_in ring s.vc n₀ 0 (replicate room 0) c (vtx s c) (omega arith) (omega (arith, W.below c h)) low (W.has c h) (mem_true c (ring (corner s (vtx s c))) e) in
          rw z
      by false e = rw (marked_out ring s.vc n₀ 0 (replicate room 0) c away, get_d_replicate room c 0)
        where
          away : (w : ℕ) → get_or s.vc w absent ≢ absent → Memᴰ c (ring (get_or s.vc w absent)) → ⊥
          away w p i = at (W.home w)
            where
              at : (corner s w ≡ absent) ⊎ ((corner s w < n) × (vtx s (corner s w) ≡ w)) → ⊥
              at (inl z) = p z
              at (inr q) =
                  let z : vtx s c ≡ w = conn_vertex W.linked ((E (corner s w) q.0).from c i) ∙ q.1 in
                  mem_false c (ring (corner s (vtx s c))) e (subst (λ (x : ℕ). Memᴰ c (ring (corner s x))) (sym z) i)

  long : length M ≡ room
  long = marked_length ring s.vc n₀ 0 (replicate room 0) ∙ length-replicate {0} {A = ℕ} room 0

  abbrev T : Threads
  T = threaded s.cv n (threads M (replicate vroom 0))

  -- the marks, the chains and the walk along them do what the build says
  pub fast : spread_over ring T.link T.head n n₀ 0 s ≡ vertices ring n n₀ 0 s
  fast =
      fast_plain ring n n₀ s M W.has marks T.link T.head
      (λ v h. chain_lefts s.cv M n vroom (rw long inside) (λ c l. omega (arith, W.below c l)) (replicate vroom 0)
      (length-replicate {0} {A = ℕ} vroom 0) (λ u. get_d_replicate vroom u 0) v (omega arith))
      (omega arith)
