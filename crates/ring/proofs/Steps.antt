-- A turn of the walk, by what was read. The walk stands on `via`, the corner that it crosses from: the corner it has come to is the other
-- turn of that. Assumes nothing.
use mathlib.Core.Path.{◌≡◌, ap, sym, ◌∙◌}
use mathlib.Core.Bool.{Bool, true, false, not}
use mathlib.Core.List.{List}
use Prim.Native.Nat.{ℕ, zero, suc, ◌-◌, ◌<◌}
use native.Mathlib.Omega.{arith}
use borrow.Author.Tests.{eq-eqb, ne_eqb}
use Rattle.corner.specs.Corner.{absent, turn}
use Rattle.corner.proofs.Turns.{turn_back, not_turn_twice}
use Rattle.table.specs.Slots.{opposite_at}
use Rattle.ring.specs.Ring.{stop, more, sweep}

-- where a walk stands that crosses from via
abbrev pub stands : Bool → ℕ → ℕ
stands left via = turn (not left) via

module _ (left : Bool) (co : List ℕ) (c₀ via o : ℕ) (at : o ≡ opposite_at co via) where
  crossed : opposite_at co (turn left (stands left via)) ≡ o
  crossed = ap (opposite_at co) (turn_back left via) ∙ sym at

  pub side_border : (n : ℕ) → 0 < n → o ≡ absent → sweep left co c₀ n (stands left via) ≡ stop true
  unfolding sweep
  side_border zero h e = absurd (omega arith)
  side_border (suc n) h e = rw (crossed, eq-eqb o absent e)

  module _ (there : o ≡ absent → ⊥) (d : ℕ) (to : d ≡ turn left o) where
    pub side_closed : (n : ℕ) → 0 < n → d ≡ c₀ → sweep left co c₀ n (stands left via) ≡ stop false
    unfolding sweep
    side_closed zero h e = absurd (omega arith)
    side_closed (suc n) h e = rw (crossed, ne_eqb o absent there, ← to, eq-eqb d c₀ e)

    pub side_more : (n : ℕ) → 0 < n → (d ≡ c₀ → ⊥) → (via' : ℕ) → via' ≡ turn (not left) o
        → sweep left co c₀ n (stands left via) ≡ more d (sweep left co c₀ (n - 1) (stands left via'))
    unfolding sweep
    side_more zero h e via' q = absurd (omega arith)
    side_more (suc n) h e via' q =
        let z : suc n - 1 ≡ n = omega arith in
        let p : stands left via' ≡ d = ap (turn (not left)) q ∙ not_turn_twice left o ∙ sym to in
        rw (crossed, ne_eqb o absent there, ← to, ne_eqb d c₀ e, z, p)

pub side_out : (left : Bool) (co : List ℕ) (c₀ c n : ℕ) → n ≡ 0 → sweep left co c₀ n c ≡ stop false
unfolding sweep
side_out left co c₀ c n e = rw e

-- where it begins
pub stands_first : (left : Bool) (c via : ℕ) → via ≡ turn left c → stands left via ≡ c
stands_first true c via e = ap (turn false) e ∙ turn_back false c
stands_first false c via e = ap (turn true) e ∙ turn_back true c
