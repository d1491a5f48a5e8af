-- Tests put together: what `implies` says where it passes. Assumes nothing.
use Prim.Native.Nat.{ℕ}
use mathlib.Core.Path.{◌≡◌, refl}
use mathlib.Core.Logic.{◌≢◌}
use mathlib.Core.Bool.{Bool, true, false, not, false≢true}
use borrow.Author.Tests.{eqb-false, ne_eqb, not-true}
use lib.Dec.{eqb}
use Rattle.table.specs.Words.{implies}

pub implies_intro : (a b : Bool) → (a ≡ true → b ≡ true) → implies a b ≡ true
implies_intro true b f = f refl
implies_intro false b f = refl

pub implies_elim : (a b : Bool) → implies a b ≡ true → a ≡ true → b ≡ true
implies_elim true b e h = e
implies_elim false b e h = absurd (false≢true h)

pub not_eqb : (a b : ℕ) → a ≢ b → not (eqb a b) ≡ true
not_eqb a b h = rw (ne_eqb a b h)

pub eqb_not : (a b : ℕ) → not (eqb a b) ≡ true → a ≢ b
eqb_not a b h = eqb-false a b (not-true (eqb a b) h)
