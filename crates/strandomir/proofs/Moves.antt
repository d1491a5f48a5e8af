-- A move that C gets is the definition's, where the walker's function answers the definition and the answer is told. Assumes nothing.
use mathlib.Core.Path.{◌≡◌, refl, subst}
use Rattle.walker.specs.Walker.{Moved as Move}
use Rattle.strandomir.specs.declared.Moved.{Moved}
use Rattle.strandomir.specs.Told.{told, MovedBy}

pub moved_by : (m n : Move) (r : Moved) → m ≡ n → r ≡ told m.step → MovedBy n r m.corner.0
moved_by m n r is as-told = subst (λ (x : Move). MovedBy x r m.corner.0) is (record { answered = as-told; stands = refl })
