-- Marks set one after another. Assumes nothing.
use Prim.Native.Nat.{ℕ, ◌+◌, ◌<◌}
use mathlib.Core.Path.{◌≡◌, sym}
use mathlib.Core.List.{List, [], ◌∷◌}
use lib.ListN.{set, length, take, get_or}
use Rattle.std.specs.Prelude.{map}
use Rattle.std.proofs.lemmas.List.{take_more, map-append}
use Rattle.corner.specs.declared.Corner.{Corner}
use Rattle.table.specs.Slots.{relabel}
use Rattle.ring.proofs.Labels.{relabel_append}

-- 1 at each of the corners' slots
abbrev pub marked : List Corner → List ℕ → List ℕ
marked cs l = relabel (map (λ (c : Corner). c.0) cs) 1 l

pub one_more : (cs : List Corner) (l : List ℕ) (k : ℕ) (d : Corner) {l1 : List ℕ} → k < length cs → l1 ≡ marked (take k cs) l
    → set l1 (get_or cs k d).0 1 ≡ marked (take (k + 1) cs) l
one_more cs l k d h e =
    rw (e, take_more cs k d h, map-append (λ (c : Corner). c.0) (take k cs) (get_or cs k d ∷ []))
    (sym (relabel_append (map (λ (c : Corner). c.0) (take k cs)) ((get_or cs k d).0 ∷ []) 1 l))
