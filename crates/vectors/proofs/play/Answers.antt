use mathlib.Core.Logic.{inl}
use mathlib.Core.Path.{ap, ◌∙◌}
use native.Mathlib.Omega.{arith}
use Rattle.std.proofs.Common.{◌≡◌, ◌≤◌, length}
use Rattle.std.proofs.lemmas.List.{length-drop, length-take}
use Rattle.vectors.proofs.play.Goals as goal

-- There are no more records than words are looked at.
pub loop-k-init : goal.loop-k-init
loop-k-init g c =
    let few : length c.records.result.rest.now ≤ 409600 = rw (c.records.ensures, length-drop, c.first.ensures, length-take) (omega arith) in
    let same = c.into_iter-k-iterator.ensures.into_iter_gives in
    let left : length c.into_iter-k-iterator.result.iter.rest.now ≡ length c.records.result.rest.now =
    ap (λ e. length e.iter.rest.now) same ∙ ap (λ s. length s.rest.now) c.enumerate-k-items.ensures.source in
    let none : c.into_iter-k-iterator.result.count ≡ 0 = ap (λ e. e.count) same ∙ c.enumerate-k-items.ensures.count in
    ((tt, tt, inl (omega (arith, few, left, none))), tt, omega (arith, few, left))
