-- The new vertex at all corners of a ring but one: give it to the whole ring, then give that corner its number back. Assumes nothing.
use Prim.Native.Nat.{ℕ}
use native.Mathlib.Decide.{ℕ_discrete}
use mathlib.Core.Path.{◌≡◌, ap, sym, ◌∙◌}
use mathlib.Core.List.{List, [], ◌∷◌}
use borrow.Author.Tests.{eq-eqb, ne_eqb}
use lib.ListN.{get_or, set}
use lib.Seq.{set-set, set_comm, set-get_or, get_or-set_other}
use Rattle.table.specs.Slots.{vertex_at, relabel, three}
use Rattle.ring.specs.Ring.{ring}
use Rattle.edit_plans.specs.declared.Around.{Around}
use Rattle.edit_plans.specs.declared.Triangle.{Triangle}
use Rattle.edit_plans.specs.Plans.{six}
use Rattle.edit_split_edge.specs.SplitEdge.{without, boundary_vertices, inner_vertices}

-- what stood at a before plays no part once a is written again
rewritten : (cs : List ℕ) (u a x y : ℕ) (l : List ℕ) → set (relabel cs u (set l a x)) a y ≡ set (relabel cs u l) a y
rewritten [] u a x y l = set-set l a x y
rewritten (c ∷ cs) u a x y l = go (ℕ_discrete a c) (rewritten cs u a x y (set l c u))
  where
    go : Dec (a ≡ c) → set (relabel cs u (set (set l c u) a x)) a y ≡ set (relabel cs u (set l c u)) a y
        → set (relabel cs u (set (set l a x) c u)) a y ≡ set (relabel cs u (set l c u)) a y
    go (yes e) h = ap (λ (m : List ℕ). set (relabel cs u m) a y) (rw e (set-set l c x u))
    go (no e) h = ap (λ (m : List ℕ). set (relabel cs u m) a y) (set_comm l a c x u e) ∙ h

pub relabel_without : (a : ℕ) (cs : List ℕ) (u : ℕ) (l : List ℕ) → relabel (without a cs) u l ≡ set (relabel cs u l) a (get_or l a 0)
relabel_without a [] u l = sym (set-get_or l a 0)
relabel_without a (c ∷ cs) u l = go (ℕ_discrete c a) (relabel_without a cs u l) (relabel_without a cs u (set l c u))
  where
    go : Dec (c ≡ a) → relabel (without a cs) u l ≡ set (relabel cs u l) a (get_or l a 0)
        → relabel (without a cs) u (set l c u) ≡ set (relabel cs u (set l c u)) a (get_or (set l c u) a 0)
        → relabel (without a (c ∷ cs)) u l ≡ set (relabel cs u (set l c u)) a (get_or l a 0)
    go (yes e) h k = rw (eq-eqb c a e) (h ∙ rw e (sym (rewritten cs u a u (get_or l a 0) l)))
    go (no e) h k = rw (ne_eqb c a e) (k ∙ ap (set (relabel cs u (set l c u)) a) (get_or-set_other l c a u 0 (λ z. e (sym z))))

-- the two corners on an inner edge
pub relabel_without_two : (a b : ℕ) (cs : List ℕ) (u : ℕ) (l : List ℕ)
    → relabel (without b (without a cs)) u l ≡ set (set (relabel cs u l) a (get_or l a 0)) b (get_or l b 0)
relabel_without_two a b cs u l = relabel_without b (without a cs) u l ∙ rw (relabel_without a cs u l)

-- ... as the code has it: l is what the new faces left, l1 the ring renumbered, the kept numbers read before that
pub boundary_kept : (p : Triangle) (u n : ℕ) (co cv : List ℕ) {l l1 l2 : List ℕ} {v2 : ℕ}
    → l ≡ three cv n p.v1.0 u p.v2.0 → v2 ≡ vertex_at l p.c2.0 → l1 ≡ relabel (ring co n p.c2.0) u l → l2 ≡ set l1 p.c2.0 v2
    → l2 ≡ boundary_vertices p u n co cv
unfolding boundary_vertices
boundary_kept p u n co cv h w k j =
    rw (j, k, w, h) (sym (relabel_without p.c2.0 (ring co n p.c2.0) u (three cv n p.v1.0 u p.v2.0)))

pub inner_kept : (p : Around) (u n : ℕ) (co cv : List ℕ) {l l1 l2 l3 : List ℕ} {v2 v3 : ℕ}
    → l ≡ six cv n p.v1.0 u p.v2.0 u p.v3.0 p.v2.0 → v2 ≡ vertex_at l p.c2.0 → v3 ≡ vertex_at l p.c3.0
    → l1 ≡ relabel (ring co n p.c2.0) u l → l2 ≡ set l1 p.c2.0 v2 → l3 ≡ set l2 p.c3.0 v3
    → l3 ≡ inner_vertices p u n co cv
unfolding inner_vertices
inner_kept p u n co cv h w x k j i =
    rw (i, j, k, w, x, h)
    (sym (relabel_without_two p.c2.0 p.c3.0 (ring co n p.c2.0) u (six cv n p.v1.0 u p.v2.0 u p.v3.0 p.v2.0)))
