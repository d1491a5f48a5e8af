-- The test behind answer 1, an arm at a time, and what it shows. Assumes nothing.
use mathlib.Core.Path.{◌≡◌, sym, ◌∙◌}
use mathlib.Core.Bool.{true, false}
use Prim.Native.Nat.{ℕ, ◌*◌, ◌≤◌, ◌<◌}
use borrow.Author.Tests.{le-leb, lt-leb, eq-eqb, ne_eqb, eqb-true, leb-true}
use lib.Dec.{eqb}
use Rattle.std.proofs.lemmas.Bool.{and_parts}
use Rattle.table.specs.Table.{Table, shaped_by, shaped, Shaped, max_corners, max_vertices}

module _ (cv co cm vc vm vp : ℕ) where
  pub too_many_corners : max_corners < cm → false ≡ shaped_by cv co cm vc vm vp
  unfolding shaped_by
  too_many_corners h = rw (lt-leb cm max_corners h)

  module _ (a : cm ≤ max_corners) where
    pub too_many_vertices : max_vertices < vm → false ≡ shaped_by cv co cm vc vm vp
    unfolding shaped_by
    too_many_vertices h = rw (le-leb cm max_corners a, lt-leb vm max_vertices h)

    module _ (b : vm ≤ max_vertices) where
      pub other_vertex_part : (cv ≡ cm → ⊥) → false ≡ shaped_by cv co cm vc vm vp
      unfolding shaped_by
      other_vertex_part h = rw (le-leb cm max_corners a, le-leb vm max_vertices b, ne_eqb cv cm h)

      module _ (c : cv ≡ cm) where
        pub other_opposite_part : (co ≡ cm → ⊥) → false ≡ shaped_by cv co cm vc vm vp
        unfolding shaped_by
        other_opposite_part h = rw (le-leb cm max_corners a, le-leb vm max_vertices b, eq-eqb cv cm c, ne_eqb co cm h)

        module _ (d : co ≡ cm) where
          pub other_corner_part : (vc ≡ vm → ⊥) → false ≡ shaped_by cv co cm vc vm vp
          unfolding shaped_by
          other_corner_part h = rw (le-leb cm max_corners a, le-leb vm max_vertices b, eq-eqb cv cm c, eq-eqb co cm d, ne_eqb vc vm h)

          pub point_part : vc ≡ vm → eqb vp (3 * vm) ≡ shaped_by cv co cm vc vm vp
          unfolding shaped_by
          point_part h = rw (le-leb cm max_corners a, le-leb vm max_vertices b, eq-eqb cv cm c, eq-eqb co cm d, eq-eqb vc vm h)

-- both directions: the test passes exactly for a table that is Shaped
pub shaped_true : (t : Table) → shaped t ≡ true → Shaped t
unfolding shaped_by
shaped_true t e =
    let p1 = and_parts _ _ e in
    let p2 = and_parts _ _ p1.1 in
    let p3 = and_parts _ _ p2.1 in
    let p4 = and_parts _ _ p3.1 in
    let p5 = and_parts _ _ p4.1 in
    record {
      corner_most = leb-true _ _ p1.0;
      vertex_most = leb-true _ _ p2.0;
      corner_vertex_room = eqb-true _ _ p3.0;
      corner_opposite_room = eqb-true _ _ p4.0;
      vertex_corner_room = eqb-true _ _ p5.0;
      vertex_point_room = eqb-true _ _ p5.1;
    }

pub true_shaped : (t : Table) → Shaped t → shaped t ≡ true
true_shaped t s =
    sym
    (point_part _ _ _ _ _ _ s.corner_most s.vertex_most s.corner_vertex_room s.corner_opposite_room s.vertex_corner_room)
    ∙ eq-eqb _ _ s.vertex_point_room
