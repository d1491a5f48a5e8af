-- The theorem of each edit: from a well-formed table, where its refusals are passed, it keeps what Kept says. Assumes nothing.
use Prim.Native.Nat.{ℕ, ◌+◌, ◌*◌, ◌≤◌}
use mathlib.Core.Path.{◌≡◌, refl, sym, ap, ◌∙◌}
use mathlib.Core.Logic.{◌≢◌}
use mathlib.Core.Bool.{Bool, true, false, cond}
use mathlib.Core.List.{List}
use native.Mathlib.Omega.{arith}
use native.Mathlib.Decide.{ℕ_discrete}
use borrow.Author.Tests.{eq-eqb, ne_eqb}
use lib.Dec.{eqb}
use lib.ListN.{length, set, length-set}
use Rattle.corner.specs.Corner.{absent, next, previous, first_corner}
use Rattle.vertex.specs.declared.Point.{Point}
use Rattle.vertex.specs.Point.{finite_point}
use Rattle.table.specs.Table.{Table, corner_room, vertex_room, vertex, opposite, Live, Shaped}
use Rattle.table.specs.Rules.{WellFormed}
use Rattle.table.specs.Euler.{SameEuler}
use Rattle.fan.proofs.Relabel.{length_relabel}
use Rattle.edit_collapse.specs.Collapse.{winged, collapse_vertices, collapse_opposites, collapse_marks, collapse_corners, collapse_edge}
use Rattle.edit_flip.specs.Flip.{flip_vertices, flip_opposites, flip_corners, flip_edge}
use Rattle.edit_split_edge.specs.SplitEdge.{split_points, split_corners, inner_vertices, inner_opposites, split_inner_edge, boundary_vertices, boundary_opposites, split_boundary_edge, split_edge}
use Rattle.edit_split_face.specs.SplitFace.{face_vertices, face_opposites, face_corners, split_face}
use Rattle.edge_collapse.specs.EdgeCollapse.{affects_boundary, unsafe}
use Rattle.edit_keeps.specs.Keeps.{Kept}
use Rattle.edit_keeps.proofs.FlipTable.{flip_wf}
use Rattle.edit_keeps.proofs.EulerFlip.{flip_euler}
use Rattle.edit_keeps.proofs.SplitFaceTable.{cut_wf}
use Rattle.edit_keeps.proofs.EulerSplitFace.{cut_euler}
use Rattle.edit_keeps.proofs.SplitInnerTable.{split_wf}
use Rattle.edit_keeps.proofs.EulerSplitInner.{split_euler}
use Rattle.edit_keeps.proofs.SplitBorderTable.{rim_wf}
use Rattle.edit_keeps.proofs.EulerSplitBorder.{rim_euler}
use Rattle.edit_keeps.proofs.CollapseTable.{collapse_wf}
use Rattle.edit_keeps.proofs.EulerCollapse.{collapse_euler}
use Rattle.edit_keeps.proofs.SafeBy.{safe_by}

-- ---- lengths: every write is a `set`

-- parts of the same lengths as t's, with any counts
record Lengths (t u : Table) : Type 0 where
  cv : length u.corner_vertex ≡ length t.corner_vertex
  co : length u.corner_opposite ≡ length t.corner_opposite
  cm : corner_room u ≡ corner_room t
  vc : length u.vertex_corner ≡ length t.vertex_corner
  vm : vertex_room u ≡ vertex_room t
  vp : length u.vertex_point ≡ length t.vertex_point

kept : (t u : Table) → Shaped t → Lengths t u → WellFormed u → SameEuler t u → Kept t u
kept t u Z l W e =
    record {
      shaped =
          record {
            corner_most = omega (arith, Z.corner_most, l.cm);
            vertex_most = omega (arith, Z.vertex_most, l.vm);
            corner_vertex_room = l.cv ∙ Z.corner_vertex_room ∙ sym l.cm;
            corner_opposite_room = l.co ∙ Z.corner_opposite_room ∙ sym l.cm;
            vertex_corner_room = l.vc ∙ Z.vertex_corner_room ∙ sym l.vm;
            vertex_point_room = l.vp ∙ Z.vertex_point_room ∙ ap (λ (n : ℕ). 3 * n) (sym l.vm);
          };
      well_formed = W;
      euler = e;
      corner_rooms = l.cm;
      vertex_rooms = l.vm;
    }

length_winged : (vc : List ℕ) (v left right : ℕ) → length (winged vc v left right) ≡ length vc
unfolding winged
length_winged vc v left right = go (eqb left absent) (eqb right absent)
  where
    go : (a b : Bool) → length (cond a (cond b vc (set vc v (next right))) (set vc v (previous left))) ≡ length vc
    go true true = refl
    go true false = simp length-set
    go false b = simp length-set

flip_lengths : (t : Table) (c : ℕ) → Lengths t (flip_edge t c)
unfolding flip_edge flip_vertices flip_opposites flip_corners
flip_lengths t c = record { cv = simp length-set; co = simp length-set; cm = refl; vc = simp length-set; vm = refl; vp = refl }

face_lengths : (t : Table) (f : ℕ) (at : Point) → Lengths t (split_face t f at)
unfolding split_face face_vertices face_opposites face_corners
face_lengths t f at = record { cv = simp length-set; co = simp length-set; cm = simp length-set; vc = simp length-set; vm = simp length-set; vp = simp length-set }

inner_lengths : (t : Table) (c : ℕ) (at : Point) → Lengths t (split_inner_edge t c at)
unfolding split_inner_edge inner_vertices inner_opposites split_corners split_points
inner_lengths t c at =
    record { cv = simp (length_relabel, length-set); co = simp length-set; cm = simp length-set; vc = simp length-set; vm = simp length-set; vp = simp length-set }

boundary_lengths : (t : Table) (c : ℕ) (at : Point) → Lengths t (split_boundary_edge t c at)
unfolding split_boundary_edge boundary_vertices boundary_opposites split_corners split_points
boundary_lengths t c at =
    record { cv = simp (length_relabel, length-set); co = simp length-set; cm = simp length-set; vc = simp length-set; vm = simp length-set; vp = simp length-set }

collapse_lengths : (t : Table) (c : ℕ) (at : Point) → Lengths t (collapse_edge t c at)
unfolding collapse_edge collapse_vertices collapse_opposites collapse_marks collapse_corners
collapse_lengths t c at =
    record { cv = simp length_relabel; co = simp length-set; cm = simp length-set; vc = simp length_winged; vm = simp length-set; vp = simp length-set }

-- ---- the five theorems

module _ (t : Table) (Z : Shaped t) (W : WellFormed t) where
  pub flip_kept : (c : ℕ) → Live t c → opposite t c ≢ absent → vertex t c ≢ vertex t (opposite t c) → Kept t (flip_edge t c)
  flip_kept c h n v = kept t (flip_edge t c) Z (flip_lengths t c) (flip_wf t Z W c h n v) (flip_euler t Z W c h n v)

  pub collapse_kept : (c : ℕ) → Live t c → affects_boundary t c ≡ false → vertex t c ≢ vertex t (opposite t c) → unsafe t c ≡ false
      → (at : Point) → finite_point at ≡ true → Kept t (collapse_edge t c at)
  collapse_kept c h b v s at f =
      let K = safe_by t Z W c h b s v in
      kept t (collapse_edge t c at) Z (collapse_lengths t c at) (collapse_wf t Z W c K at f) (collapse_euler t Z W c K at f)

  module _ (vroom : t.vertices + 1 ≤ vertex_room t) (at : Point) (f : finite_point at ≡ true) where
    pub face_kept : (face : ℕ) → Live t (first_corner face) → t.corners + 6 ≤ corner_room t → Kept t (split_face t face at)
    face_kept face h room =
        kept t (split_face t face at) Z (face_lengths t face at) (cut_wf t Z W room vroom face h at f) (cut_euler t Z W room vroom face h at f)

    inner_kept : (c : ℕ) → Live t c → opposite t c ≢ absent → t.corners + 6 ≤ corner_room t → Kept t (split_inner_edge t c at)
    inner_kept c h n room =
        kept t (split_inner_edge t c at) Z (inner_lengths t c at) (split_wf t Z W room vroom c h n at f) (split_euler t Z W room vroom c h n at f)

    boundary_kept : (c : ℕ) → Live t c → opposite t c ≡ absent → t.corners + 3 ≤ corner_room t → Kept t (split_boundary_edge t c at)
    boundary_kept c h n room =
        kept t (split_boundary_edge t c at) Z (boundary_lengths t c at) (rim_wf t Z W room vroom c h n at f) (rim_euler t Z W room vroom c h n at f)

    -- an inner edge takes 6 corners, a border edge 3
    pub edge_kept : (c : ℕ) → Live t c → t.corners + cond (eqb (opposite t c) absent) 3 6 ≤ corner_room t → Kept t (split_edge t c at)
    unfolding split_edge
    edge_kept c h room = go (ℕ_discrete (opposite t c) absent)
      where
        go : Dec (opposite t c ≡ absent) → Kept t (cond (eqb (opposite t c) absent) (split_boundary_edge t c at) (split_inner_edge t c at))
        go (yes e) = rw (eq-eqb _ _ e) (boundary_kept c h e (rw (eq-eqb _ _ e) at room))
        go (no n) = rw (ne_eqb _ _ n) (inner_kept c h n (rw (ne_eqb _ _ n) at room))
