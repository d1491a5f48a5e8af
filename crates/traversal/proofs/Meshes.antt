-- The ring lists of the small meshes B and T, every vertex and every list, by computing the definition. The lent list has five
-- entries of 9: those after the written ones stay. Assumes nothing.
use Prim.Native.Nat.{ℕ}
use mathlib.Core.Path.{◌≡◌, refl}
use mathlib.Core.List.{List, [], ◌∷◌}
use Rattle.corner.specs.Corner.{next, previous}
use Rattle.table.specs.Table.{shaped_by, live}
use Rattle.table.specs.Meshes.{mesh_b, mesh_t}
use Rattle.traversal_visits.specs.Walk.{face_live, swing, side, left_of, right_of, after_left, after_right, walk}
use Rattle.traversal_lists.specs.Lists.{entry, twice}
use Rattle.traversal_lists.specs.Outcome.{RingOutcome, refused_ring}
use Rattle.traversal.specs.Ring.{ring_of}
use Rattle.traversal_lists.specs.declared.Kind.TheVariants.{Corners, Vertices, Faces, Edges, BoundingEdges}

nines : List ℕ
nines = 9 ∷ 9 ∷ 9 ∷ 9 ∷ 9 ∷ []

done : ℕ → ℕ → List ℕ → RingOutcome
done n m l = record { answer = 0; visited = n; written = m; list = l }

B_corners_0 : ring_of Corners 0 mesh_b nines ≡ done 2 2 (3 ∷ 0 ∷ 9 ∷ 9 ∷ 9 ∷ [])
unfolding ring_of shaped_by walk left_of right_of after_left after_right side swing face_live live next previous entry twice nines done
B_corners_0 = refl

B_corners_1 : ring_of Corners 1 mesh_b nines ≡ done 1 1 (1 ∷ 9 ∷ 9 ∷ 9 ∷ 9 ∷ [])
unfolding ring_of shaped_by walk left_of right_of after_left after_right side swing face_live live next previous entry twice nines done
B_corners_1 = refl

B_corners_2 : ring_of Corners 2 mesh_b nines ≡ done 2 2 (4 ∷ 2 ∷ 9 ∷ 9 ∷ 9 ∷ [])
unfolding ring_of shaped_by walk left_of right_of after_left after_right side swing face_live live next previous entry twice nines done
B_corners_2 = refl

B_corners_3 : ring_of Corners 3 mesh_b nines ≡ done 1 1 (5 ∷ 9 ∷ 9 ∷ 9 ∷ 9 ∷ [])
unfolding ring_of shaped_by walk left_of right_of after_left after_right side swing face_live live next previous entry twice nines done
B_corners_3 = refl

B_vertices_0 : ring_of Vertices 0 mesh_b nines ≡ done 2 3 (3 ∷ 2 ∷ 1 ∷ 9 ∷ 9 ∷ [])
unfolding ring_of shaped_by walk left_of right_of after_left after_right side swing face_live live next previous entry twice nines done
B_vertices_0 = refl

B_vertices_1 : ring_of Vertices 1 mesh_b nines ≡ done 1 2 (0 ∷ 2 ∷ 9 ∷ 9 ∷ 9 ∷ [])
unfolding ring_of shaped_by walk left_of right_of after_left after_right side swing face_live live next previous entry twice nines done
B_vertices_1 = refl

B_vertices_2 : ring_of Vertices 2 mesh_b nines ≡ done 2 3 (0 ∷ 1 ∷ 3 ∷ 9 ∷ 9 ∷ [])
unfolding ring_of shaped_by walk left_of right_of after_left after_right side swing face_live live next previous entry twice nines done
B_vertices_2 = refl

B_vertices_3 : ring_of Vertices 3 mesh_b nines ≡ done 1 2 (2 ∷ 0 ∷ 9 ∷ 9 ∷ 9 ∷ [])
unfolding ring_of shaped_by walk left_of right_of after_left after_right side swing face_live live next previous entry twice nines done
B_vertices_3 = refl

B_faces_0 : ring_of Faces 0 mesh_b nines ≡ done 2 2 (1 ∷ 0 ∷ 9 ∷ 9 ∷ 9 ∷ [])
unfolding ring_of shaped_by walk left_of right_of after_left after_right side swing face_live live next previous entry twice nines done
B_faces_0 = refl

B_faces_1 : ring_of Faces 1 mesh_b nines ≡ done 1 1 (0 ∷ 9 ∷ 9 ∷ 9 ∷ 9 ∷ [])
unfolding ring_of shaped_by walk left_of right_of after_left after_right side swing face_live live next previous entry twice nines done
B_faces_1 = refl

B_faces_2 : ring_of Faces 2 mesh_b nines ≡ done 2 2 (1 ∷ 0 ∷ 9 ∷ 9 ∷ 9 ∷ [])
unfolding ring_of shaped_by walk left_of right_of after_left after_right side swing face_live live next previous entry twice nines done
B_faces_2 = refl

B_faces_3 : ring_of Faces 3 mesh_b nines ≡ done 1 1 (1 ∷ 9 ∷ 9 ∷ 9 ∷ 9 ∷ [])
unfolding ring_of shaped_by walk left_of right_of after_left after_right side swing face_live live next previous entry twice nines done
B_faces_3 = refl

B_edges_0 : ring_of Edges 0 mesh_b nines ≡ done 2 3 (4 ∷ 5 ∷ 2 ∷ 9 ∷ 9 ∷ [])
unfolding ring_of shaped_by walk left_of right_of after_left after_right side swing face_live live next previous entry twice nines done
B_edges_0 = refl

B_edges_1 : ring_of Edges 1 mesh_b nines ≡ done 1 2 (2 ∷ 0 ∷ 9 ∷ 9 ∷ 9 ∷ [])
unfolding ring_of shaped_by walk left_of right_of after_left after_right side swing face_live live next previous entry twice nines done
B_edges_1 = refl

B_edges_2 : ring_of Edges 2 mesh_b nines ≡ done 2 3 (5 ∷ 0 ∷ 3 ∷ 9 ∷ 9 ∷ [])
unfolding ring_of shaped_by walk left_of right_of after_left after_right side swing face_live live next previous entry twice nines done
B_edges_2 = refl

B_edges_3 : ring_of Edges 3 mesh_b nines ≡ done 1 2 (3 ∷ 4 ∷ 9 ∷ 9 ∷ 9 ∷ [])
unfolding ring_of shaped_by walk left_of right_of after_left after_right side swing face_live live next previous entry twice nines done
B_edges_3 = refl

B_bounding_edges_0 : ring_of BoundingEdges 0 mesh_b nines ≡ done 2 2 (3 ∷ 0 ∷ 9 ∷ 9 ∷ 9 ∷ [])
unfolding ring_of shaped_by walk left_of right_of after_left after_right side swing face_live live next previous entry twice nines done
B_bounding_edges_0 = refl

B_bounding_edges_1 : ring_of BoundingEdges 1 mesh_b nines ≡ done 1 1 (1 ∷ 9 ∷ 9 ∷ 9 ∷ 9 ∷ [])
unfolding ring_of shaped_by walk left_of right_of after_left after_right side swing face_live live next previous entry twice nines done
B_bounding_edges_1 = refl

B_bounding_edges_2 : ring_of BoundingEdges 2 mesh_b nines ≡ done 2 2 (4 ∷ 2 ∷ 9 ∷ 9 ∷ 9 ∷ [])
unfolding ring_of shaped_by walk left_of right_of after_left after_right side swing face_live live next previous entry twice nines done
B_bounding_edges_2 = refl

B_bounding_edges_3 : ring_of BoundingEdges 3 mesh_b nines ≡ done 1 1 (5 ∷ 9 ∷ 9 ∷ 9 ∷ 9 ∷ [])
unfolding ring_of shaped_by walk left_of right_of after_left after_right side swing face_live live next previous entry twice nines done
B_bounding_edges_3 = refl

T_corners_0 : ring_of Corners 0 mesh_t nines ≡ done 3 3 (6 ∷ 0 ∷ 3 ∷ 9 ∷ 9 ∷ [])
unfolding ring_of shaped_by walk left_of right_of after_left after_right side swing face_live live next previous entry twice nines done
T_corners_0 = refl

T_corners_1 : ring_of Corners 1 mesh_t nines ≡ done 3 3 (9 ∷ 1 ∷ 8 ∷ 9 ∷ 9 ∷ [])
unfolding ring_of shaped_by walk left_of right_of after_left after_right side swing face_live live next previous entry twice nines done
T_corners_1 = refl

T_corners_2 : ring_of Corners 2 mesh_t nines ≡ done 3 3 (11 ∷ 4 ∷ 2 ∷ 9 ∷ 9 ∷ [])
unfolding ring_of shaped_by walk left_of right_of after_left after_right side swing face_live live next previous entry twice nines done
T_corners_2 = refl

T_corners_3 : ring_of Corners 3 mesh_t nines ≡ done 3 3 (10 ∷ 7 ∷ 5 ∷ 9 ∷ 9 ∷ [])
unfolding ring_of shaped_by walk left_of right_of after_left after_right side swing face_live live next previous entry twice nines done
T_corners_3 = refl

T_vertices_0 : ring_of Vertices 0 mesh_t nines ≡ done 3 3 (1 ∷ 2 ∷ 3 ∷ 9 ∷ 9 ∷ [])
unfolding ring_of shaped_by walk left_of right_of after_left after_right side swing face_live live next previous entry twice nines done
T_vertices_0 = refl

T_vertices_1 : ring_of Vertices 1 mesh_t nines ≡ done 3 3 (2 ∷ 0 ∷ 3 ∷ 9 ∷ 9 ∷ [])
unfolding ring_of shaped_by walk left_of right_of after_left after_right side swing face_live live next previous entry twice nines done
T_vertices_1 = refl

T_vertices_2 : ring_of Vertices 2 mesh_t nines ≡ done 3 3 (3 ∷ 0 ∷ 1 ∷ 9 ∷ 9 ∷ [])
unfolding ring_of shaped_by walk left_of right_of after_left after_right side swing face_live live next previous entry twice nines done
T_vertices_2 = refl

T_vertices_3 : ring_of Vertices 3 mesh_t nines ≡ done 3 3 (1 ∷ 0 ∷ 2 ∷ 9 ∷ 9 ∷ [])
unfolding ring_of shaped_by walk left_of right_of after_left after_right side swing face_live live next previous entry twice nines done
T_vertices_3 = refl

T_faces_0 : ring_of Faces 0 mesh_t nines ≡ done 3 3 (2 ∷ 0 ∷ 1 ∷ 9 ∷ 9 ∷ [])
unfolding ring_of shaped_by walk left_of right_of after_left after_right side swing face_live live next previous entry twice nines done
T_faces_0 = refl

T_faces_1 : ring_of Faces 1 mesh_t nines ≡ done 3 3 (3 ∷ 0 ∷ 2 ∷ 9 ∷ 9 ∷ [])
unfolding ring_of shaped_by walk left_of right_of after_left after_right side swing face_live live next previous entry twice nines done
T_faces_1 = refl

T_faces_2 : ring_of Faces 2 mesh_t nines ≡ done 3 3 (3 ∷ 1 ∷ 0 ∷ 9 ∷ 9 ∷ [])
unfolding ring_of shaped_by walk left_of right_of after_left after_right side swing face_live live next previous entry twice nines done
T_faces_2 = refl

T_faces_3 : ring_of Faces 3 mesh_t nines ≡ done 3 3 (3 ∷ 2 ∷ 1 ∷ 9 ∷ 9 ∷ [])
unfolding ring_of shaped_by walk left_of right_of after_left after_right side swing face_live live next previous entry twice nines done
T_faces_3 = refl

T_edges_0 : ring_of Edges 0 mesh_t nines ≡ done 3 3 (7 ∷ 1 ∷ 4 ∷ 9 ∷ 9 ∷ [])
unfolding ring_of shaped_by walk left_of right_of after_left after_right side swing face_live live next previous entry twice nines done
T_edges_0 = refl

T_edges_1 : ring_of Edges 1 mesh_t nines ≡ done 3 3 (10 ∷ 2 ∷ 6 ∷ 9 ∷ 9 ∷ [])
unfolding ring_of shaped_by walk left_of right_of after_left after_right side swing face_live live next previous entry twice nines done
T_edges_1 = refl

T_edges_2 : ring_of Edges 2 mesh_t nines ≡ done 3 3 (9 ∷ 5 ∷ 0 ∷ 9 ∷ 9 ∷ [])
unfolding ring_of shaped_by walk left_of right_of after_left after_right side swing face_live live next previous entry twice nines done
T_edges_2 = refl

T_edges_3 : ring_of Edges 3 mesh_t nines ≡ done 3 3 (11 ∷ 8 ∷ 3 ∷ 9 ∷ 9 ∷ [])
unfolding ring_of shaped_by walk left_of right_of after_left after_right side swing face_live live next previous entry twice nines done
T_edges_3 = refl

T_bounding_edges_0 : ring_of BoundingEdges 0 mesh_t nines ≡ done 3 3 (6 ∷ 0 ∷ 3 ∷ 9 ∷ 9 ∷ [])
unfolding ring_of shaped_by walk left_of right_of after_left after_right side swing face_live live next previous entry twice nines done
T_bounding_edges_0 = refl

T_bounding_edges_1 : ring_of BoundingEdges 1 mesh_t nines ≡ done 3 3 (9 ∷ 1 ∷ 8 ∷ 9 ∷ 9 ∷ [])
unfolding ring_of shaped_by walk left_of right_of after_left after_right side swing face_live live next previous entry twice nines done
T_bounding_edges_1 = refl

T_bounding_edges_2 : ring_of BoundingEdges 2 mesh_t nines ≡ done 3 3 (11 ∷ 4 ∷ 2 ∷ 9 ∷ 9 ∷ [])
unfolding ring_of shaped_by walk left_of right_of after_left after_right side swing face_live live next previous entry twice nines done
T_bounding_edges_2 = refl

T_bounding_edges_3 : ring_of BoundingEdges 3 mesh_t nines ≡ done 3 3 (10 ∷ 7 ∷ 5 ∷ 9 ∷ 9 ∷ [])
unfolding ring_of shaped_by walk left_of right_of after_left after_right side swing face_live live next previous entry twice nines done
T_bounding_edges_3 = refl

-- refused calls: a list without room, and a vertex that is not used
B_short : ring_of Edges 0 mesh_b (9 ∷ 9 ∷ []) ≡ refused_ring 16 (9 ∷ 9 ∷ [])
unfolding ring_of shaped_by walk left_of right_of after_left after_right side swing face_live live next previous entry twice
B_short = refl

B_none : ring_of Corners 4 mesh_b nines ≡ refused_ring 9 nines
unfolding ring_of shaped_by walk left_of right_of after_left after_right side swing face_live live next previous entry twice nines
B_none = refl
