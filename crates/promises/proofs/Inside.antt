-- No walk inside a run is tangled, and no index is out of range: each table of a run is well-formed. Assumes nothing.
use Prim.Native.Nat.{ℕ, ◌/◌}
use mathlib.Core.Path.{◌≡◌, refl, sym, ap, ◌∙◌}
use mathlib.Core.Bool.{Bool, true, false, cond, false≢true}
use mathlib.Core.List.{List}
use native.Mathlib.Omega.{arith}
use native.Mathlib.Decide.{ℕ_discrete}
use borrow.Author.Tests.{eq-eqb, ne_eqb, eqb-true}
use lib.Dec.{eqb}
use lib.ListN.{length}
use Rattle.corner.specs.Corner.{absent, next, previous, first_corner}
use Rattle.vertex.specs.declared.Point.{Point}
use Rattle.table.specs.Slots.{opposite_at}
use Rattle.table.specs.Table.{Table, Shaped, shaped, vertex, opposite, corner, Live}
use Rattle.table.specs.Rules.{WellFormed}
use Rattle.fan.proofs.Fan.{Linked, face_previous, swing_l, swing_r}
use Rattle.fan.proofs.Walk.{it, Stop, border, closes, Walk}
use Rattle.fan.proofs.Ring.{stuck_l, stuck_r}
use Rattle.fan.proofs.Visits.{after, w, v, leftward, rightward}
use Rattle.fan.proofs.Tables.{table_linked}
use Rattle.ring.specs.Ring.{Sweep, sweep, ring as ring_of}
use Rattle.ring.proofs.Exact.{bordered, side_is}
use Rattle.traversal_lists.specs.declared.Kind.TheVariants.{Vertices}
use Rattle.traversal_visits.specs.Walk.{walk, visits}
use Rattle.traversal_lists.specs.Lists.{entry, entries}
use Rattle.traversal.proofs.Sound.{never_15, corner_calm, corner_healthy, Healthy, ring, fan}
use Rattle.edge_collapse.specs.EdgeCollapse.{meets_border, neighbours}
use Rattle.edge_collapse.proofs.Paper.{inner}
use Rattle.edit_plans.specs.Plans.{around, triangle}
use Rattle.edit_keeps.specs.Keeps.{Kept}
use Rattle.edit_keeps.proofs.Used.{triangle_used, around_used, ring_used}
use Rattle.checker.specs.Order.{verdict_of}
use Rattle.checker.proofs.Judge.{verdict_sound}
use Rattle.script_command.specs.declared.Edit.{Edit}
use Rattle.script_command.specs.declared.Edit.TheVariants.{Collapse, Flip, SplitEdge, SplitFace, Unknown}
use Rattle.script_command.specs.Decode.{command_at}
use Rattle.script_answers.specs.Answers.{answer}
use Rattle.script_answers.specs.Passed.{EndFits, CollapsePassed, SplitEdgePassed}
use Rattle.script_answers.proofs.Passed.{collapse_passed, flip_passed, split_edge_passed, split_face_passed}
use Rattle.script_command.specs.Checks.{corners_for, fits}
use Rattle.script.specs.Commands.{progress, commands}
use Rattle.script.specs.Run.{whole, run}
use Rattle.promises.specs.Promises.{Untangled, at_edge, of_face, RingUsed, InRange, collapse, flip, split_border, split_inner, split_face, Safe, InsideRun}
use Rattle.promises.proofs.Promises.{after_every}

module _ (t : Table) (Z : Shaped t) (W : WellFormed t) where
  abbrev L : Linked (Live t) (opposite t) (vertex t)
  L = table_linked t Z W

  -- ---- walks

  -- the ring by opposites alone is what the walk visits: both are the left side and, past a border, the right one
  module _ (c : ℕ) (h : Live t c) where
    abbrev co : List ℕ
    co = t.corner_opposite

    abbrev lefts : Walk (Live t) (stuck_l (opposite_at co)) (swing_l (opposite_at co)) t.corners c
    lefts = w L t.corners (λ d k. k.0) c h

    abbrev rights : Walk (Live t) (stuck_r (opposite_at co)) (swing_r (opposite_at co)) t.corners c
    rights = v L t.corners (λ d k. k.0) c h

    by_end : (x : Stop (stuck_l (opposite_at co)) (swing_l (opposite_at co)) c (it (swing_l (opposite_at co)) c lefts.last))
        → sweep true co c t.corners c
        ≡ record { visits = after (it (swing_l (opposite_at co)) c) 0 lefts.last; border = bordered (Live t) co t.corners true c lefts x }
        → sweep false co c t.corners c
        ≡ record { visits = after (it (swing_r (opposite_at co)) c) 0 rights.last; border = bordered (Live t) co t.corners false c rights rights.ends }
        → Healthy co t.corner_mark t.corners L c h → ring_of co t.corners c ≡ visits (walk co t.corner_mark t.corners c)
    unfolding ring_of leftward rightward
    by_end (border s) p q (fan a b e) = rw (p, q, e)
    by_end (border s) p q (ring a b e) = absurd (a s)
    by_end (closes s z) p q (ring a b e) = rw (p, e)
    by_end (closes s z) p q (fan a b e) = absurd (s a)

    ring_walk : ring_of co t.corners c ≡ visits (walk co t.corner_mark t.corners c)
    ring_walk =
        by_end lefts.ends (side_is (Live t) co t.corners true c lefts) (side_is (Live t) co t.corners false c rights) (corner_healthy t Z W c h)

    -- and a ring without a border has the neighbours that `ring_vertices` lists
    neighbours_by : (x : Stop (stuck_l (opposite_at co)) (swing_l (opposite_at co)) c (it (swing_l (opposite_at co)) c lefts.last))
        → sweep true co c t.corners c
        ≡ record { visits = after (it (swing_l (opposite_at co)) c) 0 lefts.last; border = bordered (Live t) co t.corners true c lefts x }
        → Healthy co t.corner_mark t.corners L c h → meets_border co t.corners c ≡ false
        → neighbours t.corner_vertex co t.corners c ≡ entries Vertices t.corner_vertex (walk co t.corner_mark t.corners c)
    unfolding meets_border neighbours leftward entry
    neighbours_by (border s) p k m = absurd (false≢true (sym m ∙ ap (λ (x : Sweep). x.border) p))
    neighbours_by (closes s z) p (ring a b e) m = rw (p, e)
    neighbours_by (closes s z) p (fan a b e) m = absurd (s a)

    neighbours_list : meets_border co t.corners c ≡ false
        → neighbours t.corner_vertex co t.corners c ≡ entries Vertices t.corner_vertex (walk co t.corner_mark t.corners c)
    neighbours_list = neighbours_by lefts.ends (side_is (Live t) co t.corners true c lefts) (corner_healthy t Z W c h)

  untangled : Untangled t
  untangled =
      record {
        lists = never_15 t Z W;
        starts = λ c h. (L.face c h, W.corner_live (vertex t c) (W.vertex_live c h));
        walks = corner_calm t Z W;
        neighbours = neighbours_list;
        rings = ring_walk;
      }

  -- ---- the four kinds

  ring_at : (c : ℕ) → Live t c → RingUsed t c
  ring_at c h = record { begins = h; visits = ring_used t Z W c h }

  -- the ring of a live corner's vertex
  ring_about : (c : ℕ) → Live t c → RingUsed t (corner t (vertex t c))
  ring_about c h = ring_at (corner t (vertex t c)) (W.corner_live (vertex t c) (W.vertex_live c h))

  collapse_in : (c : ℕ) (p : Point) → CollapsePassed t c p → InRange t (Collapse (record { 0 = c }) p)
  unfolding around
  collapse_in c p k =
      let h1 : Live t (next c) = L.face c k.lives in
      collapse (around_used t Z W c k.lives (inner t Z W c k.lives k.inside)) (ring_about (next c) h1)
      (ring_about (next (next c)) (L.face (next c) h1))

  face_ring : (c : ℕ) → Live t c → RingUsed t (of_face t c).c2.0
  unfolding triangle
  face_ring c h = ring_at (next (next c)) (L.face (next c) (L.face c h))

  edge_ring : (c : ℕ) → Live t c → RingUsed t (at_edge t c).c2.0
  unfolding around
  edge_ring c h = ring_at (next c) (L.face c h)

  edge_in : (c : ℕ) (p : Point) → SplitEdgePassed t c p → InRange t (SplitEdge (record { 0 = c }) p)
  edge_in c p k = go (ℕ_discrete (opposite t c) absent)
    where
      fits : EndFits t (corners_for (opposite t c))
      fits = k.room

      go : Dec (opposite t c ≡ absent) → InRange t (SplitEdge (record { 0 = c }) p)
      go (yes z) = split_border z (triangle_used t Z W (previous c) (face_previous L c k.lives))
          (face_ring (previous c) (face_previous L c k.lives)) (rw (eq-eqb (opposite t c) absent z) at fits)
      go (no z) = split_inner z (around_used t Z W c k.lives z) (edge_ring c k.lives) (rw (ne_eqb (opposite t c) absent z) at fits)

  in_range : (e : Edit) → answer t e ≡ 0 → InRange t e
  unfolding answer
  in_range (Collapse c p) h = collapse_in c.0 p (collapse_passed t c.0 p h)
  in_range (Flip c) h = let k = flip_passed t c.0 h in flip (around_used t Z W c.0 k.lives k.inner)
  in_range (SplitEdge c p) h = edge_in c.0 p (split_edge_passed t c.0 p h)
  in_range (SplitFace f p) h =
      let k = split_face_passed t f.0 p h in split_face (triangle_used t Z W (first_corner f.0) k.lives) k.room
  in_range Unknown h = absurd (omega (arith, h))

  safe : (e : Edit) → Safe t e
  safe e = record { untangled = untangled; in_range = in_range e }

-- ---- a run that answers 0 had a well-formed table

run_good : (t : Table) (s answers : List ℕ) → (run t s answers).answer ≡ 0 → Shaped t × WellFormed t
unfolding run
run_good t s answers e = verdict_sound t (go (shaped t) (fits (length s) (length answers)) e)
  where
    by_7 : (x : Bool) → eqb (verdict_of t).answer 0 ≡ x
        → (cond x (whole 0 0 0 (commands s (length s / 5) 0 answers t))
        (whole (verdict_of t).answer (verdict_of t).rule (verdict_of t).slot (progress answers t))).answer ≡ 0
        → (verdict_of t).answer ≡ 0
    by_7 true q z = eqb-true _ _ q
    by_7 false q z = z

    go : (a b : Bool)
        → (cond a
        (cond b
        (cond (eqb (verdict_of t).answer 0) (whole 0 0 0 (commands s (length s / 5) 0 answers t))
        (whole (verdict_of t).answer (verdict_of t).rule (verdict_of t).slot (progress answers t)))
        (whole 8 0 0 (progress answers t)))
        (whole 1 0 0 (progress answers t))).answer ≡ 0
        → (verdict_of t).answer ≡ 0
    go true true z = by_7 (eqb (verdict_of t).answer 0) refl z
    go true false z = absurd (omega (arith, z))
    go false b z = absurd (omega (arith, z))

pub inside_run : InsideRun
inside_run t s answers e k =
    let g = run_good t s answers e in
    let u : Kept t (commands s k 0 answers t).table = after_every t g.0 g.1 s answers k in
    safe (commands s k 0 answers t).table u.shaped u.well_formed (command_at s k)
