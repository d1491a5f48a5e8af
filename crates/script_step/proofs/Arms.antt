-- A command by its answer: refused, the table is as it was; done, it is the effect. Assumes nothing.
use Prim.Native.Nat.{ℕ, ◌≤◌, ◌<◌}
use mathlib.Core.Path.{◌≡◌, refl, sym, ap, ◌∙◌}
use lib.ListN.{length}
use mathlib.Core.Logic.{◌≢◌}
use native.Mathlib.Omega.{arith}
use Rattle.std.specs.Prelude.{Result}
use Rattle.std.specs.Result.{IsErr, IsErrAnd}
use Rattle.corner.specs.Corner.{absent, first_corner}
use Rattle.vertex.specs.declared.Point.{Point}
use Rattle.refusal.specs.declared.Refusal.{Refusal}
use Rattle.refusal.specs.Refusal.{number_of, answer_of}
use Rattle.refusal.proofs.Numbers.{numbered, handed_on}
use Rattle.edit_plans.specs.declared.Around.{Around}
use Rattle.edit_plans.specs.Plans.{around, CornersThere, VerticesThere, EdgeThere, InnerEdge}
use Rattle.table.specs.Table.{Table, table, opposite, Live}
use Rattle.table.specs.Rules.{Good}
use Rattle.edge_collapse.proofs.Paper.{inner}
use Rattle.edit_keeps.specs.Keeps.{AroundUsed}
use Rattle.edit_keeps.proofs.Used.{around_used}
use Rattle.script_command.specs.declared.Edit.{Edit}
use Rattle.script_command.specs.declared.Edit.TheVariants.{Unknown}
use Rattle.script_answers.specs.Answers.{collapse_answer, flip_answer, split_edge_answer, split_face_answer, answer}
use Rattle.script_step.specs.Step.{effect, step}
use Rattle.script_answers.proofs.Passed.{collapse_passed, flip_passed, split_edge_passed, split_face_passed}
use Rattle.script_answers.specs.Passed.{FlipPassed}
use Rattle.script_step.specs.Stepped.{GoodFour, Stepped}

-- s is the table that was asked, seen
module _ (t : Table) (e : Edit) (s : Table) (same : s ≡ t) where
  pub refused : (r : Result Unit Refusal) (x : Refusal) → IsErr r × IsErrAnd r (λ y. y ≡ x) → number_of x ≡ answer s e → Stepped t e (answer_of r) t
  unfolding step
  refused r x h k =
      rw (handed_on r x h)
      (record { answered = k ∙ ap (λ (u : Table). answer u e) same; table = rw (← same, ← k, numbered x) refl })

  pub done : (u : Table) → 0 ≡ answer s e → u ≡ effect t e → Stepped t e 0 u
  unfolding step
  done u k h = record { answered = k ∙ ap (λ (u : Table). answer u e) same; table = rw (← same, ← k) (h ∙ ap (λ (u : Table). effect u e) (sym same)) }

-- ---- what an answer 0 gives the edit that it lets through

-- used slots are there
module _ (t : Table) (p : Around) (u : AroundUsed t p) (n : ℕ) where
  corners_there : t.corners ≤ n → CornersThere n p
  corners_there h =
      record {
        c0 = omega (arith, u.c0);
        c1 = omega (arith, u.c1);
        c2 = omega (arith, u.c2);
        c3 = omega (arith, u.c3);
        c4 = omega (arith, u.c4);
        c5 = omega (arith, u.c5);
      }

  vertices_there : t.vertices ≤ n → VerticesThere n p
  vertices_there h = record { v0 = omega (arith, u.v0); v1 = omega (arith, u.v1); v2 = omega (arith, u.v2); v3 = omega (arith, u.v3) }

-- ... of a table s that is t, seen
module _ (t : Table) (c : ℕ) (G : Good t) where
  -- the two faces at an inner edge
  near_edge : Live t c → opposite t c ≢ absent → InnerEdge t c
  near_edge l n =
      let u = around_used t G.shaped G.well_formed c l n in
      let Z = G.shaped in
      let W = G.well_formed in
      let over : opposite t c < t.corners = (W.mate c l n).over.0 in
      record {
        edge_lt_absent = omega (arith, l.0, W.corners_fit, Z.corner_most);
        beyond_lt_absent = omega (arith, over, W.corners_fit, Z.corner_most);
        faces =
            record {
              vertices = corners_there t _ u _ (omega (arith, W.corners_fit, Z.corner_vertex_room));
              opposites = corners_there t _ u _ (omega (arith, W.corners_fit, Z.corner_opposite_room));
            };
      }

  module _ (s : Table) (same : s ≡ t) where
    pub collapse_inner : (p : Point) → 0 ≡ collapse_answer s c p → InnerEdge t c
    collapse_inner p e =
        let k = collapse_passed t c p (sym (rw same at e)) in
        near_edge k.lives (inner t G.shaped G.well_formed c k.lives k.inside)

    pub edge_below : (p : Point) → 0 ≡ split_edge_answer s c p → c < absent
    edge_below p e =
        let k = split_edge_passed t c p (sym (rw same at e)) in
        let a = G.shaped.corner_most in
        omega (arith, k.lives.0, G.well_formed.corners_fit)

    pub edge_near : (p : Point) → 0 ≡ split_edge_answer s c p → opposite t c ≢ absent → EdgeThere t.corner_vertex t.corner_opposite c
    edge_near p e n = (near_edge (split_edge_passed t c p (sym (rw same at e))).lives n).faces

    pub face_below : (p : Point) → 0 ≡ split_face_answer s c p → first_corner c < absent
    face_below p e =
        let k = split_face_passed t c p (sym (rw same at e)) in
        let a = G.shaped.corner_most in
        omega (arith, k.lives.0, G.well_formed.corners_fit)

-- a kind that is not known
pub unknown : (t : Table) (e : Edit) → e ≡ Unknown → Stepped t e 14 t
unfolding answer step
unknown t e h = rw h (record { answered = refl; table = refl })

-- a flip, by its four parts: what it reads is that of the good table which they are of
module _ (t : Table) (c : ℕ) (F : GoodFour t) (s : Table) (same : s ≡ t) (e : 0 ≡ flip_answer s c) where
  abbrev u : Table
  u = table t.corner_vertex t.corner_opposite t.corner_mark t.vertex_corner F.vm F.vp t.vertices t.corners

  passed : FlipPassed u c
  unfolding flip_answer
  passed = flip_passed u c (sym (rw same at e))

  pub flip_inner : InnerEdge t c
  flip_inner =
      let k = near_edge u c F.good passed.lives passed.inner in
      record { edge_lt_absent = k.edge_lt_absent; beyond_lt_absent = k.beyond_lt_absent; faces = k.faces }

  pub flip_vertices_there : VerticesThere (length t.vertex_corner) (around t.corner_vertex t.corner_opposite c)
  flip_vertices_there =
      vertices_there u _ (around_used u F.good.shaped F.good.well_formed c passed.lives passed.inner) _
      (omega (arith, F.good.well_formed.vertices_fit, F.good.shaped.vertex_corner_room))
