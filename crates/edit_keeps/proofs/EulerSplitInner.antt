-- Splitting an inner edge keeps vertices minus edges plus faces. Assumes nothing.
use mathlib.Core.Path.{◌≡◌, sym, ◌∙◌, subst}
use mathlib.Core.Logic.{◌≢◌, ◌⊎◌, inl, inr}
use Prim.Native.Nat.{ℕ, suc, ◌+◌, ◌*◌, ◌≤◌, ◌<◌, ◌%◌, ◌/◌}
use native.Mathlib.Omega.{arith}
use native.Mathlib.Decide.{ℕ_discrete}
use lib.ListN.{length}
use Rattle.corner.specs.Corner.{next}
use Rattle.corner.specs.Corner.{absent}
use Rattle.fan.proofs.Fan.{Linked, opp_of}
use Rattle.fan.proofs.Redirect.{at}
use Rattle.edit_keeps.proofs.Count.{sum, sum_one, sum_ext, sum_six, sum_two, ind, ind_yes, ind_no, ind_iff}
use Rattle.edit_keeps.proofs.Site.{Site, site, l0, l5, l2, x0_5}
use Rattle.edit_keeps.proofs.SplitInner.{Split, split_linked}
use Rattle.edit_keeps.proofs.Euler.{same_euler, live?, bare, paired, bare?, paired?, liveV?, edges, faces, vertices}
use Rattle.table.specs.Table.{Table, Live, opposite, vertex, Shaped}
use Rattle.table.specs.Rules.{WellFormed}
use mathlib.Core.Bool.{true}
use mathlib.Core.List.{List}
use lib.Ieee.{Float}
use Rattle.vertex.specs.declared.Point.{Point}
use Rattle.vertex.specs.Point.{finite_point}
use Rattle.table.specs.Slots.{point_at}
use Rattle.table.specs.Euler.{SameEuler}
use Rattle.edit_plans.specs.Plans.{around}
use Rattle.edit_split_edge.specs.SplitEdge.{split_points, split_corners, inner_vertices, inner_opposites, split_inner_edge}
use Rattle.edit_keeps.proofs.Writes.{six_push6}
use Rattle.edit_keeps.proofs.NewVertex.{LiveV1, old_vertex, new_one, was_vertex, split_finite}
use Rattle.fan.proofs.Tables.{table_linked}
use Rattle.edit_keeps.proofs.SplitInnerTable.{t', the_split, cs, cv0, cv', co0, o1, b5, co', vc'}

-- six more places: c0 and c5 and four new ones weigh k, the other two take the old weights of c0 and c5
pub grow6 : (n c0 c5 k : ℕ) (f g : ℕ → ℕ) → c0 < n → c5 < n → c0 ≢ c5 → g c0 ≡ k → g c5 ≡ k → ((d : ℕ) → d < n → d ≢ c0 → d ≢ c5 → g d ≡ f d)
    → g n ≡ k → g (n + 1) ≡ k → g (n + 2) ≡ f c0 → g (n + 3) ≡ k → g (n + 4) ≡ k → g (n + 5) ≡ f c5 → sum (n + 6) g ≡ sum n f + 6 * k
grow6 n c0 c5 k f g h0 h5 x g0 g5 same a b c d e r =
    let s : sum n g + f c0 + f c5 ≡ sum n f + k + k = sum_two n c0 c5 k k f g h0 h5 x g0 g5 same in
    omega (arith, sum_six n g)

module _ {live live' : ℕ → Type 0} {opposite opposite' vertex vertex' : ℕ → ℕ} {c1 c2 c0 c4 c5 c3 : ℕ} (n u : ℕ) (L : Linked live opposite vertex) (A : Site live opposite c1 c2 c0 c4 c5 c3)
    (C : Split live live' opposite opposite' vertex vertex' c1 c2 c0 c4 c5 c3 n (n + 1) (n + 2) (n + 3) (n + 4) (n + 5) u) where
  L' : Linked live' opposite' vertex'
  L' = split_linked L A C

  -- whether there is an opposite
  Same : ℕ → ℕ → Type 0
  Same d e = (opposite' d ≡ absent → opposite e ≡ absent) × (opposite e ≡ absent → opposite' d ≡ absent)

  both : (d e x y : ℕ) → opposite' d ≡ x → live' x → opposite e ≡ y → live y → Same d e
  unfolding Same
  both d e x y p k q m = (λ a. absurd (L'.present x k (sym p ∙ a)), λ a. absurd (L.present y m (sym q ∙ a)))

  old_same : (d : ℕ) → live d → d ≢ c0 → d ≢ c5 → Same d d
  unfolding Same
  old_same d h a b = go (ℕ_discrete (opposite d) c0) (ℕ_discrete (opposite d) c5)
    where
      go : Dec (opposite d ≡ c0) → Dec (opposite d ≡ c5) → Same d d
      go (yes o) q = both d d (n + 2) c0 (C.over0 d h b o) C.l8 o (l0 L A)
      go (no m) (yes o) = both d d (n + 5) c5 (C.over5 d h a o) C.l11 o (l5 L A)
      go (no m) (no k) = let r : opposite' d ≡ opposite d = C.rest d h a b m k in (λ z. sym r ∙ z, λ z. r ∙ z)

  same8 : Same (n + 2) c0
  unfolding Same
  same8 = go (ℕ_discrete (opposite c0) c5)
    where
      go : Dec (opposite c0 ≡ c5) → Same (n + 2) c0
      go (yes o) = both (n + 2) c0 (n + 5) c5 (C.n8' o) C.l11 o (l5 L A)
      go (no m) = let r : opposite' (n + 2) ≡ opposite c0 = C.n8 m in (λ z. sym r ∙ z, λ z. r ∙ z)

  same11 : Same (n + 5) c5
  unfolding Same
  same11 = go (ℕ_discrete (opposite c0) c5)
    where
      go : Dec (opposite c0 ≡ c5) → Same (n + 5) c5
      go (yes o) = both (n + 5) c5 (n + 2) c0 (C.n11' o) C.l8 (opp_of L c0 c5 (l0 L A) (l5 L A) o) (l0 L A)
      go (no m) = let r : opposite' (n + 5) ≡ opposite c5 = C.n11 m in (λ z. sym r ∙ z, λ z. r ∙ z)

  was : (d : ℕ) → d < n → live' d → live d
  was d l h = go (C.shrink d h)
    where
      go : live d ⊎ ((n ≤ d) × (d ≤ n + 5)) → live d
      go (inl k) = k
      go (inr k) = absurd (omega (arith, k.0))

  has : (d x : ℕ) → opposite' d ≡ x → live' x → opposite' d ≢ absent
  has d x p k z = L'.present x k (sym p ∙ z)

  pub paired_more : (p : (d : ℕ) → Dec (live d × (opposite d ≢ absent))) (q : (d : ℕ) → Dec (live' d × (opposite' d ≢ absent))) → sum (n + 6) (λ d. ind (q d)) ≡ sum n (λ d. ind (p d)) + 6 * 1
  unfolding Same
  paired_more p q = grow6 n c0 c5 1 (λ d. ind (p d)) (λ d. ind (q d)) (C.old c0 (l0 L A)) (C.old c5 (l5 L A)) (x0_5 L A)
      (ind_yes (q c0) (C.grow c0 (l0 L A), has c0 (n + 1) C.n0 C.l7)) (ind_yes (q c5) (C.grow c5 (l5 L A), has c5 (n + 3) C.n5 C.l9))
      (λ d l a b. ind_iff (q d) (p d) (λ h. let k : live d = was d l h.0 in (k, λ z. h.1 ((old_same d k a b).1 z))) (λ h. (C.grow d h.0, λ z. h.1 ((old_same d h.0 a b).0 z))))
      (ind_yes (q n) (C.l6, has n (n + 4) C.n6 C.l10)) (ind_yes (q (n + 1)) (C.l7, has (n + 1) c0 C.n7 (C.grow c0 (l0 L A))))
      (ind_iff (q (n + 2)) (p c0) (λ h. (l0 L A, λ z. h.1 (same8.1 z))) (λ h. (C.l8, λ z. h.1 (same8.0 z))))
      (ind_yes (q (n + 3)) (C.l9, has (n + 3) c5 C.n9 (C.grow c5 (l5 L A)))) (ind_yes (q (n + 4)) (C.l10, has (n + 4) n C.n10 C.l6))
      (ind_iff (q (n + 5)) (p c5) (λ h. (l5 L A, λ z. h.1 (same11.1 z))) (λ h. (C.l11, λ z. h.1 (same11.0 z))))

  pub bare_same : (p : (d : ℕ) → Dec (live d × (opposite d ≡ absent))) (q : (d : ℕ) → Dec (live' d × (opposite' d ≡ absent))) → sum (n + 6) (λ d. ind (q d)) ≡ sum n (λ d. ind (p d)) + 6 * 0
  unfolding Same
  bare_same p q = grow6 n c0 c5 0 (λ d. ind (p d)) (λ d. ind (q d)) (C.old c0 (l0 L A)) (C.old c5 (l5 L A)) (x0_5 L A)
      (ind_no (q c0) (λ h. has c0 (n + 1) C.n0 C.l7 h.1)) (ind_no (q c5) (λ h. has c5 (n + 3) C.n5 C.l9 h.1))
      (λ d l a b. ind_iff (q d) (p d) (λ h. let k : live d = was d l h.0 in (k, (old_same d k a b).0 h.1)) (λ h. (C.grow d h.0, (old_same d h.0 a b).1 h.1)))
      (ind_no (q n) (λ h. has n (n + 4) C.n6 C.l10 h.1)) (ind_no (q (n + 1)) (λ h. has (n + 1) c0 C.n7 (C.grow c0 (l0 L A)) h.1))
      (ind_iff (q (n + 2)) (p c0) (λ h. (l0 L A, same8.0 h.1)) (λ h. (C.l8, same8.1 h.1)))
      (ind_no (q (n + 3)) (λ h. has (n + 3) c5 C.n9 (C.grow c5 (l5 L A)) h.1)) (ind_no (q (n + 4)) (λ h. has (n + 4) n C.n10 C.l6 h.1))
      (ind_iff (q (n + 5)) (p c5) (λ h. (l5 L A, same11.0 h.1)) (λ h. (C.l11, same11.1 h.1)))

  -- the faces
  pub faces_more : n % 3 ≡ 0 → (p : (d : ℕ) → Dec (live d)) (q : (d : ℕ) → Dec (live' d)) → sum ((n + 6) / 3) (λ f. ind (q (3 * f))) ≡ sum (n / 3) (λ f. ind (p (3 * f))) + 2
  faces_more m p q =
      let e : (n + 6) / 3 ≡ suc (suc (n / 3)) = omega arith in
      let a : ind (q (3 * (n / 3))) ≡ 1 = ind_yes (q (3 * (n / 3))) (subst live' (omega arith) C.l6) in
      let b : ind (q (3 * suc (n / 3))) ≡ 1 = ind_yes (q (3 * suc (n / 3))) (subst live' (omega arith) C.l9) in
      let s : sum (n / 3) (λ f. ind (q (3 * f))) ≡ sum (n / 3) (λ f. ind (p (3 * f))) = sum_ext (n / 3) _ _ (λ i l. ind_iff (q (3 * i)) (p (3 * i)) (was (3 * i) (omega arith)) (C.grow (3 * i))) in
      rw e (omega arith)

module _ (t : Table) (Z : Shaped t) (W : WellFormed t) (room : t.corners + 6 ≤ length t.corner_mark) (vroom : t.vertices + 1 ≤ length t.vertex_mark)
    (c1 c2 c0 c4 c5 c3 : ℕ) (A : Site (Live t) (opposite t) c1 c2 c0 c4 c5 c3) (i0 : c0 < t.corners) (i5 : c5 < t.corners) (x05 : c0 ≢ c5)
    (vp' : List Float) (good : (v : ℕ) → LiveV1 t v → finite_point (point_at vp' v) ≡ true) where
  abbrev new : Table
  new = t' t Z W room vroom c1 c2 c0 c4 c5 c3 A vp' good

  C : Split (Live t) (Live new) (opposite t) (opposite new) (vertex t) (vertex new) c1 c2 c0 c4 c5 c3 t.corners (t.corners + 1) (t.corners + 2) (t.corners + 3) (t.corners + 4) (t.corners + 5) t.vertices
  C = the_split t Z W room vroom c1 c2 c0 c4 c5 c3 A vp' good i0 i5 x05

  vertex_more : vertices new ≡ vertices t + 1
  unfolding vertices
  vertex_more =
      let a : ind (liveV? new t.vertices) ≡ 1 = ind_yes (liveV? new t.vertices) (new_one t W vroom) in
      let s : sum t.vertices (λ v. ind (liveV? new v)) ≡ sum t.vertices (λ v. ind (liveV? t v)) = sum_ext t.vertices _ _ (λ v l. ind_iff (liveV? new v) (liveV? t v)
      (λ h. was_vertex t W vroom v h (omega arith)) (old_vertex t W vroom v)) in
      omega (arith, sum_one t.vertices (λ v. ind (liveV? new v)))

  euler : vertices new + faces new + edges t ≡ vertices t + faces t + edges new
  unfolding faces edges bare paired
  euler =
      let L : Linked (Live t) (opposite t) (vertex t) = table_linked t Z W in
      let b : sum (t.corners + 6) (λ d. ind (bare? new d)) ≡ sum t.corners (λ d. ind (bare? t d)) + 6 * 0 = bare_same t.corners t.vertices L A C (bare? t) (bare? new) in
      let p : sum (t.corners + 6) (λ d. ind (paired? new d)) ≡ sum t.corners (λ d. ind (paired? t d)) + 6 * 1 = paired_more t.corners t.vertices L A C (paired? t) (paired? new) in
      let f : sum ((t.corners + 6) / 3) (λ f. ind (live? new (3 * f))) ≡ sum (t.corners / 3) (λ f. ind (live? t (3 * f))) + 2 = faces_more t.corners t.vertices L A C W.thirds (live? t) (live? new) in
      omega (arith, vertex_more)

-- a split of an inner edge keeps vertices minus edges plus faces
pub split_euler : (t : Table) → Shaped t → WellFormed t → t.corners + 6 ≤ length t.corner_mark → t.vertices + 1 ≤ length t.vertex_mark
    → (c : ℕ) → Live t c → opposite t c ≢ absent → (at : Point) → finite_point at ≡ true → SameEuler t (split_inner_edge t c at)
unfolding split_inner_edge around inner_vertices inner_opposites split_corners cs cv0 cv' co0 o1 b5 co' vc'
split_euler t Z W r s c h m at f =
    let A = site (opposite t) c h m in
    let L : Linked (Live t) (opposite t) (vertex t) = table_linked t Z W in
    simp six_push6
    (same_euler t _
    (euler t Z W r s c (next c) (next (next c)) (opposite t c) (next (opposite t c)) (next (next (opposite t c))) A (l0 L A).0 (l5 L A).0 (x0_5 L A)
    (split_points (vertex t (next c)) t.vertices at t.vertex_point) (split_finite t W s Z (vertex t (next c)) (W.vertex_live (next c) (l2 L A)) at f)))
