-- Splitting a border edge keeps vertices minus edges plus faces. Assumes nothing.
use mathlib.Core.Path.{◌≡◌, refl, ap, sym, ◌∙◌, subst}
use mathlib.Core.Logic.{◌≢◌, ◌⊎◌, inl, inr}
use Prim.Native.Nat.{ℕ, suc, ◌+◌, ◌*◌, ◌≤◌, ◌<◌, ◌%◌, ◌/◌}
use native.Mathlib.Omega.{arith}
use native.Mathlib.Decide.{ℕ_discrete}
use native.Mathlib.Numerals.{towards_suc}
use lib.ListN.{length}
use Rattle.corner.specs.Corner.{next, previous}
use Rattle.corner.proofs.Turns.{next_previous, next_three}
use Rattle.corner.specs.Corner.{absent}
use Rattle.fan.proofs.Fan.{Linked, face_previous}
use Rattle.edit_keeps.proofs.SplitFace.{Face3, face3}
use Rattle.fan.proofs.Redirect.{at, at_ind}
use Rattle.edit_keeps.proofs.SplitBorder.{Rim, rim_linked}
use Rattle.edit_keeps.proofs.Count.{sum, sum_one, sum_ext, sum_at, ind, ind_yes, ind_no, ind_iff}
use Rattle.edit_keeps.proofs.Euler.{same_euler, live?, bare, paired, bare?, paired?, liveV?, edges, faces, vertices}
use Rattle.table.specs.Table.{Table, Live, opposite, vertex, Shaped}
use Rattle.table.specs.Rules.{WellFormed}
use mathlib.Core.Bool.{true}
use mathlib.Core.List.{List}
use lib.Ieee.{Float}
use Rattle.vertex.specs.declared.Point.{Point}
use Rattle.vertex.specs.Point.{finite_point}
use Rattle.table.specs.Slots.{point_at}
use Rattle.table.specs.Euler.{SameEuler}
use Rattle.edit_plans.specs.Plans.{triangle}
use Rattle.edit_split_edge.specs.SplitEdge.{split_points, split_corners, boundary_vertices, boundary_opposites, split_boundary_edge}
use Rattle.edit_keeps.proofs.NewVertex.{LiveV1, old_vertex, new_one, was_vertex, split_finite}
use Rattle.fan.proofs.Tables.{table_linked}
use Rattle.edit_keeps.proofs.SplitBorderTable.{t', the_rim, cs, cv', co', vc'}

sum_three : (n : ℕ) (f : ℕ → ℕ) → sum (n + 3) f ≡ sum n f + f n + f (n + 1) + f (n + 2)
sum_three n f = simp towards_suc

grow3 : (n c0 k j : ℕ) (f g : ℕ → ℕ) → c0 < n → g c0 ≡ k → ((d : ℕ) → d < n → d ≢ c0 → g d ≡ f d) → g n ≡ j → g (n + 1) ≡ k → g (n + 2) ≡ f c0 → sum (n + 3) g ≡ sum n f + 2 * k + j
grow3 n c0 k j f g h g0 same a b c =
    let s : sum n (at c0 k f) + f c0 ≡ sum n f + k = sum_at n c0 k f h in
    let e : sum n g ≡ sum n (at c0 k f) = sum_ext n g (at c0 k f) (λ d l. at_ind (λ y. g d ≡ y) c0 k f d (λ z. ap g z ∙ g0) (same d l)) in
    omega (arith, sum_three n g)

module _ {live live' : ℕ → Type 0} {opposite opposite' vertex vertex' : ℕ → ℕ} {c1 c2 c0 : ℕ} (n u : ℕ) (L : Linked live opposite vertex)
    (C : Rim live live' opposite opposite' vertex vertex' c1 c2 c0 n (n + 1) (n + 2) u) (l0 : live c0) where
  L' : Linked live' opposite' vertex'
  L' = rim_linked L C

  old_same : (d : ℕ) → live d → d ≢ c0 → (opposite' d ≡ absent → opposite d ≡ absent) × (opposite d ≡ absent → opposite' d ≡ absent)
  old_same d h a = go (ℕ_discrete (opposite d) c0)
    where
      go : Dec (opposite d ≡ c0) → (opposite' d ≡ absent → opposite d ≡ absent) × (opposite d ≡ absent → opposite' d ≡ absent)
      go (yes o) = (λ z. absurd (L'.present (n + 2) C.l5 (sym (C.over0 d h o) ∙ z)), λ z. absurd (L.present c0 l0 (sym o ∙ z)))
      go (no m) = let r : opposite' d ≡ opposite d = C.rest d h a m in (λ z. sym r ∙ z, λ z. r ∙ z)

  was : (d : ℕ) → d < n → live' d → live d
  was d l h = go (C.shrink d h)
    where
      go : live d ⊎ ((n ≤ d) × (d ≤ n + 2)) → live d
      go (inl k) = k
      go (inr k) = absurd (omega (arith, k.0))

  has : (d x : ℕ) → opposite' d ≡ x → live' x → opposite' d ≢ absent
  has d x p k z = L'.present x k (sym p ∙ z)

  pub paired_more : (p : (d : ℕ) → Dec (live d × (opposite d ≢ absent))) (q : (d : ℕ) → Dec (live' d × (opposite' d ≢ absent))) → sum (n + 3) (λ d. ind (q d)) ≡ sum n (λ d. ind (p d)) + 2 * 1 + 0
  paired_more p q = grow3 n c0 1 0 (λ d. ind (p d)) (λ d. ind (q d)) (C.old c0 l0)
      (ind_yes (q c0) (C.grow c0 l0, has c0 (n + 1) C.n0 C.l4))
      (λ d l a. ind_iff (q d) (p d) (λ h. let k : live d = was d l h.0 in (k, λ z. h.1 ((old_same d k a).1 z))) (λ h. (C.grow d h.0, λ z. h.1 ((old_same d h.0 a).0 z))))
      (ind_no (q n) (λ h. h.1 C.n3)) (ind_yes (q (n + 1)) (C.l4, has (n + 1) c0 C.n4 (C.grow c0 l0)))
      (ind_iff (q (n + 2)) (p c0) (λ h. (l0, λ z. h.1 (C.n5 ∙ z))) (λ h. (C.l5, λ z. h.1 (sym C.n5 ∙ z))))

  pub bare_more : (p : (d : ℕ) → Dec (live d × (opposite d ≡ absent))) (q : (d : ℕ) → Dec (live' d × (opposite' d ≡ absent))) → sum (n + 3) (λ d. ind (q d)) ≡ sum n (λ d. ind (p d)) + 2 * 0 + 1
  bare_more p q = grow3 n c0 0 1 (λ d. ind (p d)) (λ d. ind (q d)) (C.old c0 l0)
      (ind_no (q c0) (λ h. has c0 (n + 1) C.n0 C.l4 h.1))
      (λ d l a. ind_iff (q d) (p d) (λ h. let k : live d = was d l h.0 in (k, (old_same d k a).0 h.1)) (λ h. (C.grow d h.0, (old_same d h.0 a).1 h.1)))
      (ind_yes (q n) (C.l3, C.n3)) (ind_no (q (n + 1)) (λ h. has (n + 1) c0 C.n4 (C.grow c0 l0) h.1))
      (ind_iff (q (n + 2)) (p c0) (λ h. (l0, sym C.n5 ∙ h.1)) (λ h. (C.l5, C.n5 ∙ h.1)))

  pub faces_more : n % 3 ≡ 0 → (p : (d : ℕ) → Dec (live d)) (q : (d : ℕ) → Dec (live' d)) → sum ((n + 3) / 3) (λ f. ind (q (3 * f))) ≡ sum (n / 3) (λ f. ind (p (3 * f))) + 1
  faces_more m p q =
      let e : (n + 3) / 3 ≡ suc (n / 3) = omega arith in
      let a : ind (q (3 * (n / 3))) ≡ 1 = ind_yes (q (3 * (n / 3))) (subst live' (omega arith) C.l3) in
      let s : sum (n / 3) (λ f. ind (q (3 * f))) ≡ sum (n / 3) (λ f. ind (p (3 * f))) = sum_ext (n / 3) _ _ (λ i l. ind_iff (q (3 * i)) (p (3 * i)) (was (3 * i) (omega arith)) (C.grow (3 * i))) in
      rw e (omega arith)

-- a split of a border edge keeps vertices minus edges plus faces
pub rim_euler : (t : Table) → Shaped t → WellFormed t → t.corners + 3 ≤ length t.corner_mark → t.vertices + 1 ≤ length t.vertex_mark
    → (c : ℕ) → Live t c → opposite t c ≡ absent → (at : Point) → finite_point at ≡ true → SameEuler t (split_boundary_edge t c at)
unfolding split_boundary_edge triangle boundary_vertices boundary_opposites split_corners cs cv' co' vc' vertices faces edges bare paired
rim_euler t Z W r s c h o at fine =
    let L : Linked (Live t) (opposite t) (vertex t) = table_linked t Z W in
    let c0 : ℕ = previous c in
    let c1 : ℕ = next c0 in
    let c2 : ℕ = next c1 in
    let l1 : Live t (next (previous c)) = rw (next_previous c) h in
    let l2 : Live t (next (next (previous c))) = L.face (next (previous c)) l1 in
    let l0 : Live t (previous c) = face_previous L c h in
    let b1 : opposite t (next (previous c)) ≡ absent = rw (next_previous c) o in
    let f0 : Face3 c1 c2 c0 = face3 c1 c2 c0 refl (next_three c0) in
    let vp' : List Float = split_points (vertex t c2) t.vertices at t.vertex_point in
    let good : (v : ℕ) → LiveV1 t v → finite_point (point_at vp' v) ≡ true = split_finite t W s Z (vertex t c2) (W.vertex_live c2 l2) at fine in
    let new : Table = t' t Z W r s c1 c2 c0 f0 l1 l2 l0 b1 vp' good in
    let C : Rim (Live t) (Live new) (opposite t) (opposite new) (vertex t) (vertex new) c1 c2 c0 t.corners (t.corners + 1) (t.corners + 2) t.vertices =
    the_rim t Z W r s c1 c2 c0 f0 l1 l2 l0 b1 vp' good in
    let a : ind (liveV? new t.vertices) ≡ 1 = ind_yes (liveV? new t.vertices) (new_one t W s) in
    let v : sum t.vertices (λ v. ind (liveV? new v)) ≡ sum t.vertices (λ v. ind (liveV? t v)) = sum_ext t.vertices _ _ (λ v l. ind_iff (liveV? new v) (liveV? t v)
    (λ k. was_vertex t W s v k (omega arith)) (old_vertex t W s v)) in
    let b : sum (t.corners + 3) (λ d. ind (bare? new d)) ≡ sum t.corners (λ d. ind (bare? t d)) + 2 * 0 + 1 = bare_more t.corners t.vertices L C l0 (bare? t) (bare? new) in
    let p : sum (t.corners + 3) (λ d. ind (paired? new d)) ≡ sum t.corners (λ d. ind (paired? t d)) + 2 * 1 + 0 = paired_more t.corners t.vertices L C l0 (paired? t) (paired? new) in
    let f : sum ((t.corners + 3) / 3) (λ f. ind (live? new (3 * f))) ≡ sum (t.corners / 3) (λ f. ind (live? t (3 * f))) + 1 = faces_more t.corners t.vertices L C l0 W.thirds (live? t) (live? new) in
    same_euler t new (omega (arith, sum_one t.vertices (λ v. ind (liveV? new v))))
