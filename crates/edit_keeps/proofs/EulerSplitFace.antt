-- Splitting a face keeps vertices minus edges plus faces. Assumes nothing.
use mathlib.Core.Path.{◌≡◌, refl, sym, ◌∙◌, subst}
use mathlib.Core.Logic.{◌≢◌, ◌⊎◌, inl, inr}
use Prim.Native.Nat.{ℕ, suc, ◌+◌, ◌*◌, ◌≤◌, ◌<◌, ◌%◌, ◌/◌}
use native.Mathlib.Omega.{arith}
use native.Mathlib.Decide.{ℕ_discrete}
use lib.ListN.{length}
use Rattle.corner.specs.Corner.{next}
use Rattle.corner.proofs.Turns.{next_differs}
use Rattle.corner.specs.Corner.{absent, first_corner}
use Rattle.fan.proofs.Fan.{Linked}
use Rattle.edit_keeps.proofs.SplitFace.{Face3, face3, Cut, cut_linked}
use Rattle.edit_keeps.proofs.Count.{sum, sum_one, sum_ext, ind, ind_yes, ind_no, ind_iff}
use Rattle.edit_keeps.proofs.Euler.{same_euler, live?, bare, paired, bare?, paired?, liveV?, edges, faces, vertices}
use Rattle.edit_keeps.proofs.EulerSplitInner.{grow6}
use Rattle.table.specs.Table.{Table, Live, opposite, vertex, Shaped}
use Rattle.table.specs.Rules.{WellFormed}
use mathlib.Core.Bool.{true}
use mathlib.Core.List.{List}
use lib.Ieee.{Float}
use Rattle.vertex.specs.declared.Point.{Point}
use Rattle.vertex.specs.Point.{finite_point}
use Rattle.table.specs.Slots.{point_at, with_point}
use Rattle.table.specs.Euler.{SameEuler}
use Rattle.edit_plans.specs.Plans.{triangle}
use Rattle.edit_split_face.specs.SplitFace.{face_vertices, face_opposites, face_corners, split_face}
use Rattle.edit_keeps.proofs.Writes.{six_push6}
use Rattle.fan.proofs.Tables.{table_linked}
use Rattle.edit_keeps.proofs.NewVertex.{LiveV1, old_vertex, new_one, was_vertex, placed_finite}
use Rattle.edit_keeps.proofs.SplitFaceTable.{t', the_cut, co', cv', vc'}

module _ {live live' : ℕ → Type 0} {opposite opposite' vertex vertex' : ℕ → ℕ} {c0 c1 c2 : ℕ} (n u : ℕ) (L : Linked live opposite vertex)
    (C : Cut live live' opposite opposite' vertex vertex' c0 c1 c2 n (n + 1) (n + 2) (n + 3) (n + 4) (n + 5) u) (l1 : live c1) where
  L' : Linked live' opposite' vertex'
  L' = cut_linked L C

  Same : ℕ → ℕ → Type 0
  Same d e = (opposite' d ≡ absent → opposite e ≡ absent) × (opposite e ≡ absent → opposite' d ≡ absent)

  both : (d e x y : ℕ) → opposite' d ≡ x → live' x → opposite e ≡ y → live y → Same d e
  unfolding Same
  both d e x y p k q m = (λ a. absurd (L'.present x k (sym p ∙ a)), λ a. absurd (L.present y m (sym q ∙ a)))

  old_same : (d : ℕ) → live d → d ≢ c0 → d ≢ c1 → Same d d
  unfolding Same
  old_same d h a b = go (ℕ_discrete (opposite d) c0) (ℕ_discrete (opposite d) c1)
    where
      go : Dec (opposite d ≡ c0) → Dec (opposite d ≡ c1) → Same d d
      go (yes o) q = both d d (n + 2) c0 (C.over0 d h o) C.l5 o C.alive
      go (no m) (yes o) = both d d (n + 5) c1 (C.over1 d h o) C.l8 o l1
      go (no m) (no k) = let r : opposite' d ≡ opposite d = C.rest d h a b m k in (λ z. sym r ∙ z, λ z. r ∙ z)

  alike : (d e : ℕ) → opposite' d ≡ opposite e → Same d e
  unfolding Same
  alike d e r = (λ z. sym r ∙ z, λ z. r ∙ z)

  was : (d : ℕ) → d < n → live' d → live d
  was d l h = go (C.shrink d h)
    where
      go : live d ⊎ ((n ≤ d) × (d ≤ n + 5)) → live d
      go (inl k) = k
      go (inr k) = absurd (omega (arith, k.0))

  has : (d x : ℕ) → opposite' d ≡ x → live' x → opposite' d ≢ absent
  has d x p k z = L'.present x k (sym p ∙ z)

  x01 : c0 ≢ c1
  x01 z = next_differs c0 (C.f0.n0 ∙ sym z)

  pub paired_more : (p : (d : ℕ) → Dec (live d × (opposite d ≢ absent))) (q : (d : ℕ) → Dec (live' d × (opposite' d ≢ absent))) → sum (n + 6) (λ d. ind (q d)) ≡ sum n (λ d. ind (p d)) + 6 * 1
  unfolding Same
  paired_more p q = grow6 n c0 c1 1 (λ d. ind (p d)) (λ d. ind (q d)) (C.old c0 C.alive) (C.old c1 l1) x01
      (ind_yes (q c0) (C.grow c0 C.alive, has c0 (n + 1) C.o0 C.l4)) (ind_yes (q c1) (C.grow c1 l1, has c1 (n + 3) C.o1 C.l6))
      (λ d l a b. ind_iff (q d) (p d) (λ h. let k : live d = was d l h.0 in (k, λ z. h.1 ((old_same d k a b).1 z))) (λ h. (C.grow d h.0, λ z. h.1 ((old_same d h.0 a b).0 z))))
      (ind_yes (q n) (C.l3, has n (n + 4) C.o3 C.l7)) (ind_yes (q (n + 1)) (C.l4, has (n + 1) c0 C.o4 (C.grow c0 C.alive)))
      (ind_iff (q (n + 2)) (p c0) (λ h. (C.alive, λ z. h.1 ((alike (n + 2) c0 C.o5).1 z))) (λ h. (C.l5, λ z. h.1 ((alike (n + 2) c0 C.o5).0 z))))
      (ind_yes (q (n + 3)) (C.l6, has (n + 3) c1 C.o6 (C.grow c1 l1))) (ind_yes (q (n + 4)) (C.l7, has (n + 4) n C.o7 C.l3))
      (ind_iff (q (n + 5)) (p c1) (λ h. (l1, λ z. h.1 ((alike (n + 5) c1 C.o8).1 z))) (λ h. (C.l8, λ z. h.1 ((alike (n + 5) c1 C.o8).0 z))))

  pub bare_same : (p : (d : ℕ) → Dec (live d × (opposite d ≡ absent))) (q : (d : ℕ) → Dec (live' d × (opposite' d ≡ absent))) → sum (n + 6) (λ d. ind (q d)) ≡ sum n (λ d. ind (p d)) + 6 * 0
  unfolding Same
  bare_same p q = grow6 n c0 c1 0 (λ d. ind (p d)) (λ d. ind (q d)) (C.old c0 C.alive) (C.old c1 l1) x01
      (ind_no (q c0) (λ h. has c0 (n + 1) C.o0 C.l4 h.1)) (ind_no (q c1) (λ h. has c1 (n + 3) C.o1 C.l6 h.1))
      (λ d l a b. ind_iff (q d) (p d) (λ h. let k : live d = was d l h.0 in (k, (old_same d k a b).0 h.1)) (λ h. (C.grow d h.0, (old_same d h.0 a b).1 h.1)))
      (ind_no (q n) (λ h. has n (n + 4) C.o3 C.l7 h.1)) (ind_no (q (n + 1)) (λ h. has (n + 1) c0 C.o4 (C.grow c0 C.alive) h.1))
      (ind_iff (q (n + 2)) (p c0) (λ h. (C.alive, (alike (n + 2) c0 C.o5).0 h.1)) (λ h. (C.l5, (alike (n + 2) c0 C.o5).1 h.1)))
      (ind_no (q (n + 3)) (λ h. has (n + 3) c1 C.o6 (C.grow c1 l1) h.1)) (ind_no (q (n + 4)) (λ h. has (n + 4) n C.o7 C.l3 h.1))
      (ind_iff (q (n + 5)) (p c1) (λ h. (l1, (alike (n + 5) c1 C.o8).0 h.1)) (λ h. (C.l8, (alike (n + 5) c1 C.o8).1 h.1)))

  pub faces_more : n % 3 ≡ 0 → (p : (d : ℕ) → Dec (live d)) (q : (d : ℕ) → Dec (live' d)) → sum ((n + 6) / 3) (λ f. ind (q (3 * f))) ≡ sum (n / 3) (λ f. ind (p (3 * f))) + 2
  faces_more m p q =
      let e : (n + 6) / 3 ≡ suc (suc (n / 3)) = omega arith in
      let a : ind (q (3 * (n / 3))) ≡ 1 = ind_yes (q (3 * (n / 3))) (subst live' (omega arith) C.l3) in
      let b : ind (q (3 * suc (n / 3))) ≡ 1 = ind_yes (q (3 * suc (n / 3))) (subst live' (omega arith) C.l6) in
      let s : sum (n / 3) (λ f. ind (q (3 * f))) ≡ sum (n / 3) (λ f. ind (p (3 * f))) = sum_ext (n / 3) _ _ (λ i l. ind_iff (q (3 * i)) (p (3 * i)) (was (3 * i) (omega arith)) (C.grow (3 * i))) in
      rw e (omega arith)

-- a face split keeps vertices minus edges plus faces
pub cut_euler : (t : Table) → Shaped t → WellFormed t → t.corners + 6 ≤ length t.corner_mark → t.vertices + 1 ≤ length t.vertex_mark
    → (f : ℕ) → Live t (first_corner f) → (at : Point) → finite_point at ≡ true → SameEuler t (split_face t f at)
unfolding split_face triangle face_vertices face_opposites face_corners co' cv' vc' vertices faces edges bare paired
cut_euler t Z W r s f h at fine =
    let c : ℕ = first_corner f in
    let vp' : List Float = with_point t.vertex_point t.vertices at in
    let good : (v : ℕ) → LiveV1 t v → finite_point (point_at vp' v) ≡ true = placed_finite t W s Z at fine in
    let L : Linked (Live t) (opposite t) (vertex t) = table_linked t Z W in
    let l1 : Live t (next c) = L.face c h in
    let l2 : Live t (next (next c)) = L.face (next c) l1 in
    let f0 : Face3 c (next c) (next (next c)) = face3 c (next c) (next (next c)) refl refl in
    let new : Table = t' t Z W r s c (next c) (next (next c)) f0 h l1 l2 vp' good in
    let C : Cut (Live t) (Live new) (opposite t) (opposite new) (vertex t) (vertex new) c (next c) (next (next c)) t.corners (t.corners + 1) (t.corners + 2) (t.corners + 3) (t.corners + 4) (t.corners + 5) t.vertices
    = the_cut t Z W r s c (next c) (next (next c)) f0 h l1 l2 vp' good in
    let a : ind (liveV? new t.vertices) ≡ 1 = ind_yes (liveV? new t.vertices) (new_one t W s) in
    let v : sum t.vertices (λ v. ind (liveV? new v)) ≡ sum t.vertices (λ v. ind (liveV? t v)) = sum_ext t.vertices _ _ (λ v l. ind_iff (liveV? new v) (liveV? t v)
    (λ k. was_vertex t W s v k (omega arith)) (old_vertex t W s v)) in
    let b : sum (t.corners + 6) (λ d. ind (bare? new d)) ≡ sum t.corners (λ d. ind (bare? t d)) + 6 * 0 = bare_same t.corners t.vertices L C l1 (bare? t) (bare? new) in
    let p : sum (t.corners + 6) (λ d. ind (paired? new d)) ≡ sum t.corners (λ d. ind (paired? t d)) + 6 * 1 = paired_more t.corners t.vertices L C l1 (paired? t) (paired? new) in
    let f : sum ((t.corners + 6) / 3) (λ f. ind (live? new (3 * f))) ≡ sum (t.corners / 3) (λ f. ind (live? t (3 * f))) + 2 = faces_more t.corners t.vertices L C l1 W.thirds (live? t) (live? new) in
    simp six_push6 (same_euler t new (omega (arith, sum_one t.vertices (λ v. ind (liveV? new v)))))
