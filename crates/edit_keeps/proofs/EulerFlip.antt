-- A flip keeps vertices, edges and faces. Assumes nothing.
use mathlib.Core.Path.{◌≡◌, ap, sym, ◌∙◌}
use mathlib.Core.Logic.{◌≢◌, Ne-symm}
use Prim.Native.Nat.{ℕ, ◌*◌, ◌<◌, ◌/◌}
use native.Mathlib.Omega.{arith}
use Rattle.corner.specs.Corner.{next}
use Rattle.corner.specs.Corner.{absent}
use Rattle.fan.proofs.Fan.{Linked}
use Rattle.edit_keeps.proofs.Count.{sum, sum_ext, sum_round, ind, ind_iff}
use Rattle.edit_keeps.proofs.Site.{Six, is1, is2, is0, is4, is5, is3, six?, Site, site, l2, l0, l4, l5, l3, b4, x2_0, x2_3, x2_5, x0_5, x0_3, x5_3}
use Rattle.edit_keeps.proofs.Flip.{Flip, Out, by5, by0, by2, by3, far, out}
use Rattle.edit_keeps.proofs.Euler.{same_euler, live?, bare, paired, bare?, paired?, liveV?, edges, faces, vertices}
use Rattle.table.specs.Table.{Table, Live, opposite, vertex, Shaped}
use Rattle.table.specs.Rules.{WellFormed}
use Rattle.table.specs.Euler.{SameEuler}
use Rattle.edit_plans.specs.Plans.{around}
use Rattle.edit_flip.specs.Flip.{flip_vertices, flip_opposites, flip_corners, flip_edge}
use Rattle.fan.proofs.Tables.{table_linked}
use Rattle.edit_keeps.proofs.FlipTable.{flipped, the_flip, co', cv', vc'}

module _ {live : ℕ → Type 0} {opposite opposite' vertex vertex' : ℕ → ℕ} {c1 c2 c0 c4 c5 c3 : ℕ} (n : ℕ) (below : (d : ℕ) → live d → d < n) (L : Linked live opposite vertex)
    (A : Site live opposite c1 c2 c0 c4 c5 c3) (w : vertex c1 ≢ vertex c4)
    (C : Flip live opposite opposite' vertex vertex' c1 c2 c0 c4 c5 c3) where
  Same : ℕ → ℕ → Type 0
  Same d e = (opposite' d ≡ absent → opposite e ≡ absent) × (opposite e ≡ absent → opposite' d ≡ absent)

  alike : (d e : ℕ) → opposite' d ≡ opposite e → Same d e
  unfolding Same
  alike d e r = (λ z. sym r ∙ z, λ z. r ∙ z)

  both : (d x y : ℕ) → opposite' d ≡ x → live x → opposite d ≡ y → live y → Same d d
  unfolding Same
  both d x y p k q m = (λ a. absurd (L.present x k (sym p ∙ a)), λ a. absurd (L.present y m (sym q ∙ a)))

  old_same : (d : ℕ) → live d → d ≢ c0 → d ≢ c5 → d ≢ c3 → d ≢ c2 → Same d d
  old_same d h p q r s = go (six? c1 c2 c0 c4 c5 c3 d)
    where
      go : Dec (Six c1 c2 c0 c4 c5 c3 d) → Same d d
      go (yes (is1 e)) = both d c4 c4 (ap opposite' e ∙ C.n1) (l4 L A) (ap opposite e ∙ A.o1) (l4 L A)
      go (yes (is2 e)) = absurd (s e)
      go (yes (is0 e)) = absurd (p e)
      go (yes (is4 e)) = both d c1 c1 (ap opposite' e ∙ C.n4) A.alive (ap opposite e ∙ b4 L A) A.alive
      go (yes (is5 e)) = absurd (q e)
      go (yes (is3 e)) = absurd (r e)
      go (no m) = at' (out L A w C d h m)
        where
          at' : Out L A w C d → Same d d
          at' (by5 o) = both d c0 c5 (C.over5 d h o) (l0 L A) o (l5 L A)
          at' (by0 o) = both d c2 c0 (C.over0 d h o) (l2 L A) o (l0 L A)
          at' (by2 o) = both d c3 c2 (C.over2 d h o) (l3 L A) o (l2 L A)
          at' (by3 o) = both d c5 c3 (C.over3 d h o) (l5 L A) o (l3 L A)
          at' (far k o) = alike d d o

  -- c0 takes c5's place, c5 c3's, c3 c2's, c2 c0's
  module _ (f g : ℕ → ℕ) (same : (d e : ℕ) → live d → live e → Same d e → g d ≡ f e) (dead : (d : ℕ) → ¬ live d → g d ≡ f d) (l? : (d : ℕ) → Dec (live d)) where
    round : sum n g ≡ sum n f
    round = sum_round n c0 c5 c3 c2 f g (below c0 (l0 L A)) (below c5 (l5 L A)) (below c3 (l3 L A)) (below c2 (l2 L A))
        (Ne-symm (x0_5 L A)) (Ne-symm (x0_3 L A)) (Ne-symm (x5_3 L A)) (x2_0 L A) (x2_5 L A) (x2_3 L A)
        (same c0 c5 (l0 L A) (l5 L A) (alike c0 c5 C.n0)) (same c5 c3 (l5 L A) (l3 L A) (alike c5 c3 C.n5)) (same c3 c2 (l3 L A) (l2 L A) (alike c3 c2 C.n3)) (same c2 c0 (l2 L A) (l0 L A) (alike c2 c0 C.n2))
        (λ i l p q r s. go i p q r s (l? i))
      where
        go : (i : ℕ) → i ≢ c0 → i ≢ c5 → i ≢ c3 → i ≢ c2 → Dec (live i) → g i ≡ f i
        go i p q r s (yes h) = same i i h h (old_same i h p q r s)
        go i p q r s (no h) = dead i h

  pub bare_same : (l? : (d : ℕ) → Dec (live d)) (p : (d : ℕ) → Dec (live d × (opposite d ≡ absent))) (q : (d : ℕ) → Dec (live d × (opposite' d ≡ absent))) → sum n (λ d. ind (q d)) ≡ sum n (λ d. ind (p d))
  unfolding Same
  bare_same l? p q = round (λ d. ind (p d)) (λ d. ind (q d))
      (λ d e h k s. ind_iff (q d) (p e) (λ z. (k, s.0 z.1)) (λ z. (h, s.1 z.1)))
      (λ d h. ind_iff (q d) (p d) (λ z. absurd (h z.0)) (λ z. absurd (h z.0))) l?

  pub paired_same : (l? : (d : ℕ) → Dec (live d)) (p : (d : ℕ) → Dec (live d × (opposite d ≢ absent))) (q : (d : ℕ) → Dec (live d × (opposite' d ≢ absent))) → sum n (λ d. ind (q d)) ≡ sum n (λ d. ind (p d))
  unfolding Same
  paired_same l? p q = round (λ d. ind (p d)) (λ d. ind (q d))
      (λ d e h k s. ind_iff (q d) (p e) (λ z. (k, λ y. z.1 (s.1 y))) (λ z. (h, λ y. z.1 (s.0 y))))
      (λ d h. ind_iff (q d) (p d) (λ z. absurd (h z.0)) (λ z. absurd (h z.0))) l?

-- a flip keeps the number of edges
pub flip_edges : (t : Table) → Shaped t → WellFormed t → (c : ℕ) → Live t c → opposite t c ≢ absent → vertex t c ≢ vertex t (opposite t c) → edges (flip_edge t c) ≡ edges t
unfolding flip_edge around flip_vertices flip_opposites flip_corners flipped co' cv' vc' edges bare paired
flip_edges t Z W c h m v =
    let A = site (opposite t) c h m in
    let L : Linked (Live t) (opposite t) (vertex t) = table_linked t Z W in
    let new : Table = flipped t Z W c (next c) (next (next c)) (opposite t c) (next (opposite t c)) (next (next (opposite t c))) A v in
    let C : Flip (Live t) (opposite t) (opposite new) (vertex t) (vertex new) c (next c) (next (next c)) (opposite t c) (next (opposite t c)) (next (next (opposite t c)))
    = the_flip t Z W c (next c) (next (next c)) (opposite t c) (next (opposite t c)) (next (next (opposite t c))) A v in
    let b : sum t.corners (λ d. ind (bare? new d)) ≡ sum t.corners (λ d. ind (bare? t d)) = bare_same t.corners (λ d k. k.0) L A v C (live? t) (bare? t) (bare? new) in
    let p : sum t.corners (λ d. ind (paired? new d)) ≡ sum t.corners (λ d. ind (paired? t d)) = paired_same t.corners (λ d k. k.0) L A v C (live? t) (paired? t) (paired? new) in
    cc

pub flip_euler : (t : Table) → Shaped t → WellFormed t → (c : ℕ) → Live t c → opposite t c ≢ absent → vertex t c ≢ vertex t (opposite t c)
    → SameEuler t (flip_edge t c)
unfolding flip_edge vertices faces
flip_euler t Z W c h m v =
    let a : vertices (flip_edge t c) ≡ vertices t = sum_ext t.vertices _ _ (λ v l. ind_iff (liveV? (flip_edge t c) v) (liveV? t v) (λ k. k) (λ k. k)) in
    let b : faces (flip_edge t c) ≡ faces t = sum_ext (t.corners / 3) _ _ (λ i l. ind_iff (live? (flip_edge t c) (3 * i)) (live? t (3 * i)) (λ k. k) (λ k. k)) in
    same_euler t (flip_edge t c) (omega (arith, flip_edges t Z W c h m v))
