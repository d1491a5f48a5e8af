-- Vertices, edges and faces by decided statements, which is what the edits' counts are shown on, and that they are the counts of
-- table/specs/Euler.antt. Assumes nothing.
use mathlib.Core.Path.{◌≡◌, refl, sym}
use mathlib.Core.Logic.{◌≢◌}
use mathlib.Core.Bool.{Bool, true, false, cond, not, ◌&&◌, false≢true}
use Prim.Native.Nat.{ℕ, zero, suc, ◌+◌, ◌*◌, ◌<◌, ◌/◌}
use native.Mathlib.Omega.{arith}
use native.Mathlib.Decide.{ℕ_discrete}
use borrow.Author.Tests.{eq-eqb, ne_eqb, eqb-true, eqb-false, not-true}
use lib.Dec.{eqb}
use Rattle.corner.specs.Corner.{absent}
use Rattle.std.proofs.lemmas.Bool.{and_parts}
use Rattle.table.specs.Table.{Table, opposite, Live, LiveVertex, live}
use Rattle.table.specs.Euler.{count, vertex_count, face_count, bare_count, paired_count, edge_count, SameEuler}
use Rattle.table.proofs.Lives.{live_true, true_live}
use Rattle.table.proofs.Lives as lives
use Rattle.fan.proofs.Redirect.{at, at_other}
use Rattle.edit_keeps.proofs.Count.{sum, sum_at, ind, ind_yes, ind_no}

abbrev pub live? : (t : Table) (c : ℕ) → Dec (Live t c)
live? t c = lives.live? t.corner_mark t.corners c

abbrev pub liveV? : (t : Table) (v : ℕ) → Dec (LiveVertex t v)
liveV? t v = lives.live? t.vertex_mark t.vertices v

-- a live corner without opposite, a live corner with one
abbrev pub Bare : Table → ℕ → Type 0
Bare t c = Live t c × (opposite t c ≡ absent)

abbrev pub Paired : Table → ℕ → Type 0
Paired t c = Live t c × (opposite t c ≢ absent)

pub bare? : (t : Table) (c : ℕ) → Dec (Bare t c)
bare? t c = go (live? t c) (ℕ_discrete (opposite t c) absent)
  where
    go : Dec (Live t c) → Dec (opposite t c ≡ absent) → Dec (Bare t c)
    go (yes a) (yes b) = yes (a, b)
    go (yes a) (no b) = no (λ z. b z.1)
    go (no a) b = no (λ z. a z.0)

pub paired? : (t : Table) (c : ℕ) → Dec (Paired t c)
paired? t c = go (live? t c) (ℕ_discrete (opposite t c) absent)
  where
    go : Dec (Live t c) → Dec (opposite t c ≡ absent) → Dec (Paired t c)
    go (yes a) (no b) = yes (a, b)
    go (yes a) (yes b) = no (λ z. z.1 b)
    go (no a) b = no (λ z. a z.0)

unfoldable pub bare : Table → ℕ
bare t = sum t.corners (λ c. ind (bare? t c))

unfoldable pub paired : Table → ℕ
paired t = sum t.corners (λ c. ind (paired? t c))

unfoldable pub edges : Table → ℕ
edges t = bare t + paired t / 2

unfoldable pub faces : Table → ℕ
faces t = sum (t.corners / 3) (λ f. ind (live? t (3 * f)))

unfoldable pub vertices : Table → ℕ
vertices t = sum t.vertices (λ v. ind (liveV? t v))

-- ---- a test that says what a decided statement says counts the same

one_or_none : {A : Type 0} (b : Bool) (d : Dec A) → (b ≡ true → A) → (A → b ≡ true) → cond b 1 0 ≡ ind d
one_or_none true d f g = sym (ind_yes d (f refl))
one_or_none false d f g = sym (ind_no d (λ a. false≢true (g a)))

count_sum : {P : ℕ → Type 0} (n : ℕ) (test : ℕ → Bool) (d : (i : ℕ) → Dec (P i)) → ((i : ℕ) → test i ≡ true → P i) → ((i : ℕ) → P i → test i ≡ true)
    → count n test ≡ sum n (λ i. ind (d i))
count_sum zero test d f g = refl
count_sum (suc n) test d f g =
    let a = count_sum n test d f g in
    let b = one_or_none (test n) (d n) (f n) (g n) in
    omega arith

module _ (t : Table) where
  live_c : (c : ℕ) → live t.corner_mark t.corners c ≡ true → Live t c
  live_c c e = live_true t.corner_mark t.corners c e

  c_live : (c : ℕ) → Live t c → live t.corner_mark t.corners c ≡ true
  c_live c h = true_live t.corner_mark t.corners c h

  vertices_are : vertex_count t ≡ vertices t
  unfolding vertex_count vertices
  vertices_are =
      count_sum t.vertices (live t.vertex_mark t.vertices) (liveV? t) (λ v e. live_true t.vertex_mark t.vertices v e)
      (λ v h. true_live t.vertex_mark t.vertices v h)

  faces_are : face_count t ≡ faces t
  unfolding face_count faces
  faces_are =
      count_sum (t.corners / 3) (λ f. live t.corner_mark t.corners (3 * f)) (λ f. live? t (3 * f)) (λ f e. live_c (3 * f) e)
      (λ f h. c_live (3 * f) h)

  bare_is : bare_count t ≡ bare t
  unfolding bare_count bare
  bare_is = count_sum t.corners (λ c. live t.corner_mark t.corners c && eqb (opposite t c) absent) (bare? t) from to
    where
      from : (c : ℕ) → live t.corner_mark t.corners c && eqb (opposite t c) absent ≡ true → Bare t c
      from c e = let p = and_parts _ _ e in (live_c c p.0, eqb-true _ _ p.1)

      to : (c : ℕ) → Bare t c → live t.corner_mark t.corners c && eqb (opposite t c) absent ≡ true
      to c h = rw (c_live c h.0, eq-eqb _ _ h.1)

  paired_is : paired_count t ≡ paired t
  unfolding paired_count paired
  paired_is = count_sum t.corners (λ c. live t.corner_mark t.corners c && not (eqb (opposite t c) absent)) (paired? t) from to
    where
      from : (c : ℕ) → live t.corner_mark t.corners c && not (eqb (opposite t c) absent) ≡ true → Paired t c
      from c e = let p = and_parts _ _ e in (live_c c p.0, eqb-false _ _ (not-true _ p.1))

      to : (c : ℕ) → Paired t c → live t.corner_mark t.corners c && not (eqb (opposite t c) absent) ≡ true
      to c h = rw (c_live c h.0, ne_eqb _ _ h.1)

  edges_are : edge_count t ≡ edges t
  unfolding edge_count edges
  edges_are = rw (bare_is, paired_is)

pub same_euler : (t u : Table) → vertices u + faces u + edges t ≡ vertices t + faces t + edges u → SameEuler t u
same_euler t u e = rw (vertices_are t, vertices_are u, faces_are t, faces_are u, edges_are t, edges_are u) e

-- six values at distinct places set to nothing
pub drop6 : (n : ℕ) (f : ℕ → ℕ) (a b c d e g : ℕ) → a < n → b < n → c < n → d < n → e < n → g < n
    → b ≢ a → c ≢ a → c ≢ b → d ≢ a → d ≢ b → d ≢ c → e ≢ a → e ≢ b → e ≢ c → e ≢ d → g ≢ a → g ≢ b → g ≢ c → g ≢ d → g ≢ e
    → sum n (at g 0 (at e 0 (at d 0 (at c 0 (at b 0 (at a 0 f)))))) + (f a + f b + f c + f d + f e + f g) ≡ sum n f
drop6 n f a b c d e g ha hb hc hd he hg ba ca cb da db dc ea eb ec ed ga gb gc gd ge =
    let f1 : ℕ → ℕ = at a 0 f in
    let f2 : ℕ → ℕ = at b 0 f1 in
    let f3 : ℕ → ℕ = at c 0 f2 in
    let f4 : ℕ → ℕ = at d 0 f3 in
    let f5 : ℕ → ℕ = at e 0 f4 in
    let vb : f1 b ≡ f b = simp at_other in
    let vc : f2 c ≡ f c = simp at_other in
    let vd : f3 d ≡ f d = simp at_other in
    let ve : f4 e ≡ f e = simp at_other in
    let vg : f5 g ≡ f g = simp at_other in
    let s1 : sum n f1 + f a ≡ sum n f + 0 = sum_at n a 0 f ha in
    let s2 : sum n f2 + f1 b ≡ sum n f1 + 0 = sum_at n b 0 f1 hb in
    let s3 : sum n f3 + f2 c ≡ sum n f2 + 0 = sum_at n c 0 f2 hc in
    let s4 : sum n f4 + f3 d ≡ sum n f3 + 0 = sum_at n d 0 f3 hd in
    let s5 : sum n f5 + f4 e ≡ sum n f4 + 0 = sum_at n e 0 f4 he in
    let s6 : sum n (at g 0 f5) + f5 g ≡ sum n f5 + 0 = sum_at n g 0 f5 hg in
    omega arith
