-- The faces: the tests of one, what it leaves, and the loop over all of them. Assumes nothing.
use mathlib.Core.Path.{◌≡◌, refl, ap, sym, ◌∙◌, subst}
use mathlib.Core.Bool.{Bool, true, false, cond, not}
use mathlib.Core.List.{List, [], ◌∷◌}
use Prim.Native.Nat.{ℕ, zero, suc, ◌+◌, ◌-◌, ◌*◌, ◌/◌, ◌≤◌, ◌<◌, ◌%◌}
use native.Mathlib.Omega.{arith}
use native.Mathlib.Numerals.{add-one}
use borrow.Author.Tests.{lt-ltb, le-ltb, ltb-false, eqb-true}
use lib.Dec.{eqb, ltb}
use lib.ListN.{length, get_or, set, take, drop, length-drop}
use lib.Seq.{drop-cons}
use Rattle.std.proofs.Common.{Some, None, drop-drop, get_or-take, get_or-drop}
use Rattle.std.specs.Option.{is_some}
use Rattle.std.specs.Simd.{first_chunks}
use Rattle.refusal.specs.declared.Refusal.{Refusal}
use Rattle.refusal.specs.declared.Refusal.TheVariants.{Parts, UnknownVertex, RepeatedVertex, NotFinite, NoVertexRoom, NoCornerRoom, NotWellFormed, Misfit}
use Rattle.refusal.specs.declared.Refusal.TheVariants.{NoTarget, Deleted, Border, SameVertex, Unsafe, UnknownKind, Tangled, ShortList}
use Rattle.refusal.specs.Refusal.{number_of}
use Rattle.corner.specs.Corner.{absent}
use Rattle.corner.specs.Told.{told}
use Rattle.table.specs.Slots.{with_pair, three}
use Rattle.builder_build.specs.Build.{SoFar, find_edge, skip, grow, Course, refuse, go, known, repeated, taken, face, on_course, faces}
use Rattle.builder_edges.specs.declared.Found.{Found}
use Rattle.builder_edges.specs.Search.{the_corner, met, sought, taken_by}
use Rattle.builder_faces.specs.Steps.{so_far}

-- no refusal has the number 0
pub refused_some : (e : Refusal) → number_of e ≡ 0 → ⊥
refused_some Parts h = absurd (omega (arith, h))
refused_some UnknownVertex h = absurd (omega (arith, h))
refused_some RepeatedVertex h = absurd (omega (arith, h))
refused_some NotFinite h = absurd (omega (arith, h))
refused_some NoVertexRoom h = absurd (omega (arith, h))
refused_some NoCornerRoom h = absurd (omega (arith, h))
refused_some NotWellFormed h = absurd (omega (arith, h))
refused_some Misfit h = absurd (omega (arith, h))
refused_some NoTarget h = absurd (omega (arith, h))
refused_some Deleted h = absurd (omega (arith, h))
refused_some Border h = absurd (omega (arith, h))
refused_some SameVertex h = absurd (omega (arith, h))
refused_some Unsafe h = absurd (omega (arith, h))
refused_some UnknownKind h = absurd (omega (arith, h))
refused_some Tangled h = absurd (omega (arith, h))
refused_some ShortList h = absurd (omega (arith, h))

-- ---- one face

met_some : (k : ℕ) → is_some (met k) ≡ not (eqb k absent)
unfolding met
met_some k = by (eqb k absent)
  where
    by : (b : Bool) → is_some (cond b None (Some (the_corner k))) ≡ not b
    by true = refl
    by false = refl

told_met : (k : ℕ) → told (met k) ≡ k
unfolding met
told_met k = by (eqb k absent) refl
  where
    by : (b : Bool) → eqb k absent ≡ b → told (cond b None (Some (the_corner k))) ≡ k
    by true e = sym (eqb-true k absent e)
    by false e = refl

-- where the search's answer is the build's
module _ (nv room n k a b c : ℕ) (cv co vc : List ℕ) (f : Found) (is : f ≡ sought cv n a b c) (t : Bool) (tb : t ≡ taken_by f)
    (kn : known nv a b c ≡ true) (re : repeated a b c ≡ false) where
  abbrev s : SoFar
  s = so_far cv co vc n k

  same_taken : taken_by f ≡ taken s a b c
  unfolding sought
  same_taken = rw is (rw (met_some (find_edge cv b c n 0), met_some (find_edge cv c a n 0), met_some (find_edge cv a b n 0)))

  pub face_skips : t ≡ true → go (so_far cv co vc n (k + 1)) ≡ face nv room s a b c
  unfolding face
  face_skips e = rw (kn, re, ← same_taken, ← tb, e)

  pub face_full : t ≡ false → room < n + 3 → refuse 6 ≡ face nv room s a b c
  unfolding face
  face_full e h = rw (kn, re, ← same_taken, ← tb, e, lt-ltb room (n + 3) h)

  pub face_grows : t ≡ false → n + 3 ≤ room → (cv' co' vc' : List ℕ) → cv' ≡ three cv n a b c
      → co' ≡ with_pair (with_pair (with_pair co n (told f.cb)) (n + 1) (told f.ac)) (n + 2) (told f.ba) → vc' ≡ set (set (set vc a n) b (n + 1)) c (n + 2)
      → go (so_far cv' co' vc' (n + 3) k) ≡ face nv room s a b c
  unfolding face grow sought
  face_grows e h cv' co' vc' p q r =
      rw (kn, re, ← same_taken, ← tb, e, le-ltb room (n + 3) h)
      (rw (p, q, r, is) (rw (told_met (find_edge cv c b n 0), told_met (find_edge cv a c n 0), told_met (find_edge cv b a n 0))))

-- 2, then 3
module _ (nv a b c w : ℕ) (k t : Bool) (kn : k ≡ known nv a b c) (re : t ≡ repeated a b c) (wt : w ≡ cond (not k) 2 (cond t 3 0)) where
  pub face_wrong : (room : ℕ) (s : SoFar) → (w ≡ 0 → ⊥) → refuse w ≡ face nv room s a b c
  unfolding face
  face_wrong room s h = rw (← kn, ← re) (by k t wt h)
    where
      by : (x y : Bool) → w ≡ cond (not x) 2 (cond y 3 0) → (w ≡ 0 → ⊥)
          → refuse w ≡ cond x (cond y (refuse 3) (cond (taken s a b c) (go (skip s)) (cond (ltb room (s.nc + 3)) (refuse 6) (go (grow s a b c))))) (refuse 2)
      by false y e h = rw e
      by true true e h = rw e
      by true false e h = absurd (h e)

  -- neither
  pub face_passed : w ≡ 0 → (known nv a b c ≡ true) × (repeated a b c ≡ false)
  face_passed e = by k t kn re (sym wt ∙ e)
    where
      by : (x y : Bool) → x ≡ known nv a b c → y ≡ repeated a b c → ◌≡◌ {A = ℕ} (cond (not x) 2 (cond y 3 0)) 0 → (known nv a b c ≡ true) × (repeated a b c ≡ false)
      by false y p q h = absurd (omega (arith, h))
      by true true p q h = absurd (omega (arith, h))
      by true false p q h = (sym p, sym q)

-- ---- all faces

module _ (nv room : ℕ) (s : SoFar) (fs : List ℕ) (i : ℕ) where
  short : (l : List ℕ) → length l ≤ 2 → faces nv room s l ≡ go s
  unfolding faces
  short [] h = refl
  short (a ∷ []) h = refl
  short (a ∷ b ∷ []) h = refl
  short (a ∷ b ∷ c ∷ l) h = absurd (omega arith)

  pub faces_end : length fs - i ≤ 2 → faces nv room s (drop i fs) ≡ go s
  faces_end h = short (drop i fs) (rw length-drop h)

  pub faces_more : i + 2 < length fs
      → faces nv room s (drop i fs) ≡ on_course (face nv room s (get_or fs i 0) (get_or fs (i + 1) 0) (get_or fs (i + 2) 0)) (λ t. faces nv room t (drop (i + 3) fs))
  unfolding faces
  faces_more h = rw (three)
    where
      three : drop i fs ≡ get_or fs i 0 ∷ get_or fs (i + 1) 0 ∷ get_or fs (i + 2) 0 ∷ drop (i + 3) fs
      three = drop-cons fs i 0 (omega arith) ∙ ap (λ (l : List ℕ). get_or fs i 0 ∷ l)
          (rw (← (add-one i)) (drop-cons fs (i + 1) 0 (omega arith)) ∙ ap (λ (l : List ℕ). get_or fs (i + 1) 0 ∷ l)
          (at2 ∙ at3))
        where
          at2 : drop (suc (i + 1)) fs ≡ drop (i + 2) fs
          at2 = let z : suc (i + 1) ≡ i + 2 = omega arith in ap (λ (n : ℕ). drop n fs) z

          at3 : drop (i + 2) fs ≡ get_or fs (i + 2) 0 ∷ drop (i + 3) fs
          at3 = let z : suc (i + 2) ≡ i + 3 = omega arith in drop-cons fs (i + 2) 0 (omega arith) ∙ ap (λ (n : ℕ). get_or fs (i + 2) 0 ∷ drop n fs) z

  -- a face that was refused ends it, one that was not goes on
  pub faces_stop : (a : ℕ) → refuse a ≡ face nv room s (get_or fs i 0) (get_or fs (i + 1) 0) (get_or fs (i + 2) 0) → i + 2 < length fs
      → refuse a ≡ faces nv room s (drop i fs)
  faces_stop a e h = ap (λ (u : Course). on_course u (λ k. faces nv room k (drop (i + 3) fs))) e ∙ sym (faces_more h)

  pub faces_on : (r : SoFar) → go r ≡ face nv room s (get_or fs i 0) (get_or fs (i + 1) 0) (get_or fs (i + 2) 0) → i + 2 < length fs
      → faces nv room r (drop (i + 3) fs) ≡ faces nv room s (drop i fs)
  faces_on r e h = ap (λ (u : Course). on_course u (λ k. faces nv room k (drop (i + 3) fs))) e ∙ sym (faces_more h)

-- what the loop over faces keeps
pub record Adding (nv room : ℕ) (fs cv₀ co₀ vc₀ cv co vc : List ℕ) (i n k : ℕ) : Type 0 where
  pub cv_length : length cv ≡ length cv₀
  pub co_length : length co ≡ length co₀
  pub vc_length : length vc ≡ length vc₀
  pub low : i ≤ length fs
  pub few : n ≤ room
  pub thirds : n % 3 ≡ 0
  pub small : k ≤ i
  pub same : faces nv room (so_far cv co vc n k) (drop i fs) ≡ faces nv room (so_far cv₀ co₀ vc₀ 0 0) fs

pub adding_start : (nv room : ℕ) (fs cv co vc : List ℕ) → Adding nv room fs cv co vc cv co vc 0 0 0
adding_start nv room fs cv co vc =
    record {
      cv_length = refl;
      co_length = refl;
      vc_length = refl;
      low = omega arith;
      few = omega arith;
      thirds = omega arith;
      small = omega arith;
      same = refl;
    }

-- what a face that was not refused leaves of the counts
record Counted (room : ℕ) (s t : SoFar) : Type 0 where
  few : t.nc ≤ room
  thirds : t.nc % 3 ≡ 0
  skips : t.skipped ≤ s.skipped + 1

abbrev OnGo : (SoFar → Type 0) → Course → Type 0
OnGo P (refuse a) = Unit {0}
OnGo P (go t) = P t

face_counted : (nv room : ℕ) (s : SoFar) (a b c : ℕ) → s.nc ≤ room → s.nc % 3 ≡ 0 → OnGo (Counted room s) (face nv room s a b c)
unfolding face grow
face_counted nv room s a b c h m = by (known nv a b c) (repeated a b c) (taken s a b c) (ltb room (s.nc + 3)) refl
  where
    by : (k r t f : Bool) → ltb room (s.nc + 3) ≡ f
        → OnGo (Counted room s) (cond k (cond r (refuse 3) (cond t (go (skip s)) (cond f (refuse 6) (go (grow s a b c))))) (refuse 2))
    by false r t f e = tt
    by true true t f e = tt
    by true false true f e = record { few = h; thirds = m; skips = omega arith }
    by true false false true e = tt
    by true false false false e = record { few = ltb-false room (s.nc + 3) e; thirds = omega arith; skips = omega arith }

module _ (nv room : ℕ) (fs cv₀ co₀ vc₀ cv co vc : List ℕ) (i n k : ℕ) (A : Adding nv room fs cv₀ co₀ vc₀ cv co vc i n k) (h : i + 2 < length fs) where
  pub adding_stop : (a : ℕ) → refuse a ≡ face nv room (so_far cv co vc n k) (get_or fs i 0) (get_or fs (i + 1) 0) (get_or fs (i + 2) 0)
      → refuse a ≡ faces nv room (so_far cv₀ co₀ vc₀ 0 0) fs
  adding_stop a f = faces_stop nv room (so_far cv co vc n k) fs i a f h ∙ A.same

  module _ (cv' co' vc' : List ℕ) (n' k' : ℕ)
      (f : go (so_far cv' co' vc' n' k') ≡ face nv room (so_far cv co vc n k) (get_or fs i 0) (get_or fs (i + 1) 0) (get_or fs (i + 2) 0)) where
    counted : Counted room (so_far cv co vc n k) (so_far cv' co' vc' n' k')
    counted = subst (λ (t : Course). OnGo (Counted room (so_far cv co vc n k)) t) (sym f) (face_counted nv room (so_far cv co vc n k) _ _ _ A.few A.thirds)

    pub adding_on : length cv' ≡ length cv → length co' ≡ length co → length vc' ≡ length vc → Adding nv room fs cv₀ co₀ vc₀ cv' co' vc' (i + 3) n' k'
    adding_on p q r =
        record {
          cv_length = p ∙ A.cv_length;
          co_length = q ∙ A.co_length;
          vc_length = r ∙ A.vc_length;
          low = omega arith;
          few = counted.few;
          thirds = counted.thirds;
          small = omega (arith, A.small, counted.skips);
          same = faces_on nv room (so_far cv co vc n k) fs i (so_far cv' co' vc' n' k') f h ∙ A.same;
        }

pub adding_end : (nv room : ℕ) (fs cv₀ co₀ vc₀ cv co vc : List ℕ) (i n k : ℕ) → Adding nv room fs cv₀ co₀ vc₀ cv co vc i n k
    → length fs - i ≤ 2 → go (so_far cv co vc n k) ≡ faces nv room (so_far cv₀ co₀ vc₀ 0 0) fs
adding_end nv room fs cv₀ co₀ vc₀ cv co vc i n k A h = sym (faces_end nv room (so_far cv co vc n k) fs i h) ∙ A.same

-- ---- triples

pub triple_at : (n k : ℕ) (fs : List ℕ) → k < n → get_or (first_chunks 3 n fs) k [] ≡ take 3 (drop (3 * k) fs)
triple_at zero k fs h = absurd (omega arith)
triple_at (suc n) zero fs h = refl
triple_at (suc n) (suc k) fs h = triple_at n k (drop 3 fs) (omega arith) ∙ ap (take 3) (rw drop-drop (let z : 3 + 3 * k ≡ 3 * suc k = omega arith in rw z))

-- the k-th triple holds the three indices from 3 k on
module _ (nv room : ℕ) (s : SoFar) (fs : List ℕ) (ts : List (List ℕ)) (k : ℕ) (is : ts ≡ first_chunks 3 (length fs / 3) fs) (h : k < length fs / 3) where
  item : (j : ℕ) → j < 3 → get_or (get_or ts k []) j 0 ≡ get_or fs (3 * k + j) 0
  item j l = rw (is, triple_at (length fs / 3) k fs h, get_or-take 3 (drop (3 * k) fs) j 0 l) (get_or-drop (3 * k) fs j 0)

  pub triple_face : (t : Course) → t ≡ face nv room s (get_or (get_or ts k []) 0 0) (get_or (get_or ts k []) 1 0) (get_or (get_or ts k []) 2 0)
      → t ≡ face nv room s (get_or fs (3 * k) 0) (get_or fs (3 * k + 1) 0) (get_or fs (3 * k + 2) 0)
  triple_face t e = rw (item 0 (omega arith), item 1 (omega arith), item 2 (omega arith), zero_more) at e
    where
      zero_more : 3 * k + 0 ≡ 3 * k
      zero_more = omega arith
