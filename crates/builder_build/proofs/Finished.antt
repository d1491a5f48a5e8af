-- Where the duplicates fit, the table is well-formed: R1 to R6. Assumes nothing.
use mathlib.Core.Path.{◌≡◌, refl, ap, sym, ◌∙◌, subst}
use mathlib.Core.Logic.{◌≢◌, ◌⊎◌, inl, inr}
use mathlib.Core.Bool.{Bool, true, false, cond}
use mathlib.Core.List.{List, [], ◌∷◌, ◌++◌}
use Prim.Native.Nat.{ℕ, zero, suc, ◌+◌, ◌-◌, ◌*◌, ◌≤◌, ◌<◌}
use native.Mathlib.Omega.{arith}
use native.Mathlib.Decide.{ℕ_discrete, dec_lt}
use borrow.Author.Tests.{eq-eqb, ne_eqb}
use lib.Dec.{eqb}
use lib.Ieee.{Float, of_bits}
use lib.Ieee.Scale.{finite}
use lib.ListN.{length, get_or, set, length-set, replicate, length-replicate, length-append}
use lib.Seq.{get_or-set_same, get_or-set_other, set_out}
use Rattle.corner.specs.Corner.{absent, next}
use Rattle.corner.proofs.Turns.{next_below}
use Rattle.table.specs.Slots.{nought, point_at, with_point}
use Rattle.table.specs.Table.{Table, Live, LiveVertex, Shaped, max_vertices}
use Rattle.table.specs.Rules.{WellFormed}
use Rattle.std.proofs.lemmas.Bool.{and_parts}
use Rattle.fan.proofs.Fan.{Left, Conn, Linked, conn_fan}
use Rattle.fan.proofs.Spread.{Settled}
use Rattle.ring.specs.Ring.{ring}
use Rattle.ring.proofs.Exact.{ring_exact}
use Rattle.builder_build.specs.Build.{SoFar, Shared, give, outside, corners, vertices, laid, all_finite, isolated, done, spread}
use Rattle.builder_build.specs.Ready.{Ready}
use Rattle.builder_build.proofs.Grow.{paired_linked}
use Rattle.builder_build.proofs.Settle.{Whole, Exact, Pass, Past, early, late, pass_all}

-- ---- numbers stay finite

abbrev AllFinite : List Float → Type 0
AllFinite l = (i : ℕ) → finite (get_or l i nought) ≡ true

nought_finite : finite nought ≡ true
unfolding nought of_bits
nought_finite = refl

replicate_finite : (n i : ℕ) → finite (get_or (replicate n nought) i nought) ≡ true
replicate_finite zero i = nought_finite
replicate_finite (suc n) zero = nought_finite
replicate_finite (suc n) (suc i) = replicate_finite n i

append_finite : (l : List Float) (n : ℕ) → all_finite l ≡ true → AllFinite (l ++ replicate n nought)
append_finite [] n e i = replicate_finite n i
append_finite (x ∷ xs) n e zero = (and_parts (finite x) (all_finite xs) e).0
append_finite (x ∷ xs) n e (suc i) = append_finite xs n (and_parts (finite x) (all_finite xs) e).1 i

laid_finite : (rv : ℕ) (l : List Float) → all_finite l ≡ true → AllFinite (laid rv l)
unfolding laid
laid_finite rv l e = append_finite l (3 * rv - length l) e

set_finite : (l : List Float) (k : ℕ) (x : Float) → finite x ≡ true → AllFinite l → AllFinite (set l k x)
set_finite l k x f a i = by (ℕ_discrete i k) (dec_lt k (length l))
  where
    by : Dec (i ≡ k) → Dec (k < length l) → finite (get_or (set l k x) i nought) ≡ true
    by (no n) d = rw (get_or-set_other l k i x nought n) (a i)
    by (yes e) (yes d) = rw (e, get_or-set_same l k x nought d) f
    by (yes e) (no d) = rw (set_out l k x (omega arith)) (a i)

copied_finite : (l : List Float) (v u : ℕ) → AllFinite l → AllFinite (with_point l u (point_at l v))
copied_finite l v u a =
    let x : Float = get_or l (3 * v) nought in
    let y : Float = get_or l (3 * v + 1) nought in
    let z : Float = get_or l (3 * v + 2) nought in
    set_finite (set (set l (3 * u) x) (3 * u + 1) y) (3 * u + 2) z (a (3 * v + 2))
    (set_finite (set l (3 * u) x) (3 * u + 1) y (a (3 * v + 1)) (set_finite l (3 * u) x (a (3 * v)) a))

module _ (ring : ℕ → List ℕ) where
  corners_finite : (v k c : ℕ) (s : Shared) → AllFinite s.vp → AllFinite (corners ring v k c s).vp
  unfolding corners give
  corners_finite v zero c s a = a
  corners_finite v (suc k) c s a = corners_finite v k (suc c) (cond (outside ring v c s) (give ring v c s) s) (by (outside ring v c s))
    where
      by : (b : Bool) → AllFinite (cond b (give ring v c s) s).vp
      by true = copied_finite s.vp v s.nv a
      by false = a

  vertices_finite : (n k v : ℕ) (s : Shared) → AllFinite s.vp → AllFinite (vertices ring n k v s).vp
  unfolding vertices
  vertices_finite n zero v s a = a
  vertices_finite n (suc k) v s a = vertices_finite n k (suc v) (cond (eqb (get_or s.vc v absent) absent) s (corners ring v n 0 s)) (by (eqb (get_or s.vc v absent) absent))
    where
      by : (b : Bool) → AllFinite (cond b s (corners ring v n 0 s)).vp
      by true = a
      by false = corners_finite v n 0 s a

  corners_long : (v k c : ℕ) (s : Shared) → length (corners ring v k c s).vp ≡ length s.vp
  unfolding corners give
  corners_long v zero c s = refl
  corners_long v (suc k) c s =
      corners_long v k (suc c) (cond (outside ring v c s) (give ring v c s) s) ∙ by (outside ring v c s)
    where
      by : (b : Bool) → length (cond b (give ring v c s) s).vp ≡ length s.vp
      by true = simp length-set
      by false = refl

  vertices_long : (n k v : ℕ) (s : Shared) → length (vertices ring n k v s).vp ≡ length s.vp
  unfolding vertices
  vertices_long n zero v s = refl
  vertices_long n (suc k) v s =
      vertices_long n k (suc v) (cond (eqb (get_or s.vc v absent) absent) s (corners ring v n 0 s))
      ∙ by (eqb (get_or s.vc v absent) absent)
    where
      by : (b : Bool) → length (cond b s (corners ring v n 0 s)).vp ≡ length s.vp
      by true = refl
      by false = corners_long v n 0 s

laid_long : (rv : ℕ) (l : List Float) → length l ≤ 3 * rv → length (laid rv l) ≡ 3 * rv
unfolding laid
laid_long rv l h = simp (length-append, length-replicate) (omega arith)

-- ---- the marks of vertices

mark_step : List ℕ → ℕ → List ℕ → List ℕ
mark_step vc i m = cond (eqb (get_or vc i absent) absent) (set m i 1) m

mark_step_length : (vc : List ℕ) (i : ℕ) (m : List ℕ) → length (mark_step vc i m) ≡ length m
unfolding mark_step
mark_step_length vc i m = by (eqb (get_or vc i absent) absent)
  where
    by : (b : Bool) → length (cond b (set m i 1) m) ≡ length m
    by true = length-set m i 1
    by false = refl

mark_step_other : (vc : List ℕ) (i : ℕ) (m : List ℕ) (d : ℕ) → d ≢ i → get_or (mark_step vc i m) d 1 ≡ get_or m d 1
unfolding mark_step
mark_step_other vc i m d n = by (eqb (get_or vc i absent) absent)
  where
    by : (b : Bool) → get_or (cond b (set m i 1) m) d 1 ≡ get_or m d 1
    by true = get_or-set_other m i d 1 1 n
    by false = refl

mark_step_same : (vc : List ℕ) (i : ℕ) (m : List ℕ) → i < length m → get_or vc i absent ≡ absent → get_or (mark_step vc i m) i 1 ≡ 1
unfolding mark_step
mark_step_same vc i m h e = rw (eq-eqb _ _ e) (get_or-set_same m i 1 1 h)

mark_step_not : (vc : List ℕ) (i : ℕ) (m : List ℕ) (d : ℕ) → get_or vc d absent ≢ absent → get_or (mark_step vc i m) d 1 ≡ get_or m d 1
unfolding mark_step
mark_step_not vc i m d n = by (ℕ_discrete d i)
  where
    by : Dec (d ≡ i) → get_or (mark_step vc i m) d 1 ≡ get_or m d 1
    by (yes e) = let n' : get_or vc i absent ≢ absent = λ z. n (ap (λ (x : ℕ). get_or vc x absent) e ∙ z) in rw (ne_eqb _ _ n')
    by (no q) = mark_step_other vc i m d q

isolated_length : (vc : List ℕ) (k i : ℕ) (m : List ℕ) → length (isolated vc k i m) ≡ length m
unfolding isolated mark_step
isolated_length vc zero i m = refl
isolated_length vc (suc k) i m = isolated_length vc k (suc i) (mark_step vc i m) ∙ mark_step_length vc i m

-- a vertex with a corner keeps its mark
isolated_not : (vc : List ℕ) (k i : ℕ) (m : List ℕ) (d : ℕ) → get_or vc d absent ≢ absent → get_or (isolated vc k i m) d 1 ≡ get_or m d 1
unfolding isolated mark_step
isolated_not vc zero i m d n = refl
isolated_not vc (suc k) i m d n = isolated_not vc k (suc i) (mark_step vc i m) d n ∙ mark_step_not vc i m d n

isolated_before : (vc : List ℕ) (k i : ℕ) (m : List ℕ) (d : ℕ) → d < i → get_or (isolated vc k i m) d 1 ≡ get_or m d 1
unfolding isolated mark_step
isolated_before vc zero i m d h = refl
isolated_before vc (suc k) i m d h = isolated_before vc k (suc i) (mark_step vc i m) d (omega arith) ∙ mark_step_other vc i m d (omega arith)

-- one without is marked
isolated_marks : (vc : List ℕ) (k i : ℕ) (m : List ℕ) (d : ℕ) → i ≤ d → d < i + k → d < length m → get_or vc d absent ≡ absent → get_or (isolated vc k i m) d 1 ≡ 1
unfolding isolated mark_step
isolated_marks vc zero i m d a b l e = absurd (omega arith)
isolated_marks vc (suc k) i m d a b l e = by (ℕ_discrete d i) (λ n. isolated_marks vc k (suc i) (mark_step vc i m) d (omega arith) (omega arith) (rw (mark_step_length vc i m) l) e)
  where
    by : Dec (d ≡ i) → (d ≢ i → get_or (isolated vc k (suc i) (mark_step vc i m)) d 1 ≡ 1) → get_or (isolated vc k (suc i) (mark_step vc i m)) d 1 ≡ 1
    by (yes z) r = isolated_before vc k (suc i) (mark_step vc i m) d (omega arith)
        ∙ rw z (mark_step_same vc i m (subst (λ (x : ℕ). x < length m) z l) (subst (λ (x : ℕ). get_or vc x absent ≡ absent) z e))
    by (no n) r = r n

get_d_zeros : (n i : ℕ) → i < n → ◌≡◌ {A = ℕ} (get_or (replicate n 0) i 1) 0
get_d_zeros zero i h = absurd (omega arith)
get_d_zeros (suc n) zero h = refl
get_d_zeros (suc n) (suc i) h = get_d_zeros n i (omega arith)

-- ---- the table at the end

module _ (rc rv nv : ℕ) (points : List Float) (k : SoFar) (R : Ready nv rc rv k) (F : all_finite points ≡ true)
    (most : rv ≤ max_vertices) (long : length points ≤ 3 * rv) where
  abbrev opp : ℕ → ℕ
  opp d = get_or k.co d absent

  abbrev n : ℕ
  n = k.nc

  abbrev s₀ : Shared
  s₀ = record { cv = k.cv; vc = k.vc; vp = laid rv points; nv = nv }

  abbrev s : Shared
  s = spread rv nv points k

  L : Linked (λ d. d < n) opp (λ d. get_or k.cv d 0)
  L = paired_linked R.paired

  E : Exact n opp (ring k.co n)
  E = ring_exact k.co n L (λ d h. h)

  first : Pass n rc rv opp (ring k.co n) R.fits E nv 0 s₀
  unfolding Settled
  first =
      record {
        whole = record { cv_length = R.cv_length; vc_length = R.vc_length; linked = L; below = R.below; home = R.home; has = R.has };
        settled = λ u p t d h e. none u p t d h e;
        grown = omega arith;
      }
    where
      none : (u : ℕ) → Past n rc rv opp (ring k.co n) R.fits E nv 0 u → get_or k.vc u absent ≢ absent
          → (d : ℕ) → d < n → get_or k.cv d 0 ≡ u → Conn (Left (λ x. x < n) opp) (get_or k.vc u absent) d
      none u (early h) t d l e = absurd (omega arith)
      none u (late h) t d l e = absurd (omega (arith, R.below d l))

  module _ (fits : s.nv ≤ rv) where
    last : Pass n rc rv opp (ring k.co n) R.fits E nv nv s
    last = pass_all n rc rv opp (ring k.co n) R.fits E nv nv 0 s₀ (omega arith) (λ _. first) fits

    W : Whole n rc rv opp s
    W = last.whole

    abbrev t : Table
    t = (done rc rv k s).result

    abbrev marks : List ℕ
    marks = isolated s.vc s.nv 0 (replicate rv 0)

    live : (c : ℕ) → c < n → Live t c
    live c h = (h, get_d_zeros rc c (omega (arith, R.fits)))

    unmarked : (v : ℕ) → v < s.nv → get_or s.vc v absent ≢ absent → get_or marks v 1 ≡ 0
    unmarked v h e = isolated_not s.vc s.nv 0 (replicate rv 0) v e ∙ get_d_zeros rv v (omega arith)

    marked : (v : ℕ) → v < s.nv → get_or s.vc v absent ≡ absent → get_or marks v 1 ≡ 1
    marked v h e =
        isolated_marks s.vc s.nv 0 (replicate rv 0) v (omega arith) (omega arith)
        (rw (length-replicate {0} {A = ℕ} rv 0) (omega arith)) e

    small_marks : (v : ℕ) → v < s.nv → get_or marks v 1 ≤ 1
    small_marks v h = by (ℕ_discrete (get_or s.vc v absent) absent)
      where
        by : Dec (get_or s.vc v absent ≡ absent) → get_or marks v 1 ≤ 1
        by (yes e) = omega (arith, marked v h e)
        by (no e) = omega (arith, unmarked v h e)

    corner_live_lem : (v : ℕ) → LiveVertex t v → get_or s.vc v absent ≢ absent
    corner_live_lem v h e = absurd (omega (arith, h.1, marked v h.0 e))

    named : (v : ℕ) → LiveVertex t v → (get_or s.vc v absent < n) × (get_or s.cv (get_or s.vc v absent) 0 ≡ v)
    named v h = by (W.home v)
      where
        by : (get_or s.vc v absent ≡ absent) ⊎ ((get_or s.vc v absent < n) × (get_or s.cv (get_or s.vc v absent) 0 ≡ v))
            → (get_or s.vc v absent < n) × (get_or s.cv (get_or s.vc v absent) 0 ≡ v)
        by (inl z) = absurd (corner_live_lem v h z)
        by (inr q) = q

    numbers : AllFinite s.vp
    numbers = vertices_finite (ring k.co n) n nv 0 s₀ (laid_finite rv points F)

    past : (u : ℕ) → Past n rc rv opp (ring k.co n) R.fits E nv nv u
    past u = by (dec_lt u nv)
      where
        by : Dec (u < nv) → Past n rc rv opp (ring k.co n) R.fits E nv nv u
        by (yes h) = early h
        by (no h) = late (omega arith)

    pub done_formed : WellFormed t
    unfolding Settled
    done_formed =
        record {
          corners_fit = rw (length-replicate {0} {A = ℕ} rc 0) R.fits;
          vertices_fit = rw (isolated_length s.vc s.nv 0 (replicate rv 0), length-replicate {0} {A = ℕ} rv 0) fits;
          thirds = R.paired.thirds;
          corner_marks = λ c h. omega (arith, (live c h).1);
          face_marks = λ c h. (live (next c) (next_below c n R.paired.thirds h)).1 ∙ sym (live c h).1;
          vertex_marks = small_marks;
          vertex_live = λ c h. (W.below c h.0, unmarked (get_or s.cv c 0) (W.below c h.0) (W.has c h.0));
          differ = λ c h. W.linked.differ c h.0;
          mate =
              λ c h q. record {
                over = live (opp c) (W.linked.over c h.0 q);
                pair = W.linked.pair c h.0 q;
                tail = W.linked.tail c h.0 q;
                head = W.linked.head c h.0 q;
              };
          corner_live = λ v h. live (get_or s.vc v absent) (named v h).0;
          corner_own = λ v h. (named v h).1;
          one_fan =
              λ c h. conn_fan W.linked (last.settled (get_or s.cv c 0) (past (get_or s.cv c 0)) (W.has c h.0) c h.0 refl);
          finite = λ v h. rw (numbers (3 * v), numbers (3 * v + 1), numbers (3 * v + 2));
        }

    pub done_shaped : Shaped t
    done_shaped =
        record {
          corner_most = rw (length-replicate {0} {A = ℕ} rc 0) R.most;
          vertex_most = rw (isolated_length s.vc s.nv 0 (replicate rv 0), length-replicate {0} {A = ℕ} rv 0) most;
          corner_vertex_room = W.cv_length ∙ sym (length-replicate {0} {A = ℕ} rc 0);
          corner_opposite_room = R.co_length ∙ sym (length-replicate {0} {A = ℕ} rc 0);
          vertex_corner_room =
              W.vc_length ∙ sym (isolated_length s.vc s.nv 0 (replicate rv 0) ∙ length-replicate {0} {A = ℕ} rv 0);
          vertex_point_room =
              vertices_long (ring k.co n) n nv 0 s₀ ∙ laid_long rv points long
              ∙ ap (λ (x : ℕ). 3 * x) (sym (isolated_length s.vc s.nv 0 (replicate rv 0) ∙ length-replicate {0} {A = ℕ} rv 0));
        }
