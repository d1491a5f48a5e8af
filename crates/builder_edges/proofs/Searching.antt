-- Laws of the pass over the kept faces. Assumes nothing.
use mathlib.Core.Path.{◌≡◌, refl, ap, sym, ◌∙◌}
use mathlib.Core.Bool.{Bool, true, false, cond, ◌&&◌, ◌||◌}
use mathlib.Core.List.{List}
use Prim.Native.Nat.{ℕ, suc, ◌+◌, ◌-◌, ◌≤◌, ◌<◌, ◌%◌}
use native.Mathlib.Omega.{arith}
use native.Mathlib.Nat.{sub-zero}
use borrow.Author.Tests.{ne_eqb}
use lib.Dec.{eqb}
use Rattle.std.proofs.Common.{Option, Some, None}
use Rattle.std.specs.Option.{is_none}
use Rattle.corner.specs.Corner.{absent, next, previous}
use Rattle.corner.specs.declared.Corner.{Corner}
use Rattle.corner.proofs.Turns.{next_first, next_second, next_last, previous_first, previous_second, previous_last}
use Rattle.table.specs.Slots.{vertex_at}
use Rattle.builder_build.specs.Build.{edge_at, find_edge}
use Rattle.std.proofs.lemmas.Bool.{or_parts}
use Rattle.builder_edges.specs.declared.Found.{Found}
use Rattle.builder_edges.specs.Search.{the_corner, met, sought, noted, look_of, face_look, among_of, touched}

-- ---- a corner, and a face

-- a tail that is none of the three changes nothing
untouched : (f : Found) (k tail head a b c : ℕ) → among_of tail a b c ≡ false → f ≡ look_of f k tail head a b c
unfolding look_of noted
untouched f k tail head a b c e =
    let p = or_parts (eqb tail a) (eqb tail b || eqb tail c) e in
    let q = or_parts (eqb tail b) (eqb tail c) p.1 in
    rw (p.0, q.0, q.1)

module _ (cv : List ℕ) (i a b c x y z : ℕ) (f : Found) (ix : x ≡ vertex_at cv i) (iy : y ≡ vertex_at cv (i + 1)) (iz : z ≡ vertex_at cv (i + 2)) where
  pub face_looked : (g h r : Found) → g ≡ look_of f i y z a b c → h ≡ look_of g (i + 1) z x a b c → r ≡ look_of h (i + 2) x y a b c
      → r ≡ face_look cv i a b c f
  unfolding face_look
  face_looked g h r p q s =
      s ∙ ap (λ (u : Found). look_of u (i + 2) x y a b c) (q ∙ ap (λ (u : Found). look_of u (i + 1) z x a b c) p) ∙ rw (ix, iy, iz)

  -- a face with none of the three vertices changes nothing
  pub face_untouched : touched x y z a b c ≡ false → f ≡ face_look cv i a b c f
  face_untouched e =
      let p = or_parts (among_of x a b c) (among_of y a b c || among_of z a b c) e in
      let q = or_parts (among_of y a b c) (among_of z a b c) p.1 in
      face_looked f f f (untouched f i y z a b c q.0) (untouched f (i + 1) z x a b c q.1) (untouched f (i + 2) x y a b c p.0)

-- ---- the pass

-- what is there already, else what the rest of the search finds
abbrev or_else : Option Corner → ℕ → Option Corner
or_else None r = met r
or_else (Some c) r = Some c

module _ (cv : List ℕ) (x y : ℕ) where
  -- one corner of the pass is one step of the search
  one : (o : Option Corner) (k m tail head : ℕ) → k < absent → tail ≡ vertex_at cv (next k) → head ≡ vertex_at cv (previous k)
      → or_else (noted o k tail head x y) (find_edge cv x y m (suc k)) ≡ or_else o (find_edge cv x y (suc m) k)
  unfolding noted find_edge edge_at met
  one o k m tail head h t u = rw (t, u) (by (eqb (vertex_at cv (next k)) x) (eqb (vertex_at cv (previous k)) y) o)
    where
      by : (p q : Bool) (o : Option Corner)
          → or_else (cond (p && (q && is_none o)) (Some (the_corner k)) o) (find_edge cv x y m (suc k))
          ≡ or_else o (cond (p && q) k (find_edge cv x y m (suc k)))
      by true true None = rw (ne_eqb k absent (omega arith))
      by true true (Some c) = refl
      by true false None = refl
      by true false (Some c) = refl
      by false q None = refl
      by false q (Some c) = refl

  -- three corners are one face
  module _ (n i : ℕ) (o : Option Corner) (h : i < n) (thirds : i % 3 ≡ 0) (whole : n % 3 ≡ 0) (small : n < 4294967293) where
    abbrev X : ℕ
    X = vertex_at cv i

    abbrev Y : ℕ
    Y = vertex_at cv (i + 1)

    abbrev Z : ℕ
    Z = vertex_at cv (i + 2)

    pub face_step : or_else (noted (noted (noted o i Y Z x y) (i + 1) Z X x y) (i + 2) X Y x y) (find_edge cv x y (n - (i + 3)) (i + 3))
        ≡ or_else o (find_edge cv x y (n - i) i)
    face_step =
        let m : ℕ = n - (i + 3) in
        let e3 : suc (i + 2) ≡ i + 3 = omega arith in
        let e2 : suc (i + 1) ≡ i + 2 = omega arith in
        let e1 : suc i ≡ i + 1 = omega arith in
        let e : suc (suc (suc m)) ≡ n - i = omega arith in
        let a = one (noted (noted o i Y Z x y) (i + 1) Z X x y) (i + 2) m X Y (omega arith)
        (ap (vertex_at cv) (sym (omega (arith, next_last (i + 2) (omega arith))))) (ap (vertex_at cv) (sym (omega (arith, previous_last (i + 2) (omega arith))))) in
        let b = one (noted o i Y Z x y) (i + 1) (suc m) Z X (omega arith)
        (ap (vertex_at cv) (sym (omega (arith, next_second (i + 1) (omega arith))))) (ap (vertex_at cv) (sym (omega (arith, previous_second (i + 1) (omega arith))))) in
        let d = one o i (suc (suc m)) Y Z (omega arith)
        (ap (vertex_at cv) (sym (next_first i thirds))) (ap (vertex_at cv) (sym (previous_first i thirds))) in
        (rw e3 at a) ∙ (rw e2 at b) ∙ (rw (e1, e) at d)

-- the pass has seen the corners below i
pub record Seeking (cv : List ℕ) (n a b c i : ℕ) (f : Found) : Type 0 where
  pub low : i ≤ n
  pub thirds : i % 3 ≡ 0
  pub bc : or_else f.bc (find_edge cv b c (n - i) i) ≡ met (find_edge cv b c n 0)
  pub ca : or_else f.ca (find_edge cv c a (n - i) i) ≡ met (find_edge cv c a n 0)
  pub ab : or_else f.ab (find_edge cv a b (n - i) i) ≡ met (find_edge cv a b n 0)
  pub cb : or_else f.cb (find_edge cv c b (n - i) i) ≡ met (find_edge cv c b n 0)
  pub ac : or_else f.ac (find_edge cv a c (n - i) i) ≡ met (find_edge cv a c n 0)
  pub ba : or_else f.ba (find_edge cv b a (n - i) i) ≡ met (find_edge cv b a n 0)

abbrev pub nothing : Found
nothing = record { bc = None; ca = None; ab = None; cb = None; ac = None; ba = None }

module _ (cv : List ℕ) (n a b c : ℕ) (whole : n % 3 ≡ 0) (small : n < 4294967293) where
  pub seeking_start : Seeking cv n a b c 0 nothing
  seeking_start =
      record {
        low = omega arith;
        thirds = omega arith;
        bc = rw sub-zero;
        ca = rw sub-zero;
        ab = rw sub-zero;
        cb = rw sub-zero;
        ac = rw sub-zero;
        ba = rw sub-zero;
      }

  module _ (i : ℕ) (f : Found) (S : Seeking cv n a b c i f) where
    pub seeking_on : i < n → (g : Found) → g ≡ face_look cv i a b c f → Seeking cv n a b c (i + 3) g
    unfolding face_look look_of
    seeking_on h g e =
        rw e
        (record {
          low = omega (arith, S.thirds, whole);
          thirds = omega (arith, S.thirds);
          bc = face_step cv b c n i f.bc h S.thirds whole small ∙ S.bc;
          ca = face_step cv c a n i f.ca h S.thirds whole small ∙ S.ca;
          ab = face_step cv a b n i f.ab h S.thirds whole small ∙ S.ab;
          cb = face_step cv c b n i f.cb h S.thirds whole small ∙ S.cb;
          ac = face_step cv a c n i f.ac h S.thirds whole small ∙ S.ac;
          ba = face_step cv b a n i f.ba h S.thirds whole small ∙ S.ba;
        })

    last : (x y : ℕ) (o : Option Corner) → n ≤ i → or_else o (find_edge cv x y (n - i) i) ≡ met (find_edge cv x y n 0) → o ≡ met (find_edge cv x y n 0)
    unfolding find_edge met
    last x y o h e = let z : n - i ≡ 0 = omega arith in by o (rw z at e)
      where
        by : (o : Option Corner) → or_else o absent ≡ met (find_edge cv x y n 0) → o ≡ met (find_edge cv x y n 0)
        by None p = p
        by (Some c) p = p

    pub seeking_end : n ≤ i → f ≡ sought cv n a b c
    unfolding sought
    seeking_end h =
        rw (
          ← (last b c f.bc h S.bc),
          ← (last c a f.ca h S.ca),
          ← (last a b f.ab h S.ab),
          ← (last c b f.cb h S.cb),
          ← (last a c f.ac h S.ac),
          ← (last b a f.ba h S.ba),
        )
