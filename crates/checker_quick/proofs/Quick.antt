-- The quick pass: what its answers say of the tests of R1 to R4. Assumes nothing.
use Prim.Native.Nat.{ℕ, zero, suc, ◌+◌, ◌%◌, ◌≤◌, ◌<◌}
use mathlib.Core.Path.{◌≡◌, refl, sym, subst, ◌∙◌}
use mathlib.Core.List.{List}
use mathlib.Core.Bool.{Bool, true, false, ◌&&◌, not}
use native.Mathlib.Omega.{arith}
use native.Mathlib.Decide.{ℕ_discrete}
use borrow.Author.Tests.{eq-eqb, eqb-true, le-leb, leb-true}
use lib.Dec.{leb, eqb}
use lib.ListN.{length}
use Rattle.std.specs.List.{list_all, range_with_len}
use Rattle.std.proofs.lemmas.Bool.{and_from, and_parts}
use Rattle.table.proofs.Words.{implies_intro, eqb_not}
use Rattle.corner.specs.Corner.{absent, next, previous}
use Rattle.corner.proofs.Turns.{next_first, next_second, next_last, previous_first, previous_second, previous_last}
use Rattle.table.specs.Slots.{vertex_at, opposite_at, mark_at}
use Rattle.table.specs.Table.{Table, corner_room, vertex_room, vertex, live}
use Rattle.table.proofs.Lives.{live_true, live_from, not_live}
use Rattle.checker_kinds.specs.Kinds.{test_at, span}
use Rattle.checker_rules.specs.Tests.{counts_test, mark_test, face_test, vertex_test, differ_test, back_test, mates_test, opposite_test, holds, AllHold}
use Rattle.checker_quick.specs.Fits.{There, CornerFits, Fits}

-- ---- one corner

module _ (co cm : List ℕ) (nc c o : ℕ) where
  pub paired_by : (m own : ℕ) (r : Bool) → o < nc → own ≡ opposite_at co o → m ≡ mark_at cm o → r ≡ (eqb m 0 && eqb own c)
      → r ≡ (live cm nc o && eqb (opposite_at co o) c)
  paired_by m own r l e f h = rw (← (live_from cm nc o (eqb (mark_at cm o) 0) refl l), ← e, ← f) h

  pub paired_below : (p : Bool) → p ≡ (live cm nc o && eqb (opposite_at co o) c) → p ≡ true → o < nc
  paired_below p e h = (live_true cm nc o (and_parts (live cm nc o) (eqb (opposite_at co o) c) (sym e ∙ h)).0).0

pub paired_not : (cm : List ℕ) (nc o : ℕ) (own : Bool) → nc ≤ o → false ≡ (live cm nc o && own)
paired_not cm nc o own l = rw (← (not_live cm nc o l))

module _ (cv co cm : List ℕ) (nc c o : ℕ) (is : o ≡ opposite_at co c) where
  pub edge_none : o ≡ absent → opposite_test cv co cm nc c ≡ true
  unfolding opposite_test
  edge_none e =
      implies_intro (live cm nc c) _ (λ l. implies_intro (not (eqb (opposite_at co c) absent)) _ (λ n. absurd (eqb_not _ _ n (sym is ∙ e))))

  pub edge_pair : (ahead behind : ℕ) (p r : Bool) → p ≡ (live cm nc o && eqb (opposite_at co o) c) → p ≡ true
      → r ≡ (eqb (vertex_at cv (next o)) behind && eqb (vertex_at cv (previous o)) ahead) → ahead ≡ vertex_at cv (next c)
      → behind ≡ vertex_at cv (previous c) → r ≡ true → opposite_test cv co cm nc c ≡ true
  unfolding opposite_test mates_test back_test
  edge_pair ahead behind p r ip tp ir a b tr =
      let l = live cm nc o in
      let m = eqb (opposite_at co o) c in
      let d = eqb (vertex_at cv (next o)) behind in
      let f = eqb (vertex_at cv (previous o)) ahead in
      let x : l && m ≡ true = sym ip ∙ tp in
      let y : d && f ≡ true = sym ir ∙ tr in
      implies_intro (live cm nc c) _
      (λ w.
      implies_intro (not (eqb (opposite_at co c) absent)) _
      (λ n. rw (← is, ← a, ← b) (and_from _ _ (and_parts l m x).0 (and_from _ _ (and_parts l m x).1 (and_from _ _ (and_parts d f y).0 (and_parts d f y).1)))))

module _ (cv cm : List ℕ) (nc c own : ℕ) (is : own ≡ vertex_at cv c) where
  pub vertex_fits : (vm : List ℕ) (nv : ℕ) (b : Bool) → b ≡ live vm nv own → b ≡ true → vertex_test cv cm vm nv nc c ≡ true
  unfolding vertex_test
  vertex_fits vm nv b e h = implies_intro (live cm nc c) _ (λ w. rw (← is) (sym e ∙ h))

  pub differ_fits : (ahead : ℕ) (b : Bool) → b ≡ true → b ≡ not (eqb own ahead) → ahead ≡ vertex_at cv (next c) → differ_test cv cm nc c ≡ true
  unfolding differ_test
  differ_fits ahead b h n e = implies_intro (live cm nc c) _ (λ w. rw (← is, ← e) (sym n ∙ h))

-- ---- one face, from its first corner

on_face : (P : ℕ → Type 0) (f i : ℕ) → f ≤ i → i < f + 3 → P f → P (f + 1) → P (f + 2) → P i
on_face P f i l h p q r = go (ℕ_discrete i f) (ℕ_discrete i (f + 1))
  where
    go : Dec (i ≡ f) → Dec (i ≡ f + 1) → P i
    go (yes e) d = subst P (sym e) p
    go (no n) (yes e) = subst P (sym e) q
    go (no n) (no m) = let e : i ≡ f + 2 = omega arith in subst P (sym e) r

module _ (f : ℕ) (m : f % 3 ≡ 0) where
  next1 : next (f + 1) ≡ f + 2
  next1 = omega (arith, next_second (f + 1) (omega arith))

  next2 : next (f + 2) ≡ f
  next2 = omega (arith, next_last (f + 2) (omega arith))

  previous1 : previous (f + 1) ≡ f
  previous1 = omega (arith, previous_second (f + 1) (omega arith))

  previous2 : previous (f + 2) ≡ f + 1
  previous2 = omega (arith, previous_last (f + 2) (omega arith))

-- what is known of a corner once its own vertex and those ahead and behind are
abbrev Given : (t : Table) (i own ahead behind : ℕ) → Type 0
Given t i own ahead behind = own ≡ vertex t i → ahead ≡ vertex t (next i) → behind ≡ vertex t (previous i) → CornerFits t i

pub sides : (t : Table) (f a b c : ℕ) → f % 3 ≡ 0 → a ≡ vertex t f → b ≡ vertex t (f + 1) → c ≡ vertex t (f + 2)
    → Given t f a b c → Given t (f + 1) b c a → Given t (f + 2) c a b
    → (i : ℕ) → f ≤ i → i < f + 3 → CornerFits t i
sides t f a b c m ia ib ic p q r i l h =
    on_face (CornerFits t) f i l h (p ia (rw (next_first f m) ib) (rw (previous_first f m) ic))
    (q ib (rw (next1 f m) ic) (rw (previous1 f m) ia))
    (r ic (rw (next2 f m) ia) (rw (previous2 f m) ib))

module _ (t : Table) (f : ℕ) (m : f % 3 ≡ 0) (mark : ℕ) (is : mark ≡ mark_at t.corner_mark f) (g : Bool)
    (ig : g ≡ (eqb (mark_at t.corner_mark (f + 1)) mark && eqb (mark_at t.corner_mark (f + 2)) mark)) (tg : g ≡ true) (i : ℕ) (l : f ≤ i) (h : i < f + 3) where
  mark1 : mark_at t.corner_mark (f + 1) ≡ mark
  mark1 = eqb-true _ _ (and_parts (eqb (mark_at t.corner_mark (f + 1)) mark) (eqb (mark_at t.corner_mark (f + 2)) mark) (sym ig ∙ tg)).0

  mark2 : mark_at t.corner_mark (f + 2) ≡ mark
  mark2 = eqb-true _ _ (and_parts (eqb (mark_at t.corner_mark (f + 1)) mark) (eqb (mark_at t.corner_mark (f + 2)) mark) (sym ig ∙ tg)).1

  own_mark : mark_at t.corner_mark i ≡ mark
  own_mark = on_face (λ (x : ℕ). mark_at t.corner_mark x ≡ mark) f i l h (sym is) mark1 mark2

  next_mark : mark_at t.corner_mark (next i) ≡ mark
  next_mark =
      on_face (λ (x : ℕ). mark_at t.corner_mark (next x) ≡ mark) f i l h (rw (next_first f m) mark1) (rw (next1 f m) mark2) (rw (next2 f m) (sym is))

  mark_passes : mark ≤ 1 → mark_test t.corner_mark i ≡ true
  unfolding mark_test
  mark_passes s = le-leb (mark_at t.corner_mark i) 1 (rw own_mark s)

  face_passes : face_test t.corner_mark i ≡ true
  unfolding face_test
  face_passes = eq-eqb _ _ (next_mark ∙ sym own_mark)

  pub face_live_lem : mark ≡ 0 → CornerFits t i → Fits t i
  face_live_lem e k = record { mark = mark_passes (omega arith); face = face_passes; corner = k }

  gone : mark ≡ 1 → live t.corner_mark t.corners i ≡ true → ⊥
  gone e w = let z : ◌≡◌ {A = ℕ} 0 1 = sym (live_true t.corner_mark t.corners i w).1 ∙ own_mark ∙ e in omega arith

  pub face_gone : mark ≡ 1 → Fits t i
  unfolding vertex_test differ_test opposite_test
  face_gone e = record {
    mark = mark_passes (omega arith);
    face = face_passes;
    corner = record {
      vertex = implies_intro (live t.corner_mark t.corners i) _ (λ w. absurd (gone e w));
      differ = implies_intro (live t.corner_mark t.corners i) _ (λ w. absurd (gone e w));
      opposite = implies_intro (live t.corner_mark t.corners i) _ (λ w. absurd (gone e w));
    };
  }

-- ---- all slots, and the tests that are settled by that

-- what all of a range pass
module _ (test : ℕ → Bool) where
  pub all_from : (a n : ℕ) → list_all test (range_with_len a n) ≡ true → (i : ℕ) → a ≤ i → i < a + n → test i ≡ true
  all_from a zero e i l h = absurd (omega arith)
  all_from a (suc n) e i l h = go (ℕ_discrete i a) (λ m. all_from (a + 1) n (and_parts (test a) _ e).1 i m (omega arith))
    where
      go : Dec (i ≡ a) → (a + 1 ≤ i → test i ≡ true) → test i ≡ true
      go (yes k) ih = rw k (and_parts (test a) _ e).0
      go (no k) ih = ih (omega arith)

  pub all_below : (n : ℕ) → list_all test (range_with_len 0 n) ≡ true → (i : ℕ) → i < n → test i ≡ true
  all_below n e i h = all_from 0 n e i (omega arith) (omega arith)

pub all_there : (t : Table) → t.corners ≤ length t.corner_vertex → t.corners ≤ length t.corner_opposite
    → t.corners ≤ absent → counts_test (corner_room t) (vertex_room t) t.vertices t.corners ≡ true → There t
unfolding counts_test
all_there t v o n e =
    let a = leb t.corners (corner_room t) in
    let b = leb t.vertices (vertex_room t) in
    let d = eqb (t.corners % 3) 0 in
    record {
      vertices = v;
      opposites = o;
      marks = leb-true _ _ (and_parts a (b && d) e).0;
      thirds = eqb-true _ _ (and_parts b d (and_parts a (b && d) e).1).1;
      counted = n;
    }

module _ (t : Table) (counts : counts_test (corner_room t) (vertex_room t) t.vertices t.corners ≡ true)
    (marks : (i : ℕ) → i < t.vertices → mark_test t.vertex_mark i ≡ true) (faces : (i : ℕ) → i < t.corners → Fits t i) where
  pub settles : (k : ℕ) → k < 7 → AllHold (test_at k) t
  unfolding test_at span holds
  settles zero l i h = counts
  settles (suc zero) l i h = (faces i h).mark
  settles (suc (suc zero)) l i h = (faces i h).face
  settles (suc (suc (suc zero))) l i h = marks i h
  settles (suc (suc (suc (suc zero)))) l i h = (faces i h).corner.vertex
  settles (suc (suc (suc (suc (suc zero))))) l i h = (faces i h).corner.differ
  settles (suc (suc (suc (suc (suc (suc zero)))))) l i h = (faces i h).corner.opposite
  settles (suc (suc (suc (suc (suc (suc (suc k))))))) l i h = absurd (omega arith)
