-- A short closed ring that is written on the way, and what is put back where it is another. Assumes nothing.
use Prim.Native.Nat.{ℕ, ◌+◌, ◌-◌, ◌/◌, ◌<◌, ◌≤◌}
use Rattle.std.specs.Prelude.{min}
use mathlib.Core.Path.{◌≡◌, refl, sym, ap, ◌∙◌}
use mathlib.Core.List.{List, ◌++◌, map}
use mathlib.Core.Bool.{Bool, true, false, false≢true}
use Rattle.std.specs.Prelude.{Option, Some, None, is_some}
use native.Mathlib.Omega.{arith}
use native.Mathlib.Nat.{zero-add}
use lib.ListN.{length, length-map, set, take, drop, take-append-drop}
use lib.Seq.{sets, drop-set-lt}
use Rattle.corner.specs.Corner.{absent, next, previous, turn}
use Rattle.corner.proofs.Turns.{next_previous, previous_next, previous_previous}
use Rattle.table.specs.Slots.{opposite_at}
use Rattle.traversal_visits.specs.Walk.{face_live, last_crossed, side, walk}
use Rattle.traversal_lists.specs.Lists.{entry}
use Rattle.traversal_lists.specs.Reached.{reached}
use Rattle.traversal_lists.proofs.Reached.{they_fit}
use Rattle.traversal_lists.specs.Outcome.{RingOutcome, walked_on}
use Rattle.traversal_short.specs.Tried.{Short, Tried}
use Rattle.traversal_visits.specs.Walk.{counted}
use Rattle.traversal_visits.proofs.Steps.{face_same, turn_face, over_closed, over_more}
use Rattle.traversal_visits.proofs.Counting.{Counting, counting_start, counting_stop, counting_more}
use Rattle.traversal_lists.proofs.Loops.{Written, written_start, written_stop, written_more, reached_size, sets_front}
use Rattle.traversal_visits.proofs.Counting.{counted_closed, was_closed}
use Rattle.traversal_lists.proofs.Answers.{closed_done}
use Rattle.traversal_lists.specs.declared.Kind.{Kind}
use Rattle.traversal_visits.specs.declared.Corners.{Corners}
use Rattle.traversal_visits.specs.declared.Counted.TheVariants.{Closed}
use Rattle.traversal_visits.specs.declared.End.TheVariants.{AtStart}

-- ---- the first 16 words

module _ (kind : Kind) (on : Corners) (c : ℕ) where
  pub tried_none : (l : List ℕ) → Tried kind on c None l l
  tried_none l = record { none = refl; ring = tt }

  module _ (l now : List ℕ) where
    pub tried_done : (n : ℕ) → Short kind on c (Some n) l now → Tried kind on c (Some n) l now
    tried_done n s = record { none = tt; ring = s.ring }

    -- what was held is put back over what was written
    pub tried_back : (n : Option ℕ) → is_some n ≡ false → Short kind on c n l now → (held last : List ℕ) → held ≡ take 16 l → last ≡ held ++ drop 16 now
        → Tried kind on c n l last
    tried_back None h s held last e p = record { none = p ∙ rw e (ap (λ (x : List ℕ). take 16 l ++ x) s.past ∙ take-append-drop 16 l); ring = tt }
    tried_back (Some n) h s held last e p = absurd (false≢true (sym h))

    -- then the other way answers
    pub tried_else : Tried kind on c None l now → (x : RingOutcome) → x ≡ walked_on kind on c now → x ≡ walked_on kind on c l
    tried_else t x e = e ∙ ap (walked_on kind on c) t.none

-- ---- the walk

module _ (opp mark : List ℕ) (used c₀ last : ℕ) where
  -- where a walk to the left stands with i corners behind it, about to cross to o: at its start, by the crossing that closes a ring there;
  -- or on the way from the slot `via`, not back yet
  pub data Onway (i o : ℕ) : Type 0 where
    at_first : i ≡ 0 → o ≡ last → Onway i o
    later : (via : ℕ) → o ≡ opposite_at opp via → (o ≡ last → ⊥) → face_live mark used c₀ ≡ true
        → Counting (side true opp mark used c₀ (used - 1) c₀) (side true opp mark used c₀ (used - i) (turn false via)) (used - 1) (used - i) → Onway i o

module _ (opp mark : List ℕ) (used c₀ : ℕ) (u : used ≤ absent) (last : ℕ) (is_last : last ≡ last_crossed true c₀) where
  last_face : face_live mark used last ≡ face_live mark used c₀
  unfolding last_crossed
  last_face = face_same mark used c₀ last (ap (λ (c : ℕ). c / 3) is_last ∙ turn_face false c₀)

  last_back : (o : ℕ) → o ≡ last → turn false (turn false o) ≡ c₀
  unfolding last_crossed
  last_back o e = previous_previous o ∙ ap next (e ∙ is_last) ∙ next_previous c₀

  -- o is in a live face: its corner is visited, and what is left of the walk goes on from there
  module _ (i o : ℕ) (k : Onway opp mark used c₀ last i o) (t : Bool) (is : t ≡ face_live mark used o) (on : t ≡ true) (few : i < used)
      (via : ℕ) (at-via : via ≡ turn false o) (o' : ℕ) (at-o : o' ≡ opposite_at opp via) where
    abbrev Gone : Type 0
    Gone = (face_live mark used c₀ ≡ true)
        × Counting (side true opp mark used c₀ (used - 1) c₀) (side true opp mark used c₀ (used - (i + 1)) (turn false via)) (used - 1) (used - (i + 1))

    gone : Onway opp mark used c₀ last i o → Gone
    gone (at_first z e) =
        let all : used - (i + 1) ≡ used - 1 = omega arith in (
          sym last_face ∙ ap (face_live mark used) (sym e) ∙ sym is ∙ on,
          rw (all, at-via, last_back o e) (counting_start _ _ (used - 1) refl),
        )
    gone (later v at ne live c) =
        let one : used - (i + 1) ≡ used - i - 1 = omega arith in
        let some : used - i ≡ 0 → ⊥ = λ z. absurd (omega arith) in (
          live,
          rw one (counting_more _ _ _ _ c _ _ (over_more true opp mark used c₀ v o at t is on u last is_last (used - i) ne some via at-via) some),
        )

    pub onway_more : (o' ≡ last → ⊥) → Onway opp mark used c₀ last (i + 1) o'
    onway_more ne = later via at-o ne (gone k).0 (gone k).1

    pub onway_closed : o' ≡ last → Closed i ≡ counted (walk opp mark used c₀)
    onway_closed e =
        let live : face_live mark used o' ≡ true = ap (face_live mark used) e ∙ last_face ∙ (gone k).0 in
        let found = counting_stop _ _ _ _ (gone k).1 AtStart (over_closed true opp mark used c₀ via o' at-o true (sym live) refl u last is_last _ e) in
        let n : i ≡ used - 1 - (used - (i + 1)) = omega arith in
        counted_closed opp mark used c₀ true (sym (gone k).0) refl i AtStart (n ∙ found.0, found.1) refl

-- ---- the walk and the list

-- the loop knows its first corner by the crossing that closes the ring
home : (last : ℕ) → last ≡ last_crossed true (next last)
unfolding last_crossed
home last = sym (previous_next last)

module _ (kind : Kind) (on : Corners) (last : ℕ) (l₀ : List ℕ) where
  pub record Shortly (l : List ℕ) (i o : ℕ) : Type 0 where
    pub way : Onway on.co.now on.cm.now on.used (next last) last i o
    pub done : Written (entry kind on.cv.now true) true on.co.now l₀ l 0 last i o
    pub past : drop 16 l ≡ drop 16 l₀

  pub short_start : (o : ℕ) → o ≡ last → Shortly l₀ 0 o
  short_start o e = record { way = at_first refl e; done = rw e (written_start (entry kind on.cv.now true) true on.co.now l₀ 0 last); past = refl }

  module _ (l : List ℕ) (i o : ℕ) (k : Shortly l i o) where
    -- a turn of the loop: the face that is crossed to is live, and its entry is written
    module _ (t : Bool) (is : t ≡ face_live on.cm.now on.used o) (yes : t ≡ true) (few : i < min on.used 16)
        (v : ℕ) (at-v : v ≡ entry kind on.cv.now true (turn true o)) (l' : List ℕ) (at-l : l' ≡ set l i v)
        (via : ℕ) (at-via : via ≡ turn false o) (o' : ℕ) (at-o : o' ≡ opposite_at on.co.now via) where
      low : on.used ≤ absent
      low = omega (arith, on.below, on.vertices)

      fewer : i < on.used
      fewer = omega arith

      done' : Written (entry kind on.cv.now true) true on.co.now l₀ l' 0 last (i + 1) o'
      done' = written_more (entry kind on.cv.now true) true on.co.now l₀ 0 last l i o k.done v at-v l' at-l via at-via o' at-o

      past' : drop 16 l' ≡ drop 16 l₀
      past' = ap (drop 16) at-l ∙ drop-set-lt 16 l i v (omega arith) ∙ k.past

      pub short_more : (o' ≡ last → ⊥) → Shortly l' (i + 1) o'
      short_more ne =
          record {
            way = onway_more on.co.now on.cm.now on.used (next last) low last (home last) i o k.way t is yes fewer via at-via o' at-o ne;
            done = done';
            past = past';
          }

      pub short_closed : (c : ℕ) → last ≡ previous c → 16 ≤ length l₀ → o' ≡ last → Short kind on c (Some (i + 1)) l₀ l'
      short_closed c is_c room e =
          let back : next last ≡ c = ap next is_c ∙ next_previous c in
          let closed : Closed i ≡ counted (walk on.co.now on.cm.now on.used c) =
          rw back at (onway_closed on.co.now on.cm.now on.used (next last) low last (home last) i o k.way t is yes fewer via at-via o' at-o e) in
          let es : List ℕ = map (entry kind on.cv.now true) (reached true on.co.now (i + 1) (previous c)) in
          let all : l' ≡ sets l₀ 0 es =
          rw is_c at (written_stop (entry kind on.cv.now true) true on.co.now l₀ 0 last l' (i + 1) o' done' (i + 1) (zero-add (i + 1))) in
          let size : length es ≡ i + 1 =
          length-map (reached true on.co.now (i + 1) (previous c)) (entry kind on.cv.now true) ∙ reached_size true on.co.now (i + 1) (previous c) in
          let front : l' ≡ es ++ drop (i + 1) l₀ =
          all ∙ sets_front l₀ es (omega arith) ∙ ap (λ (n : ℕ). es ++ drop n l₀) size in
          record {
            past = past';
            ring =
                rw front
                (closed_done kind on.cv.now on.co.now on.cm.now on.used c l₀ i (was_closed on.co.now on.cm.now on.used c i closed) (they_fit on) (omega arith) es refl);
          }
