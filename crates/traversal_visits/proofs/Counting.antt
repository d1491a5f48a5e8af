-- What a loop that counts one side of a walk keeps: it has done a part of `whole`, and `here` is what is left; and the whole walk by what its
-- two sides were found to be. Assumes nothing.
use Prim.Native.Nat.{ℕ, ◌+◌, ◌-◌, ◌<◌, ◌≤◌}
use mathlib.Core.Path.{◌≡◌, refl, sym, ap, ◌∙◌}
use mathlib.Core.List.{List, ◌∷◌}
use mathlib.Core.Bool.{Bool, true, false, not}
use native.Mathlib.Omega.{arith}
use lib.ListN.{length, length-append}
use Rattle.corner.specs.Corner.{turn}
use Rattle.traversal_visits.specs.Walk.{Side, stop, more, face_live, side, tangled, closed, open', left_of, right_of, after_left, after_right, walk, visits, counted}
use Rattle.traversal_visits.proofs.Steps.{side_bound, face_used}
use Rattle.traversal_visits.specs.declared.Counted.TheVariants.{Tangled, Closed, Open}
use Rattle.traversal_visits.specs.declared.End.{End}
use Rattle.traversal_visits.specs.declared.End.TheVariants.{AtBorder, AtTangle, AtStart}

-- counting, with `rest` of `room` visits left
pub record Counting (whole here : Side) (room rest : ℕ) : Type 0 where
  pub le : rest ≤ room
  pub count : length whole.visits ≡ (room - rest) + length here.visits
  pub ends : whole.end ≡ here.end

pub counting_start : (s h : Side) (room : ℕ) → h ≡ s → Counting s h room room
counting_start s h room e =
    let l : length s.visits ≡ length h.visits = sym (ap (λ (x : Side). length x.visits) e) in
    record { le = omega arith; count = omega arith; ends = sym (ap (λ (x : Side). x.end) e) }

module _ (whole here : Side) (room rest : ℕ) (k : Counting whole here room rest) where
  pub counting_stop : (e : End) → here ≡ stop e → (room - rest ≡ length whole.visits) × (e ≡ whole.end)
  counting_stop e h =
      let l : length here.visits ≡ 0 = ap (λ (s : Side). length s.visits) h in
      (omega (arith, k.count), sym (k.ends ∙ ap (λ (s : Side). s.end) h))

  pub counting_out : (e : End) → here ≡ stop e → rest ≡ 0 → (room ≡ length whole.visits) × (e ≡ whole.end)
  counting_out e h z = (omega (arith, (counting_stop e h).0), (counting_stop e h).1)

  pub counting_more : (there : Side) (d : ℕ) → here ≡ more d there → (rest ≡ 0 → ⊥) → Counting whole there room (rest - 1)
  counting_more there d h p =
      let l : length here.visits ≡ length there.visits + 1 = ap (λ (s : Side). length s.visits) h ∙ omega arith in
      record { le = omega (arith, k.le); count = omega (arith, k.count, k.le); ends = k.ends ∙ ap (λ (s : Side). s.end) h }

-- what is left of a side of a walk that crosses from the slot `via` next
abbrev pub from_slot : Bool → List ℕ → List ℕ → (used c₀ via room : ℕ) → Side
from_slot left opp mark used c₀ via room = side left opp mark used c₀ room (turn (not left) via)

-- the same before the crossing that would make visit n + 1, where at most room + 1 crossings are looked at; or all have been made, and the
-- side would visit one corner more than it has room for
pub record Crossing (whole : Side) (here : ℕ → Side) (most n : ℕ) : Type 0 where
  pub on : n < most → Counting whole (here (most - 1 - n)) (most - 1) (most - 1 - n)
  pub out : n ≡ most → (most - 1 ≡ length whole.visits) × (AtTangle ≡ whole.end)

pub crossing_start : (whole : Side) (here : ℕ → Side) (most : ℕ) → 0 < most → here (most - 1) ≡ whole → Crossing whole here most 0
crossing_start whole here most h e =
    let all : most - 1 - 0 ≡ most - 1 = omega arith in
    record { on = λ l. rw all (counting_start whole _ (most - 1) e); out = λ z. absurd (omega arith) }

module _ (whole : Side) (here : ℕ → Side) (most n : ℕ) (k : Crossing whole here most n) (h : n < most) where
  pub crossing_stop : (e : End) → here (most - 1 - n) ≡ stop e → (n ≡ length whole.visits) × (e ≡ whole.end)
  crossing_stop e s =
      let found = counting_stop whole _ _ _ (k.on h) e s in
      let all : most - 1 - (most - 1 - n) ≡ n = omega arith in
      (rw all at found.0, found.1)

  pub crossing_more : (there : ℕ → Side) (d : ℕ) → ((room : ℕ) → (room ≡ 0 → ⊥) → here room ≡ more d (there (room - 1)))
      → ((room : ℕ) → room ≡ 0 → here room ≡ stop AtTangle) → Crossing whole there most (n + 1)
  crossing_more there d goes ends =
      let less : most - 1 - (n + 1) ≡ most - 1 - n - 1 = omega arith in
      record {
        on = λ l.
            let some : most - 1 - n ≡ 0 → ⊥ = λ z. absurd (omega arith) in
            rw less (counting_more whole _ _ _ (k.on h) (there (most - 1 - n - 1)) d (goes (most - 1 - n) some) some);
        out = λ l. counting_out whole _ _ _ (k.on h) AtTangle (ends (most - 1 - n) (omega arith)) (omega arith);
      }

no_way : {A : Type 0} → ◌≡◌ {A = ℕ} 0 1 → A
no_way z = absurd (omega arith)

-- ---- the walk, by its sides

no_border : (c : ℕ) (l : List ℕ) (r : Side) (f : End) → (f ≡ AtBorder → ⊥) → Tangled ≡ counted (after_right c l r f)
unfolding after_right
no_border c l r AtBorder k = absurd (k refl)
no_border c l r AtTangle k = refl
no_border c l r AtStart k = refl

module _ (opp mark : List ℕ) (used c : ℕ) where
  pub counted_dead : (t : Bool) → t ≡ face_live mark used c → t ≡ false → Tangled ≡ counted (walk opp mark used c)
  unfolding walk
  counted_dead t is off = rw (← is, off)

  module _ (t : Bool) (is : t ≡ face_live mark used c) (on : t ≡ true) (n : ℕ) (e : End)
      (found : (n ≡ length (side true opp mark used c (used - 1) c).visits) × (e ≡ (side true opp mark used c (used - 1) c).end)) where
    pub counted_tangle : e ≡ AtTangle → Tangled ≡ counted (walk opp mark used c)
    unfolding walk left_of right_of after_left
    counted_tangle h = rw (← is, on, ← found.1, h)

    pub counted_closed : e ≡ AtStart → Closed n ≡ counted (walk opp mark used c)
    unfolding walk left_of right_of after_left
    counted_closed h = rw (← is, on, ← found.1, h) (ap Closed found.0)

    module _ (h : e ≡ AtBorder) (m : ℕ) (f : End)
        (found' : (m ≡ length (side false opp mark used c (used - 1 - n) c).visits) × (f ≡ (side false opp mark used c (used - 1 - n) c).end)) where
      pub counted_other : (f ≡ AtBorder → ⊥) → Tangled ≡ counted (walk opp mark used c)
      unfolding walk left_of right_of after_left
      counted_other k = rw (← is, on, ← found.1, h, ← found.0, ← found'.1) (no_border c _ _ f k)

      pub counted_open : f ≡ AtBorder → Open n m ≡ counted (walk opp mark used c)
      unfolding walk left_of right_of after_left after_right
      counted_open k = rw (← is, on, ← found.1, h, ← found.0, ← found'.1, k, ← found.0, ← found'.0)

  pub left_bound : length (left_of opp mark used c).visits ≤ used - 1
  unfolding left_of
  left_bound = side_bound true opp mark used c (used - 1) c

  pub right_bound : length (right_of opp mark used c).visits ≤ used - 1 - length (left_of opp mark used c).visits
  unfolding right_of
  right_bound = side_bound false opp mark used c (used - 1 - length (left_of opp mark used c).visits) c

  -- which of three a walk is
  pub data View : Type 0 where
    v_tangled : walk opp mark used c ≡ tangled → View
    v_closed : face_live mark used c ≡ true → walk opp mark used c ≡ closed c (left_of opp mark used c).visits → View
    v_open : face_live mark used c ≡ true → walk opp mark used c ≡ open' c (left_of opp mark used c).visits (right_of opp mark used c).visits → View

  view_right : face_live mark used c ≡ true → (left_of opp mark used c).end ≡ AtBorder → (f : End) → (right_of opp mark used c).end ≡ f → View
  unfolding walk after_left after_right
  view_right l e AtBorder h = v_open l (rw (l, e, h))
  view_right l e AtTangle h = v_tangled (rw (l, e, h))
  view_right l e AtStart h = v_tangled (rw (l, e, h))

  view_left : face_live mark used c ≡ true → (e : End) → (left_of opp mark used c).end ≡ e → View
  unfolding walk after_left
  view_left l AtBorder h = view_right l h (right_of opp mark used c).end refl
  view_left l AtTangle h = v_tangled (rw (l, h))
  view_left l AtStart h = v_closed l (rw (l, h))

  view_live : (b : Bool) → face_live mark used c ≡ b → View
  unfolding walk
  view_live true h = view_left h (left_of opp mark used c).end refl
  view_live false h = v_tangled (rw h)

  pub view : View
  view = view_live (face_live mark used c) refl

  -- "limited by the table's corner count": a walk visits no more corners than are used, on any table
  pub visits_bound : length (visits (walk opp mark used c)) ≤ used
  visits_bound = go view
    where
      go : View → length (visits (walk opp mark used c)) ≤ used
      go (v_tangled e) = rw e (omega arith)
      go (v_closed w e) = rw e (omega (arith, face_used mark used c w, left_bound))
      go (v_open w e) =
          rw e (omega (arith, face_used mark used c w, left_bound, right_bound, length-append (c ∷ (left_of opp mark used c).visits) (right_of opp mark used c).visits))

  -- a closed ring, and an open fan, known by their counts
  pub record IsClosed (n : ℕ) : Type 0 where
    pub face : face_live mark used c ≡ true
    pub is : walk opp mark used c ≡ closed c (left_of opp mark used c).visits
    pub count : n ≡ length (left_of opp mark used c).visits
    pub bound : n + 1 ≤ used

  pub record IsOpen (n m : ℕ) : Type 0 where
    pub face : face_live mark used c ≡ true
    pub is : walk opp mark used c ≡ open' c (left_of opp mark used c).visits (right_of opp mark used c).visits
    pub count : n ≡ length (left_of opp mark used c).visits
    pub count' : m ≡ length (right_of opp mark used c).visits
    pub bound : n + 1 + m ≤ used

  pub was_tangled : Tangled ≡ counted (walk opp mark used c) → walk opp mark used c ≡ tangled
  was_tangled h = go view
    where
      go : View → walk opp mark used c ≡ tangled
      go (v_tangled e) = e
      go (v_closed i e) = no_way (cc (ap counted e))
      go (v_open i e) = no_way (cc (ap counted e))

  pub was_closed : (n : ℕ) → Closed n ≡ counted (walk opp mark used c) → IsClosed n
  was_closed n h = go view
    where
      go : View → IsClosed n
      go (v_tangled e) = no_way (cc (ap counted e))
      go (v_closed i e) =
          let k : n ≡ length (left_of opp mark used c).visits = cc (ap counted e) in
          record { face = i; is = e; count = k; bound = omega (arith, face_used mark used c i, left_bound) }
      go (v_open i e) = no_way (cc (ap counted e))

  pub was_open : (n m : ℕ) → Open n m ≡ counted (walk opp mark used c) → IsOpen n m
  was_open n m h = go view
    where
      go : View → IsOpen n m
      go (v_tangled e) = no_way (cc (ap counted e))
      go (v_closed i e) = no_way (cc (ap counted e))
      go (v_open i e) =
          let k : n ≡ length (left_of opp mark used c).visits = cc (ap counted e) in
          let k' : m ≡ length (right_of opp mark used c).visits = cc (ap counted e) in
          record { face = i; is = e; count = k; count' = k'; bound = omega (arith, face_used mark used c i, left_bound, right_bound) }
