-- A swing, and a turn of a walk, by what was found. Assumes nothing.
use Prim.Native.Nat.{ℕ, zero, suc, ◌+◌, ◌-◌, ◌*◌, ◌/◌, ◌<◌, ◌≤◌, suc-le-suc}
use mathlib.Core.Path.{◌≡◌, refl, sym, ap, ◌∙◌}
use mathlib.Core.Logic.{◌≢◌}
use mathlib.Core.List.{List}
use mathlib.Core.Bool.{Bool, true, false, not, cond, ◌&&◌, false≢true}
use native.Mathlib.Nat.{suc-sub-suc, sub-zero}
use native.Mathlib.Omega.{arith}
use native.Mathlib.Decide.{ℕ_discrete}
use borrow.Author.Tests.{eq-eqb, ne_eqb, lt-ltb}
use lib.ListN.{length}
use lib.Dec.{eqb}
use Rattle.corner.specs.Corner.{absent, next, previous, turn}
use Rattle.corner.proofs.Turns.{Third, first, second, last, third, next_first, next_second, next_last, previous_first, previous_second, previous_last}
use Rattle.corner.proofs.Turns.{next_previous, previous_next, next_face, turn_back, not_turn_twice}
use Rattle.table.specs.Slots.{opposite_at}
use Rattle.table.specs.Table.{live}
use Rattle.table.proofs.Lives.{live_true, not_live}
use Rattle.traversal_visits.specs.Walk.{unmarked, face_live, last_crossed, Swing, border, tangle, to, swing, Side, closes, stop, more, on_swing, side}
use Rattle.traversal_visits.specs.declared.End.{End}
use Rattle.traversal_visits.specs.declared.End.TheVariants.{AtBorder, AtTangle, AtStart}

-- ---- a live face

module _ (mark : List ℕ) (used c : ℕ) where
  -- whichever corner of its face c is, the same three are asked for
  turned_1 : (x y z : Bool) → y && (z && x) ≡ x && (y && z)
  turned_1 true true true = refl
  turned_1 true true false = refl
  turned_1 true false z = refl
  turned_1 false true true = refl
  turned_1 false true false = refl
  turned_1 false false z = refl

  turned_2 : (x y z : Bool) → z && (x && y) ≡ x && (y && z)
  turned_2 x y z = sym (turned_1 z x y)

  face_three : (b : ℕ) → b ≡ c / 3 * 3 → face_live mark used c ≡ live mark used b && (live mark used (b + 1) && live mark used (b + 2))
  unfolding face_live
  face_three b e = go (third c)
    where
      at : (x y z : ℕ) → x ≡ b → y ≡ b + 1 → z ≡ b + 2
          → live mark used x && (live mark used y && live mark used z) ≡ live mark used b && (live mark used (b + 1) && live mark used (b + 2))
      at x y z p q r = rw (p, q, r)

      go : Third c → live mark used c && (live mark used (next c) && live mark used (previous c))
          ≡ live mark used b && (live mark used (b + 1) && live mark used (b + 2))
      go (first h) = at c (next c) (previous c) (omega arith) (omega (arith, next_first c h)) (omega (arith, previous_first c h))
      go (second h) =
          turned_1 (live mark used (previous c)) (live mark used c) (live mark used (next c))
          ∙ at (previous c) c (next c) (omega (arith, previous_second c h)) (omega arith) (omega (arith, next_second c h))
      go (last h) =
          turned_2 (live mark used (next c)) (live mark used (previous c)) (live mark used c)
          ∙ at (next c) (previous c) c (omega (arith, next_last c h)) (omega (arith, previous_last c h)) (omega arith)

  pub face_marks_lem : (b : ℕ) → b ≡ c / 3 * 3 → b + 2 < used → (t : Bool) → t ≡ unmarked mark b → t ≡ face_live mark used c
  unfolding unmarked live
  face_marks_lem b e h t is =
      is ∙ sym (face_three b e ∙ rw (lt-ltb b used (omega arith), lt-ltb (b + 1) used (omega arith), lt-ltb (b + 2) used h))

  pub face_out : (b : ℕ) → b ≡ c / 3 * 3 → used ≤ b + 2 → false ≡ face_live mark used c
  face_out b e h = sym (face_three b e ∙ rw (← not_live mark used (b + 2) h) (none (live mark used b) (live mark used (b + 1))))
    where
      none : (x y : Bool) → x && (y && false) ≡ false
      none true true = refl
      none true false = refl
      none false y = refl

  -- its three corners are live
  pub face_lives : face_live mark used c ≡ true
      → (live mark used c ≡ true) × (live mark used (next c) ≡ true) × (live mark used (previous c) ≡ true)
  unfolding face_live
  face_lives e = go (live mark used c) (live mark used (next c)) (live mark used (previous c)) e
    where
      go : (a b d : Bool) → a && (b && d) ≡ true → (a ≡ true) × (b ≡ true) × (d ≡ true)
      go true true true h = (refl, refl, refl)
      go true true false h = absurd (false≢true h)
      go true false d h = absurd (false≢true h)
      go false b d h = absurd (false≢true h)

  -- a corner beside it is used
  pub face_turn : (left : Bool) → face_live mark used c ≡ true → turn left c < used
  face_turn true e = (live_true mark used (next c) (face_lives e).1).0
  face_turn false e = (live_true mark used (previous c) (face_lives e).2).0

  pub lives_face : live mark used c ≡ true → live mark used (next c) ≡ true → live mark used (previous c) ≡ true → face_live mark used c ≡ true
  unfolding face_live
  lives_face a b d = rw (a, b, d)

  pub face_used : face_live mark used c ≡ true → c < used
  face_used e = (live_true mark used c (face_lives e).0).0

-- the corners of a face are live together
pub face_same : (mark : List ℕ) (used c d : ℕ) → d / 3 ≡ c / 3 → face_live mark used d ≡ face_live mark used c
face_same mark used c d e =
    face_three mark used d (c / 3 * 3) (ap (λ (f : ℕ). f * 3) (sym e)) ∙ sym (face_three mark used c (c / 3 * 3) refl)

-- ---- a swing

module _ (left : Bool) (opp mark : List ℕ) (used : ℕ) where
  module _ (c o : ℕ) (at : o ≡ opposite_at opp (turn left c)) where
    pub swing_border : o ≡ absent → border ≡ swing left opp mark used c
    unfolding swing
    swing_border h = rw (← at, eq-eqb _ _ h)

    module _ (there : o ≢ absent) (b : Bool) (is : b ≡ face_live mark used o) where
      pub swing_tangle : b ≡ false → tangle ≡ swing left opp mark used c
      unfolding swing
      swing_tangle h = rw (← at, ne_eqb _ _ there, ← is, h)

      pub swing_to_lem : b ≡ true → to (turn left o) ≡ swing left opp mark used c
      unfolding swing
      swing_to_lem h = rw (← at, ne_eqb _ _ there, ← is, h)

  -- what a swing to d found: an opposite in a live face
  pub record Landed (c d : ℕ) : Type 0 where
    pub face : face_live mark used (opposite_at opp (turn left c)) ≡ true
    pub at : d ≡ turn left (opposite_at opp (turn left c))

  at_of : Swing → ℕ
  at_of border = 0
  at_of tangle = 0
  at_of (to d) = d

  pub swing_landed : (c d : ℕ) → swing left opp mark used c ≡ to d → Landed c d
  unfolding swing at_of
  swing_landed c d e = go (eqb (opposite_at opp (turn left c)) absent) (face_live mark used (opposite_at opp (turn left c))) refl e
    where
      go : (a b : Bool) → face_live mark used (opposite_at opp (turn left c)) ≡ b
          → cond a border (cond b (to (turn left (opposite_at opp (turn left c)))) tangle) ≡ to d → Landed c d
      go true b q z = let y : ◌≡◌ {A = ℕ} 0 1 = cc in absurd (omega arith)
      go false false q z = let y : ◌≡◌ {A = ℕ} 0 1 = cc in absurd (omega arith)
      go false true q z = record { face = q; at = sym (ap at_of z) }

  -- ---- a turn of the walk, by what the swing from c was found to be

  module _ (c₀ c : ℕ) (r : Swing) (is : r ≡ swing left opp mark used c) where
    pub side_border : (room : ℕ) → r ≡ border → side left opp mark used c₀ room c ≡ stop AtBorder
    unfolding side
    side_border zero h = rw (← is, h)
    side_border (suc room) h = rw (← is, h)

    pub side_tangle : (room : ℕ) → r ≡ tangle → side left opp mark used c₀ room c ≡ stop AtTangle
    unfolding side
    side_tangle zero h = rw (← is, h)
    side_tangle (suc room) h = rw (← is, h)

    module _ (d : ℕ) (lands : r ≡ to d) (t : Bool) (at : t ≡ closes left c₀ d) where
      pub side_closed : (room : ℕ) → t ≡ true → side left opp mark used c₀ room c ≡ stop AtStart
      unfolding side
      side_closed zero h = rw (← is, lands, ← at, h)
      side_closed (suc room) h = rw (← is, lands, ← at, h)

      pub side_out : (room : ℕ) → t ≡ false → room ≡ 0 → side left opp mark used c₀ room c ≡ stop AtTangle
      unfolding side
      side_out room h z = rw (z, ← is, lands, ← at, h)

      pub side_more : (room : ℕ) → t ≡ false → (room ≡ 0 → ⊥)
          → side left opp mark used c₀ room c ≡ more d (side left opp mark used c₀ (room - 1) d)
      unfolding side
      side_more zero h p = absurd (p refl)
      side_more (suc room) h p = rw (← is, lands, ← at, h, suc-sub-suc, sub-zero)

  -- a side makes no more visits than it has room for
  module _ (c₀ : ℕ) where
    none : (s : Swing) → length (on_swing left c₀ s (λ d. stop AtTangle)).visits ≤ 0
    none border = omega arith
    none tangle = omega arith
    none (to d) = go (closes left c₀ d)
      where
        go : (b : Bool) → length (cond b (stop AtStart) (stop AtTangle)).visits ≤ 0
        go true = omega arith
        go false = omega arith

    one_more : (n : ℕ) (k : ℕ → Side) → ((d : ℕ) → length (k d).visits ≤ n) → (s : Swing)
        → length (on_swing left c₀ s (λ d. more d (k d))).visits ≤ suc n
    one_more n k all border = omega arith
    one_more n k all tangle = omega arith
    one_more n k all (to d) = go (closes left c₀ d)
      where
        go : (b : Bool) → length (cond b (stop AtStart) (more d (k d))).visits ≤ suc n
        go true = omega arith
        go false = suc-le-suc (all d)

    pub side_bound : (room c : ℕ) → length (side left opp mark used c₀ room c).visits ≤ room
    unfolding side
    side_bound zero c = none (swing left opp mark used c)
    side_bound (suc room) c =
        one_more room (λ d. side left opp mark used c₀ room d) (λ d. side_bound room d) (swing left opp mark used c)

-- ---- the same turn of the walk from the slot that it crosses: the corner itself is that slot turned back

pub turn_forth : (left : Bool) (c : ℕ) → turn (not left) (turn left c) ≡ c
turn_forth true c = previous_next c
turn_forth false c = next_previous c

pub turn_face : (left : Bool) (c : ℕ) → turn left c / 3 ≡ c / 3
turn_face true c = next_face c
turn_face false c = sym (next_face (previous c)) ∙ ap (λ (d : ℕ). d / 3) (next_previous c)

-- the swing that closes a ring, by the corner that it crosses to
closes_last : (left : Bool) (c₀ o : ℕ) → o < absent → o ≡ last_crossed left c₀ → closes left c₀ (turn left o) ≡ true
unfolding last_crossed
closes_last true c₀ o b h = eq-eqb (next o) c₀ (ap next h ∙ next_previous c₀)
closes_last false c₀ o b h = absurd (omega arith)

not_last : (left : Bool) (c₀ o : ℕ) → (o ≡ last_crossed left c₀ → ⊥) → closes left c₀ (turn left o) ≡ false
unfolding last_crossed
not_last true c₀ o h = ne_eqb (next o) c₀ (λ e. h (sym (previous_next o) ∙ ap previous e))
not_last false c₀ o h = refl

-- ---- from slot to slot by the first slot of the face

module _ (i b : ℕ) (at : b ≡ i / 3 * 3) where
  pub onward_first : i ≡ b → b + 2 ≡ previous i
  onward_first h = omega (arith, previous_first i (omega arith))

  pub onward_before : (i ≡ b → ⊥) → i - 1 ≡ previous i
  onward_before h = go (third i)
    where
      go : Third i → i - 1 ≡ previous i
      go (first k) = absurd (h (omega arith))
      go (second k) = sym (previous_second i k)
      go (last k) = sym (previous_last i k)

  pub onward_last : i ≡ b + 2 → b ≡ next i
  onward_last h = omega (arith, next_last i (omega arith))

  pub onward_after : (i ≡ b + 2 → ⊥) → i + 1 ≡ next i
  onward_after h = go (third i)
    where
      go : Third i → i + 1 ≡ next i
      go (first k) = sym (next_first i k)
      go (second k) = sym (next_second i k)
      go (last k) = absurd (h (omega arith))

module _ (left : Bool) (opp mark : List ℕ) (used : ℕ) where
  -- a loop knows its first corner by the slot that it begins at
  pub at_start : (room c₀ via : ℕ) → via ≡ turn left c₀ → (n : ℕ) (e : End)
      → (n ≡ length (side left opp mark used (turn (not left) via) room (turn (not left) via)).visits)
      × (e ≡ (side left opp mark used (turn (not left) via) room (turn (not left) via)).end)
      → (n ≡ length (side left opp mark used c₀ room c₀).visits) × (e ≡ (side left opp mark used c₀ room c₀).end)
  at_start room c₀ via is n e h = rw (ap (turn (not left)) is ∙ turn_forth left c₀) at h

  -- a turn of the loop at the slot `via`: what lies across it, and whether that is in a live face
  module _ (c₀ via o : ℕ) (at : o ≡ opposite_at opp via) (t : Bool) (is : t ≡ face_live mark used o) where
    here : ℕ
    here = turn (not left) via

    over : o ≡ opposite_at opp (turn left here)
    unfolding here
    over = at ∙ ap (opposite_at opp) (sym (turn_back left via))

    pub over_end : t ≡ false → (e : End) → e ≡ cond (eqb o absent) AtBorder AtTangle → (room : ℕ)
        → side left opp mark used c₀ room (turn (not left) via) ≡ stop e
    unfolding here
    over_end off e ends room = go (ℕ_discrete o absent)
      where
        go : Dec (o ≡ absent) → side left opp mark used c₀ room (turn (not left) via) ≡ stop e
        go (yes h) =
            side_border left opp mark used c₀ here border (swing_border left opp mark used here o over h) room refl
            ∙ ap stop (sym (ends ∙ rw (eq-eqb o absent h)))
        go (no h) =
            side_tangle left opp mark used c₀ here tangle (swing_tangle left opp mark used here o over h t is off) room refl
            ∙ ap stop (sym (ends ∙ rw (ne_eqb o absent h)))

    module _ (on : t ≡ true) where
      live_face : face_live mark used o ≡ true
      live_face = sym is ∙ on

      pub over_inside : turn (not left) o < used
      over_inside = face_turn mark used o (not left) live_face

      module _ (u : used ≤ absent) (last : ℕ) (is_last : last ≡ last_crossed left c₀) where
        below : o < absent
        below = omega (arith, face_used mark used o live_face)

        lands : to (turn left o) ≡ swing left opp mark used here
        lands = swing_to_lem left opp mark used here o over (λ h. absurd (omega (arith, below))) t is on

        pub over_closed : (room : ℕ) → o ≡ last → side left opp mark used c₀ room (turn (not left) via) ≡ stop AtStart
        unfolding here
        over_closed room h =
            side_closed left opp mark used c₀ here (to (turn left o)) lands (turn left o) refl _ refl room
            (closes_last left c₀ o below (h ∙ is_last))

        open_still : (o ≡ last → ⊥) → closes left c₀ (turn left o) ≡ false
        open_still h = not_last left c₀ o (λ e. h (e ∙ sym is_last))

        pub over_out : (room : ℕ) → (o ≡ last → ⊥) → room ≡ 0 → side left opp mark used c₀ room (turn (not left) via) ≡ stop AtTangle
        unfolding here
        over_out room h z =
            side_out left opp mark used c₀ here (to (turn left o)) lands (turn left o) refl _ refl room (open_still h) z

        pub over_more : (room : ℕ) → (o ≡ last → ⊥) → (room ≡ 0 → ⊥) → (next-via : ℕ) → next-via ≡ turn (not left) o
            → side left opp mark used c₀ room (turn (not left) via)
            ≡ more (turn left o) (side left opp mark used c₀ (room - 1) (turn (not left) next-via))
        unfolding here
        over_more room h p next-via e =
            side_more left opp mark used c₀ here (to (turn left o)) lands (turn left o) refl _ refl room (open_still h) p
            ∙ ap (λ (c : ℕ). more (turn left o) (side left opp mark used c₀ (room - 1) c)) (sym (ap (turn (not left)) e ∙ not_turn_twice left o))
