-- Laws of the turns within a face. Assumes nothing.
use mathlib.Core.Path.{◌≡◌, refl, ap, ◌∙◌}
use mathlib.Core.Logic.{◌≢◌}
use mathlib.Core.Bool.{Bool, true, false, not}
use Prim.Native.Nat.{ℕ, zero, suc, ◌+◌, ◌-◌, ◌<◌, ◌/◌, ◌%◌}
use native.Mathlib.Omega.{arith}
use Rattle.corner.specs.Corner.{next, previous, turn}

-- the place of a corner in its face
pub data Third (c : ℕ) : Type 0 where
  first : c % 3 ≡ 0 → Third c
  second : c % 3 ≡ 1 → Third c
  last : c % 3 ≡ 2 → Third c

pub third : (c : ℕ) → Third c
third c = go (c % 3) refl (omega arith)
  where
    go : (r : ℕ) → c % 3 ≡ r → r < 3 → Third c
    go zero e h = first e
    go (suc zero) e h = second e
    go (suc (suc zero)) e h = last e
    go (suc (suc (suc r))) e h = absurd (omega arith)

pub next_first : (c : ℕ) → c % 3 ≡ 0 → next c ≡ c + 1
unfolding next
next_first c h = rw h

pub next_second : (c : ℕ) → c % 3 ≡ 1 → next c ≡ c + 1
unfolding next
next_second c h = rw h

pub next_last : (c : ℕ) → c % 3 ≡ 2 → next c ≡ c - 2
unfolding next
next_last c h = rw h

pub previous_first : (c : ℕ) → c % 3 ≡ 0 → previous c ≡ c + 2
unfolding previous
previous_first c h = rw h

pub previous_second : (c : ℕ) → c % 3 ≡ 1 → previous c ≡ c - 1
unfolding previous
previous_second c h = rw h

pub previous_last : (c : ℕ) → c % 3 ≡ 2 → previous c ≡ c - 1
unfolding previous
previous_last c h = rw h

pub next_next : (c : ℕ) → next (next c) ≡ previous c
next_next c = go (third c)
  where
    go : Third c → next (next c) ≡ previous c
    go (first h) = rw (next_first c h, previous_first c h) (omega (arith, next_second (c + 1) (omega arith)))
    go (second h) = rw (next_second c h, previous_second c h) (omega (arith, next_last (c + 1) (omega arith)))
    go (last h) = rw (next_last c h, previous_last c h) (omega (arith, next_first (c - 2) (omega arith)))

pub next_previous : (c : ℕ) → next (previous c) ≡ c
next_previous c = go (third c)
  where
    go : Third c → next (previous c) ≡ c
    go (first h) = rw (previous_first c h) (omega (arith, next_last (c + 2) (omega arith)))
    go (second h) = rw (previous_second c h) (omega (arith, next_first (c - 1) (omega arith)))
    go (last h) = rw (previous_last c h) (omega (arith, next_second (c - 1) (omega arith)))

pub previous_next : (c : ℕ) → previous (next c) ≡ c
previous_next c = go (third c)
  where
    go : Third c → previous (next c) ≡ c
    go (first h) = rw (next_first c h) (omega (arith, previous_second (c + 1) (omega arith)))
    go (second h) = rw (next_second c h) (omega (arith, previous_last (c + 1) (omega arith)))
    go (last h) = rw (next_last c h) (omega (arith, previous_first (c - 2) (omega arith)))

pub next_face : (c : ℕ) → next c / 3 ≡ c / 3
next_face c = go (third c)
  where
    go : Third c → next c / 3 ≡ c / 3
    go (first h) = rw (next_first c h) (omega arith)
    go (second h) = rw (next_second c h) (omega arith)
    go (last h) = rw (next_last c h) (omega arith)

pub next_differs : (c : ℕ) → next c ≢ c
next_differs c = go (third c)
  where
    go : Third c → next c ≢ c
    go (first h) = omega (arith, next_first c h)
    go (second h) = omega (arith, next_second c h)
    go (last h) = omega (arith, next_last c h)

pub next_three : (c : ℕ) → next (next (next c)) ≡ c
next_three c = ap next (next_next c) ∙ next_previous c

pub previous_previous : (c : ℕ) → previous (previous c) ≡ next c
previous_previous c = cc (next_next (previous c), next_previous c)

pub next_injective : (c d : ℕ) → next c ≡ next d → c ≡ d
next_injective c d e = cc (previous_next c, previous_next d)

pub previous_injective : (c d : ℕ) → previous c ≡ previous d → c ≡ d
previous_injective c d e = cc (next_previous c, next_previous d)

-- a corner of a face is below a count of corners (a multiple of 3) with its first
pub next_below : (c n : ℕ) → n % 3 ≡ 0 → c < n → next c < n
next_below c n m h = go (third c)
  where
    go : Third c → next c < n
    go (first k) = omega (arith, next_first c k)
    go (second k) = omega (arith, next_second c k)
    go (last k) = omega (arith, next_last c k)

pub previous_below : (c n : ℕ) → n % 3 ≡ 0 → c < n → previous c < n
previous_below c n m h = rw (← (next_next c)) (next_below (next c) n m (next_below c n m h))

pub turn_below : (left : Bool) (c n : ℕ) → n % 3 ≡ 0 → c < n → turn left c < n
turn_below true c n m h = next_below c n m h
turn_below false c n m h = previous_below c n m h

-- the two turns are inverse, and a turn twice is the other turn
pub turn_back : (left : Bool) (c : ℕ) → turn left (turn (not left) c) ≡ c
turn_back true c = next_previous c
turn_back false c = previous_next c

pub turn_twice : (left : Bool) (c : ℕ) → turn left (turn left c) ≡ turn (not left) c
turn_twice true c = next_next c
turn_twice false c = previous_previous c

pub not_turn_twice : (left : Bool) (c : ℕ) → turn (not left) (turn (not left) c) ≡ turn left c
not_turn_twice true c = previous_previous c
not_turn_twice false c = next_next c

-- two corners with one face number
pub data InFace (c d : ℕ) : Type 0 where
  itself : d ≡ c → InFace c d
  after : d ≡ next c → InFace c d
  before : d ≡ previous c → InFace c d

pub in_face : (c d : ℕ) → d / 3 ≡ c / 3 → InFace c d
in_face c d e = go (third c) (third d)
  where
    go : Third c → Third d → InFace c d
    go (first h) (first k) = itself (omega arith)
    go (first h) (second k) = after (omega (arith, next_first c h))
    go (first h) (last k) = before (omega (arith, previous_first c h))
    go (second h) (first k) = before (omega (arith, previous_second c h))
    go (second h) (second k) = itself (omega arith)
    go (second h) (last k) = after (omega (arith, next_second c h))
    go (last h) (first k) = after (omega (arith, next_last c h))
    go (last h) (second k) = before (omega (arith, previous_last c h))
    go (last h) (last k) = itself (omega arith)
