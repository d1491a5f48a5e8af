-- A walk's outcome, an arm at a time. Assumes nothing.
use Prim.Native.Nat.{ℕ, ◌+◌, ◌-◌, ◌<◌, ◌≤◌}
use mathlib.Core.Path.{◌≡◌, refl, sym, ap, ◌∙◌}
use mathlib.Core.List.{List, ◌∷◌, ◌++◌, map}
use mathlib.Core.Bool.{Bool, true, false, cond}
use native.Mathlib.Omega.{arith}
use native.Mathlib.Numerals.{add-one}
use borrow.Author.Tests.{leb-true, leb-false, le-leb, lt-leb}
use lib.ListN.{length, drop, length-map, length-append}
use Rattle.std.proofs.lemmas.List.{append_assoc, drop-drop}
use Rattle.table.specs.Slots.{opposite_at}
use lib.Dec.{leb}
use Rattle.corner.specs.Corner.{next, previous}
use Rattle.traversal_visits.specs.Walk.{face_live, tangled, closed, open', left_of, right_of, walk, visits}
use Rattle.traversal_lists.specs.Lists.{entry, twice, entries}
use Rattle.traversal_lists.specs.Outcome.{done_ring, refused_ring, listed, walked, needed, too_short}
use Rattle.traversal_visits.specs.Walk.{counted}
use Rattle.traversal_lists.specs.Reached.{reached, Inside}
use Rattle.traversal_visits.proofs.Counting.{IsClosed, IsOpen, was_tangled, was_closed, was_open}
use Rattle.traversal_lists.proofs.Reached.{Fit, Made, side_made, whole_made}
use Rattle.traversal_lists.specs.declared.Kind.{Kind}
use Rattle.traversal_visits.specs.declared.Counted.{Counted}
use Rattle.traversal_visits.specs.declared.Counted.TheVariants.{Tangled, Closed, Open}

-- the first corner once more, or not
length_cond : (b : Bool) (c : ℕ) (r : List ℕ) → length (cond b (c ∷ r) r) ≡ length r + cond b 1 0
length_cond true c r = omega arith
length_cond false c r = omega arith

-- ---- the two sides by what they cross to, once they are counted

module _ (opp mark : List ℕ) (used c : ℕ) (cv : List ℕ) (fit : Fit cv opp mark used) (live_face : face_live mark used c ≡ true) where
  -- the left side with the first corner
  module _ (n : ℕ) (count : n ≡ length (left_of opp mark used c).visits) where
    left_made : Made true opp (length cv) (previous c) (c ∷ (left_of opp mark used c).visits)
    unfolding left_of
    left_made = whole_made true opp mark used (length cv) c fit.opposites fit.vertices (used - 1) c live_face

    pub left_reached : reached true opp (n + 1) (previous c) ≡ c ∷ (left_of opp mark used c).visits
    left_reached = rw (count, add-one) (sym left_made.are)

    pub left_inside : Inside true opp (length cv) (n + 1) (previous c)
    left_inside = rw (count, add-one) left_made.inside

  -- the right side, with the first corner where b says so
  module _ (b : Bool) (n : ℕ) (count : n ≡ length (right_of opp mark used c).visits) where
    right_made : (b : Bool) → Made false opp (length cv) (cond b (next c) (opposite_at opp (previous c))) (cond b (c ∷ (right_of opp mark used c).visits) (right_of opp mark used c).visits)
    unfolding right_of
    right_made true =
        whole_made false opp mark used (length cv) c fit.opposites fit.vertices (used - 1 - length (left_of opp mark used c).visits) c live_face
    right_made false =
        side_made false opp mark used (length cv) c fit.opposites fit.vertices (used - 1 - length (left_of opp mark used c).visits) c

    size : n + cond b 1 0 ≡ length (cond b (c ∷ (right_of opp mark used c).visits) (right_of opp mark used c).visits)
    size = omega (arith, count, length_cond b c (right_of opp mark used c).visits)

    module _ (m o : ℕ) (is_m : m ≡ n + cond b 1 0) (is-o : o ≡ cond b (next c) (opposite_at opp (previous c))) where
      pub right_reached : reached false opp m o ≡ cond b (c ∷ (right_of opp mark used c).visits) (right_of opp mark used c).visits
      right_reached = rw (is_m, size, is-o) (sym (right_made b).are)

      pub right_inside : Inside false opp (length cv) m o
      right_inside = rw (is_m, size, is-o) (right_made b).inside

module _ (n : ℕ) (es list : List ℕ) where
  listed_done : (v m : ℕ) (last : List ℕ) → v ≡ n → m ≡ length es → length es ≤ length list → last ≡ es ++ drop (length es) list
      → done_ring v m last ≡ listed n es list
  listed_done v m last p q h e = rw (le-leb _ _ h, p, q, e)

  listed_short : length list < length es → refused_ring 16 list ≡ listed n es list
  listed_short h = rw (lt-leb _ _ h)

-- how many entries a walk's list has
pub one_at_most : (b : Bool) → cond b 1 0 ≤ 1
one_at_most true = omega arith
one_at_most false = omega arith

closed_size : (kind : Kind) (cv : List ℕ) (c : ℕ) (l : List ℕ) → length (entries kind cv (closed c l)) ≡ length l + 1
closed_size kind cv c l = length-map (c ∷ l) (entry kind cv true) ∙ omega arith

open_size : (kind : Kind) (cv : List ℕ) (c : ℕ) (l r : List ℕ)
    → length (entries kind cv (open' c l r)) ≡ length l + 1 + length r + cond (twice kind) 1 0
open_size kind cv c l r =
    length-append (map (entry kind cv true) (c ∷ l)) (map (entry kind cv false) (cond (twice kind) (c ∷ r) r))
    ∙ omega (arith, length-map (c ∷ l) (entry kind cv true), length-map (cond (twice kind) (c ∷ r) r) (entry kind cv false), length_cond (twice kind) c r)

-- room for as many entries as the counts say
module _ (kind : Kind) (w : Counted) (n : ℕ) where
  pub has_room : (b : Bool) → b ≡ leb (needed kind w) n → b ≡ true → (v : Counted) → w ≡ v → needed kind v ≤ n
  has_room b is on v e = leb-true (needed kind v) n (ap (λ (x : Counted). leb (needed kind x) n) (sym e) ∙ sym is ∙ on)

module _ (kind : Kind) (cv opp mark : List ℕ) (used c : ℕ) (list : List ℕ) where
  pub answer_tangled : walk opp mark used c ≡ tangled → refused_ring 15 list ≡ walked kind cv (walk opp mark used c) list
  answer_tangled e = rw e

  module _ (n : ℕ) (k : IsClosed opp mark used c n) where
    lv : List ℕ
    lv = (left_of opp mark used c).visits

    closed_short : length list < n + 1 → refused_ring 16 list ≡ walked kind cv (walk opp mark used c) list
    unfolding lv
    closed_short l =
        let size = closed_size kind cv c lv in
        rw k.is (listed_short (length (visits (closed c lv))) (entries kind cv (closed c lv)) list (omega (arith, k.count)))

    pub closed_done : Fit cv opp mark used → n + 1 ≤ length list → (front : List ℕ)
        → front ≡ map (entry kind cv true) (reached true opp (n + 1) (previous c))
        → done_ring (n + 1) (n + 1) (front ++ drop (n + 1) list) ≡ walked kind cv (walk opp mark used c) list
    unfolding lv
    closed_done fit l front e =
        let size = closed_size kind cv c lv in
        let all : n + 1 ≡ length (entries kind cv (closed c lv)) = omega (arith, k.count) in
        let els : front ≡ entries kind cv (closed c lv) = e ∙ rw (left_reached opp mark used c cv fit k.face n k.count) in
        let last : front ++ drop (n + 1) list ≡ entries kind cv (closed c lv) ++ drop (length (entries kind cv (closed c lv))) list =
        ap (λ (x : List ℕ). x ++ drop (n + 1) list) els ∙ ap (λ (j : ℕ). entries kind cv (closed c lv) ++ drop j list) all in
        rw k.is
        (listed_done (length (visits (closed c lv))) (entries kind cv (closed c lv)) list (n + 1) (n + 1) (front ++ drop (n + 1) list)
        (omega (arith, k.count)) all (omega arith) last)

  module _ (n m x : ℕ) (k : IsOpen opp mark used c n m) (extra : x ≡ cond (twice kind) 1 0) where
    lv' : List ℕ
    lv' = (left_of opp mark used c).visits

    rv : List ℕ
    rv = (right_of opp mark used c).visits

    open_short : length list < n + 1 + m + x → refused_ring 16 list ≡ walked kind cv (walk opp mark used c) list
    unfolding lv' rv
    open_short l =
        let size = open_size kind cv c lv' rv in
        rw k.is (listed_short (length (visits (open' c lv' rv))) (entries kind cv (open' c lv' rv)) list (omega (arith, k.count, k.count')))

    pub open_done : Fit cv opp mark used → n + 1 + m + x ≤ length list → (o rest w : ℕ) (before after : List ℕ)
        → o ≡ cond (twice kind) (next c) (opposite_at opp (previous c)) → rest ≡ m + x → w ≡ n + 1 + rest
        → before ≡ map (entry kind cv true) (reached true opp (n + 1) (previous c))
        → after ≡ map (entry kind cv false) (reached false opp rest o)
        → done_ring (n + 1 + m) w (before ++ (after ++ drop rest (drop (n + 1) list))) ≡ walked kind cv (walk opp mark used c) list
    unfolding lv' rv
    open_done fit l o rest w before after from count whole e e' =
        let size = open_size kind cv c lv' rv in
        let es : List ℕ = entries kind cv (open' c lv' rv) in
        let one : before ≡ map (entry kind cv true) (c ∷ lv') = e ∙ rw (left_reached opp mark used c cv fit k.face n k.count) in
        let two : after ≡ map (entry kind cv false) (cond (twice kind) (c ∷ rv) rv) =
        e' ∙ rw (right_reached opp mark used c cv fit k.face (twice kind) m k.count' rest o (count ∙ rw extra) from) in
        let all : n + 1 + rest ≡ length es = omega (arith, k.count, k.count') in
        let left : drop rest (drop (n + 1) list) ≡ drop (length es) list =
        drop-drop rest (n + 1) list ∙ ap (λ (j : ℕ). drop j list) all in
        let last : before ++ (after ++ drop rest (drop (n + 1) list)) ≡ es ++ drop (length es) list =
        rw (one, two, left) (sym (append_assoc (map (entry kind cv true) (c ∷ lv')) (map (entry kind cv false) (cond (twice kind) (c ∷ rv) rv)) (drop (length es) list))) in
        rw k.is
        (listed_done (length (visits (open' c lv' rv))) es list (n + 1 + m) w (before ++ (after ++ drop rest (drop (n + 1) list)))
        (omega (arith, k.count, k.count', length-append (c ∷ lv') rv)) (omega (arith, k.count, k.count')) (omega (arith, k.count, k.count')) last)

  -- 15, 16
  pub answer_short : (w : Counted) → w ≡ counted (walk opp mark used c) → leb (needed kind w) (length list) ≡ false
      → (a : ℕ) → a ≡ too_short w → refused_ring a list ≡ walked kind cv (walk opp mark used c) list
  answer_short Tangled h l a e = rw e (answer_tangled (was_tangled opp mark used c h))
  answer_short (Closed n) h l a e = rw e (closed_short n (was_closed opp mark used c n h) (leb-false _ _ l))
  answer_short (Open n m) h l a e = rw e (open_short n m (cond (twice kind) 1 0) (was_open opp mark used c n m h) refl (leb-false _ _ l))
