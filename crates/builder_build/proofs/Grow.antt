-- A face more keeps R2 to R4 and the uniqueness of directed edges: over functions on ℕ. Assumes nothing.
use mathlib.Core.Path.{◌≡◌, ap, sym, ◌∙◌}
use mathlib.Core.Logic.{◌≢◌, ◌⊎◌, inl, inr}
use Prim.Native.Nat.{ℕ, ◌+◌, ◌≤◌, ◌<◌, ◌%◌, ◌/◌}
use native.Mathlib.Omega.{arith}
use native.Mathlib.Decide.{dec_lt}
use Rattle.corner.specs.Corner.{next, previous, absent}
use Rattle.corner.proofs.Turns.{next_next, next_previous, next_below, next_injective, InFace, itself, after, before, in_face, next_face}
use Rattle.table.specs.Rules.{Mate}
use Rattle.fan.proofs.Fan.{Linked, linked, mate_sym}
use Rattle.builder_build.specs.Ready.{Same, Paired}

-- the edge of d runs the other way than that of k
pub record Reversed (f g : ℕ → ℕ) (d k : ℕ) : Type 0 where
  pub tail : f (next d) ≡ g (previous k)
  pub head : f (previous d) ≡ g (next k)

pub paired_linked : {n : ℕ} {opp vtx : ℕ → ℕ} → Paired n opp vtx → Linked (λ d. d < n) opp vtx
paired_linked {n} P = linked (λ c h e. absurd (omega (arith, P.small))) (λ c h. next_below c n P.thirds h) P.differ P.mate

-- a new face's corner
pub record New (n k : ℕ) : Type 0 where
  pub low : n ≤ k
  pub high : k < n + 3

module _ (n : ℕ) (thirds : n % 3 ≡ 0) where
  pub new_next : (k : ℕ) → New n k → New n (next k)
  new_next k w =
      let f : next k / 3 ≡ k / 3 = next_face k in
      record { low = omega (arith, w.low); high = next_below k (n + 3) (omega arith) w.high }

  pub new_previous : (k : ℕ) → New n k → New n (previous k)
  new_previous k w = rw (← (next_next k)) (new_next (next k) (new_next k w))

  -- the corners of the new face have three different vertices, so also three different edges
  pub new_once : (f : ℕ → ℕ) → ((k : ℕ) → New n k → f k ≢ f (next k)) → (k l : ℕ) → New n k → New n l → f k ≡ f l → k ≡ l
  new_once f differ k l w v e =
      let z : l / 3 ≡ k / 3 = omega (arith, w.low, w.high, v.low, v.high) in
      go (in_face k l z)
    where
      go : InFace k l → k ≡ l
      go (itself z) = sym z
      go (after z) = absurd (differ k w (e ∙ ap f z))
      go (before z) = absurd (differ l v (sym e ∙ ap f (cc (next_previous k))))

-- where a corner of the old faces goes
pub data Goes (n : ℕ) (opp vtx opp' vtx' : ℕ → ℕ) (d : ℕ) : Type 0 where
  stays : opp' d ≡ opp d → ((k : ℕ) → New n k → Reversed vtx vtx' d k → ⊥) → Goes n opp vtx opp' vtx' d
  meets : (k : ℕ) → New n k → opp' d ≡ k → opp' k ≡ d → Reversed vtx vtx' d k → Goes n opp vtx opp' vtx' d

pub record Grown (n : ℕ) (opp vtx opp' vtx' : ℕ → ℕ) : Type 0 where
  pub room : n + 3 ≤ absent
  pub keeps : (d : ℕ) → d < n → vtx' d ≡ vtx d
  pub differ : (k : ℕ) → New n k → vtx' k ≢ vtx' (next k)
  pub free : (d k : ℕ) → d < n → New n k → Same vtx vtx' d k → ⊥
  pub old : (d : ℕ) → d < n → Goes n opp vtx opp' vtx' d
  pub new : (k : ℕ) → New n k → (opp' k ≡ absent) ⊎ ((opp' k < n) × (opp' (opp' k) ≡ k) × Reversed vtx vtx' (opp' k) k)

module _ {n : ℕ} {opp vtx opp' vtx' : ℕ → ℕ} (P : Paired n opp vtx) (G : Grown n opp vtx opp' vtx') where
  m : (n + 3) % 3 ≡ 0
  m = omega (arith, P.thirds)

  old_next : (d : ℕ) → d < n → next d < n
  old_next d h = next_below d n P.thirds h

  old_previous : (d : ℕ) → d < n → previous d < n
  old_previous d h = rw (← (next_next d)) (old_next (next d) (old_next d h))

  data Which (d : ℕ) : Type 0 where
    was : d < n → Which d
    is : New n d → Which d

  which : (d : ℕ) → d < n + 3 → Which d
  which d h = go (dec_lt d n)
    where
      go : Dec (d < n) → Which d
      go (yes l) = was l
      go (no l) = is (record { low = omega arith; high = h })

  differ' : (c : ℕ) → c < n + 3 → vtx' c ≢ vtx' (next c)
  differ' c h e = go (which c h)
    where
      go : Which c → ⊥
      go (was l) = P.differ c l (sym (G.keeps c l) ∙ e ∙ G.keeps (next c) (old_next c l))
      go (is w) = G.differ c w e

  -- a pair of an old corner with a new one
  across : (d k : ℕ) → d < n → New n k → opp' d ≡ k → Reversed vtx vtx' d k → Mate (λ x. x < n + 3) opp' vtx' k d
  across d k h w o r = record {
    over = omega arith;
    pair = o;
    tail = G.keeps (next d) (old_next d h) ∙ r.tail;
    head = G.keeps (previous d) (old_previous d h) ∙ r.head;
  }

  mate_old : (c : ℕ) → c < n → opp' c ≢ absent → Goes n opp vtx opp' vtx' c → Mate (λ x. x < n + 3) opp' vtx' c (opp' c)
  mate_old c h t (meets k w a b r) = rw a (mate_sym w.high b (across c k h w a r))
  mate_old c h t (stays s nr) =
      let q : opp c ≢ absent = λ z. t (s ∙ z) in
      let o : Mate (λ d. d < n) opp vtx c (opp c) = P.mate c h q in
      rw s (go o (G.old (opp c) o.over))
    where
      go : Mate (λ d. d < n) opp vtx c (opp c) → Goes n opp vtx opp' vtx' (opp c) → Mate (λ x. x < n + 3) opp' vtx' c (opp c)
      -- if the opposite met a new corner, then c would hold that corner's edge
      go o (meets k w a b r) = absurd (G.free c k h w (record { tail = sym o.head ∙ r.head; head = sym o.tail ∙ r.tail }))
      go o (stays s' nr') =
          let l : opp c < n = o.over in
          record {
            over = omega arith;
            pair = s' ∙ o.pair;
            tail = G.keeps (next (opp c)) (old_next (opp c) l) ∙ o.tail ∙ sym (G.keeps (previous c) (old_previous c h));
            head = G.keeps (previous (opp c)) (old_previous (opp c) l) ∙ o.head ∙ sym (G.keeps (next c) (old_next c h));
          }

  mate_new : (k : ℕ) → New n k → opp' k ≢ absent → (opp' k ≡ absent) ⊎ ((opp' k < n) × (opp' (opp' k) ≡ k) × Reversed vtx vtx' (opp' k) k) → Mate (λ x. x < n + 3) opp' vtx' k (opp' k)
  mate_new k w t (inl e) = absurd (t e)
  mate_new k w t (inr q) = across (opp' k) k q.0 w q.1 q.2

  mate' : (c : ℕ) → c < n + 3 → opp' c ≢ absent → Mate (λ x. x < n + 3) opp' vtx' c (opp' c)
  mate' c h t = go (which c h)
    where
      go : Which c → Mate (λ x. x < n + 3) opp' vtx' c (opp' c)
      go (was l) = mate_old c l t (G.old c l)
      go (is w) = mate_new c w t (G.new c w)

  keeps_same : (c d : ℕ) → c < n → (g : ℕ → ℕ) → Same vtx' g c d → Same vtx g c d
  keeps_same c d h g s = record { tail = sym (G.keeps (next c) (old_next c h)) ∙ s.tail; head = sym (G.keeps (previous c) (old_previous c h)) ∙ s.head }

  swap : {f g : ℕ → ℕ} {c d : ℕ} → Same f g c d → Same g f d c
  swap s = record { tail = sym s.tail; head = sym s.head }

  once' : (c d : ℕ) → c < n + 3 → d < n + 3 → Same vtx' vtx' c d → c ≡ d
  once' c d h k s = go (which c h) (which d k)
    where
      go : Which c → Which d → c ≡ d
      go (was a) (was b) = P.once c d a b (swap (keeps_same d c b vtx (swap (keeps_same c d a vtx' s))))
      go (was a) (is w) = absurd (G.free c d a w (keeps_same c d a vtx' s))
      go (is w) (was b) = absurd (G.free d c b w (keeps_same d c b vtx' (swap s)))
      go (is w) (is v) = next_injective c d (new_once n P.thirds vtx' G.differ (next c) (next d) (new_next n P.thirds c w) (new_next n P.thirds d v) s.tail)

  pub grown_paired : Paired (n + 3) opp' vtx'
  grown_paired = record { thirds = m; small = G.room; differ = differ'; mate = mate'; once = once' }
