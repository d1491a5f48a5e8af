-- R1 to R4 hold while faces are added. Assumes nothing.
use mathlib.Core.Path.{◌≡◌, refl, ap, sym, ◌∙◌}
use mathlib.Core.Logic.{◌≢◌, Ne-symm, ◌⊎◌, inl, inr}
use mathlib.Core.List.{List}
use Prim.Native.Nat.{ℕ, ◌+◌, ◌≤◌, ◌<◌, ◌%◌}
use native.Mathlib.Omega.{arith}
use native.Mathlib.Decide.{ℕ_discrete, dec_lt}
use lib.ListN.{length, get_or, set, length-set}
use lib.Seq.{get_or-set_same, get_or-set_other}
use Rattle.corner.specs.Corner.{next, previous, absent}
use Rattle.corner.proofs.Turns.{next_first, next_second, next_last, previous_first, previous_second, previous_last}
use Rattle.fan.proofs.Redirect.{at, at_same, at_other, Seen, set_seen}
use Rattle.table.specs.Slots.{with_pair}
use Rattle.builder_build.specs.Build.{SoFar, found, skip, grow}
use Rattle.builder_build.specs.Ready.{Same, Paired, Ready}
use Rattle.builder_build.proofs.Find.{Edge, Finding, none, some, finding}
use Rattle.builder_build.proofs.Grow.{New, grown_paired}
use Rattle.builder_build.proofs.Meet.{Link, bare, linked, Place, apart, met, meet_grown}

-- two writes that pair a with b
paired_seen : {o : List ℕ} {f : ℕ → ℕ} {x d : ℕ} (a b : ℕ) → Seen o f x d → Seen (with_pair o a b) (at b a (at a b f)) x d
paired_seen a b s = set_seen b a (set_seen a b s)

abbrev pub opp : SoFar → ℕ → ℕ
opp s d = get_or s.co d absent

abbrev pub vtx : SoFar → ℕ → ℕ
vtx s d = get_or s.cv d 0

abbrev pub corner : SoFar → ℕ → ℕ
corner s v = get_or s.vc v absent

-- which corner of the new face
pub data Trio (n k : ℕ) : Type 0 where
  one : k ≡ n → Trio n k
  two : k ≡ n + 1 → Trio n k
  three : k ≡ n + 2 → Trio n k

pub trio : (n k : ℕ) → New n k → Trio n k
trio n k w = pick (ℕ_discrete k n) (ℕ_discrete k (n + 1))
  where
    pick : Dec (k ≡ n) → Dec (k ≡ n + 1) → Trio n k
    pick (yes e) q = one e
    pick (no e) (yes q) = two q
    pick (no e) (no q) = three (omega (arith, w.low, w.high))

pub n_one : (n : ℕ) → New n n
n_one n = record { low = omega arith; high = omega arith }

pub n_two : (n : ℕ) → New n (n + 1)
n_two n = record { low = omega arith; high = omega arith }

pub n_three : (n : ℕ) → New n (n + 2)
n_three n = record { low = omega arith; high = omega arith }

-- three writes at different places
module _ (l : List ℕ) (i j k a b c x : ℕ) where
  abbrev trip : List ℕ
  trip = set (set (set l i a) j b) k c

  trip_other : (d : ℕ) → d ≢ i → d ≢ j → d ≢ k → get_or trip d x ≡ get_or l d x
  trip_other d p q r = get_or-set_other (set (set l i a) j b) k d c x r ∙ get_or-set_other (set l i a) j d b x q ∙ get_or-set_other l i d a x p

  trip_one : i < length l → i ≢ j → i ≢ k → get_or trip i x ≡ a
  trip_one h q r = get_or-set_other (set (set l i a) j b) k i c x r ∙ get_or-set_other (set l i a) j i b x q ∙ get_or-set_same l i a x h

  trip_two : j < length l → j ≢ k → get_or trip j x ≡ b
  trip_two h r = get_or-set_other (set (set l i a) j b) k j c x r ∙ get_or-set_same (set l i a) j b x (rw length-set h)

  trip_three : k < length l → get_or trip k x ≡ c
  trip_three h = get_or-set_same (set (set l i a) j b) k c x (simp length-set h)

-- the kept face
module _ (nv room vroom : ℕ) (s : SoFar) (R : Ready nv room vroom s) (a b c : ℕ) (ha : a < nv) (hb : b < nv) (hc : c < nv)
    (ab : a ≢ b) (bc : b ≢ c) (ca : c ≢ a) (t0 : found s b c ≡ absent) (t1 : found s c a ≡ absent) (t2 : found s a b ≡ absent)
    (fit : s.nc + 3 ≤ room) where
  abbrev n : ℕ
  n = s.nc

  abbrev g : SoFar
  g = grow s a b c

  thirds : n % 3 ≡ 0
  thirds = R.paired.thirds

  long : n + 2 < length s.cv
  long = omega (arith, R.cv_length)

  v_old : (d : ℕ) → d < n → vtx g d ≡ vtx s d
  unfolding grow
  v_old d h = trip_other s.cv n (n + 1) (n + 2) a b c 0 d (omega arith) (omega arith) (omega arith)

  v0 : vtx g n ≡ a
  unfolding grow
  v0 = trip_one s.cv n (n + 1) (n + 2) a b c 0 (omega (arith, long)) (omega arith) (omega arith)

  v1 : vtx g (n + 1) ≡ b
  unfolding grow
  v1 = trip_two s.cv n (n + 1) (n + 2) a b c 0 (omega (arith, long)) (omega arith)

  v2 : vtx g (n + 2) ≡ c
  unfolding grow
  v2 = trip_three s.cv n (n + 1) (n + 2) a b c 0 long

  next0 : next n ≡ n + 1
  next0 = next_first n thirds

  next1 : next (n + 1) ≡ n + 2
  next1 = omega (arith, next_second (n + 1) (omega (arith, thirds)))

  next2 : next (n + 2) ≡ n
  next2 = omega (arith, next_last (n + 2) (omega (arith, thirds)))

  prev0 : previous n ≡ n + 2
  prev0 = previous_first n thirds

  prev1 : previous (n + 1) ≡ n
  prev1 = omega (arith, previous_second (n + 1) (omega (arith, thirds)))

  prev2 : previous (n + 2) ≡ n + 1
  prev2 = omega (arith, previous_last (n + 2) (omega (arith, thirds)))

  -- the vertices after and before each new corner
  after_0 : vtx g (next n) ≡ b
  after_0 = ap (vtx g) next0 ∙ v1

  after_1 : vtx g (next (n + 1)) ≡ c
  after_1 = ap (vtx g) next1 ∙ v2

  after_2 : vtx g (next (n + 2)) ≡ a
  after_2 = ap (vtx g) next2 ∙ v0

  before_0 : vtx g (previous n) ≡ c
  before_0 = ap (vtx g) prev0 ∙ v2

  before_1 : vtx g (previous (n + 1)) ≡ a
  before_1 = ap (vtx g) prev1 ∙ v0

  before_2 : vtx g (previous (n + 2)) ≡ b
  before_2 = ap (vtx g) prev2 ∙ v1

  differs : (k : ℕ) → New n k → vtx g k ≢ vtx g (next k)
  differs k w e = pick (trio n k w)
    where
      pick : Trio n k → ⊥
      pick (one z) = ab (cc (v0, after_0))
      pick (two z) = bc (cc (v1, after_1))
      pick (three z) = ca (cc (v2, after_2))

  -- the search says of every old corner
  no_edge : (x y : ℕ) → found s x y ≡ absent → (d : ℕ) → d < n → Edge s.cv x y d → ⊥
  no_edge x y z d h e = pick (finding s.cv x y n 0)
    where
      pick : Finding s.cv x y n 0 (found s x y) → ⊥
      pick (none q all) = all d (omega arith) (omega arith) e
      pick (some p q r) = absurd (omega (arith, R.paired.small))

  free : (d k : ℕ) → d < n → New n k → Same (vtx s) (vtx g) d k → ⊥
  free d k h w e = pick (trio n k w)
    where
      pick : Trio n k → ⊥
      pick (one z) = no_edge b c t0 d h (record { tail = cc (after_0, e.tail); head = cc (before_0, e.head) })
      pick (two z) = no_edge c a t1 d h (record { tail = cc (after_1, e.tail); head = cc (before_1, e.head) })
      pick (three z) = no_edge a b t2 d h (record { tail = cc (after_2, e.tail); head = cc (before_2, e.head) })

  -- the corner found for a new corner
  o : ℕ → ℕ
  o k = found s (vtx g (previous k)) (vtx g (next k))

  link : (k : ℕ) → New n k → Link n (vtx s) (vtx g) k (o k)
  unfolding o
  link k w = pick (finding s.cv (vtx g (previous k)) (vtx g (next k)) n 0)
    where
      pick : Finding s.cv (vtx g (previous k)) (vtx g (next k)) n 0 (found s (vtx g (previous k)) (vtx g (next k))) → Link n (vtx s) (vtx g) k (found s (vtx g (previous k)) (vtx g (next k)))
      pick (none q all) = bare q (λ d h r. all d (omega arith) (omega arith) (record { tail = r.tail; head = r.head }))
      pick (some p q r) = linked (omega arith) (record { tail = r.tail; head = r.head })

  o0 : o n ≡ found s c b
  unfolding o
  o0 = rw (before_0, after_0)

  o1 : o (n + 1) ≡ found s a c
  unfolding o
  o1 = rw (before_1, after_1)

  o2 : o (n + 2) ≡ found s b a
  unfolding o
  o2 = rw (before_2, after_2)

  -- the opposites, as a function
  chain : ℕ → ℕ
  chain = at (o (n + 2)) (n + 2) (at (n + 2) (o (n + 2)) (at (o (n + 1)) (n + 1) (at (n + 1) (o (n + 1)) (at (o n) n (at n (o n) (opp s))))))

  seen : (d : ℕ) → d < room → opp g d ≡ chain d
  unfolding chain grow
  seen d h = rw (o0, o1, o2)
      (paired_seen (n + 2) (found s b a) (paired_seen (n + 1) (found s a c) (paired_seen {o = s.co} {f = opp s} {x = absent} {d = d} n (found s c b) (record { inside = rw R.co_length h; value = refl })))).value

  -- what is found is old, or absent
  o_old : (k j : ℕ) → New n k → New n j → j ≢ o k
  o_old k j w v e = pick (link k w)
    where
      pick : Link n (vtx s) (vtx g) k (o k) → ⊥
      pick (bare z all) = absurd (omega (arith, v.high, R.paired.small, R.most))
      pick (linked l r) = absurd (omega (arith, v.low))

  below_room : (k : ℕ) → New n k → k < room
  below_room k w = omega (arith, w.high)

  chain_new : (k : ℕ) → New n k → Trio n k → chain k ≡ o k
  unfolding chain
  chain_new k w (one z) = rw z
      (at_other _ _ _ n (o_old (n + 2) n (n_three n) (n_one n)) ∙ at_other _ _ _ n (omega arith)
      ∙ at_other _ _ _ n (o_old (n + 1) n (n_two n) (n_one n)) ∙ at_other _ _ _ n (omega arith)
      ∙ at_other _ _ _ n (o_old n n (n_one n) (n_one n)) ∙ at_same n (o n) (opp s))
  chain_new k w (two z) = rw z
      (at_other _ _ _ (n + 1) (o_old (n + 2) (n + 1) (n_three n) (n_two n)) ∙ at_other _ _ _ (n + 1) (omega arith)
      ∙ at_other _ _ _ (n + 1) (o_old (n + 1) (n + 1) (n_two n) (n_two n)) ∙ at_same (n + 1) (o (n + 1)) _)
  chain_new k w (three z) = rw z
      (at_other _ _ _ (n + 2) (o_old (n + 2) (n + 2) (n_three n) (n_three n)) ∙ at_same (n + 2) (o (n + 2)) _)

  at_new : (k : ℕ) → New n k → opp g k ≡ o k
  at_new k w = seen k (below_room k w) ∙ chain_new k w (trio n k w)

  at_old : (d : ℕ) → d < n → Place n (opp s) (opp g) o d
  unfolding chain
  at_old d h = pick (ℕ_discrete d (o (n + 2))) (ℕ_discrete d (o (n + 1))) (ℕ_discrete d (o n))
    where
      room' : d < room
      room' = omega arith

      pick : Dec (d ≡ o (n + 2)) → Dec (d ≡ o (n + 1)) → Dec (d ≡ o n) → Place n (opp s) (opp g) o d
      pick (yes z) q r = met (n + 2) (n_three n) z (seen d room' ∙ rw z (at_same (o (n + 2)) (n + 2) _))
      pick (no p) (yes z) r = met (n + 1) (n_two n) z
          (seen d room' ∙ at_other _ _ _ d p ∙ at_other _ _ _ d (omega arith) ∙ rw z (at_same (o (n + 1)) (n + 1) _))
      pick (no p) (no q) (yes z) = met n (n_one n) z
          (seen d room' ∙ at_other _ _ _ d p ∙ at_other _ _ _ d (omega arith) ∙ at_other _ _ _ d q ∙ at_other _ _ _ d (omega arith) ∙ rw z (at_same (o n) n _))
      pick (no p) (no q) (no r) = apart all
          (seen d room' ∙ at_other _ _ _ d p ∙ at_other _ _ _ d (omega arith) ∙ at_other _ _ _ d q ∙ at_other _ _ _ d (omega arith) ∙ at_other _ _ _ d r ∙ at_other _ _ _ d (omega arith))
        where
          all : (k : ℕ) → New n k → d ≢ o k
          all k w e = by (trio n k w)
            where
              by : Trio n k → ⊥
              by (one z) = r (e ∙ ap o z)
              by (two z) = q (e ∙ ap o z)
              by (three z) = p (e ∙ ap o z)

  paired' : Paired (n + 3) (opp g) (vtx g)
  paired' = grown_paired R.paired (meet_grown R.paired (omega (arith, R.most)) v_old differs free o link at_new at_old)

  data Which (d : ℕ) : Type 0 where
    was : d < n → Which d
    is : New n d → Which d

  which : (d : ℕ) → d < n + 3 → Which d
  which d h = by (dec_lt d n)
    where
      by : Dec (d < n) → Which d
      by (yes l) = was l
      by (no l) = is (record { low = omega arith; high = h })

  below' : (d : ℕ) → d < n + 3 → vtx g d < nv
  below' d h = by (which d h)
    where
      new : Trio n d → vtx g d < nv
      new (one z) = rw (z, v0) ha
      new (two z) = rw (z, v1) hb
      new (three z) = rw (z, v2) hc

      by : Which d → vtx g d < nv
      by (was l) = rw (v_old d l) (R.below d l)
      by (is w) = new (trio n d w)

  -- the vertices' corners
  vc_long : (v : ℕ) → v < nv → v < length s.vc
  vc_long v h = omega (arith, R.vc_length, R.vertices)

  corner_c : corner g c ≡ n + 2
  unfolding grow
  corner_c = trip_three s.vc a b c n (n + 1) (n + 2) absent (vc_long c hc)

  corner_b : corner g b ≡ n + 1
  unfolding grow
  corner_b = trip_two s.vc a b c n (n + 1) (n + 2) absent (vc_long b hb) bc

  corner_a : corner g a ≡ n
  unfolding grow
  corner_a = trip_one s.vc a b c n (n + 1) (n + 2) absent (vc_long a ha) ab (Ne-symm ca)

  corner_other : (v : ℕ) → v ≢ a → v ≢ b → v ≢ c → corner g v ≡ corner s v
  unfolding grow
  corner_other v p q r = trip_other s.vc a b c n (n + 1) (n + 2) absent v p q r

  data Who (v : ℕ) : Type 0 where
    is_a : v ≡ a → Who v
    is_b : v ≡ b → Who v
    is_c : v ≡ c → Who v
    other : corner g v ≡ corner s v → Who v

  who : (v : ℕ) → Who v
  who v = by (ℕ_discrete v a) (ℕ_discrete v b) (ℕ_discrete v c)
    where
      by : Dec (v ≡ a) → Dec (v ≡ b) → Dec (v ≡ c) → Who v
      by (yes z) q r = is_a z
      by (no p) (yes z) r = is_b z
      by (no p) (no q) (yes z) = is_c z
      by (no p) (no q) (no r) = other (corner_other v p q r)

  Home : ℕ → Type 0
  Home v = (corner g v ≡ absent) ⊎ ((corner g v < n + 3) × (vtx g (corner g v) ≡ v))

  home' : (v : ℕ) → Home v
  unfolding Home
  home' v = by (who v)
    where
      same : corner g v ≡ corner s v → (corner s v ≡ absent) ⊎ ((corner s v < n) × (vtx s (corner s v) ≡ v)) → Home v
      same e (inl z) = inl (e ∙ z)
      same e (inr q) = inr (rw e (omega (arith, q.0)), ap (vtx g) e ∙ v_old (corner s v) q.0 ∙ q.1)

      by : Who v → Home v
      by (is_a z) = inr (rw (z, corner_a) (omega arith), rw (z, corner_a) v0)
      by (is_b z) = inr (rw (z, corner_b) (omega arith), rw (z, corner_b) v1)
      by (is_c z) = inr (rw (z, corner_c) (omega arith), rw (z, corner_c) v2)
      by (other e) = same e (R.home v)

  few : n + 3 ≤ 4294967294
  few = omega (arith, R.most)

  has' : (d : ℕ) → d < n + 3 → corner g (vtx g d) ≢ absent
  has' d h e = by (which d h)
    where
      big : (x : ℕ) → x < n + 3 → x ≡ absent → ⊥
      big x l z = absurd (omega (arith, few))

      old : d < n → Who (vtx g d) → ⊥
      old l (is_a z) = big n (omega arith) (sym corner_a ∙ ap (corner g) (sym z) ∙ e)
      old l (is_b z) = big (n + 1) (omega arith) (sym corner_b ∙ ap (corner g) (sym z) ∙ e)
      old l (is_c z) = big (n + 2) (omega arith) (sym corner_c ∙ ap (corner g) (sym z) ∙ e)
      old l (other z) = R.has d l (ap (corner s) (sym (v_old d l)) ∙ sym z ∙ e)

      new : Trio n d → ⊥
      new (one z) = big n (omega arith) (sym corner_a ∙ ap (corner g) (sym v0 ∙ ap (vtx g) (sym z)) ∙ e)
      new (two z) = big (n + 1) (omega arith) (sym corner_b ∙ ap (corner g) (sym v1 ∙ ap (vtx g) (sym z)) ∙ e)
      new (three z) = big (n + 2) (omega arith) (sym corner_c ∙ ap (corner g) (sym v2 ∙ ap (vtx g) (sym z)) ∙ e)

      by : Which d → ⊥
      by (was l) = old l (who (vtx g d))
      by (is w) = new (trio n d w)

  pub grow_ready : Ready nv room vroom g
  unfolding grow Home
  grow_ready = record {
    cv_length = simp length-set R.cv_length;
    co_length = simp length-set R.co_length;
    vc_length = simp length-set R.vc_length;
    vertices = R.vertices;
    most = R.most;
    fits = fit;
    paired = paired';
    below = below';
    home = home';
    has = has';
  }

pub skip_ready : (nv room vroom : ℕ) (s : SoFar) → Ready nv room vroom s → Ready nv room vroom (skip s)
skip_ready nv room vroom s R = record {
  cv_length = R.cv_length;
  co_length = R.co_length;
  vc_length = R.vc_length;
  vertices = R.vertices;
  most = R.most;
  fits = R.fits;
  paired = R.paired;
  below = R.below;
  home = R.home;
  has = R.has;
}
