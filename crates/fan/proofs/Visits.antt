-- What the ring walk of a live corner visits: the corner, those that swings to the left reach and, past a border, those that swings
-- to the right reach. They are exactly its fan, none twice. Assumes nothing.
use mathlib.Core.Path.{◌≡◌, refl, ap, sym, ◌∙◌, subst}
use mathlib.Core.Logic.{◌≢◌, ◌⊎◌, inl, inr}
use mathlib.Core.List.Memᴰ
use mathlib.Core.List.{List, [], ◌∷◌, ◌++◌, Memᴰ}
use Prim.Native.Nat.{ℕ, zero, suc, ◌+◌, ◌-◌, ◌≤◌, ◌<◌}
use native.Mathlib.Omega.{arith}
use native.Mathlib.Decide.{ℕ_discrete, dec_lt, dec_le}
use lib.ListN.{length, length-append}
use Rattle.fan.specs.Visits.{Distinct}
use Rattle.fan.proofs.Fan.{swing_l, swing_r, Left, Conn, stay, fore, back, Linked, OneFan, conn_live, conn_vertex, left_step, right_step}
use Rattle.fan.proofs.Pigeon.{Clash, pigeon}
use Rattle.fan.proofs.Walk.{it, Walk, walk}
use Rattle.fan.proofs.Ring.{stuck_l, stuck_r, On, lefts, rights, closed_cover, open_cover, open_apart}

-- g (i + 1), .., g (i + k)
abbrev pub after : (ℕ → ℕ) → ℕ → ℕ → List ℕ
after g i zero = []
after g i (suc k) = g (suc i) ∷ after g (suc i) k

pub length_after : (g : ℕ → ℕ) (i k : ℕ) → length (after g i k) ≡ k
length_after g i zero = refl
length_after g i (suc k) = ap suc (length_after g (suc i) k)

pub after_mem : (g : ℕ → ℕ) (i k j d : ℕ) → i < j → j ≤ i + k → g j ≡ d → Memᴰ d (after g i k)
after_mem g i zero j d a b e = absurd (omega arith)
after_mem g i (suc k) j d a b e = go (ℕ_discrete j (suc i)) (λ n. after_mem g (suc i) k j d (omega arith) (omega arith) e)
  where
    go : Dec (j ≡ suc i) → (j ≢ suc i → Memᴰ d (after g (suc i) k)) → Memᴰ d (g (suc i) ∷ after g (suc i) k)
    go (yes z) r = Memᴰ.head (sym e ∙ ap g z)
    go (no n) r = Memᴰ.tail (r n)

pub record Within (g : ℕ → ℕ) (i k d : ℕ) : Type 0 where
  pub place : ℕ
  pub low : i < place
  pub high : place ≤ i + k
  pub there : g place ≡ d

pub mem_after : (g : ℕ → ℕ) (i k d : ℕ) → Memᴰ d (after g i k) → Within g i k d
mem_after g i zero d m = elim m [ ]
mem_after g i (suc k) d (Memᴰ.head e) = record { place = suc i; low = omega arith; high = omega arith; there = sym e }
mem_after g i (suc k) d (Memᴰ.tail m) =
    let w : Within g (suc i) k d = mem_after g (suc i) k d m in
    record { place = w.place; low = omega (arith, w.low); high = omega (arith, w.high); there = w.there }

pub after_distinct : (g : ℕ → ℕ) (i k : ℕ) → ((a b : ℕ) → a < b → b ≤ i + k → g a ≢ g b) → Distinct (after g i k)
after_distinct g i zero h = tt
after_distinct g i (suc k) h = (first, after_distinct g (suc i) k (λ a b l m. h a b l (omega arith)))
  where
    first : ¬ Memᴰ (g (suc i)) (after g (suc i) k)
    first m = let w : Within g (suc i) k (g (suc i)) = mem_after g (suc i) k (g (suc i)) m in
        h (suc i) w.place w.low (omega (arith, w.high)) (sym w.there)

pub distinct_append : (l m : List ℕ) → Distinct l → Distinct m → ((d : ℕ) → Memᴰ d l → Memᴰ d m → ⊥) → Distinct (l ++ m)
distinct_append [] m a b h = b
distinct_append (x ∷ l) m a b h = (first, distinct_append l m a.1 b (λ d p q. h d (Memᴰ.tail p) q))
  where
    first : ¬ Memᴰ x (l ++ m)
    first p = go (Memᴰ.append_cases l p)
      where
        go : Memᴰ x l ⊎ Memᴰ x m → ⊥
        go (inl q) = a.0 q
        go (inr q) = h x (Memᴰ.head refl) q

-- distinct numbers below n are at most n
pub crowd : (m n : ℕ) (g : ℕ → ℕ) → ((i : ℕ) → i ≤ m → g i < n) → ((i j : ℕ) → i < j → j ≤ m → g i ≢ g j) → m < n
crowd m n g b a = go (dec_lt m n)
  where
    go : Dec (m < n) → m < n
    go (yes h) = h
    go (no h) =
        let k : Clash g n = pigeon n g (λ i l. b i (omega arith)) in
        absurd (a k.low k.high k.less (omega (arith, k.within)) k.same)

-- at most n numbers, none twice, and exactly the fan of c
pub record Covers (live : ℕ → Type 0) (opp : ℕ → ℕ) (n c : ℕ) (l : List ℕ) : Type 0 where
  pub bound : length l ≤ n
  pub distinct : Distinct l
  pub from : (d : ℕ) → Memᴰ d l → Conn (Left live opp) c d
  pub to : (d : ℕ) → Conn (Left live opp) c d → Memᴰ d l

-- with one fan to a vertex: exactly the live corners of the vertex of c
pub record Sound (live : ℕ → Type 0) (vtx : ℕ → ℕ) (n c : ℕ) (l : List ℕ) : Type 0 where
  pub bound : length l ≤ n
  pub distinct : Distinct l
  pub from : (d : ℕ) → Memᴰ d l → live d × (vtx d ≡ vtx c)
  pub to : (d : ℕ) → live d → vtx d ≡ vtx c → Memᴰ d l

module _ {live : ℕ → Type 0} {opp vtx : ℕ → ℕ} (L : Linked live opp vtx) (n : ℕ) (below : (d : ℕ) → live d → d < n)
    (c : ℕ) (start : live c) where
  pub w : Walk live (stuck_l opp) (swing_l opp) n c
  w = walk (lefts L n below) c start

  pub v : Walk live (stuck_r opp) (swing_r opp) n c
  v = walk (rights L n below) c start

  pub left_conn : (i : ℕ) → i ≤ w.last → Conn (Left live opp) c (it (swing_l opp) c i)
  left_conn zero h = stay
  left_conn (suc i) h = fore (left_conn i (omega arith)) (left_step L (it (swing_l opp) c i) (w.lives i (omega arith)) (w.moves i h))

  pub right_conn : (i : ℕ) → i ≤ v.last → Conn (Left live opp) c (it (swing_r opp) c i)
  right_conn zero h = stay
  right_conn (suc i) h = back (right_conn i (omega arith)) (right_step L (it (swing_r opp) c i) (v.lives i (omega arith)) (v.moves i h))

  -- those to the left of c, and those to its right
  unfoldable pub leftward : List ℕ
  leftward = after (it (swing_l opp) c) 0 w.last

  unfoldable pub rightward : List ℕ
  rightward = after (it (swing_r opp) c) 0 v.last

  left_mem : (j d : ℕ) → j ≤ w.last → it (swing_l opp) c j ≡ d → Memᴰ d (c ∷ leftward)
  unfolding leftward
  left_mem zero d h e = Memᴰ.head (sym e)
  left_mem (suc j) d h e = Memᴰ.tail (after_mem (it (swing_l opp) c) 0 w.last (suc j) d (omega arith) (omega arith) e)

  mem_left : (d : ℕ) → Memᴰ d (c ∷ leftward) → On (swing_l opp) c w.last d
  unfolding leftward
  mem_left d (Memᴰ.head e) = record { place = 0; within = omega arith; there = sym e }
  mem_left d (Memᴰ.tail m) =
      let q : Within (it (swing_l opp) c) 0 w.last d = mem_after (it (swing_l opp) c) 0 w.last d m in
      record { place = q.place; within = omega (arith, q.high); there = q.there }

  left_from : (d : ℕ) → Memᴰ d (c ∷ leftward) → Conn (Left live opp) c d
  left_from d m =
      let o : On (swing_l opp) c w.last d = mem_left d m in
      subst (λ (x : ℕ). Conn (Left live opp) c x) o.there (left_conn o.place o.within)

  left_distinct : Distinct (c ∷ leftward)
  unfolding leftward
  left_distinct = (first, after_distinct (it (swing_l opp) c) 0 w.last (λ a b l h. w.apart a b l (omega arith)))
    where
      first : ¬ Memᴰ c (after (it (swing_l opp) c) 0 w.last)
      first m = let q : Within (it (swing_l opp) c) 0 w.last c = mem_after (it (swing_l opp) c) 0 w.last c m in
          w.apart 0 q.place q.low (omega (arith, q.high)) (sym q.there)

  -- a closed ring
  pub ring_covers : ¬ stuck_l opp (it (swing_l opp) c w.last) → swing_l opp (it (swing_l opp) c w.last) ≡ c → Covers live opp n c (c ∷ leftward)
  unfolding leftward
  ring_covers s e =
      record {
        bound = rw length_after w.small;
        distinct = left_distinct;
        from = left_from;
        to = λ d a. let o : On (swing_l opp) c w.last d = closed_cover L n below c start w s e d a in left_mem o.place d o.within o.there;
      }

  module _ (ends : stuck_l opp (it (swing_l opp) c w.last)) where
    -- the two parts one after the other
    pick : (i : ℕ) → Dec (i ≤ w.last) → ℕ
    pick i (yes h) = it (swing_l opp) c i
    pick i (no h) = it (swing_r opp) c (i - w.last)

    row : ℕ → ℕ
    row i = pick i (dec_le i w.last)

    pub total : w.last + v.last < n
    unfolding row pick
    total = crowd (w.last + v.last) n row low apart
      where
        low' : (i : ℕ) → i ≤ w.last + v.last → (x : Dec (i ≤ w.last)) → pick i x < n
        low' i h (yes a) = below (it (swing_l opp) c i) (w.lives i a)
        low' i h (no a) = below (it (swing_r opp) c (i - w.last)) (v.lives (i - w.last) (omega arith))

        low : (i : ℕ) → i ≤ w.last + v.last → row i < n
        low i h = low' i h (dec_le i w.last)

        cross : (i j : ℕ) → i ≤ w.last → 0 < j → j ≤ v.last → it (swing_l opp) c i ≢ it (swing_r opp) c j
        cross i zero a b h = absurd (omega arith)
        cross i (suc j) a b h = open_apart L n below c start w ends v j i h a

        apart' : (i j : ℕ) → i < j → j ≤ w.last + v.last → (x : Dec (i ≤ w.last)) (y : Dec (j ≤ w.last)) → pick i x ≢ pick j y
        apart' i j l h (yes a) (yes b) = w.apart i j l b
        apart' i j l h (yes a) (no b) = cross i (j - w.last) a (omega arith) (omega arith)
        apart' i j l h (no a) (yes b) = λ z. absurd (omega arith)
        apart' i j l h (no a) (no b) = v.apart (i - w.last) (j - w.last) (omega arith) (omega arith)

        apart : (i j : ℕ) → i < j → j ≤ w.last + v.last → row i ≢ row j
        apart i j l h = apart' i j l h (dec_le i w.last) (dec_le j w.last)

    -- an open fan: the left part, then the right part
    pub fan_covers : Covers live opp n c ((c ∷ leftward) ++ rightward)
    unfolding leftward rightward
    fan_covers =
        record {
          bound = simp (length-append, length_after) (omega (arith, total));
          distinct = distinct_append (c ∷ leftward) rightward left_distinct right_distinct apart;
          from = from;
          to = to;
        }
      where
        right : (d : ℕ) → Memᴰ d rightward → Within (it (swing_r opp) c) 0 v.last d
        right d m = mem_after (it (swing_r opp) c) 0 v.last d m

        right_distinct : Distinct rightward
        right_distinct = after_distinct (it (swing_r opp) c) 0 v.last (λ a b l h. v.apart a b l (omega arith))

        cross : (i j d : ℕ) → i ≤ w.last → 0 < j → j ≤ v.last → it (swing_l opp) c i ≡ d → it (swing_r opp) c j ≡ d → ⊥
        cross i zero d a b h p q = absurd (omega arith)
        cross i (suc j) d a b h p q = open_apart L n below c start w ends v j i h a (p ∙ sym q)

        apart : (d : ℕ) → Memᴰ d (c ∷ leftward) → Memᴰ d rightward → ⊥
        apart d p q =
            let o : On (swing_l opp) c w.last d = mem_left d p in
            let r : Within (it (swing_r opp) c) 0 v.last d = right d q in
            cross o.place r.place d o.within r.low (omega (arith, r.high)) o.there r.there

        from : (d : ℕ) → Memᴰ d ((c ∷ leftward) ++ rightward) → Conn (Left live opp) c d
        from d m = go (Memᴰ.append_cases (c ∷ leftward) m)
          where
            go : Memᴰ d (c ∷ leftward) ⊎ Memᴰ d rightward → Conn (Left live opp) c d
            go (inl a) = left_from d a
            go (inr a) = let r = right d a in subst (λ (x : ℕ). Conn (Left live opp) c x) r.there (right_conn r.place (omega (arith, r.high)))

        to : (d : ℕ) → Conn (Left live opp) c d → Memᴰ d ((c ∷ leftward) ++ rightward)
        to d a = go (open_cover L n below c start w ends v d a)
          where
            on_r : (j : ℕ) → j ≤ v.last → it (swing_r opp) c j ≡ d → Memᴰ d ((c ∷ leftward) ++ rightward)
            on_r zero b e = Memᴰ.head (sym e)
            on_r (suc j) b e = Memᴰ.append_right (c ∷ leftward) (after_mem (it (swing_r opp) c) 0 v.last (suc j) d (omega arith) (omega arith) e)

            go : On (swing_l opp) c w.last d ⊎ On (swing_r opp) c v.last d → Memᴰ d ((c ∷ leftward) ++ rightward)
            go (inl o) = Memᴰ.append_left rightward (left_mem o.place d o.within o.there)
            go (inr o) = on_r o.place o.within o.there

  -- exactly the fan is exactly the live corners of the vertex, where the vertex has one fan
  pub covers_sound : OneFan live opp vtx → (l : List ℕ) → Covers live opp n c l → Sound live vtx n c l
  unfolding OneFan
  covers_sound F l k =
      record {
        bound = k.bound;
        distinct = k.distinct;
        from = λ d m. (conn_live L start (k.from d m), conn_vertex L (k.from d m));
        to = λ d h e. k.to d (F c d start h (sym e));
      }
