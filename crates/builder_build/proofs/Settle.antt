-- The duplicates: after the pass every vertex's corners lie in one fan, and R1 to R4 still hold. Assumes nothing.
use mathlib.Core.Path.{◌≡◌, refl, ap, sym, ◌∙◌, subst}
use mathlib.Core.Logic.{◌≢◌, ◌⊎◌, inl, inr}
use mathlib.Core.Bool.{Bool, true, false, cond, not, ◌&&◌, ◌||◌, false≢true, true≢false}
use mathlib.Core.List.{List, [], ◌∷◌, Memᴰ}
use Prim.Native.Nat.{ℕ, zero, suc, ◌+◌, ◌≤◌, ◌<◌}
use native.Mathlib.Omega.{arith}
use native.Mathlib.Decide.{ℕ_discrete}
use borrow.Author.Tests.{eqb-true, eqb-false, eq-eqb}
use lib.Dec.{eqb}
use lib.ListN.{length, get_or, length-set}
use lib.Seq.{get_or-set_same, get_or-set_other}
use Rattle.corner.specs.Corner.{absent}
use Rattle.fan.proofs.Fan.{Left, Conn, stay, conn_sym, conn_vertex, conn_live, Linked}
use Rattle.fan.proofs.Relabel.{length_relabel, relabel_in, relabel_out}
use Rattle.fan.proofs.Spread.{Settled, spread_linked, spread_new, spread_old}
use Rattle.fan.proofs.Visits.{Covers}
use Rattle.builder_build.specs.Build.{Shared, mem, give, outside, corners, vertices}

-- the Bool test of membership
pub mem_true : (d : ℕ) (l : List ℕ) → mem d l ≡ true → Memᴰ d l
mem_true d [] e = absurd (false≢true e)
mem_true d (x ∷ xs) e = by (eqb d x) refl e (λ h. mem_true d xs h)
  where
    by : (b : Bool) → eqb d x ≡ b → b || mem d xs ≡ true → (mem d xs ≡ true → Memᴰ d xs) → Memᴰ d (x ∷ xs)
    by true q h r = Memᴰ.head (eqb-true d x q)
    by false q h r = Memᴰ.tail (r h)

pub mem_false : (d : ℕ) (l : List ℕ) → mem d l ≡ false → Memᴰ d l → ⊥
mem_false d [] e x'' = elim x'' [ ]
mem_false d (x ∷ xs) e (Memᴰ.head q) = true≢false (sym (rw (eq-eqb d x q) refl) ∙ e)
mem_false d (x ∷ xs) e (Memᴰ.tail m) = by (eqb d x) e (λ h. mem_false d xs h m)
  where
    by : (b : Bool) → b || mem d xs ≡ false → (mem d xs ≡ false → ⊥) → ⊥
    by true h r = true≢false h
    by false h r = r h

abbrev pub vtx : Shared → ℕ → ℕ
vtx s d = get_or s.cv d 0

abbrev pub corner : Shared → ℕ → ℕ
corner s v = get_or s.vc v absent

-- what the pass keeps, for opposites that don't change
pub record Whole (nc room vroom : ℕ) (opp : ℕ → ℕ) (s : Shared) : Type 0 where
  pub cv_length : length s.cv ≡ room
  pub vc_length : length s.vc ≡ vroom
  pub linked : Linked (λ d. d < nc) opp (vtx s)
  pub below : (c : ℕ) → c < nc → vtx s c < s.nv
  pub home : (v : ℕ) → (corner s v ≡ absent) ⊎ ((corner s v < nc) × (vtx s (corner s v) ≡ v))
  pub has : (c : ℕ) → c < nc → corner s (vtx s c) ≢ absent

-- each ring is exactly the fan of its corner
abbrev pub Exact : (nc : ℕ) → (ℕ → ℕ) → (ℕ → List ℕ) → Type 0
Exact nc opp ring = (c : ℕ) → c < nc → Covers (λ d. d < nc) opp nc c (ring c)

-- the vertices of P are settled: each has one fan, that of its corner
abbrev pub SettledAt : (nc : ℕ) → (ℕ → ℕ) → (ℕ → Type 0) → Shared → Type 0
SettledAt nc opp P s = (u : ℕ) → P u → corner s u ≢ absent → Settled (λ d. d < nc) opp (vtx s) u (corner s u)

module _ (nc room vroom : ℕ) (opp : ℕ → ℕ) (ring : ℕ → List ℕ) (inside : nc ≤ room) (E : Exact nc opp ring) where
  abbrev Fan : ℕ → ℕ → Type 0
  Fan c d = Conn (Left (λ x. x < nc) opp) c d

  abbrev Keeps : Shared → Type 0
  Keeps s = Whole nc room vroom opp s

  in-fan? : (c : ℕ) → c < nc → (d : ℕ) → Dec (Fan c d)
  in-fan? c h d = by (mem d (ring c)) refl
    where
      by : (b : Bool) → mem d (ring c) ≡ b → Dec (Fan c d)
      by true e = yes ((E c h).from d (mem_true d (ring c) e))
      by false e = no (λ q. mem_false d (ring c) e ((E c h).to d q))

  -- a new vertex takes the fan of c, a corner of v outside the fan of v's corner
  module _ (v c : ℕ) (s : Shared) (W : Keeps s) (fits : s.nv < vroom) (hc : c < nc) (of : vtx s c ≡ v) (out : ¬ Fan (corner s v) c) where
    abbrev u : ℕ
    u = s.nv

    abbrev g : Shared
    g = give ring v c s

    fresh : (d : ℕ) → d < nc → vtx s d ≢ u
    fresh d h e = absurd (omega (arith, W.below d h))

    yes' : (d : ℕ) → Fan c d → vtx g d ≡ u
    unfolding give
    yes' d q = relabel_in (ring c) u s.cv d 0 (omega (arith, W.cv_length, conn_live W.linked hc q)) ((E c hc).to d q)

    no' : (d : ℕ) → d < nc → ¬ Fan c d → vtx g d ≡ vtx s d
    unfolding give
    no' d h q = relabel_out (ring c) u s.cv d 0 (λ m. q ((E c hc).from d m))

    corner_new : corner g u ≡ c
    unfolding give
    corner_new = get_or-set_same s.vc u c absent (omega (arith, W.vc_length))

    corner_old : (w : ℕ) → w ≢ u → corner g w ≡ corner s w
    unfolding give
    corner_old w n = get_or-set_other s.vc u w c absent n

    linked' : Linked (λ d. d < nc) opp (vtx g)
    linked' = spread_linked W.linked c u hc (in-fan? c hc) fresh yes' no'

    nv_is : g.nv ≡ u + 1
    unfolding give
    nv_is = refl

    below' : (d : ℕ) → d < nc → vtx g d < g.nv
    below' d h = by (in-fan? c hc d)
      where
        by : Dec (Fan c d) → vtx g d < g.nv
        by (yes q) = rw (yes' d q, nv_is) (omega arith)
        by (no q) = rw (no' d h q, nv_is) (omega (arith, W.below d h))

    absent_not : (d : ℕ) → d < nc → d ≢ absent
    absent_not d h = W.linked.present d h

    home' : (w : ℕ) → (corner g w ≡ absent) ⊎ ((corner g w < nc) × (vtx g (corner g w) ≡ w))
    home' w = by (ℕ_discrete w u)
      where
        old : w ≢ u → (corner s w ≡ absent) ⊎ ((corner s w < nc) × (vtx s (corner s w) ≡ w)) → (corner g w ≡ absent) ⊎ ((corner g w < nc) × (vtx g (corner g w) ≡ w))
        old n (inl z) = inl (corner_old w n ∙ z)
        old n (inr q) = inr (rw (corner_old w n) q.0, ap (vtx g) (corner_old w n) ∙ no' (corner s w) q.0 away ∙ q.1)
          where
            -- in the fan of c it would be v's corner
            away : ¬ Fan c (corner s w)
            away f =
                let e : v ≡ w = sym of ∙ sym (conn_vertex W.linked f) ∙ q.1 in
                out (conn_sym (subst (λ (x : ℕ). Fan c (corner s x)) (sym e) f))

        by : Dec (w ≡ u) → (corner g w ≡ absent) ⊎ ((corner g w < nc) × (vtx g (corner g w) ≡ w))
        by (yes e) = inr (rw (e, corner_new) hc, rw (e, corner_new) (yes' c stay))
        by (no n) = old n (W.home w)

    has' : (d : ℕ) → d < nc → corner g (vtx g d) ≢ absent
    has' d h e = by (in-fan? c hc d)
      where
        by : Dec (Fan c d) → ⊥
        by (yes q) = absent_not c hc (sym corner_new ∙ ap (corner g) (sym (yes' d q)) ∙ e)
        by (no q) = W.has d h (sym (corner_old (vtx s d) (fresh d h)) ∙ ap (corner g) (sym (no' d h q)) ∙ e)

    give_whole : Keeps g
    unfolding give
    give_whole = record {
      cv_length = length_relabel (ring c) u s.cv ∙ W.cv_length;
      vc_length = length-set s.vc u c ∙ W.vc_length;
      linked = linked';
      below = below';
      home = home';
      has = has';
    }

    give_settled : (P : ℕ → Type 0) → SettledAt nc opp P s → SettledAt nc opp P g
    give_settled P S w p t = by (ℕ_discrete w u)
      where
        by : Dec (w ≡ u) → Settled (λ d. d < nc) opp (vtx g) w (corner g w)
        by (yes e) = rw (e, corner_new) (spread_new W.linked c u hc (in-fan? c hc) fresh yes' no')
        by (no n) = rw (corner_old w n)
            (spread_old W.linked c u hc (in-fan? c hc) fresh yes' no' w (corner s w) (S w p (λ z. t (corner_old w n ∙ z))) n)

  -- ---- the scan of one vertex v

  -- the corners below c that are still v's lie in the fan of v's corner
  abbrev Scanned : ℕ → ℕ → Shared → Type 0
  Scanned v c s = (d : ℕ) → d < c → vtx s d ≡ v → Fan (corner s v) d

  module _ (P : ℕ → Type 0) (v : ℕ) where
    pub record Scan (c : ℕ) (s : Shared) : Type 0 where
      pub whole : Keeps s
      pub settled : SettledAt nc opp P s
      pub low : v < s.nv
      pub present : corner s v ≢ absent
      pub scanned : Scanned v c s

    suc_scanned : (c : ℕ) (s : Shared) → Scanned v c s → (vtx s c ≡ v → Fan (corner s v) c) → Scanned v (suc c) s
    suc_scanned c s S here d h e = by (ℕ_discrete d c)
      where
        by : Dec (d ≡ c) → Fan (corner s v) d
        by (yes z) = rw z (here (ap (vtx s) (sym z) ∙ e))
        by (no n) = S d (omega arith) e

    scan_give : (c : ℕ) (s : Shared) → c < nc → s.nv < vroom → Scan c s → vtx s c ≡ v → ¬ Fan (corner s v) c → Scan (suc c) (give ring v c s)
    scan_give c s hc fits K of out = record {
      whole = give_whole v c s K.whole fits hc of out;
      settled = give_settled v c s K.whole fits hc of out P K.settled;
      low = rw (nv_is v c s K.whole fits hc of out) (omega (arith, K.low));
      present = λ z. K.present (sym (corner_old v c s K.whole fits hc of out v low') ∙ z);
      scanned = suc_scanned c (give ring v c s) below (λ z. absurd (low' (sym z ∙ yes' v c s K.whole fits hc of out c stay)));
    }
      where
        low' : v ≢ s.nv
        low' e = absurd (omega (arith, K.low))

        below : Scanned v c (give ring v c s)
        below d h e = by (in-fan? c hc d)
          where
            by : Dec (Fan c d) → Fan (corner (give ring v c s) v) d
            by (yes q) = absurd (low' (sym e ∙ yes' v c s K.whole fits hc of out d q))
            by (no q) = rw (corner_old v c s K.whole fits hc of out v low')
                (K.scanned d h (sym (no' v c s K.whole fits hc of out d (omega arith) q) ∙ e))

    scan_skip : (c : ℕ) (s : Shared) → Scan c s → (vtx s c ≡ v → Fan (corner s v) c) → Scan (suc c) s
    scan_skip c s K here = record { whole = K.whole; settled = K.settled; low = K.low; present = K.present; scanned = suc_scanned c s K.scanned here }

    -- as long as there is room
    abbrev Fits : (Shared → Type 0) → Shared → Type 0
    Fits Q s = s.nv ≤ vroom → Q s

    corner_in : (s : Shared) → Keeps s → corner s v ≢ absent → corner s v < nc
    corner_in s W p = by (W.home v)
      where
        by : (corner s v ≡ absent) ⊎ ((corner s v < nc) × (vtx s (corner s v) ≡ v)) → corner s v < nc
        by (inl z) = absurd (p z)
        by (inr q) = q.0

    left_false : (c : ℕ) (s : Shared) → Scan c s → outside ring v c s ≡ false → vtx s c ≡ v → Fan (corner s v) c
    unfolding outside
    left_false c s K e of = by (mem c (ring (corner s v))) refl
      where
        by : (b : Bool) → mem c (ring (corner s v)) ≡ b → Fan (corner s v) c
        by true q = (E (corner s v) (corner_in s K.whole K.present)).from c (mem_true c (ring (corner s v)) q)
        by false q = absurd (true≢false (sym (rw (eq-eqb _ _ of, q) refl) ∙ e))

    record LeftOf (c : ℕ) (s : Shared) : Type 0 where
      of : vtx s c ≡ v
      out : mem c (ring (corner s v)) ≡ false

    left_true : (c : ℕ) (s : Shared) → outside ring v c s ≡ true → LeftOf c s
    unfolding outside
    left_true c s e = by (eqb (vtx s c) v) (mem c (ring (corner s v))) refl refl e
      where
        by : (a b : Bool) → eqb (vtx s c) v ≡ a → mem c (ring (corner s v)) ≡ b → a && not b ≡ true → LeftOf c s
        by true true p q h = absurd (false≢true h)
        by true false p q h = record { of = eqb-true _ _ p; out = q }
        by false b p q h = absurd (false≢true h)

    give_nv : (c : ℕ) (s : Shared) → (give ring v c s).nv ≡ s.nv + 1
    unfolding give
    give_nv c s = refl

    scan_step : (c : ℕ) (s : Shared) → c < nc → Fits (Scan c) s → Fits (Scan (suc c)) (cond (outside ring v c s) (give ring v c s) s)
    scan_step c s hc K = by (outside ring v c s) refl
      where
        by : (b : Bool) → outside ring v c s ≡ b → Fits (Scan (suc c)) (cond b (give ring v c s) s)
        by true e r =
            let l : LeftOf c s = left_true c s e in
            let m : s.nv + 1 ≤ vroom = rw (give_nv c s) at r in
            let k : Scan c s = K (omega arith) in
            scan_give c s hc (omega arith) k l.of (λ f. mem_false c (ring (corner s v)) l.out ((E (corner s v) (corner_in s k.whole k.present)).to c f))
        by false e r = scan_skip c s (K r) (left_false c s (K r) e)

    scan_all : (k c : ℕ) (s : Shared) → c + k ≡ nc → Fits (Scan c) s → Fits (Scan nc) (corners ring v k c s)
    unfolding corners
    scan_all zero c s e K = let z : c ≡ nc = omega arith in subst (λ (x : ℕ). Fits (Scan x) s) z K
    scan_all (suc k) c s e K = scan_all k (suc c) (cond (outside ring v c s) (give ring v c s) s) (omega arith) (scan_step c s (omega arith) K)

  -- ---- all vertices

  -- the vertices below v, and those made since there were n₀, are settled
  pub data Past (n₀ v u : ℕ) : Type 0 where
    early : u < v → Past n₀ v u
    late : n₀ ≤ u → Past n₀ v u

  pub record Pass (n₀ v : ℕ) (s : Shared) : Type 0 where
    pub whole : Keeps s
    pub settled : SettledAt nc opp (Past n₀ v) s
    pub grown : n₀ ≤ s.nv

  late_settled : (n₀ v : ℕ) (s : Shared) → SettledAt nc opp (Past n₀ v) s → (corner s v ≢ absent → Settled (λ d. d < nc) opp (vtx s) v (corner s v)) → SettledAt nc opp (Past n₀ (suc v)) s
  late_settled n₀ v s S here u (late h) t = S u (late h) t
  late_settled n₀ v s S here u (early h) t = by (ℕ_discrete u v)
    where
      by : Dec (u ≡ v) → Settled (λ d. d < nc) opp (vtx s) u (corner s u)
      by (yes e) = rw e (here (subst (λ (x : ℕ). corner s x ≢ absent) e t))
      by (no n) = S u (early (omega arith)) t

  step_grows : (v c : ℕ) (s : Shared) (b : Bool) → s.nv ≤ (cond b (give ring v c s) s).nv
  unfolding give
  step_grows v c s true = omega arith
  step_grows v c s false = omega arith

  corners_grow : (v k c : ℕ) (s : Shared) → s.nv ≤ (corners ring v k c s).nv
  unfolding corners
  corners_grow v zero c s = omega arith
  corners_grow v (suc k) c s =
      omega (arith, step_grows v c s (outside ring v c s), corners_grow v k (suc c) (cond (outside ring v c s) (give ring v c s) s))

  pass_one : (n₀ v : ℕ) (s : Shared) → v < n₀ → (s.nv ≤ vroom → Pass n₀ v s)
      → (t : Shared) → t ≡ cond (eqb (corner s v) absent) s (corners ring v nc 0 s) → t.nv ≤ vroom → Pass n₀ (suc v) t
  unfolding Settled
  pass_one n₀ v s h K t q = by (eqb (corner s v) absent) refl q
    where
      by : (b : Bool) → eqb (corner s v) absent ≡ b → t ≡ cond b s (corners ring v nc 0 s) → t.nv ≤ vroom → Pass n₀ (suc v) t
      by true e z r =
          let r' : s.nv ≤ vroom = rw z at r in
          let k : Pass n₀ v s = K r' in
          rw z (record { whole = k.whole; settled = late_settled n₀ v s k.settled (λ p. absurd (p (eqb-true _ _ e))); grown = k.grown })
      by false e z r =
          let r' : (corners ring v nc 0 s).nv ≤ vroom = rw z at r in
          let m : s.nv ≤ (corners ring v nc 0 s).nv = corners_grow v nc 0 s in
          let k : Pass n₀ v s = K (omega arith) in
          let f : Scan (Past n₀ v) v nc (corners ring v nc 0 s) = scan_all (Past n₀ v) v nc 0 s (omega arith) (λ _. start k) r' in
          rw z (record { whole = f.whole; settled = late_settled n₀ v (corners ring v nc 0 s) f.settled (λ p d l o. f.scanned d l o); grown = omega (arith, k.grown) })
        where
          start : Pass n₀ v s → Scan (Past n₀ v) v 0 s
          start k = record { whole = k.whole; settled = k.settled; low = omega (arith, k.grown); present = eqb-false _ _ e; scanned = λ d l. absurd (omega arith) }

  pub pass_all : (n₀ k v : ℕ) (s : Shared) → v + k ≡ n₀ → (s.nv ≤ vroom → Pass n₀ v s) → (vertices ring nc k v s).nv ≤ vroom → Pass n₀ n₀ (vertices ring nc k v s)
  unfolding vertices
  pass_all n₀ zero v s e K = let z : v ≡ n₀ = omega arith in subst (λ (x : ℕ). s.nv ≤ vroom → Pass n₀ x s) z K
  pass_all n₀ (suc k) v s e K = pass_all n₀ k (suc v) (cond (eqb (corner s v) absent) s (corners ring v nc 0 s)) (omega arith) (pass_one n₀ v s (omega arith) K _ refl)
