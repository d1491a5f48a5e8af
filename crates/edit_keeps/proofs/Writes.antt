-- A chain of writes seen as a chain of changed functions. Assumes nothing.
use mathlib.Core.Path.{◌≡◌, refl, sym, subst, ◌∙◌}
use mathlib.Core.Logic.{◌≢◌}
use mathlib.Core.List.{List}
use Prim.Native.Nat.{ℕ, ◌+◌, ◌*◌, ◌≤◌, ◌<◌}
use native.Mathlib.Omega.{arith}
use native.Mathlib.Decide.{ℕ_discrete, dec_lt}
use lib.Ieee.{Float}
use lib.ListN.{length, get_or, set, length-set, get_or-eq_default}
use lib.Seq.{get_or-set_same, get_or-set_other}
use Rattle.vertex.specs.declared.Point.{Point}
use Rattle.table.specs.Slots.{mark_at, nought, point_at, with_point, with_pair, three}
use Rattle.fan.proofs.Redirect.{at, at_other, at_ind, Seen, set_seen, set_at}
use Rattle.edit_plans.specs.Plans.{six}

pub paired_seen : {o : List ℕ} {f : ℕ → ℕ} {x d : ℕ} (a b : ℕ) → Seen o f x d → Seen (with_pair o a b) (at b a (at a b f)) x d
paired_seen a b s = set_seen b a (set_seen a b s)

-- six slots written at the end
abbrev pub push6 : List ℕ → (n a b c d e f : ℕ) → List ℕ
push6 l n a b c d e f = set (set (set (set (set (set l n a) (n + 1) b) (n + 2) c) (n + 3) d) (n + 4) e) (n + 5) f

pub six_push6 : (l : List ℕ) (n a b c d e f : ℕ) → six l n a b c d e f ≡ push6 l n a b c d e f
six_push6 l n a b c d e f =
    let p : n + 3 + 1 ≡ n + 4 = omega arith in
    let q : n + 3 + 2 ≡ n + 5 = omega arith in
    rw (p, q)

pub push6_seen : {l : List ℕ} {g : ℕ → ℕ} {x k : ℕ} (n a b c d e f : ℕ) → Seen l g x k
    → Seen (push6 l n a b c d e f) (at (n + 5) f (at (n + 4) e (at (n + 3) d (at (n + 2) c (at (n + 1) b (at n a g)))))) x k
push6_seen n a b c d e f s =
    set_seen (n + 5) f (set_seen (n + 4) e (set_seen (n + 3) d (set_seen (n + 2) c (set_seen (n + 1) b (set_seen n a s)))))

pub push6_old : (n a b c d e f : ℕ) (g : ℕ → ℕ) (k : ℕ) → k < n → at (n + 5) f (at (n + 4) e (at (n + 3) d (at (n + 2) c (at (n + 1) b (at n a g))))) k ≡ g k
push6_old n a b c d e f g k h =
    at_other _ _ _ _ (omega arith) ∙ at_other _ _ _ _ (omega arith) ∙ at_other _ _ _ _ (omega arith)
    ∙ at_other _ _ _ _ (omega arith) ∙ at_other _ _ _ _ (omega arith) ∙ at_other _ _ _ _ (omega arith)

-- three slots written at the end
pub three_seen : {l : List ℕ} {g : ℕ → ℕ} {x k : ℕ} (n a b c : ℕ) → Seen l g x k → Seen (three l n a b c) (at (n + 2) c (at (n + 1) b (at n a g))) x k
three_seen n a b c s = set_seen (n + 2) c (set_seen (n + 1) b (set_seen n a s))

pub three_old : (n a b c : ℕ) (g : ℕ → ℕ) (k : ℕ) → k < n → at (n + 2) c (at (n + 1) b (at n a g)) k ≡ g k
three_old n a b c g k h = at_other _ _ _ _ (omega arith) ∙ at_other _ _ _ _ (omega arith) ∙ at_other _ _ _ _ (omega arith)

pub in_three : (Q : ℕ → Type 0) (n : ℕ) → Q n → Q (n + 1) → Q (n + 2) → (d : ℕ) → n ≤ d → d ≤ n + 2 → Q d
in_three Q n a b c d l h = go (ℕ_discrete d n) (ℕ_discrete d (n + 1))
  where
    go : Dec (d ≡ n) → Dec (d ≡ n + 1) → Q d
    go (yes e) q = subst Q (sym e) a
    go (no m) (yes e) = subst Q (sym e) b
    go (no m) (no k) = subst Q (omega arith) c

-- ---- marks: each used one is 0 or 1

-- a write of a mark keeps the others
pub mark_set : (l : List ℕ) (k v i : ℕ) → v ≤ 1 → mark_at l i ≤ 1 → mark_at (set l k v) i ≤ 1
mark_set l k v i h m = go (dec_lt i (length l))
  where
    go : Dec (i < length l) → mark_at (set l k v) i ≤ 1
    go (yes q) = rw (set_at l (mark_at l) k v 1 i q refl) (at_ind (λ x. x ≤ 1) k v (mark_at l) i (λ e. h) (λ e. m))
    go (no q) =
        let e : mark_at (set l k v) i ≡ 1 = get_or-eq_default (set l k v) 1 (rw length-set (omega arith)) in
        omega arith

-- marks that read 0 or that were 0 or 1 before
pub marks_grown : (l l' : List ℕ) (n m : ℕ) → ((i : ℕ) → i < n → mark_at l i ≤ 1) → ((i : ℕ) → i < n → mark_at l' i ≡ mark_at l i)
    → ((i : ℕ) → n ≤ i → i < m → mark_at l' i ≡ 0) → (i : ℕ) → i < m → mark_at l' i ≤ 1
marks_grown l l' n m old same new i h = go (dec_lt i n)
  where
    go : Dec (i < n) → mark_at l' i ≤ 1
    go (yes q) = rw (same i q) (old i q)
    go (no q) = rw (new i (omega arith) h) (omega arith)

-- ---- points

module _ (vp : List Float) (u : ℕ) (p : Point) where
  pub placed_here : 3 * u + 2 < length vp → point_at (with_point vp u p) u ≡ p
  placed_here h =
      let a : List Float = set vp (3 * u) p.x in
      let b : List Float = set a (3 * u + 1) p.y in
      let la : length a ≡ length vp = length-set vp (3 * u) p.x in
      let lb : length b ≡ length vp = length-set a (3 * u + 1) p.y ∙ la in
      let z : get_or (set b (3 * u + 2) p.z) (3 * u + 2) nought ≡ p.z = get_or-set_same b (3 * u + 2) p.z nought (omega arith) in
      let y : get_or (set b (3 * u + 2) p.z) (3 * u + 1) nought ≡ p.y =
      get_or-set_other b (3 * u + 2) (3 * u + 1) p.z nought (omega arith) ∙ get_or-set_same a (3 * u + 1) p.y nought (omega arith) in
      let x : get_or (set b (3 * u + 2) p.z) (3 * u) nought ≡ p.x =
      get_or-set_other b (3 * u + 2) (3 * u) p.z nought (omega arith) ∙ get_or-set_other a (3 * u + 1) (3 * u) p.y nought (omega arith)
      ∙ get_or-set_same vp (3 * u) p.x nought (omega arith) in
      rw (x, y, z)

  other : (i : ℕ) → i ≢ 3 * u → i ≢ 3 * u + 1 → i ≢ 3 * u + 2 → get_or (with_point vp u p) i nought ≡ get_or vp i nought
  other i a b c =
      let l : List Float = set vp (3 * u) p.x in
      let m : List Float = set l (3 * u + 1) p.y in
      get_or-set_other m (3 * u + 2) i p.z nought c ∙ get_or-set_other l (3 * u + 1) i p.y nought b ∙ get_or-set_other vp (3 * u) i p.x nought a

  pub placed_other : (v : ℕ) → v ≢ u → point_at (with_point vp u p) v ≡ point_at vp v
  placed_other v n =
      rw (
        other (3 * v) (omega arith) (omega arith) (omega arith),
        other (3 * v + 1) (omega arith) (omega arith) (omega arith),
        other (3 * v + 2) (omega arith) (omega arith) (omega arith),
      )

  pub length_placed : length (with_point vp u p) ≡ length vp
  length_placed = simp length-set
