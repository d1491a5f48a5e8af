-- The chains are the corners left, and following them does what the build says. Assumes nothing.
use mathlib.Core.Path.{◌≡◌, refl, ap, sym, ◌∙◌, subst}
use mathlib.Core.Logic.{◌≢◌, ◌⊎◌, inl, inr}
use mathlib.Core.Bool.{Bool, true, false, cond, not, ◌&&◌}
use mathlib.Core.List.{List, [], ◌∷◌, Memᴰ}
use Prim.Native.Nat.{ℕ, zero, suc, ◌+◌, ◌-◌, ◌≤◌, ◌<◌}
use native.Mathlib.Omega.{arith}
use native.Mathlib.Decide.{ℕ_discrete, dec_lt}
use borrow.Author.Tests.{eqb-true, eqb-false, eq-eqb, ne_eqb, le-ltb}
use lib.Dec.{eqb, ltb}
use lib.ListN.{length, get_or, set, length-set, get_or-eq_default}
use lib.Seq.{get_or-set_same, get_or-set_other}
use Rattle.corner.specs.Corner.{absent}
use Rattle.table.specs.Slots.{relabel}
use Rattle.fan.proofs.Relabel.{length_relabel, relabel_in, relabel_out}
use Rattle.builder_build.specs.Build.{Shared, mem, give, outside, corners, vertices}
use Rattle.builder_build.proofs.Settle.{mem_true, mem_false, vtx, corner}
use Rattle.builder_fans.specs.Chains.{Threads, threads, thread_of, threaded, chain, step_of, takes, vertex_of, spread_over}

-- ---- chains

-- the corners of v that are not marked, of k from c on
unfoldable pub lefts : List ℕ → List ℕ → (v k c : ℕ) → List ℕ
lefts mark cv v zero c = []
lefts mark cv v (suc k) c = let r = lefts mark cv v k (suc c) in cond (eqb (get_or cv c 0) v && eqb (get_or mark c 0) 0) (c ∷ r) r

lefts_above : (mark cv : List ℕ) (v k c d : ℕ) → Memᴰ d (lefts mark cv v k c) → c ≤ d
unfolding lefts
lefts_above mark cv v zero c d m = elim m [ ]
lefts_above mark cv v (suc k) c d m = by (eqb (get_or cv c 0) v && eqb (get_or mark c 0) 0) m (λ q. lefts_above mark cv v k (suc c) d q)
  where
    by : (b : Bool) → Memᴰ d (cond b (c ∷ lefts mark cv v k (suc c)) (lefts mark cv v k (suc c)))
        → (Memᴰ d (lefts mark cv v k (suc c)) → suc c ≤ d) → c ≤ d
    by true (Memᴰ.head e) r = omega arith
    by true (Memᴰ.tail q) r = omega (arith, r q)
    by false q r = omega (arith, r q)

-- a write at a corner that is not in the chain
chain_set : (link : List ℕ) (c x k h : ℕ) → ((d : ℕ) → Memᴰ d (chain link k h) → d ≢ c) → chain (set link c x) k h ≡ chain link k h
unfolding chain
chain_set link c x zero h out = refl
chain_set link c x (suc k) h out = by (ltb h 2) refl out (λ q. chain_set link c x k (get_or link (h - 2) 0) q)
  where
    by : (b : Bool) → ltb h 2 ≡ b → ((d : ℕ) → Memᴰ d (cond b [] ((h - 2) ∷ chain link k (get_or link (h - 2) 0))) → d ≢ c)
        → (((d : ℕ) → Memᴰ d (chain link k (get_or link (h - 2) 0)) → d ≢ c)
        → chain (set link c x) k (get_or link (h - 2) 0) ≡ chain link k (get_or link (h - 2) 0))
        → cond b [] ((h - 2) ∷ chain (set link c x) k (get_or (set link c x) (h - 2) 0))
        ≡ cond b [] ((h - 2) ∷ chain link k (get_or link (h - 2) 0))
    by true e o r = refl
    by false e o r =
        let z : get_or (set link c x) (h - 2) 0 ≡ get_or link (h - 2) 0 = get_or-set_other link c (h - 2) x 0 (o (h - 2) (Memᴰ.head refl)) in
        ap (λ (l : List ℕ). (h - 2) ∷ l)
        (ap (λ (y : ℕ). chain (set link c x) k y) z ∙ r (λ d q. o d (Memᴰ.tail q)))

chain_none : (link : List ℕ) (f : ℕ) → chain link f 0 ≡ []
unfolding chain
chain_none link zero = refl
chain_none link (suc f) = refl

-- a corner at the front
chain_first : (link : List ℕ) (c x f : ℕ) → 0 < f → c < length link → chain (set link c x) f (c + 2) ≡ c ∷ chain (set link c x) (f - 1) x
unfolding chain
chain_first link c x zero g h = absurd (omega arith)
chain_first link c x (suc f) g h =
    let z : c + 2 - 2 ≡ c = omega arith in
    let y : suc f - 1 ≡ f = omega arith in
    rw (le-ltb (c + 2) 2 (omega arith), z, y, get_or-set_same link c x 0 h)

module _ (cv mark : List ℕ) (n vroom : ℕ) (inside : n ≤ length mark) (below : (c : ℕ) → c < n → get_or cv c 0 < vroom) where
  -- the corners from k on are threaded, those before it as they were
  record Threaded (t : Threads) (k : ℕ) : Type 0 where
    size : length t.link ≡ length mark
    heads : length t.head ≡ vroom
    before : (d : ℕ) → d < k → get_or t.link d 0 ≡ get_or mark d 0
    chains : (v : ℕ) → v < vroom → (f : ℕ) → n - k ≤ f → chain t.link f (get_or t.head v 0) ≡ lefts mark cv v (n - k) k

  lefts_skip : (v k : ℕ) → k < n → (eqb (get_or cv k 0) v && eqb (get_or mark k 0) 0) ≡ false
      → lefts mark cv v (n - suc k) (suc k) ≡ lefts mark cv v (n - k) k
  unfolding lefts
  lefts_skip v k h e = let z : n - k ≡ suc (n - suc k) = omega arith in rw (z, e)

  lefts_take : (v k : ℕ) → k < n → (eqb (get_or cv k 0) v && eqb (get_or mark k 0) 0) ≡ true
      → k ∷ lefts mark cv v (n - suc k) (suc k) ≡ lefts mark cv v (n - k) k
  unfolding lefts
  lefts_take v k h e = let z : n - k ≡ suc (n - suc k) = omega arith in rw (z, e)

  and_no : (a b : Bool) → b ≡ false → a && b ≡ false
  and_no true b e = e
  and_no false b e = refl

  thread_step : (t : Threads) (k : ℕ) → k < n → Threaded t (suc k) → Threaded (thread_of cv k t) k
  unfolding thread_of
  thread_step t k h T = by (eqb (get_or t.link k 0) 0) refl
    where
      same_mark : eqb (get_or t.link k 0) 0 ≡ eqb (get_or mark k 0) 0
      same_mark = ap (λ (x : ℕ). eqb x 0) (T.before k (omega arith))

      by : (b : Bool) → eqb (get_or t.link k 0) 0 ≡ b
          → Threaded (cond b (threads (set t.link k (get_or t.head (get_or cv k 0) 0)) (set t.head (get_or cv k 0) (k + 2))) t) k
      by false e =
          record {
            size = T.size;
            heads = T.heads;
            before = λ d l. T.before d (omega arith);
            chains =
                λ v l f g. T.chains v l f (omega arith) ∙ lefts_skip v k h (and_no (eqb (get_or cv k 0) v) (eqb (get_or mark k 0) 0) (sym same_mark ∙ e));
          }
      by true e =
          record {
            size = length-set t.link k _ ∙ T.size;
            heads = length-set t.head (get_or cv k 0) _ ∙ T.heads;
            before = λ d l. get_or-set_other t.link k d _ 0 (omega arith) ∙ T.before d (omega arith);
            chains = chains';
          }
        where
          x : ℕ
          x = get_or t.head (get_or cv k 0) 0

          -- the chains so far don't hold k
          apart : (v : ℕ) → v < vroom → (f : ℕ) → n - suc k ≤ f → chain (set t.link k x) f (get_or t.head v 0) ≡ lefts mark cv v (n - suc k) (suc k)
          apart v l f g =
              chain_set t.link k x f (get_or t.head v 0)
              (λ d m. absurd_eq d (lefts_above mark cv v (n - suc k) (suc k) d (subst (λ (y : List ℕ). Memᴰ d y) (T.chains v l f g) m)))
              ∙ T.chains v l f g
            where
              absurd_eq : (d : ℕ) → suc k ≤ d → d ≢ k
              absurd_eq d q z = absurd (omega arith)

          inside' : k < length t.link
          inside' = omega (arith, T.size, inside)

          chains' : (v : ℕ) → v < vroom → (f : ℕ) → n - k ≤ f
              → chain (set t.link k x) f (get_or (set t.head (get_or cv k 0) (k + 2)) v 0) ≡ lefts mark cv v (n - k) k
          chains' v l f g = pick (ℕ_discrete v (get_or cv k 0))
            where
              pick : Dec (v ≡ get_or cv k 0)
                  → chain (set t.link k x) f (get_or (set t.head (get_or cv k 0) (k + 2)) v 0) ≡ lefts mark cv v (n - k) k
              pick (yes z) =
                  ap (λ (y : ℕ). chain (set t.link k x) f (get_or (set t.head (get_or cv k 0) (k + 2)) y 0)) z
                  ∙ ap (λ (y : ℕ). chain (set t.link k x) f y) (get_or-set_same t.head (get_or cv k 0) (k + 2) 0 (omega (arith, T.heads, below k h)))
                  ∙ chain_first t.link k x f (omega arith) inside'
                  ∙ ap (λ (y : List ℕ). k ∷ y) (apart (get_or cv k 0) (below k h) (f - 1) (omega arith))
                  ∙ lefts_take (get_or cv k 0) k h (rw (eq-eqb (get_or cv k 0) (get_or cv k 0) refl) (sym same_mark ∙ e))
                  ∙ ap (λ (y : ℕ). lefts mark cv y (n - k) k) (sym z)
              pick (no z) =
                  ap (λ (y : ℕ). chain (set t.link k x) f y) (get_or-set_other t.head (get_or cv k 0) v (k + 2) 0 z)
                  ∙ apart v l f (omega arith)
                  ∙ lefts_skip v k h (rw (ne_eqb (get_or cv k 0) v (λ w. z (sym w))))

  thread_all : (k : ℕ) (t : Threads) → k ≤ n → Threaded t k → Threaded (threaded cv k t) 0
  unfolding threaded
  thread_all zero t h T = T
  thread_all (suc k) t h T = thread_all k (thread_of cv k t) (omega arith) (thread_step t k (omega arith) T)

  -- from blank heads
  module _ (head : List ℕ) (long : length head ≡ vroom) (blank : (v : ℕ) → get_or head v 0 ≡ 0) where
    empty : Threaded (threads mark head) n
    unfolding lefts
    empty =
        record {
          size = refl;
          heads = long;
          before = λ d l. refl;
          chains =
              λ v l f g. let z : n - n ≡ 0 = omega arith in
              rw (blank v, z) (chain_none mark f);
        }

    pub chain_lefts : (v : ℕ) → v < vroom
        → chain (threaded cv n (threads mark head)).link n (get_or (threaded cv n (threads mark head)).head v 0) ≡ lefts mark cv v n 0
    chain_lefts v h =
        let T : Threaded (threaded cv n (threads mark head)) 0 = thread_all n (threads mark head) (omega arith) empty in
        let z : n - 0 ≡ n = omega arith in
        T.chains v h n (omega arith) ∙ ap (λ (k : ℕ). lefts mark cv v k 0) z

-- ---- the pass

module _ (ring : ℕ → List ℕ) (n n₀ : ℕ) (s₀ : Shared) (mark : List ℕ)
    (has : (c : ℕ) → c < n → corner s₀ (vtx s₀ c) ≢ absent)
    (marks : (c : ℕ) → c < n → eqb (get_or mark c 0) 0 ≡ not (mem c (ring (corner s₀ (vtx s₀ c))))) where
  -- what the pass has not changed yet
  record Drift (s : Shared) : Type 0 where
    label : (d : ℕ) → (vtx s d ≡ vtx s₀ d) ⊎ (n₀ ≤ vtx s d)
    home : (v : ℕ) → v < n₀ → corner s v ≡ corner s₀ v
    grown : n₀ ≤ s.nv

  give_drift : (v c : ℕ) (s : Shared) → Drift s → Drift (give ring v c s)
  unfolding give
  give_drift v c s D = record { label = label; home = λ w h. get_or-set_other s.vc s.nv w c absent (omega (arith, D.grown)) ∙ D.home w h; grown = omega (arith, D.grown) }
    where
      label : (d : ℕ) → (get_or (relabel (ring c) s.nv s.cv) d 0 ≡ vtx s₀ d) ⊎ (n₀ ≤ get_or (relabel (ring c) s.nv s.cv) d 0)
      label d = by (mem d (ring c)) refl (dec_lt d (length s.cv))
        where
          out : get_or (relabel (ring c) s.nv s.cv) d 0 ≡ vtx s d → (get_or (relabel (ring c) s.nv s.cv) d 0 ≡ vtx s₀ d) ⊎ (n₀ ≤ get_or (relabel (ring c) s.nv s.cv) d 0)
          out e = at (D.label d)
            where
              at : (vtx s d ≡ vtx s₀ d) ⊎ (n₀ ≤ vtx s d) → (get_or (relabel (ring c) s.nv s.cv) d 0 ≡ vtx s₀ d) ⊎ (n₀ ≤ get_or (relabel (ring c) s.nv s.cv) d 0)
              at (inl q) = inl (e ∙ q)
              at (inr q) = inr (rw e q)

          by : (b : Bool) → mem d (ring c) ≡ b → Dec (d < length s.cv) → (get_or (relabel (ring c) s.nv s.cv) d 0 ≡ vtx s₀ d) ⊎ (n₀ ≤ get_or (relabel (ring c) s.nv s.cv) d 0)
          by true e (yes h) = inr (rw (relabel_in (ring c) s.nv s.cv d 0 h (mem_true d (ring c) e)) D.grown)
          by true e (no h) = out (get_or-eq_default (relabel (ring c) s.nv s.cv) 0 (rw (length_relabel (ring c) s.nv s.cv) (omega arith)) ∙ sym (get_or-eq_default s.cv 0 (omega arith)))
          by false e h = out (relabel_out (ring c) s.nv s.cv d 0 (mem_false d (ring c) e))

  -- a corner that is still v's always was
  always : (s : Shared) → Drift s → (v c : ℕ) → v < n₀ → vtx s c ≡ v → vtx s₀ c ≡ v
  always s D v c h e = by (D.label c)
    where
      by : (vtx s c ≡ vtx s₀ c) ⊎ (n₀ ≤ vtx s c) → vtx s₀ c ≡ v
      by (inl q) = sym q ∙ e
      by (inr q) = absurd (omega arith)

  test_same : (s : Shared) → Drift s → (v c : ℕ) → v < n₀ → c < n → eqb (vtx s c) v && eqb (get_or mark c 0) 0 ≡ outside ring v c s
  unfolding outside
  test_same s D v c h l = by (eqb (vtx s c) v) refl
    where
      by : (b : Bool) → eqb (vtx s c) v ≡ b → b && eqb (get_or mark c 0) 0 ≡ b && not (mem c (ring (corner s v)))
      by false e = refl
      by true e =
          let z : vtx s₀ c ≡ v = always s D v c h (eqb-true _ _ e) in
          marks c l ∙ ap (λ (x : ℕ). not (mem c (ring x))) (ap (corner s₀) z ∙ sym (D.home v h))

  step_drift : (v c : ℕ) (s : Shared) (b : Bool) → Drift s → Drift (cond b (give ring v c s) s)
  step_drift v c s true D = give_drift v c s D
  step_drift v c s false D = D

  -- following the corners left of v is scanning all corners
  takes_same : (v : ℕ) → v < n₀ → (k c : ℕ) (s : Shared) → c + k ≤ n → Drift s
      → takes ring v (lefts mark s₀.cv v k c) s ≡ corners ring v k c s
  unfolding takes lefts corners step_of
  takes_same v h zero c s l D = refl
  takes_same v h (suc k) c s l D =
      by (eqb (vtx s₀ c) v) (eqb (get_or mark c 0) 0) refl refl (test_same s D v c h (omega arith))
      (λ t E. takes_same v h k (suc c) t (omega arith) E)
    where
      by : (p q : Bool) → eqb (vtx s₀ c) v ≡ p → eqb (get_or mark c 0) 0 ≡ q → (eqb (vtx s c) v && eqb (get_or mark c 0) 0) ≡ outside ring v c s
          → ((t : Shared) → Drift t → takes ring v (lefts mark s₀.cv v k (suc c)) t ≡ corners ring v k (suc c) t)
          → takes ring v (cond (p && q) (c ∷ lefts mark s₀.cv v k (suc c)) (lefts mark s₀.cv v k (suc c))) s
          ≡ corners ring v k (suc c) (cond (outside ring v c s) (give ring v c s) s)
      by true true e f z r =
          let y : outside ring v c s ≡ eqb (vtx s c) v = sym z ∙ rw f (and_true (eqb (vtx s c) v)) in
          rw y (r (cond (eqb (vtx s c) v) (give ring v c s) s) (step_drift v c s (eqb (vtx s c) v) D))
        where
          and_true : (b : Bool) → b && true ≡ b
          and_true true = refl
          and_true false = refl
      by true false e f z r =
          let y : outside ring v c s ≡ false = sym z ∙ rw f (and_false (eqb (vtx s c) v)) in rw y (r s D)
        where
          and_false : (b : Bool) → b && false ≡ false
          and_false true = refl
          and_false false = refl
      by false q e f z r =
          let y : outside ring v c s ≡ false = sym z ∙ ap (λ (b : Bool). b && eqb (get_or mark c 0) 0) (gone (eqb (vtx s c) v) refl) in rw y (r s D)
        where
          gone : (b : Bool) → eqb (vtx s c) v ≡ b → b ≡ false
          gone false g = refl
          gone true g = absurd (eqb-false (vtx s₀ c) v e (always s D v c h (eqb-true (vtx s c) v g)))

  corners_drift : (v k c : ℕ) (s : Shared) → Drift s → Drift (corners ring v k c s)
  unfolding corners
  corners_drift v zero c s D = D
  corners_drift v (suc k) c s D = corners_drift v k (suc c) (cond (outside ring v c s) (give ring v c s) s) (step_drift v c s (outside ring v c s) D)

  -- where nothing is left nothing is done
  none_left : (v k c : ℕ) (s : Shared) → ((d : ℕ) → d < c + k → outside ring v d s ≡ false) → corners ring v k c s ≡ s
  unfolding corners
  none_left v zero c s all = refl
  none_left v (suc k) c s all = by (all c (omega arith)) (none_left v k (suc c) s (λ d h. all d (omega arith)))
    where
      by : outside ring v c s ≡ false → corners ring v k (suc c) s ≡ s → corners ring v k (suc c) (cond (outside ring v c s) (give ring v c s) s) ≡ s
      by e r = ap (λ (b : Bool). corners ring v k (suc c) (cond b (give ring v c s) s)) e ∙ r

  left_not : (v c : ℕ) (s : Shared) → (vtx s c ≡ v → mem c (ring (corner s v)) ≡ true) → outside ring v c s ≡ false
  unfolding outside
  left_not v c s all = by (eqb (vtx s c) v) refl
    where
      by : (b : Bool) → eqb (vtx s c) v ≡ b → b && not (mem c (ring (corner s v))) ≡ false
      by false e = refl
      by true e = rw (all (eqb-true _ _ e))

  cornerless : (v : ℕ) (s : Shared) → v < n₀ → Drift s → corner s v ≡ absent → corners ring v n 0 s ≡ s
  cornerless v s h D e = none_left v n 0 s (λ d l. left_not v d s (λ q. absurd (has d (omega arith) (ap (corner s₀) (always s D v d h q) ∙ sym (D.home v h) ∙ e))))

  plain_drift : (v : ℕ) (s : Shared) (b : Bool) → Drift s → Drift (cond b s (corners ring v n 0 s))
  plain_drift v s true D = D
  plain_drift v s false D = corners_drift v n 0 s D

  module _ (link head : List ℕ) (follows : (v : ℕ) → v < n₀ → chain link n (get_or head v 0) ≡ lefts mark s₀.cv v n 0) where
    vertex_same : (v : ℕ) (s : Shared) → v < n₀ → Drift s
        → vertex_of ring link head n v s ≡ cond (eqb (corner s v) absent) s (corners ring v n 0 s)
    unfolding vertex_of
    vertex_same v s h D =
        ap (λ (cs : List ℕ). takes ring v cs s) (follows v h) ∙ takes_same v h n 0 s (omega arith) D ∙ by (eqb (corner s v) absent) refl
      where
        by : (b : Bool) → eqb (corner s v) absent ≡ b → corners ring v n 0 s ≡ cond b s (corners ring v n 0 s)
        by true q = cornerless v s h D (eqb-true _ _ q)
        by false q = refl

    all_same : (k v : ℕ) (s : Shared) → v + k ≤ n₀ → Drift s → spread_over ring link head n k v s ≡ vertices ring n k v s
    unfolding spread_over vertices
    all_same zero v s l D = refl
    all_same (suc k) v s l D =
        ap (λ (x : Shared). spread_over ring link head n k (suc v) x) (vertex_same v s (omega arith) D)
        ∙ all_same k (suc v) (cond (eqb (corner s v) absent) s (corners ring v n 0 s)) (omega arith) (plain_drift v s (eqb (corner s v) absent) D)

    pub fast_plain : n₀ ≤ s₀.nv → spread_over ring link head n n₀ 0 s₀ ≡ vertices ring n n₀ 0 s₀
    fast_plain g = all_same n₀ 0 s₀ (omega arith) (record { label = λ d. inl refl; home = λ v h. refl; grown = g })
