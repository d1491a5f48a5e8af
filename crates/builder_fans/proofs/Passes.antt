-- The loops over vertices, corners and chains, and the small steps in them. Assumes nothing.
use mathlib.Core.Path.{◌≡◌, refl, ap, sym, ◌∙◌, subst}
use mathlib.Core.Bool.{Bool, true, false, cond}
use mathlib.Core.List.{List, [], ◌∷◌}
use Prim.Native.Nat.{ℕ, zero, suc, ◌+◌, ◌-◌, ◌≤◌, ◌<◌}
use native.Mathlib.Omega.{arith}
use borrow.Author.Tests.{eq-eqb, ne_eqb, lt-ltb, le-ltb}
use lib.Dec.{eqb}
use lib.Ieee.{Float}
use lib.ListN.{length, get_or, set}
use Rattle.std.proofs.Common.{Result, Ok, Err}
use Rattle.refusal.specs.declared.Refusal.{Refusal}
use Rattle.refusal.specs.Refusal.{number_of}
use Rattle.table.specs.declared.Lent.{Lent}
use Rattle.table.specs.Parts.{SameParts}
use Rattle.table.specs.Table.{Table}
use Rattle.vertex.specs.declared.Point.{Point}
use Rattle.table.specs.Slots.{relabel, point_at, with_point}
use Rattle.builder_build.specs.Build.{Shared, give, isolated}
use Rattle.builder_fans.specs.Chains.{shared, shared_of, with_shared, Roomy, SameRooms, Ended, rings, chain_from, chain_of, threads, thread_of, threaded, chain, mark_of, marked, step_of, takes, vertex_of, spread_over, isolate_of}

-- ---- the fans that are kept

module _ (ring : ℕ → List ℕ) (vc : List ℕ) where
  pub marked_zero : (v : ℕ) (m : List ℕ) → marked ring vc 0 v m ≡ m
  unfolding marked
  marked_zero v m = refl

  pub marked_suc : (k v : ℕ) (m : List ℕ) → marked ring vc (suc k) v m ≡ marked ring vc k (suc v) (mark_of ring vc v m)
  unfolding marked mark_of
  marked_suc k v m = refl

-- ---- threading

module _ (cv : List ℕ) where
  -- the loop has threaded the corners from c on
  pub record Threading (link₀ head₀ link head : List ℕ) (n c : ℕ) : Type 0 where
    pub link_length : length link ≡ length link₀
    pub head_length : length head ≡ length head₀
    pub low : c ≤ n
    pub same : threaded cv c (threads link head) ≡ threaded cv n (threads link₀ head₀)

  pub threading_on : (link₀ head₀ link head link' head' : List ℕ) (n c : ℕ) → Threading link₀ head₀ link head n c → 0 < c
      → length link' ≡ length link → length head' ≡ length head
      → threads link' head' ≡ thread_of cv (c - 1) (threads link head) → Threading link₀ head₀ link' head' n (c - 1)
  unfolding threaded
  threading_on link₀ head₀ link head link' head' n zero T h p q e = absurd (omega arith)
  threading_on link₀ head₀ link head link' head' n (suc c) T h p q e =
      let z : suc c - 1 ≡ c = omega arith in
      rw z
      (record {
        link_length = p ∙ T.link_length;
        head_length = q ∙ T.head_length;
        low = omega (arith, T.low);
        same = ap (threaded cv c) (rw z at e) ∙ T.same;
      })

  pub threading_end : (link₀ head₀ link head : List ℕ) (n c : ℕ) → Threading link₀ head₀ link head n c → c ≡ 0
      → threads link head ≡ threaded cv n (threads link₀ head₀)
  unfolding threaded
  threading_end link₀ head₀ link head n zero T h = T.same
  threading_end link₀ head₀ link head n (suc c) T h = absurd (omega arith)

-- ---- a new vertex

pub given : (t : Table) (v c : ℕ) (cv' vc' : List ℕ) (vp' : List Float) (p : Point)
    → cv' ≡ relabel (rings t c) t.vertices t.corner_vertex → vc' ≡ set t.vertex_corner t.vertices c → p ≡ point_at t.vertex_point v
    → vp' ≡ with_point t.vertex_point t.vertices p
    → with_shared t (shared cv' vc' vp' (t.vertices + 1)) ≡ with_shared t (give (rings t) v c (shared_of t))
unfolding give
given t v c cv' vc' vp' p a b d e = rw (a, b, e, d)

module _ (room : ℕ) (t : Table) (v c x : ℕ) (is : x ≡ get_or t.corner_vertex c 0) where
  pub step_not : t.vertices ≤ room → (x ≡ v → ⊥) → Ended room t (step_of (rings t) v c (shared_of t)) t (Ok (tt {0}))
  unfolding step_of
  step_not l e = rw (← is, ne_eqb x v e) (refl, l)

  pub step_full : x ≡ v → t.vertices ≡ room → (e : Refusal) → number_of e ≡ 5 → Ended {A = Unit {0}} room t (step_of (rings t) v c (shared_of t)) t (Err e)
  unfolding give step_of
  step_full e z r n = rw (← is, eq-eqb x v e) (n, omega arith, refl)

  pub step_gives : x ≡ v → t.vertices ≤ room → (t.vertices ≡ room → ⊥) → (u : Table)
      → u ≡ with_shared t (give (rings t) v c (shared_of t)) → Ended room t (step_of (rings t) v c (shared_of t)) u (Ok (tt {0}))
  unfolding give step_of
  step_gives e l z u g = rw (← is, eq-eqb x v e) (g, omega arith)

-- ---- what a pass leaves as it was

pub same_rooms : (t : Table) → SameRooms t t
same_rooms t = record { cv = refl; co = refl; cm = refl; vc = refl; vm = refl; vp = refl }

pub rooms_on : (t u w : Table) → SameRooms t u → SameRooms u w → SameRooms t w
rooms_on t u w P Q = record { cv = Q.cv ∙ P.cv; co = Q.co ∙ P.co; cm = Q.cm ∙ P.cm; vc = Q.vc ∙ P.vc; vm = Q.vm ∙ P.vm; vp = Q.vp ∙ P.vp }

pub framed : (t u w : Table) (s : Shared) → u ≡ with_shared t (shared_of u) → w ≡ with_shared u s → w ≡ with_shared t (shared_of w)
framed t u w s p q = q ∙ ap (λ (x : Table). with_shared x s) p ∙ sym (ap (λ (x : Table). with_shared t (shared_of x)) q)

pub parts_on : (s t u : Lent) → SameParts s t → SameParts t u → SameParts s u
parts_on s t u p q = (q.0 ∙ p.0, q.1 ∙ p.1, q.2 ∙ p.2, q.3 ∙ p.3, q.4 ∙ p.4, q.5 ∙ p.5)

-- ---- a chain

module _ (link : List ℕ) where
  chain_stop : (k h : ℕ) → h < 2 → chain link k h ≡ []
  unfolding chain
  chain_stop zero h l = refl
  chain_stop (suc k) h l = rw (lt-ltb h 2 l)

  chain_out : (k h : ℕ) → k ≡ 0 → chain link k h ≡ []
  unfolding chain
  chain_out k h e = rw e

  chain_more : (k h : ℕ) → 0 < k → 2 ≤ h → chain link k h ≡ (h - 2) ∷ chain link (k - 1) (get_or link (h - 2) 0)
  unfolding chain
  chain_more zero h a l = absurd (omega arith)
  chain_more (suc k) h a l = let z : suc k - 1 ≡ k = omega arith in rw (le-ltb h 2 l, z)

module _ (ring : ℕ → List ℕ) (v : ℕ) where
  pub step_grows : (c : ℕ) (s : Shared) → s.nv ≤ (step_of ring v c s).nv
  unfolding give step_of
  step_grows c s = by (eqb (get_or s.cv c 0) v)
    where
      by : (b : Bool) → s.nv ≤ (cond b (give ring v c s) s).nv
      by true = omega arith
      by false = omega arith

  pub takes_grow : (cs : List ℕ) (s : Shared) → s.nv ≤ (takes ring v cs s).nv
  unfolding takes
  takes_grow [] s = omega arith
  takes_grow (c ∷ cs) s = omega (arith, step_grows c s, takes_grow cs (step_of ring v c s))

  takes_none : (s : Shared) → takes ring v [] s ≡ s
  unfolding takes
  takes_none s = refl

  takes_more : (c : ℕ) (cs : List ℕ) (s : Shared) → takes ring v (c ∷ cs) s ≡ takes ring v cs (step_of ring v c s)
  unfolding takes
  takes_more c cs s = refl

-- a loop along a chain of t₀ stands at h, with so many left
pub record Taking (room : ℕ) (t₀ : Table) (v : ℕ) (whole : Shared) (h rest : ℕ) (t : Table) : Type 0 where
  pub rooms : SameRooms t₀ t
  pub frame : t ≡ with_shared t₀ (shared_of t)
  pub few : t.vertices ≤ room
  pub small : h < 4294967296
  pub same : takes (rings t₀) v (chain t₀.corner_mark rest h) (shared_of t) ≡ whole

pub taking_start : (room : ℕ) (t : Table) (v h : ℕ) → t.vertices ≤ room → h < 4294967296 → Taking room t v (chain_from t v h (shared_of t)) h t.corners t
taking_start room t v h l m = record { rooms = same_rooms t; frame = refl; few = l; small = m; same = refl }

module _ (room : ℕ) (t₀ : Table) (v : ℕ) (whole : Shared) (h rest : ℕ) (t : Table) (T : Taking room t₀ v whole h rest t) where
  ended : chain t₀.corner_mark rest h ≡ [] → Ended room t₀ whole t (Ok (tt {0}))
  ended e = by (sym (takes_none (rings t₀) v (shared_of t)) ∙ sym (ap (λ (cs : List ℕ). takes (rings t₀) v cs (shared_of t)) e) ∙ T.same)
    where
      by : shared_of t ≡ whole → Ended room t₀ whole t (Ok (tt {0}))
      by z = (T.frame ∙ ap (with_shared t₀) z, subst (λ (s : Shared). s.nv ≤ room) z T.few)

  pub taking_stop : h < 2 → Ended room t₀ whole t (Ok (tt {0}))
  taking_stop l = ended (chain_stop t₀.corner_mark rest h l)

  pub taking_out : rest ≤ 0 → Ended room t₀ whole t (Ok (tt {0}))
  taking_out l = ended (chain_out t₀.corner_mark rest h (omega arith))

  pub taking_roomy : Roomy room t₀ → Roomy room t
  taking_roomy R = record { most = R.most; few = T.few }

  module _ (a : 0 < rest) (l : 2 ≤ h) where
    on : takes (rings t₀) v (chain t₀.corner_mark (rest - 1) (get_or t₀.corner_mark (h - 2) 0)) (step_of (rings t₀) v (h - 2) (shared_of t)) ≡ whole
    on =
        sym (takes_more (rings t₀) v (h - 2) (chain t₀.corner_mark (rest - 1) (get_or t₀.corner_mark (h - 2) 0)) (shared_of t))
        ∙ sym (ap (λ (cs : List ℕ). takes (rings t₀) v cs (shared_of t)) (chain_more t₀.corner_mark rest h a l)) ∙ T.same

    -- a step on t is one on t₀
    step_same : step_of (rings t) v (h - 2) (shared_of t) ≡ step_of (rings t₀) v (h - 2) (shared_of t)
    step_same = ap (λ (u : Table). step_of (rings u) v (h - 2) (shared_of t)) T.frame

    pub taking_full : room < (step_of (rings t) v (h - 2) (shared_of t)).nv → room < whole.nv
    taking_full g =
        rw (← on)
        (omega (
          arith,
          subst (λ (s : Shared). room < s.nv) step_same g,
          takes_grow (rings t₀) v (chain t₀.corner_mark (rest - 1) (get_or t₀.corner_mark (h - 2) 0)) (step_of (rings t₀) v (h - 2) (shared_of t)),
        ))

    pub taking_on : (u : Table) → SameRooms t u
        → (u ≡ with_shared t (step_of (rings t) v (h - 2) (shared_of t))) × ((step_of (rings t) v (h - 2) (shared_of t)).nv ≤ room)
        → (h' : ℕ) → h' ≡ get_or u.corner_mark (h - 2) 0 → h' < 4294967296 → Taking room t₀ v whole h' (rest - 1) u
    taking_on u R g h' e m =
        record {
          rooms = rooms_on t₀ t u T.rooms R;
          frame = framed t₀ t u _ T.frame g.0;
          few = omega (arith, ap (λ (w : Table). w.vertices) g.0, g.1);
          small = m;
          same =
              ap (λ (k : ℕ). takes (rings t₀) v (chain t₀.corner_mark (rest - 1) k) (shared_of u))
              (e ∙ ap (λ (w : Table). get_or w.corner_mark (h - 2) 0) (framed t₀ t u _ T.frame g.0))
              ∙ ap (takes (rings t₀) v (chain t₀.corner_mark (rest - 1) (get_or t₀.corner_mark (h - 2) 0)))
              (ap shared_of g.0 ∙ step_same)
              ∙ on;
        }

-- ---- all vertices

module _ (ring : ℕ → List ℕ) (link head : List ℕ) (n : ℕ) where
  pub spread_over_zero : (v : ℕ) (s : Shared) → spread_over ring link head n 0 v s ≡ s
  unfolding spread_over
  spread_over_zero v s = refl

  pub spread_over_suc : (k v : ℕ) (s : Shared) → spread_over ring link head n (suc k) v s ≡ spread_over ring link head n k (suc v) (vertex_of ring link head n v s)
  unfolding spread_over
  spread_over_suc k v s = refl

  pub vertex_grows : (v : ℕ) (s : Shared) → s.nv ≤ (vertex_of ring link head n v s).nv
  unfolding vertex_of
  vertex_grows v s = takes_grow ring v (chain link n (get_or head v 0)) s

pub vertex_ends : {A : Type 0} (room : ℕ) (t : Table) (v h : ℕ) → h ≡ get_or t.vertex_mark v 0 → (u : Table) (r : Result A Refusal)
    → Ended room t (chain_from t v h (shared_of t)) u r → Ended room t (chain_of t v (shared_of t)) u r
unfolding vertex_of
vertex_ends room t v h e u r E = rw (← e) E

-- ---- deleted vertices

module _ (vc : List ℕ) where
  pub isolated_zero : (v : ℕ) (m : List ℕ) → isolated vc 0 v m ≡ m
  unfolding isolated
  isolated_zero v m = refl

  pub isolated_suc : (k v : ℕ) (m : List ℕ) → isolated vc (suc k) v m ≡ isolated vc k (suc v) (isolate_of vc v m)
  unfolding isolated isolate_of
  isolated_suc k v m = refl
