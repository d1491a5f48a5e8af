-- The steps of a call, put together to the build. Assumes nothing.
use mathlib.Core.Path.{◌≡◌, refl, ap, sym, ◌∙◌, subst}
use mathlib.Core.Bool.{Bool, true, false, cond, not, false≢true, true≢false}
use mathlib.Core.List.{List, ◌++◌}
use Prim.Native.Nat.{ℕ, zero, suc, ◌+◌, ◌-◌, ◌*◌, ◌≤◌, ◌<◌, ◌%◌, ◌/◌}
use native.Mathlib.Omega.{arith}
use native.Mathlib.Nat.{sub-zero}
use borrow.Author.Tests.{eq-eqb, ne_eqb, lt-ltb, le-ltb, ltb-false}
use lib.Dec.{ltb}
use lib.Ieee.{Float}
use lib.ListN.{length, get_or, drop, replicate, length-replicate}
use lib.Seq.{sets, sets-eq}
use Rattle.std.proofs.Common.{Result, Ok, Err}
use Rattle.std.specs.Result.{is_err}
use Rattle.refusal.specs.declared.Refusal.{Refusal}
use Rattle.refusal.specs.Refusal.{number_of, answer_of}
use Rattle.corner.specs.Corner.{absent}
use Rattle.table.specs.Slots.{nought}
use Rattle.table.specs.Table.{Table, table, blank, corner_room, vertex_room, with_corner_mark, shaped, Shaped}
use Rattle.table.proofs.Shape.{shaped_true}
use Rattle.fan.proofs.Fan.{Linked}
use Rattle.ring.proofs.Exact.{ring_exact}
use Rattle.builder_build.specs.Build.{SoFar, Course, go, refuse, faces, Shared, vertices, BuildOutcome, built, refused_build, start, laid, all_finite, isolated, spread, finish, build}
use Rattle.builder_build.proofs.Grow.{paired_linked}
use Rattle.builder_build.proofs.Folded.{Fine, faces_ready, start_ready}
use Rattle.builder_build.proofs.Settle.{Whole}
use Rattle.builder_faces.specs.Steps.{so_far}
use Rattle.builder_fans.specs.Chains.{shared, shared_of, with_shared, with_vertex_mark, with_threads, Roomy, SameRooms}
use Rattle.builder_fans.specs.Chains.{Threads, threads, threaded, marked, rings, spread_over, chains_of}
use Rattle.builder_fans.proofs.Marks.{fast}
use Rattle.builder.specs.Calls.{skipped_of, outcome, faces_in, Fresh, Begun}

-- a table that was made blank is the refusal's
pub made_blank : (rc rv a c v : ℕ) (t : Table) → t ≡ blank c v → c ≡ rc → v ≡ rv → built a 0 t ≡ refused_build rc rv a
made_blank rc rv a c v t e p q = rw (e, p, q)

-- parts as long as they were are of the shape that they had
pub shaped_on : (t u : Table) → SameRooms t u → Shaped t → Shaped u
shaped_on t u R S =
    record {
      corner_most = omega (arith, R.cm, S.corner_most);
      vertex_most = omega (arith, R.vm, S.vertex_most);
      corner_vertex_room = R.cv ∙ S.corner_vertex_room ∙ sym R.cm;
      corner_opposite_room = R.co ∙ S.corner_opposite_room ∙ sym R.cm;
      vertex_corner_room = R.vc ∙ S.vertex_corner_room ∙ sym R.vm;
      vertex_point_room = R.vp ∙ S.vertex_point_room ∙ ap (λ (x : ℕ). 3 * x) (sym R.vm);
    }

-- ---- the duplicates

module _ (t : Table) where
  abbrev M : List ℕ
  M = marked (rings t) t.vertex_corner t.vertices 0 t.corner_mark

  abbrev K : Threads
  K = threaded t.corner_vertex t.corners (threads M t.vertex_mark)

  -- where the corners left are threaded
  abbrev pub chained : Table
  chained = with_threads (with_corner_mark t M) K

  pub chained_by : (u w : Table) → u ≡ with_corner_mark t M → w ≡ with_threads u (threaded u.corner_vertex u.corners (threads u.corner_mark u.vertex_mark))
      → w ≡ chained
  chained_by u w p q = q ∙ ap (λ (x : Table). with_threads x (threaded x.corner_vertex x.corners (threads x.corner_mark x.vertex_mark))) p

module _ (t : Table) (sk : ℕ) (G : Begun t sk) (w : Table) (e : w ≡ chained t) (Q : SameRooms t w) where
  -- what spread asks, at the room that the marks are
  pub chained_roomy : Roomy (vertex_room w) w
  chained_roomy =
      let z : w.vertices ≡ t.vertices = ap (λ (x : Table). x.vertices) e in
      record { most = omega (arith, Q.vm, G.small); few = omega (arith, Q.vm, z, G.ready.vertices) }

  module _ (points : List Float) (lay : t.vertex_point ≡ laid (vertex_room t) points) where
    abbrev rc : ℕ
    rc = corner_room t

    abbrev rv : ℕ
    rv = vertex_room t

    abbrev nv : ℕ
    nv = t.vertices

    abbrev n : ℕ
    n = t.corners

    L : Linked (λ d. d < n) (λ d. get_or t.corner_opposite d absent) (λ d. get_or t.corner_vertex d 0)
    L = paired_linked G.ready.paired

    W : Whole n rc rv (λ d. get_or t.corner_opposite d absent) (shared_of t)
    W = record { cv_length = G.ready.cv_length; vc_length = G.ready.vc_length; linked = L; below = G.ready.below; home = G.ready.home; has = G.ready.has }

    chains : K t ≡ threaded t.corner_vertex n (threads (marked (rings t) t.vertex_corner nv 0 (replicate rc 0)) (replicate rv 0))
    chains = ap (λ (x : List ℕ). threaded t.corner_vertex n (threads x t.vertex_mark)) (ap (marked (rings t) t.vertex_corner nv 0) G.marks)
        ∙ ap (λ (x : List ℕ). threaded t.corner_vertex n (threads (marked (rings t) t.vertex_corner nv 0 (replicate rc 0)) x)) G.flags

    abbrev S : Shared
    S = spread rv nv points (faces_in t sk)

    same : chains_of w w.vertices 0 (shared_of w) ≡ S
    same =
        ap (λ (x : Table). chains_of x x.vertices 0 (shared_of x)) e
        ∙ ap (λ (x : Threads). spread_over (rings t) x.link x.head n nv 0 (shared_of t)) chains
        ∙ fast n rc rv nv (λ d. get_or t.corner_opposite d absent) (rings t) (ring_exact t.corner_opposite n L (λ d h. h)) (shared_of t) W G.ready.fits refl G.ready.vertices
        ∙ ap (λ (p : List Float). vertices (rings t) n nv 0 (shared t.corner_vertex t.vertex_corner p nv)) lay

    pub finish_full : (a : ℕ) → a ≡ 5 → rv < (chains_of w w.vertices 0 (shared_of w)).nv
        → refused_build rc rv a ≡ finish rc rv nv points (go (faces_in t sk))
    unfolding finish
    finish_full a p h =
        let z : rv < S.nv = subst (λ (s : Shared). rv < s.nv) same h in
        rw (lt-ltb rv S.nv z, p)

    pub finish_fits : (u : Table) → SameRooms w u
        → (u ≡ with_shared w (chains_of w w.vertices 0 (shared_of w))) × ((chains_of w w.vertices 0 (shared_of w)).nv ≤ rv)
        → (cm vm : List ℕ) → cm ≡ replicate (length u.corner_mark) 0 → vm ≡ replicate (length u.vertex_mark) 0
        → (x : Table) → x ≡ with_vertex_mark (with_vertex_mark (with_corner_mark u cm) vm) (isolated u.vertex_corner u.vertices 0 vm)
        → built 0 sk x ≡ finish rc rv nv points (go (faces_in t sk))
    unfolding finish
    finish_fits u R g cm vm p q x d =
        let z : S.nv ≤ rv = subst (λ (s : Shared). s.nv ≤ rv) same g.1 in
        rw (le-ltb rv S.nv z) (ap (built 0 sk) (d ∙ made))
      where
        left : u ≡ with_shared (chained t) S
        left = g.0 ∙ ap (with_shared w) same ∙ ap (λ (v : Table). with_shared v S) e

        cleared : cm ≡ replicate rc 0
        cleared = p ∙ ap (λ (k : ℕ). replicate k 0) (R.cm ∙ Q.cm)

        unflagged : vm ≡ replicate rv 0
        unflagged = q ∙ ap (λ (k : ℕ). replicate k 0) (R.vm ∙ Q.vm)

        made : with_vertex_mark (with_vertex_mark (with_corner_mark u cm) vm) (isolated u.vertex_corner u.vertices 0 vm)
            ≡ table S.cv t.corner_opposite (replicate rc 0) S.vc (isolated S.vc S.nv 0 (replicate rv 0)) S.vp S.nv n
        made =
            ap (λ (v : Table). with_vertex_mark (with_vertex_mark (with_corner_mark v cm) vm) (isolated v.vertex_corner v.vertices 0 vm)) left
            ∙ ap (λ (l : List ℕ). table S.cv t.corner_opposite l S.vc (isolated S.vc S.nv 0 vm) S.vp S.nv n) cleared
            ∙ ap (λ (l : List ℕ). table S.cv t.corner_opposite (replicate rc 0) S.vc (isolated S.vc S.nv 0 l) S.vp S.nv n) unflagged

-- ---- points and faces

drop_replicate : (m n : ℕ) (x : Float) → drop m (replicate n x) ≡ replicate (n - m) x
drop_replicate zero n x = rw sub-zero
drop_replicate (suc m) zero x = let z : 0 - suc m ≡ 0 = omega arith in rw z
drop_replicate (suc m) (suc n) x = let z : suc n - suc m ≡ n - m = omega arith in rw z (drop_replicate m n x)

module _ (t : Table) (ps : List Float) (B : Fresh t ps) where
  points_blank : t.vertex_point ≡ replicate (3 * (vertex_room t)) nought
  points_blank = ap (λ (x : Table). x.vertex_point) B.empty

  vp_long : length t.vertex_point ≡ 3 * (vertex_room t)
  vp_long = ap length points_blank ∙ length-replicate (3 * (vertex_room t)) nought

  pub lay_fits : length ps ≤ length t.vertex_point
  lay_fits = omega (arith, vp_long, B.thirds, B.fits)

  pub laid_is : (vp : List Float) → vp ≡ sets t.vertex_point 0 ps → vp ≡ laid (vertex_room t) ps
  unfolding laid
  laid_is vp e = e ∙ sets-eq ps t.vertex_point 0 (omega (arith, lay_fits)) ∙ ap (λ (x : List Float). ps ++ x) tail
    where
      tail : drop (0 + length ps) t.vertex_point ≡ replicate (3 * (vertex_room t) - length ps) nought
      tail = let z : 0 + length ps ≡ length ps = omega arith in rw (z, points_blank) (drop_replicate (length ps) (3 * (vertex_room t)) nought)

  begin : so_far t.corner_vertex t.corner_opposite t.vertex_corner 0 0 ≡ start (corner_room t) (vertex_room t)
  begin = ap (λ (x : Table). so_far x.corner_vertex x.corner_opposite x.vertex_corner 0 0) B.empty

  module _ (fs : List ℕ) where
    pub made_refused : (a : ℕ) → refuse a ≡ faces (length ps / 3) (corner_room t) (so_far t.corner_vertex t.corner_opposite t.vertex_corner 0 0) fs
        → refused_build (corner_room t) (vertex_room t) a ≡ finish (corner_room t) (vertex_room t) (length ps / 3) ps (faces (length ps / 3) (corner_room t) (start (corner_room t) (vertex_room t)) fs)
    unfolding finish
    made_refused a e = ap (finish (corner_room t) (vertex_room t) (length ps / 3) ps) (e ∙ ap (λ (k : SoFar). faces (length ps / 3) (corner_room t) k fs) begin)

    module _ (cv co vc : List ℕ) (n sk : ℕ) (e : go (so_far cv co vc n sk) ≡ faces (length ps / 3) (corner_room t) (so_far t.corner_vertex t.corner_opposite t.vertex_corner 0 0) fs) where
      e' : go (so_far cv co vc n sk) ≡ faces (length ps / 3) (corner_room t) (start (corner_room t) (vertex_room t)) fs
      e' = e ∙ ap (λ (k : SoFar). faces (length ps / 3) (corner_room t) k fs) begin

      pub begun : (vp : List Float) → length vp ≡ length t.vertex_point → Begun (table cv co t.corner_mark vc t.vertex_mark vp (length ps / 3) n) sk
      begun vp l = record {
        ready = subst (λ (c : Course). Fine (length ps / 3) (corner_room t) (vertex_room t) c) (sym e') (faces_ready (length ps / 3) (corner_room t) (vertex_room t) fs (start (corner_room t) (vertex_room t)) (start_ready (length ps / 3) (corner_room t) (vertex_room t) B.fits B.corners));
        marks = ap (λ (x : Table). x.corner_mark) B.empty;
        flags = ap (λ (x : Table). x.vertex_mark) B.empty;
        points = l ∙ vp_long;
        small = B.rooms;
      }

      pub made_done : (o : BuildOutcome) → o ≡ finish (corner_room t) (vertex_room t) (length ps / 3) ps (go (so_far cv co vc n sk)) → o ≡ finish (corner_room t) (vertex_room t) (length ps / 3) ps (faces (length ps / 3) (corner_room t) (start (corner_room t) (vertex_room t)) fs)
      made_done o q = q ∙ ap (finish (corner_room t) (vertex_room t) (length ps / 3) ps) e'

-- ---- the checks of the call

module _ (t : Table) (ps : List Float) (fs : List ℕ) (b : Bool) (is : b ≡ shaped t) where
  pub build_unshaped : b ≡ false → built 1 0 t ≡ build t ps fs
  unfolding build
  build_unshaped e = rw (← is, e)

  module _ (y : b ≡ true) where
    pub build_thirds : (length ps % 3 ≡ 0 → ⊥) → built 1 0 t ≡ build t ps fs
    unfolding build
    build_thirds h = rw (← is, y, ne_eqb (length ps % 3) 0 h)

    pub shape : Shaped t
    shape = shaped_true t (sym is ∙ y)

    module _ (z : length ps % 3 ≡ 0) (u : Table) (B : u ≡ blank (corner_room t) (vertex_room t)) where
      cm_long : length u.corner_mark ≡ corner_room t
      cm_long = ap (λ (x : Table). length x.corner_mark) B ∙ length-replicate {0} {A = ℕ} (corner_room t) 0

      vm_long : length u.vertex_mark ≡ vertex_room t
      vm_long = ap (λ (x : Table). length x.vertex_mark) B ∙ length-replicate {0} {A = ℕ} (vertex_room t) 0

      pub blank_shape : Shaped u
      blank_shape =
          record {
            corner_most = omega (arith, cm_long, shape.corner_most);
            vertex_most = omega (arith, vm_long, shape.vertex_most);
            corner_vertex_room = ap (λ (x : Table). length x.corner_vertex) B ∙ length-replicate {0} {A = ℕ} (corner_room t) 0 ∙ sym cm_long;
            corner_opposite_room = ap (λ (x : Table). length x.corner_opposite) B ∙ length-replicate {0} {A = ℕ} (corner_room t) absent ∙ sym cm_long;
            vertex_corner_room = ap (λ (x : Table). length x.vertex_corner) B ∙ length-replicate {0} {A = ℕ} (vertex_room t) absent ∙ sym vm_long;
            vertex_point_room =
                ap (λ (x : Table). length x.vertex_point) B ∙ length-replicate (3 * vertex_room t) nought ∙ ap (λ (x : ℕ). 3 * x) (sym vm_long);
          }

      -- 5, then 4
      module _ (fin : Bool) (is_fin : fin ≡ all_finite ps) (a : ℕ) (met : a ≡ cond (ltb (vertex_room u) (length ps / 3)) 5 (cond (not fin) 4 0)) where
        pub build_refused : (a ≡ 0 → ⊥) → built a 0 u ≡ build t ps fs
        unfolding build
        build_refused k =
            made_blank (corner_room t) (vertex_room t) a _ _ u B refl refl
            ∙ by (ltb (vertex_room t) (length ps / 3)) fin (rw vm_long at met) k ∙ rw (← is, y, eq-eqb (length ps % 3) 0 z, ← is_fin)
          where
            by : (over finite : Bool) → a ≡ cond over 5 (cond (not finite) 4 0) → (a ≡ 0 → ⊥)
                → refused_build (corner_room t) (vertex_room t) a
                ≡ cond over (refused_build (corner_room t) (vertex_room t) 5)
                (cond finite (finish (corner_room t) (vertex_room t) (length ps / 3) ps (faces (length ps / 3) (corner_room t) (start (corner_room t) (vertex_room t)) fs))
                (refused_build (corner_room t) (vertex_room t) 4))
            by true f e k = rw e
            by false true e k = absurd (k e)
            by false false e k = rw e

        -- neither
        build_passed : a ≡ 0 → (length ps / 3 ≤ vertex_room t) × (fin ≡ true)
        build_passed e = by (ltb (vertex_room t) (length ps / 3)) refl fin refl (sym (rw vm_long at met) ∙ e)
          where
            by : (over : Bool) → ltb (vertex_room t) (length ps / 3) ≡ over → (finite : Bool) → fin ≡ finite → ◌≡◌ {A = ℕ} (cond over 5 (cond (not finite) 4 0)) 0
                → (length ps / 3 ≤ vertex_room t) × (fin ≡ true)
            by true p f q h = absurd (omega (arith, h))
            by false p true q h = (ltb-false _ _ p, q)
            by false p false q h = absurd (omega (arith, h))

      module _ (h : length ps / 3 ≤ vertex_room t) where
        build_fresh : Fresh u ps
        build_fresh =
            record {
              empty = B ∙ rw (cm_long, vm_long);
              corners = omega (arith, cm_long, shape.corner_most);
              rooms = omega (arith, vm_long, shape.vertex_most);
              fits = omega (arith, vm_long, h);
              thirds = z;
            }

        -- what the rest of the call makes of u
        build_made : all_finite ps ≡ true → (o : BuildOutcome)
            → o ≡ finish (corner_room u) (vertex_room u) (length ps / 3) ps (faces (length ps / 3) (corner_room u) (start (corner_room u) (vertex_room u)) fs)
            → o ≡ build t ps fs
        unfolding build
        build_made e o q = (rw (cm_long, vm_long) at q) ∙ rw (← is, y, eq-eqb (length ps % 3) 0 z, le-ltb (vertex_room t) (length ps / 3) h, e)

      -- where neither the points nor their number is refused, what is left is the rest of the call
      pub build_goes : (fin : Bool) → fin ≡ all_finite ps → (a : ℕ) → a ≡ cond (ltb (vertex_room u) (length ps / 3)) 5 (cond (not fin) 4 0) → a ≡ 0
          → Fresh u ps
          × ((o : BuildOutcome)
          → o ≡ finish (corner_room u) (vertex_room u) (length ps / 3) ps (faces (length ps / 3) (corner_room u) (start (corner_room u) (vertex_room u)) fs)
          → o ≡ build t ps fs)
      build_goes fin is_fin a met e =
          let w = build_passed fin is_fin a met e in
          (build_fresh w.0, build_made w.0 (sym is_fin ∙ w.1))

-- ---- the end of the call: u before the attempt, v after it

module _ (r : Result ℕ Refusal) (u v : Table) (o : BuildOutcome) (q : outcome u r v ≡ o) where
  pub settled : is_err r ≡ false → built (answer_of r) (skipped_of r) v ≡ o
  settled = by r q
    where
      by : (x : Result ℕ Refusal) → outcome u x v ≡ o → is_err x ≡ false → built (answer_of x) (skipped_of x) v ≡ o
      by (Ok k) h e = h
      by (Err n) h e = absurd (true≢false e)

  pub settled_blank : is_err r ≡ true → SameRooms u v → (w : Table) → w ≡ blank (corner_room v) (vertex_room v)
      → built (answer_of r) (skipped_of r) w ≡ o
  settled_blank e R w B = by r q e
    where
      by : (x : Result ℕ Refusal) → outcome u x v ≡ o → is_err x ≡ true → built (answer_of x) (skipped_of x) w ≡ o
      by (Ok k) h z = absurd (false≢true z)
      by (Err n) h z = made_blank (corner_room u) (vertex_room u) (number_of n) _ _ w B R.cm R.vm ∙ h
