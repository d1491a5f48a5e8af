-- "A well-formed table never gets 15, and the visits are then exactly the corners of that vertex": the walk of the definition is the
-- walk of the theory of fans, which closes or meets a border at both ends. Assumes nothing.
use Prim.Native.Nat.{ℕ, zero, suc, ◌+◌, ◌-◌, ◌≤◌, ◌<◌, min}
use mathlib.Core.Path.{◌≡◌, refl, ap, sym, ◌∙◌}
use mathlib.Core.Logic.{◌≢◌}
use mathlib.Core.Bool.{Bool, true, false, cond, ◌&&◌}
use mathlib.Core.List.{List, ◌++◌, Memᴰ}
use native.Mathlib.Omega.{arith}
use borrow.Author.Tests.{eq-eqb, ne_eqb, ltb-true, eqb-true}
use lib.Dec.{eqb, ltb, leb}
use lib.ListN.{length, drop}
use Rattle.corner.specs.Corner.{absent, next, previous, turn}
use Rattle.table.specs.Slots.{opposite_at, mark_at}
use Rattle.table.specs.Table.{Table, vertex_room, shaped, Shaped, vertex, corner, Live, LiveVertex}
use Rattle.table.specs.Rules.{WellFormed}
use Rattle.table.proofs.Lives.{true_live}
use Rattle.fan.proofs.Fan.{swing_l, swing_r, Linked, OneFan, face_previous}
use Rattle.fan.proofs.Walk.{it, Stop, border, closes, Walk}
use Rattle.fan.proofs.Ring.{stuck_l, stuck_r, open_right}
use Rattle.fan.proofs.Visits.{after, length_after, Covers, Sound, w, v, leftward, rightward, ring_covers, fan_covers, total, covers_sound}
use Rattle.fan.proofs.Tables.{table_linked, table_fan}
use Rattle.traversal_visits.specs.Walk as Specs
use Rattle.traversal_visits.specs.Walk.{face_live, swing, Side, stop, more, side, left_of, right_of, tangled, closed, open', after_left, after_right, walk, visits}
use Rattle.traversal_lists.specs.Lists.{entries}
use Rattle.traversal_lists.specs.Outcome.{listed, refused_ring, walked}
use Rattle.traversal.specs.Ring.{used_corners, used_vertices, walk_of, ring_of}
use Rattle.traversal.specs.Promises.{VisitsBounded, NeverTangled, VisitsExact}
use Rattle.traversal_visits.proofs.Counting.{visits_bound}
use Rattle.traversal_visits.proofs.Steps.{lives_face, swing_border, swing_to_lem, side_border, side_closed, side_more}
use Rattle.traversal_lists.specs.declared.Kind.{Kind}
use Rattle.traversal_visits.specs.declared.End.{End}
use Rattle.traversal_visits.specs.declared.End.TheVariants.{AtBorder, AtStart}

-- ---- one side

-- the live corners
abbrev pub Lives : List ℕ → ℕ → ℕ → Type 0
Lives cm n d = (d < n) × (mark_at cm d ≡ 0)

module _ (co cm : List ℕ) (n : ℕ) where
  module _ (left : Bool) (c : ℕ) where
    abbrev onward : ℕ → ℕ
    onward d = turn left (opposite_at co (turn left d))

    abbrev stuck : ℕ → Type 0
    stuck d = opposite_at co (turn left d) ≡ absent

    -- a side stops where there is no opposite, and, to the left, where its swing closes the ring
    stops_border : (d room : ℕ) → stuck d → side left co cm n c room d ≡ stop AtBorder
    stops_border d room s =
        side_border left co cm n c d (swing left co cm n d) refl room (sym (swing_border left co cm n d (opposite_at co (turn left d)) refl s))

    stops_start : (d room : ℕ) → ¬ stuck d → face_live cm n (opposite_at co (turn left d)) ≡ true → left ≡ true → onward d ≡ c
        → side left co cm n c room d ≡ stop AtStart
    stops_start d room s f l e =
        side_closed left co cm n c d (swing left co cm n d) refl (onward d)
        (sym (swing_to_lem left co cm n d (opposite_at co (turn left d)) refl s true (sym f) refl))
        true (sym (both left (eqb (onward d) c) l (eq-eqb _ _ e))) room refl
      where
        both : (a b : Bool) → a ≡ true → b ≡ true → a && b ≡ true
        both a b p q = rw (p, q)

    goes_on : (d room : ℕ) → ¬ stuck d → face_live cm n (opposite_at co (turn left d)) ≡ true → onward d ≢ c
        → side left co cm n c (suc room) d ≡ more (onward d) (side left co cm n c room (onward d))
    goes_on d room s f e =
        let z : suc room - 1 ≡ room = omega arith in
        rw z at
        (side_more left co cm n c d (swing left co cm n d) refl (onward d)
        (sym (swing_to_lem left co cm n d (opposite_at co (turn left d)) refl s true (sym f) refl))
        false (sym (neither left (eqb (onward d) c) (ne_eqb _ _ e))) (suc room) refl (λ y. absurd (omega arith)))
      where
        neither : (a b : Bool) → b ≡ false → a && b ≡ false
        neither true b q = q
        neither false b q = refl

    -- the side that begins at c is the walk by swings, up to its last corner
    module _ (W : Walk (Lives cm n) stuck onward n c)
        (lands : (d : ℕ) → Lives cm n d → ¬ stuck d → face_live cm n (opposite_at co (turn left d)) ≡ true)
        (e : End) (ends : (room : ℕ) → side left co cm n c room (it onward c W.last) ≡ stop e) where
      side_from : (k i room : ℕ) → i + k ≡ W.last → k ≤ room
          → side left co cm n c room (it onward c i) ≡ record { visits = after (it onward c) i k; end = e }
      side_from zero i room z h = let y : W.last ≡ i = omega arith in rw y at (ends room)
      side_from (suc k) i zero z h = absurd (omega arith)
      side_from (suc k) i (suc room) z h =
          goes_on (it onward c i) room (W.moves i (omega arith)) (lands (it onward c i) (W.lives i (omega arith)) (W.moves i (omega arith)))
          (W.opens i (omega arith))
          ∙ ap (λ (s : Side). more (it onward c (suc i)) s) (side_from k (suc i) room (omega arith) (omega arith))

      side_is : (room : ℕ) → W.last ≤ room → side left co cm n c room c ≡ record { visits = after (it onward c) 0 W.last; end = e }
      side_is room h = side_from W.last 0 room (omega arith) h

-- ---- the whole walk

-- where live corners pair up as R2 to R4 say, R5 or not
module _ (co cm : List ℕ) (n : ℕ) {vtx : ℕ → ℕ} (L : Linked (Lives cm n) (opposite_at co) vtx) (c : ℕ) (h : Lives cm n c) where
  abbrev opp : ℕ → ℕ
  opp d = opposite_at co d

  abbrev pub low : (d : ℕ) → Lives cm n d → d < n
  low d a = a.0

  face_of_lem : (d : ℕ) → Lives cm n d → face_live cm n d ≡ true
  face_of_lem d a =
      lives_face cm n d (true_live cm n d a) (true_live cm n (next d) (L.face d a)) (true_live cm n (previous d) (face_previous L d a))

  lands_left : (d : ℕ) → Lives cm n d → opp (next d) ≢ absent → face_live cm n (opp (next d)) ≡ true
  lands_left d a t = face_of_lem (opp (next d)) (L.over (next d) (L.face d a) t)

  lands_right : (d : ℕ) → Lives cm n d → opp (previous d) ≢ absent → face_live cm n (opp (previous d)) ≡ true
  lands_right d a t = face_of_lem (opp (previous d)) (L.over (previous d) (face_previous L d a) t)

  abbrev pub lefts : Walk (Lives cm n) (stuck_l opp) (swing_l opp) n c
  lefts = w L n low c h

  abbrev pub rights : Walk (Lives cm n) (stuck_r opp) (swing_r opp) n c
  rights = v L n low c h

  -- a closed ring, or an open fan whose two sides end at borders
  pub data Healthy : Type 0 where
    ring : ¬ stuck_l opp (it (swing_l opp) c lefts.last) → swing_l opp (it (swing_l opp) c lefts.last) ≡ c
        → walk co cm n c ≡ closed c (leftward L n low c h) → Healthy
    fan : stuck_l opp (it (swing_l opp) c lefts.last) → stuck_r opp (it (swing_r opp) c rights.last)
        → walk co cm n c ≡ open' c (leftward L n low c h) (rightward L n low c h) → Healthy

  left_side : (e : End) → ((room : ℕ) → side true co cm n c room (it (swing_l opp) c lefts.last) ≡ stop e)
      → left_of co cm n c ≡ record { visits = leftward L n low c h; end = e }
  unfolding left_of leftward
  left_side e ends = side_is co cm n true c lefts lands_left e ends (n - 1) (omega (arith, lefts.small))

  right_side : (e : End) → stuck_l opp (it (swing_l opp) c lefts.last)
      → ((room : ℕ) → side false co cm n c room (it (swing_r opp) c rights.last) ≡ stop e)
      → (left_of co cm n c).visits ≡ leftward L n low c h → right_of co cm n c ≡ record { visits = rightward L n low c h; end = e }
  unfolding right_of leftward rightward
  right_side e s ends l =
      side_is co cm n false c rights lands_right e ends (n - 1 - length (left_of co cm n c).visits)
      (omega (arith, total L n low c h s, ap length l, length_after (it (swing_l opp) c) 0 lefts.last))

  pub healthy : Healthy
  unfolding walk after_left after_right
  healthy = go lefts.ends
    where
      go : Stop (stuck_l opp) (swing_l opp) c (it (swing_l opp) c lefts.last) → Healthy
      go (closes t u) =
          let l = left_side AtStart
          (λ room. stops_start co cm n true c (it (swing_l opp) c lefts.last) room t
          (lands_left _ (lefts.lives lefts.last (omega arith)) t) refl u) in
          ring t u (rw (face_of_lem c h, l))
      go (border s) =
          let l = left_side AtBorder (λ room. stops_border co cm n true c (it (swing_l opp) c lefts.last) room s) in
          let s' : stuck_r opp (it (swing_r opp) c rights.last) = open_right L n low c h lefts s rights in
          let r = right_side AtBorder s (λ room. stops_border co cm n false c (it (swing_r opp) c rights.last) room s') (ap (λ (x : Side). x.visits) l) in
          fan s s' (rw (face_of_lem c h, l, r))

  -- never tangled
  pub walk_calm : walk co cm n c ≢ tangled
  walk_calm z = go healthy
    where
      go : Healthy → ⊥
      go (ring t u e) = let y : ◌≡◌ {A = ℕ} 0 1 = cc (sym e ∙ z) in omega arith
      go (fan s s' e) = let y : ◌≡◌ {A = ℕ} 0 1 = cc (sym e ∙ z) in omega arith

  -- at most n visits, none twice, and exactly the fan of c
  pub walk_covers : Covers (Lives cm n) opp n c (visits (walk co cm n c))
  walk_covers = go healthy
    where
      go : Healthy → Covers (Lives cm n) opp n c (visits (walk co cm n c))
      go (ring t u e) = rw e (ring_covers L n low c h t u)
      go (fan s s' e) = rw e (fan_covers L n low c h s)

  -- with R5: exactly the live corners of the vertex of c
  pub walk_sound : OneFan (Lives cm n) opp vtx → Sound (Lives cm n) vtx n c (visits (walk co cm n c))
  walk_sound F = covers_sound L n low c h F (visits (walk co cm n c)) walk_covers

-- ---- a well-formed table

-- a walk that is not tangled is no 15
listed_not : (m : ℕ) (es list : List ℕ) → (listed m es list).answer ≢ 15
listed_not m es list e = go (leb (length es) (length list)) e
  where
    go : (b : Bool) → (cond b (record { answer = 0; visited = m; written = length es; list = es ++ drop (length es) list }) (refused_ring 16 list)).answer ≢ 15
    go true z = absurd (omega arith)
    go false z = absurd (omega arith)

walked_not : (kind : Kind) (cv : List ℕ) (x : Specs.Walk) (list : List ℕ) → x ≢ tangled → (walked kind cv x list).answer ≢ 15
walked_not kind cv tangled list n e = n refl
walked_not kind cv (closed c l) list n e = listed_not (length (visits (closed c l))) (entries kind cv (closed c l)) list e
walked_not kind cv (open' c l r) list n e = listed_not (length (visits (open' c l r))) (entries kind cv (open' c l r)) list e

module _ (t : Table) (S : Shaped t) (W : WellFormed t) where
  pub used_all : used_corners t ≡ t.corners
  used_all = omega (arith, W.corners_fit)

  -- from any live corner: never tangled, and the visits are exactly the live corners of its vertex, none twice
  module _ (c : ℕ) (h : Live t c) where
    pub corner_calm : walk t.corner_opposite t.corner_mark t.corners c ≢ tangled
    corner_calm = walk_calm t.corner_opposite t.corner_mark t.corners (table_linked t S W) c h

    pub corner_healthy : Healthy t.corner_opposite t.corner_mark t.corners (table_linked t S W) c h
    corner_healthy = healthy t.corner_opposite t.corner_mark t.corners (table_linked t S W) c h

    pub corner_sound : Sound (Live t) (vertex t) t.corners c (visits (walk t.corner_opposite t.corner_mark t.corners c))
    corner_sound = walk_sound t.corner_opposite t.corner_mark t.corners (table_linked t S W) c h (table_fan t S W)

  -- from the corner of a live vertex: exactly the live corners of that vertex
  module _ (u : ℕ) (h : LiveVertex t u) where
    pub vertex_calm : walk_of t u ≢ tangled
    vertex_calm = rw used_all (corner_calm (corner t u) (W.corner_live u h))

    pub vertex_sound : Sound (Live t) (vertex t) t.corners (corner t u) (visits (walk_of t u))
    vertex_sound = rw used_all (corner_sound (corner t u) (W.corner_live u h))

    pub vertex_visits : (d : ℕ) → Memᴰ d (visits (walk_of t u)) → Live t d × (vertex t d ≡ u)
    vertex_visits d m = let k = vertex_sound.from d m in (k.0, k.1 ∙ W.corner_own u h)

    pub visits_vertex : (d : ℕ) → Live t d → vertex t d ≡ u → Memᴰ d (visits (walk_of t u))
    visits_vertex d l e = vertex_sound.to d l (e ∙ sym (W.corner_own u h))

  -- a ring call never answers 15
  ring_never_15 : (kind : Kind) (u : ℕ) (list : List ℕ) → (ring_of kind u t list).answer ≢ 15
  unfolding ring_of
  ring_never_15 kind u list e = by_1 (shaped t) refl
    where
      by_10 : shaped t ≡ true → ltb u (used_vertices t) ≡ true → (b : Bool) → eqb (mark_at t.vertex_mark u) 0 ≡ b → ⊥
      by_10 a k true q =
          let z : u < min t.vertices (vertex_room t) = ltb-true _ _ k in
          walked_not kind t.corner_vertex (walk_of t u) list (vertex_calm u (omega arith, eqb-true _ _ q)) (rw (a, k, q) at e)
      by_10 a k false q = let z : ◌≡◌ {A = ℕ} 10 15 = rw (a, k, q) at e in omega arith

      by_9 : shaped t ≡ true → (b : Bool) → ltb u (used_vertices t) ≡ b → ⊥
      by_9 a true k = by_10 a k (eqb (mark_at t.vertex_mark u) 0) refl
      by_9 a false k = let z : ◌≡◌ {A = ℕ} 9 15 = rw (a, k) at e in omega arith

      by_1 : (b : Bool) → shaped t ≡ b → ⊥
      by_1 true a = by_9 a (ltb u (used_vertices t)) refl
      by_1 false a = let z : ◌≡◌ {A = ℕ} 1 15 = rw a at e in omega arith

-- ---- the statements of specs/Promises.antt

pub never_15 : NeverTangled
never_15 t S W kind v list = ring_never_15 t S W kind v list

pub visits_exact : VisitsExact
visits_exact t S W v h =
    record {
      only = vertex_visits t S W v h;
      all = visits_vertex t S W v h;
      once = (vertex_sound t S W v h).distinct;
    }

listed_bound : (m n : ℕ) (es list : List ℕ) → m ≤ n → (listed m es list).visited ≤ n
listed_bound m n es list h = go (leb (length es) (length list))
  where
    go : (b : Bool) → (cond b (record { answer = 0; visited = m; written = length es; list = es ++ drop (length es) list }) (refused_ring 16 list)).visited ≤ n
    go true = h
    go false = omega arith

walked_bound : (kind : Kind) (cv : List ℕ) (x : Specs.Walk) (list : List ℕ) (n : ℕ) → length (visits x) ≤ n → (walked kind cv x list).visited ≤ n
walked_bound kind cv tangled list n h = omega arith
walked_bound kind cv (closed c l) list n h = listed_bound (length (visits (closed c l))) n (entries kind cv (closed c l)) list h
walked_bound kind cv (open' c l r) list n h = listed_bound (length (visits (open' c l r))) n (entries kind cv (open' c l r)) list h

pub visited_bound : VisitsBounded
unfolding ring_of
visited_bound kind v t list = go (shaped t) (ltb v (used_vertices t)) (eqb (mark_at t.vertex_mark v) 0)
  where
    go : (a b c : Bool)
        → (cond a (cond b (cond c (walked kind t.corner_vertex (walk_of t v) list) (refused_ring 10 list)) (refused_ring 9 list)) (refused_ring 1 list)).visited ≤ used_corners t
    go true true true =
        walked_bound kind t.corner_vertex (walk_of t v) list (used_corners t)
        (visits_bound t.corner_opposite t.corner_mark (used_corners t) (corner t v))
    go true true false = omega arith
    go true false c = omega arith
    go false b c = omega arith
