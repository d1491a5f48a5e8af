-- The loops along a walk to the left that stands on `via` and is closed where it crosses to the corner before its first. Assumes nothing.
use mathlib.Core.Path.{◌≡◌, refl, ap, sym, ◌∙◌}
use mathlib.Core.Bool.{Bool, true, false, cond}
use mathlib.Core.List.{List, [], ◌∷◌, ◌++◌, map}
use Prim.Native.Nat.{ℕ, ◌+◌, ◌-◌, ◌≤◌, ◌<◌}
use Rattle.std.proofs.Common.{append_assoc, append-nil}
use native.Mathlib.Omega.{arith}
use mir.Val.{bool_byte}
use Rattle.corner.specs.Corner.{absent, next, previous}
use Rattle.corner.proofs.Turns.{next_previous, previous_next}
use Rattle.table.specs.Slots.{opposite_at, vertex_at}
use Rattle.ring.specs.Ring.{Sweep, stop, more, sweep}
use Rattle.ring.proofs.Steps.{stands, side_border, side_closed, side_more}
use Rattle.edge_collapse.specs.EdgeCollapse.{how_many, meets_border, neighbours}

-- ---- a step

module _ (co : List ℕ) (c₀ via x first : ℕ) (at : x ≡ opposite_at co via) (begin : first ≡ previous c₀) (n : ℕ) (some : 0 < n) where
  pub left_border : absent ≡ x → sweep true co c₀ n (stands true via) ≡ stop true
  left_border e = side_border true co c₀ via x at n some (sym e)

  module _ (o : ℕ) (told : o ≡ x) (there : o ≡ absent → ⊥) where
    pub left_closed : o ≡ first → sweep true co c₀ n (stands true via) ≡ stop false
    left_closed e = side_closed true co c₀ via o (told ∙ at) there (next o) refl n some (ap next (e ∙ begin) ∙ next_previous c₀)

    pub left_more : (o ≡ first → ⊥) → (via' : ℕ) → via' ≡ previous o → sweep true co c₀ n (stands true via) ≡ more (next o) (sweep true co c₀ (n - 1) (stands true via'))
    left_more ne via' q =
        side_more true co c₀ via o (told ∙ at) there (next o) refl n some (λ z. ne (sym (previous_next o) ∙ ap previous z ∙ sym begin)) via' q

-- ---- a test, counted

abbrev one : Bool → ℕ
one b = cond b 1 0

counts : (u : ℕ) (b c : Bool) → u ≡ bool_byte b → b ≡ c → u ≡ one c
counts u true c q e = q ∙ ap one e
counts u false c q e = q ∙ ap one e

one_at_most : (u : ℕ) (b : Bool) → u ≡ bool_byte b → u ≤ 1
one_at_most u true q = omega (arith, q)
one_at_most u false q = omega (arith, q)

-- ---- what is left of a walk

module _ (cv co : List ℕ) (n c₀ : ℕ) where
  abbrev value : ℕ → ℕ
  value d = vertex_at cv (previous d)

  -- of a walk that stands on `via`, with so many steps at most
  abbrev pub here : ℕ → ℕ → Sweep
  here rest via = sweep true co c₀ rest (stands true via)

  -- the neighbours that it is to pass
  abbrev pub coming : ℕ → ℕ → List ℕ
  coming rest via = map value (here rest via).visits

  begins : (via : ℕ) → via ≡ next c₀ → here n via ≡ sweep true co c₀ n c₀
  begins via e = ap (sweep true co c₀ n) (ap previous e ∙ previous_next c₀)

  border_begins : (via : ℕ) → via ≡ next c₀ → (here n via).border ≡ meets_border co n c₀
  unfolding meets_border
  border_begins via e = ap (λ (s : Sweep). s.border) (begins via e)

  list_begins : (via first : ℕ) → via ≡ next c₀ → first ≡ previous c₀ → vertex_at cv first ∷ coming n via ≡ neighbours cv co n c₀
  unfolding neighbours
  list_begins via first e is =
      ap (λ (x : ℕ). vertex_at cv x ∷ coming n via) is
      ∙ ap (λ (s : Sweep). vertex_at cv (previous c₀) ∷ map value s.visits) (begins via e)

  -- the neighbour at the corner that is come to is that of the opposite that is crossed to
  list_goes : (rest via o via' : ℕ) → here rest via ≡ more (next o) (here (rest - 1) via') → coming rest via ≡ vertex_at cv o ∷ coming (rest - 1) via'
  list_goes rest via o via' h =
      ap (λ (s : Sweep). map value s.visits) h ∙ ap (λ (x : ℕ). vertex_at cv x ∷ coming (rest - 1) via') (previous_next o)

  border_goes : (rest via o via' : ℕ) → here rest via ≡ more (next o) (here (rest - 1) via') → (here (rest - 1) via').border ≡ (here rest via).border
  border_goes rest via o via' h = sym (ap (λ (s : Sweep). s.border) h)

  -- ---- counted

  -- so many have passed, of those that the walk has come by
  pub record Walking (tests : (ℕ → Bool) → Type 0) (rest via passing : ℕ) : Type 0 where
    pub border : (here rest via).border ≡ meets_border co n c₀
    pub sum : (p : ℕ → Bool) → tests p → passing + how_many p (coming rest via) ≡ how_many p (neighbours cv co n c₀)
    pub bound : passing + rest ≤ n + 1

  module _ (tests : (ℕ → Bool) → Type 0) where
    pub walking_start : (via first v u : ℕ) (b : Bool) → via ≡ next c₀ → first ≡ previous c₀ → v ≡ vertex_at cv first → ((p : ℕ → Bool) → tests p → b ≡ p v)
        → u ≡ bool_byte b → Walking tests n via u
    walking_start via first v u b e is k t q =
        record {
          border = border_begins via e;
          sum = λ p h. ap (λ (x : ℕ). x + how_many p (coming n via)) (counts u b _ q (t p h ∙ ap p k)) ∙ ap (how_many p) (list_begins via first e is);
          bound = omega (arith, one_at_most u b q);
        }

    pub walking_more : (rest via passing o via' v u : ℕ) (b : Bool) → Walking tests rest via passing → 0 < rest
        → here rest via ≡ more (next o) (here (rest - 1) via') → v ≡ vertex_at cv o → ((p : ℕ → Bool) → tests p → b ≡ p v)
        → u ≡ bool_byte b → Walking tests (rest - 1) via' (passing + u)
    walking_more rest via passing o via' v u b W some h k t q =
        record {
          border = border_goes rest via o via' h ∙ W.border;
          sum = λ p s.
              let z : how_many p (coming rest via) ≡ one (p (vertex_at cv o)) + how_many p (coming (rest - 1) via') = ap (how_many p) (list_goes rest via o via' h) in
              omega (arith, W.sum p s, z, counts u b _ q (t p s ∙ ap p k));
          bound = omega (arith, W.bound, some, one_at_most u b q);
        }

    pub walking_border : (rest via passing : ℕ) (b : Bool) → Walking tests rest via passing → here rest via ≡ stop b → b ≡ meets_border co n c₀
    walking_border rest via passing b W h = sym (ap (λ (s : Sweep). s.border) h) ∙ W.border

    pub walking_sum : (rest via passing : ℕ) (b : Bool) → Walking tests rest via passing → here rest via ≡ stop b
        → (p : ℕ → Bool) → tests p → passing ≡ how_many p (neighbours cv co n c₀)
    walking_sum rest via passing b W h p t =
        let z : how_many p (coming rest via) ≡ 0 = ap (λ (s : Sweep). how_many p (map value s.visits)) h in
        omega (arith, W.sum p t, z)

  -- ---- gathered

  -- those that the walk has come by are in the list
  pub record Gathering (rest via : ℕ) (near : List ℕ) : Type 0 where
    pub border : (here rest via).border ≡ meets_border co n c₀
    pub list : near ++ coming rest via ≡ neighbours cv co n c₀

  pub gathering_start : (via first v : ℕ) (near : List ℕ) → via ≡ next c₀ → first ≡ previous c₀ → v ≡ vertex_at cv first → near ≡ v ∷ []
      → Gathering n via near
  gathering_start via first v near e is k q =
      record {
        border = border_begins via e;
        list = ap (λ (l : List ℕ). l ++ coming n via) q ∙ ap (λ (x : ℕ). x ∷ coming n via) k ∙ list_begins via first e is;
      }

  pub gathering_more : (rest via o via' v : ℕ) (near near' : List ℕ) → Gathering rest via near → here rest via ≡ more (next o) (here (rest - 1) via')
      → v ≡ vertex_at cv o → near' ≡ near ++ (v ∷ []) → Gathering (rest - 1) via' near'
  gathering_more rest via o via' v near near' G h k q =
      record {
        border = border_goes rest via o via' h ∙ G.border;
        list = ap (λ (l : List ℕ). l ++ coming (rest - 1) via') q
            ∙ append_assoc near (v ∷ []) (coming (rest - 1) via')
            ∙ ap (λ (x : ℕ). near ++ (x ∷ coming (rest - 1) via')) k
            ∙ ap (λ (l : List ℕ). near ++ l) (sym (list_goes rest via o via' h))
            ∙ G.list;
      }

  pub gathering_border : (rest via : ℕ) (near : List ℕ) (b : Bool) → Gathering rest via near → here rest via ≡ stop b → meets_border co n c₀ ≡ b
  gathering_border rest via near b G h = sym G.border ∙ ap (λ (s : Sweep). s.border) h

  pub gathering_list : (rest via : ℕ) (near : List ℕ) (b : Bool) → Gathering rest via near → here rest via ≡ stop b → near ≡ neighbours cv co n c₀
  gathering_list rest via near b G h = sym (append-nil near) ∙ ap (λ (s : Sweep). near ++ map value s.visits) (sym h) ∙ G.list
