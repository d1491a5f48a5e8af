-- A list without one of its entries. Assumes nothing.
use mathlib.Core.Path.{◌≡◌, refl, sym, ◌∙◌}
use mathlib.Core.Logic.{◌≢◌, ◌⊎◌, inl, inr}
use mathlib.Core.Bool.{Bool, true, false, cond}
use mathlib.Core.List.Memᴰ
use mathlib.Core.List.{List, [], ◌∷◌, Memᴰ}
use Prim.Native.Nat.{ℕ}
use borrow.Author.Tests.{eqb-true, eqb-false}
use lib.Dec.{eqb}
use Rattle.edit_split_edge.specs.SplitEdge.{without}

pub without_to : (a : ℕ) (cs : List ℕ) (d : ℕ) → Memᴰ d cs → d ≢ a → Memᴰ d (without a cs)
without_to a [] d x'' n = elim x'' [ ]
without_to a (c ∷ cs) d (Memᴰ.head e) n = go (eqb c a) refl
  where
    go : (b : Bool) → eqb c a ≡ b → Memᴰ d (cond b (without a cs) (c ∷ without a cs))
    go true h = absurd (n (e ∙ eqb-true c a h))
    go false h = Memᴰ.head e
without_to a (c ∷ cs) d (Memᴰ.tail m) n = go (eqb c a) (without_to a cs d m n)
  where
    go : (b : Bool) → Memᴰ d (without a cs) → Memᴰ d (cond b (without a cs) (c ∷ without a cs))
    go true r = r
    go false r = Memᴰ.tail r

pub without_from : (a : ℕ) (cs : List ℕ) (d : ℕ) → Memᴰ d (without a cs) → Memᴰ d cs × (d ≢ a)
without_from a [] d m = elim m [ ]
without_from a (c ∷ cs) d m = go (λ q. without_from a cs d q) (eqb c a) refl m
  where
    down : Memᴰ d cs × (d ≢ a) → Memᴰ d (c ∷ cs) × (d ≢ a)
    down r = (Memᴰ.tail r.0, r.1)

    at : (Memᴰ d (without a cs) → Memᴰ d cs × (d ≢ a)) → c ≢ a → (d ≡ c) ⊎ Memᴰ d (without a cs) → Memᴰ d (c ∷ cs) × (d ≢ a)
    at r n (inl e) = (Memᴰ.head e, λ z. n (sym e ∙ z))
    at r n (inr q) = down (r q)

    go : (Memᴰ d (without a cs) → Memᴰ d cs × (d ≢ a)) → (b : Bool) → eqb c a ≡ b → Memᴰ d (cond b (without a cs) (c ∷ without a cs)) → Memᴰ d (c ∷ cs) × (d ≢ a)
    go r true h q = down (r q)
    go r false h q = at r (eqb-false c a h) (Memᴰ.cases_cons q)
