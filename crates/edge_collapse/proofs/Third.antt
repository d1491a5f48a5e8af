-- A third face at an edge is a second place of the one end in the ring of the other. Assumes nothing.
use Prim.Native.Nat.{ℕ, ◌+◌, ◌/◌, ◌<◌}
use mathlib.Core.Path.{◌≡◌, refl, sym, ap, subst, ◌∙◌}
use mathlib.Core.Logic.{◌≢◌, ◌⊎◌, inl, inr}
use mathlib.Core.List.{List, [], ◌∷◌, map, Memᴰ}
use native.Mathlib.Omega.{arith}
use native.Mathlib.Decide.{ℕ_discrete}
use borrow.Author.Tests.{eq-eqb, ne_eqb}
use lib.Dec.{eqb}
use Rattle.corner.specs.Corner.{absent, next, previous}
use Rattle.corner.proofs.Turns.{next_next, next_previous, previous_next, previous_previous, next_face, previous_injective, in_face, InFace, itself, after, before}
use Rattle.fan.specs.Visits.{Distinct}
use Rattle.fan.proofs.Fan.{Linked, face_previous, right_live, right_vertex}
use Rattle.edge_collapse.specs.EdgeCollapse.{how_many}
use Rattle.edge_collapse.specs.Paper.{ThirdFace}

-- ---- the faces at an edge

module _ {live : ℕ → Type 0} {opp vtx : ℕ → ℕ} (L : Linked live opp vtx) (c : ℕ) (alive : live c) (there : opp c ≢ absent)
    (closed : (d : ℕ) → live d → vtx d ≡ vtx (next c) → opp (previous d) ≢ absent) where
  -- a second corner of the kept end with the deleted one before it (the first is previous (opp c))
  pub record Second : Type 0 where
    pub at : ℕ
    pub lives : live at
    pub kept : vtx at ≡ vtx (next c)
    pub lost : vtx (previous at) ≡ vtx (previous c)
    pub other : at ≢ previous (opp c)

  previous_face : (d : ℕ) → previous d / 3 ≡ d / 3
  previous_face d = sym (next_face (previous d)) ∙ ap (λ (x : ℕ). x / 3) (next_previous d)

  l1 : live (next c)
  l1 = L.face c alive

  l2 : live (previous c)
  l2 = face_previous L c alive

  lo : live (opp c)
  lo = L.over c alive there

  apart : vtx (previous c) ≢ vtx (next c)
  apart e = L.differ (next c) l1 (sym e ∙ ap vtx (sym (next_next c)))

  apart' : vtx c ≢ vtx (next c)
  apart' = L.differ c alive

  apart'' : vtx c ≢ vtx (previous c)
  apart'' e = L.differ (previous c) l2 (sym e ∙ ap vtx (sym (next_previous c)))

  pub second_third : Second → ThirdFace live opp vtx c
  second_third s = record {
    at = s.at;
    lives = s.lives;
    kept = s.kept;
    lost = inr s.lost;
    other = λ e. one (in_face c s.at e);
    other' = λ e. two (in_face (opp c) s.at e);
  }
    where
      one : InFace c s.at → ⊥
      one (itself e) = apart' (cc s.kept)
      one (after e) = apart'' (cc (s.lost, previous_next c))
      one (before e) = apart (cc s.kept)

      tail : vtx (next (opp c)) ≡ vtx (previous c)
      tail = L.tail c alive there

      head : vtx (previous (opp c)) ≡ vtx (next c)
      head = L.head c alive there

      two : InFace (opp c) s.at → ⊥
      two (itself e) = apart (cc (s.lost, head))
      two (after e) = apart (cc (s.kept, tail))
      two (before e) = s.other e

  pub third_second : ThirdFace live opp vtx c → Second
  third_second f = go f.lost
    where
      d : ℕ
      d = f.at

      not_here : d ≢ next c
      not_here e = f.other (ap (λ (x : ℕ). x / 3) e ∙ next_face c)

      go : (vtx (next d) ≡ vtx (previous c)) ⊎ (vtx (previous d) ≡ vtx (previous c)) → Second
      go (inr e) = record { at = d; lives = f.lives; kept = f.kept; lost = e; other = λ z. f.other' (ap (λ (x : ℕ). x / 3) z ∙ previous_face (opp c)) }
      go (inl e) =
          let n : opp (previous d) ≢ absent = closed d f.lives f.kept in
          let p : live (previous d) = face_previous L d f.lives in
          record {
            at = previous (opp (previous d));
            lives = right_live L d f.lives n;
            kept = right_vertex L d f.lives n ∙ f.kept;
            lost = cc (L.tail (previous d) p n, previous_previous (opp (previous d)), previous_previous d);
            other = λ z. not_here (cc (L.pair (previous d) p n, L.pair c alive there, previous_injective (opp (previous d)) (opp c) z, next_previous d));
          }

-- ---- and counted in a ring without repetition

pub record Other (g : ℕ → ℕ) (D a : ℕ) (l : List ℕ) : Type 0 where
  pub at : ℕ
  pub mem : Memᴰ at l
  pub value : g at ≡ D
  pub not_a : at ≢ a

pub record Some (g : ℕ → ℕ) (D : ℕ) (l : List ℕ) : Type 0 where
  pub at : ℕ
  pub mem : Memᴰ at l
  pub value : g at ≡ D

module _ (g : ℕ → ℕ) (D : ℕ) where
  abbrev pub times : List ℕ → ℕ
  times l = how_many (λ x. eqb x D) (map g l)

  hit : (x : ℕ) (l : List ℕ) → g x ≡ D → times (x ∷ l) ≡ 1 + times l
  hit x l e = rw (eq-eqb (g x) D e)

  miss : (x : ℕ) (l : List ℕ) → g x ≢ D → times (x ∷ l) ≡ times l
  miss x l e = rw (ne_eqb (g x) D e) (omega arith)

  mem_times : (b : ℕ) (l : List ℕ) → Memᴰ b l → g b ≡ D → 0 < times l
  mem_times b [] x'' h = elim x'' [ ]
  mem_times b (x ∷ l) (mathlib.Core.List.Memᴰ.head e) h = omega (arith, hit x l (ap g (sym e) ∙ h))
  mem_times b (x ∷ l) (mathlib.Core.List.Memᴰ.tail m) h = go (mem_times b l m h) (ℕ_discrete (g x) D)
    where
      go : 0 < times l → Dec (g x ≡ D) → 0 < times (x ∷ l)
      go r (yes e) = omega (arith, hit x l e)
      go r (no e) = omega (arith, miss x l e)

  times_mem : (l : List ℕ) → 0 < times l → Some g D l
  times_mem [] h = absurd (omega arith)
  times_mem (x ∷ l) h = go (λ k. times_mem l k) (ℕ_discrete (g x) D)
    where
      go : (0 < times l → Some g D l) → Dec (g x ≡ D) → Some g D (x ∷ l)
      go r (yes e) = record { at = x; mem = mathlib.Core.List.Memᴰ.head refl; value = e }
      go r (no e) = let s : Some g D l = r (omega (arith, miss x l e)) in record { at = s.at; mem = mathlib.Core.List.Memᴰ.tail s.mem; value = s.value }

  -- two places have the value
  pub twice_times : (a b : ℕ) (l : List ℕ) → Memᴰ a l → Memᴰ b l → b ≢ a → g a ≡ D → g b ≡ D → 1 < times l
  twice_times a b [] x5 _ n p q = elim x5 [ ]
  twice_times a b (x ∷ l) (mathlib.Core.List.Memᴰ.head e) (mathlib.Core.List.Memᴰ.head f) n p q = absurd (n (f ∙ sym e))
  twice_times a b (x ∷ l) (mathlib.Core.List.Memᴰ.head e) (mathlib.Core.List.Memᴰ.tail m) n p q = omega (arith, hit x l (ap g (sym e) ∙ p), mem_times b l m q)
  twice_times a b (x ∷ l) (mathlib.Core.List.Memᴰ.tail k) (mathlib.Core.List.Memᴰ.head f) n p q = omega (arith, hit x l (ap g (sym f) ∙ q), mem_times a l k p)
  twice_times a b (x ∷ l) (mathlib.Core.List.Memᴰ.tail k) (mathlib.Core.List.Memᴰ.tail m) n p q = go (twice_times a b l k m n p q) (ℕ_discrete (g x) D)
    where
      go : 1 < times l → Dec (g x ≡ D) → 1 < times (x ∷ l)
      go r (yes e) = omega (arith, hit x l e)
      go r (no e) = omega (arith, miss x l e)

  pub times_twice : (a : ℕ) (l : List ℕ) → Distinct l → 1 < times l → Other g D a l
  times_twice a [] d h = absurd (omega arith)
  times_twice a (x ∷ l) d h = go (λ k. times_twice a l d.1 k) (ℕ_discrete (g x) D) (ℕ_discrete x a)
    where
      go : (1 < times l → Other g D a l) → Dec (g x ≡ D) → Dec (x ≡ a) → Other g D a (x ∷ l)
      go r (yes e) (no n) = record { at = x; mem = mathlib.Core.List.Memᴰ.head refl; value = e; not_a = n }
      go r (yes e) (yes z) =
          let s : Some g D l = times_mem l (omega (arith, hit x l e)) in
          record { at = s.at; mem = mathlib.Core.List.Memᴰ.tail s.mem; value = s.value; not_a = λ y. d.0 (subst (λ (w : ℕ). Memᴰ w l) (y ∙ sym z) s.mem) }
      go r (no e) y = let s : Other g D a l = r (omega (arith, miss x l e)) in record { at = s.at; mem = mathlib.Core.List.Memᴰ.tail s.mem; value = s.value; not_a = s.not_a }

-- ---- the theorem: `ring` lists the live corners of the kept vertex once each

module _ {live : ℕ → Type 0} {opp vtx : ℕ → ℕ} (L : Linked live opp vtx) (c : ℕ) (alive : live c) (there : opp c ≢ absent)
    (closed : (d : ℕ) → live d → vtx d ≡ vtx (next c) → opp (previous d) ≢ absent)
    (ring : List ℕ) (once : Distinct ring) (from : (d : ℕ) → Memᴰ d ring → live d × (vtx d ≡ vtx (next c))) (to : (d : ℕ) → live d → vtx d ≡ vtx (next c) → Memᴰ d ring) where
  abbrev pub places : ℕ
  places = how_many (λ x. eqb x (vtx (previous c))) (map (λ d. vtx (previous d)) ring)

  pub third_twice : ThirdFace live opp vtx c → 1 < places
  third_twice f =
      let s : Second L c alive there closed = third_second L c alive there closed f in
      let m : Memᴰ s.at ring = to s.at s.lives s.kept in
      let o : live (previous (opp c)) = face_previous L (opp c) (L.over c alive there) in
      let k : Memᴰ (previous (opp c)) ring = to (previous (opp c)) o (L.head c alive there) in
      twice_times (λ d. vtx (previous d)) (vtx (previous c)) (previous (opp c)) s.at ring k m s.other (ap vtx (previous_previous (opp c)) ∙ L.tail c alive there) s.lost

  pub twice_third : 1 < places → ThirdFace live opp vtx c
  twice_third h =
      let o : Other (λ d. vtx (previous d)) (vtx (previous c)) (previous (opp c)) ring = times_twice (λ d. vtx (previous d)) (vtx (previous c)) (previous (opp c)) ring once h in
      let a : live o.at × (vtx o.at ≡ vtx (next c)) = from o.at o.mem in
      second_third L c alive there closed (record { at = o.at; lives = a.0; kept = a.1; lost = o.value; other = o.not_a })
