-- The two faces at an inner edge, as a flip, an edge split and a collapse find them: which corners and vertices differ. Assumes nothing.
use mathlib.Core.Path.{◌≡◌, refl, subst}
use mathlib.Core.Logic.{◌≢◌}
use Prim.Native.Nat.{ℕ}
use native.Mathlib.Decide.{ℕ_discrete}
use Rattle.corner.specs.Corner.{absent, next, previous}
use Rattle.corner.proofs.Turns.{next_next, next_previous}
use Rattle.fan.proofs.Fan.{Linked, opp_of, opp_not_self, opp_not_next, opp_not_previous}
use Rattle.edit_keeps.proofs.SplitFace.{Face3, face3}

-- one of the six corners
pub data Six (c1 c2 c0 c4 c5 c3 d : ℕ) : Type 0 where
  is1 : d ≡ c1 → Six c1 c2 c0 c4 c5 c3 d
  is2 : d ≡ c2 → Six c1 c2 c0 c4 c5 c3 d
  is0 : d ≡ c0 → Six c1 c2 c0 c4 c5 c3 d
  is4 : d ≡ c4 → Six c1 c2 c0 c4 c5 c3 d
  is5 : d ≡ c5 → Six c1 c2 c0 c4 c5 c3 d
  is3 : d ≡ c3 → Six c1 c2 c0 c4 c5 c3 d

pub six? : (c1 c2 c0 c4 c5 c3 d : ℕ) → Dec (Six c1 c2 c0 c4 c5 c3 d)
six? c1 c2 c0 c4 c5 c3 d = go (ℕ_discrete d c1) (ℕ_discrete d c2) (ℕ_discrete d c0) (ℕ_discrete d c4) (ℕ_discrete d c5) (ℕ_discrete d c3)
  where
    none : d ≢ c1 → d ≢ c2 → d ≢ c0 → d ≢ c4 → d ≢ c5 → d ≢ c3 → Six c1 c2 c0 c4 c5 c3 d → ⊥
    none a b c e f g (is1 h) = a h
    none a b c e f g (is2 h) = b h
    none a b c e f g (is0 h) = c h
    none a b c e f g (is4 h) = e h
    none a b c e f g (is5 h) = f h
    none a b c e f g (is3 h) = g h

    go : Dec (d ≡ c1) → Dec (d ≡ c2) → Dec (d ≡ c0) → Dec (d ≡ c4) → Dec (d ≡ c5) → Dec (d ≡ c3) → Dec (Six c1 c2 c0 c4 c5 c3 d)
    go (yes h) q r s t u = yes (is1 h)
    go (no a) (yes h) r s t u = yes (is2 h)
    go (no a) (no b) (yes h) s t u = yes (is0 h)
    go (no a) (no b) (no c) (yes h) t u = yes (is4 h)
    go (no a) (no b) (no c) (no e) (yes h) u = yes (is5 h)
    go (no a) (no b) (no c) (no e) (no f) (yes h) = yes (is3 h)
    go (no a) (no b) (no c) (no e) (no f) (no g) = no (none a b c e f g)

-- faces c1 c2 c0 and c4 c5 c3, c4 opposite c1 across the edge
pub record Site (live : ℕ → Type 0) (opp : ℕ → ℕ) (c1 c2 c0 c4 c5 c3 : ℕ) : Type 0 where
  pub f : Face3 c1 c2 c0
  pub g : Face3 c4 c5 c3
  pub alive : live c1
  pub o1 : opp c1 ≡ c4
  pub t1 : opp c1 ≢ absent

-- that of c1
pub site : {live : ℕ → Type 0} (opp : ℕ → ℕ) (c : ℕ) → live c → opp c ≢ absent
    → Site live opp c (next c) (next (next c)) (opp c) (next (opp c)) (next (next (opp c)))
site opp c h t = record { f = face3 c _ _ refl refl; g = face3 (opp c) _ _ refl refl; alive = h; o1 = refl; t1 = t }

module _ {live : ℕ → Type 0} {opp vtx : ℕ → ℕ} {c1 c2 c0 c4 c5 c3 : ℕ} (L : Linked live opp vtx) (A : Site live opp c1 c2 c0 c4 c5 c3) where
  pub l2 : live c2
  l2 = subst live A.f.n0 (L.face c1 A.alive)

  pub l0 : live c0
  l0 = subst live A.f.n1 (L.face c2 l2)

  pub l4 : live c4
  l4 = subst live A.o1 (L.over c1 A.alive A.t1)

  pub l5 : live c5
  l5 = subst live A.g.n0 (L.face c4 l4)

  pub l3 : live c3
  l3 = subst live A.g.n1 (L.face c5 l5)

  pub b4 : opp c4 ≡ c1
  b4 = opp_of L c1 c4 A.alive l4 A.o1

  -- the ends of the edge, in both faces
  pub e0 : vtx c5 ≡ vtx c0
  e0 = cc (L.tail c1 A.alive A.t1)

  pub e2 : vtx c3 ≡ vtx c2
  e2 = cc (L.head c1 A.alive A.t1)

  pub d12 : vtx c1 ≢ vtx c2
  d12 z = L.differ c1 A.alive (cc)

  pub d20 : vtx c2 ≢ vtx c0
  d20 z = L.differ c2 l2 (cc)

  pub d01 : vtx c0 ≢ vtx c1
  d01 z = L.differ c0 l0 (cc)

  pub d45 : vtx c4 ≢ vtx c5
  d45 z = L.differ c4 l4 (cc)

  pub d34 : vtx c3 ≢ vtx c4
  d34 z = L.differ c3 l3 (cc)

  -- the six corners differ; c1 and c4 do where the wings do, below
  pub x1_2 : c1 ≢ c2
  x1_2 z = d12 (cc)

  pub x2_0 : c2 ≢ c0
  x2_0 z = d20 (cc)

  pub x0_1 : c0 ≢ c1
  x0_1 z = d01 (cc)

  pub x4_5 : c4 ≢ c5
  x4_5 z = d45 (cc)

  pub x5_3 : c5 ≢ c3
  x5_3 z = d20 (cc (e0, e2))

  pub x3_4 : c3 ≢ c4
  x3_4 z = d34 (cc)

  pub x1_5 : c1 ≢ c5
  x1_5 z = d01 (cc (e0))

  pub x1_3 : c1 ≢ c3
  x1_3 z = d12 (cc (e2))

  pub x2_4 : c2 ≢ c4
  x2_4 z = d34 (cc (e2))

  pub x2_5 : c2 ≢ c5
  x2_5 z = d20 (cc (e0))

  pub x2_3 : c2 ≢ c3
  x2_3 z = d01 (cc (e0))

  pub x0_4 : c0 ≢ c4
  x0_4 z = d45 (cc (e0))

  pub x0_5 : c0 ≢ c5
  x0_5 z = d12 (cc (e2))

  pub x0_3 : c0 ≢ c3
  x0_3 z = d20 (cc (e2))

  -- what is in neither face has its whole face outside
  pub six_next : (d : ℕ) → Six c1 c2 c0 c4 c5 c3 d → Six c1 c2 c0 c4 c5 c3 (next d)
  six_next d (is1 h) = is2 (cc)
  six_next d (is2 h) = is0 (cc)
  six_next d (is0 h) = is1 (cc)
  six_next d (is4 h) = is5 (cc)
  six_next d (is5 h) = is3 (cc)
  six_next d (is3 h) = is4 (cc)

  pub off_previous : (d : ℕ) → ¬ Six c1 c2 c0 c4 c5 c3 d → ¬ Six c1 c2 c0 c4 c5 c3 (previous d)
  off_previous d n s = n (subst (Six c1 c2 c0 c4 c5 c3) (next_previous d) (six_next (previous d) s))

  pub off_next : (d : ℕ) → ¬ Six c1 c2 c0 c4 c5 c3 d → ¬ Six c1 c2 c0 c4 c5 c3 (next d)
  off_next d n s = off_previous (previous d) (off_previous d n) (subst (Six c1 c2 c0 c4 c5 c3) (cc (next_next (previous d), next_previous d)) s)

  -- the wings differ: answer 12
  module _ (w : vtx c1 ≢ vtx c4) where
    pub x1_4 : c1 ≢ c4
    x1_4 z = w (cc)

    -- the outer opposites lie outside the two faces
    pub s0 : opp c0 ≢ absent → ¬ Six c1 c2 c0 c4 c5 c3 (opp c0)
    s0 t (is1 h) = opp_not_next L c0 l0 t (cc)
    s0 t (is2 h) = opp_not_previous L c0 l0 t (cc)
    s0 t (is0 h) = opp_not_self L c0 l0 t h
    s0 t (is4 h) = x0_1 (cc (L.pair c0 l0 t, b4))
    s0 t (is5 h) = w (cc (L.head c0 l0 t))
    s0 t (is3 h) = d34 (cc (L.tail c0 l0 t, e2))

    pub s2 : opp c2 ≢ absent → ¬ Six c1 c2 c0 c4 c5 c3 (opp c2)
    s2 t (is1 h) = opp_not_previous L c2 l2 t (cc)
    s2 t (is2 h) = opp_not_self L c2 l2 t h
    s2 t (is0 h) = opp_not_next L c2 l2 t (cc)
    s2 t (is4 h) = x1_2 (cc (L.pair c2 l2 t, b4))
    s2 t (is5 h) = d12 (cc (L.tail c2 l2 t, e2))
    s2 t (is3 h) = w (cc (L.tail c2 l2 t))

    pub s5 : opp c5 ≢ absent → ¬ Six c1 c2 c0 c4 c5 c3 (opp c5)
    s5 t (is1 h) = x4_5 (cc (L.pair c5 l5 t))
    s5 t (is2 h) = s2 (λ z. L.present c5 l5 (cc (L.pair c5 l5 t))) (is5 (cc (L.pair c5 l5 t)))
    s5 t (is0 h) = s0 (λ z. L.present c5 l5 (cc (L.pair c5 l5 t))) (is5 (cc (L.pair c5 l5 t)))
    s5 t (is4 h) = opp_not_previous L c5 l5 t (cc)
    s5 t (is5 h) = opp_not_self L c5 l5 t h
    s5 t (is3 h) = opp_not_next L c5 l5 t (cc)

    pub s3 : opp c3 ≢ absent → ¬ Six c1 c2 c0 c4 c5 c3 (opp c3)
    s3 t (is1 h) = x3_4 (cc (L.pair c3 l3 t))
    s3 t (is2 h) = s2 (λ z. L.present c3 l3 (cc (L.pair c3 l3 t))) (is3 (cc (L.pair c3 l3 t)))
    s3 t (is0 h) = s0 (λ z. L.present c3 l3 (cc (L.pair c3 l3 t))) (is3 (cc (L.pair c3 l3 t)))
    s3 t (is4 h) = opp_not_next L c3 l3 t (cc)
    s3 t (is5 h) = opp_not_previous L c3 l3 t (cc)
    s3 t (is3 h) = opp_not_self L c3 l3 t h
