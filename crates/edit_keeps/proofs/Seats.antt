-- An edge split moves one vertex to the middle and gives its fan to a new one: if every new corner has a seat, each vertex has one fan.
-- Assumes nothing.
use mathlib.Core.Path.{◌≡◌, sym, ◌∙◌}
use mathlib.Core.Logic.{◌≢◌, ◌⊎◌, inl, inr}
use Prim.Native.Nat.{ℕ}
use native.Mathlib.Decide.{ℕ_discrete}
use Rattle.fan.proofs.Fan.{Left, Conn, conn_trans, conn_sym, simulate, OneFan}

-- c is a corner of the moved vertex, u the new one, φ d the place of an old corner d in the new table
module _ (live live' : ℕ → Type 0) (opp' vtx vtx' : ℕ → ℕ) (c u : ℕ) (φ : ℕ → ℕ) where
  -- beside the place of an old corner o, and of its vertex unless that was the moved one
  pub record Beside (d : ℕ) : Type 0 where
    pub o : ℕ
    pub lives : live o
    pub new : vtx o ≡ vtx c → vtx' d ≡ u
    pub kept : vtx o ≢ vtx c → vtx' d ≡ vtx o
    pub near : Conn (Left live' opp') d (φ o)

  -- where a corner of the new table stands: about the moved vertex, or beside the place of an old corner
  abbrev pub Seat : ℕ → Type 0
  Seat d = ((vtx' d ≡ vtx c) × Conn (Left live' opp') d c) ⊎ Beside d

  module _ (opp : ℕ → ℕ) (l : live c) (fresh : (d : ℕ) → live d → vtx d ≢ u)
      (step : (d e : ℕ) → Left live opp d e → Conn (Left live' opp') (φ d) (φ e)) (seat : (d : ℕ) → live' d → Seat d) where
    pub moved_fan : OneFan live opp vtx → OneFan live' opp' vtx'
    unfolding OneFan
    moved_fan F d e h k z = go (seat d h) (seat e k)
      where
        -- the moved vertex's number is no old corner's now
        clash : (x y : ℕ) → vtx' x ≡ vtx c → Beside y → vtx' x ≢ vtx' y
        clash x y a b s = at' (ℕ_discrete (vtx b.o) (vtx c))
          where
            at' : Dec (vtx b.o ≡ vtx c) → ⊥
            at' (yes q) = fresh c l (cc (b.new q))
            at' (no q) = q (cc (b.kept q))

        join : (a : Beside d) (b : Beside e) → vtx a.o ≡ vtx b.o → Conn (Left live' opp') d e
        join a b q = conn_trans a.near (conn_trans (simulate φ step (F a.o b.o a.lives b.lives q)) (conn_sym b.near))

        both : (a : Beside d) (b : Beside e) → Dec (vtx a.o ≡ vtx c) → Dec (vtx b.o ≡ vtx c) → Conn (Left live' opp') d e
        both a b (yes p) (yes q) = join a b (p ∙ sym q)
        both a b (yes p) (no q) = absurd (fresh b.o b.lives (cc (a.new p, b.kept q)))
        both a b (no p) (yes q) = absurd (fresh a.o a.lives (cc (a.kept p, b.new q)))
        both a b (no p) (no q) = join a b (cc (a.kept p, b.kept q))

        go : Seat d → Seat e → Conn (Left live' opp') d e
        go (inl a) (inl b) = conn_trans a.1 (conn_sym b.1)
        go (inl a) (inr b) = absurd (clash d e a.0 b z)
        go (inr a) (inl b) = absurd (clash e d b.0 a (sym z))
        go (inr a) (inr b) = both a b (ℕ_discrete (vtx a.o) (vtx c)) (ℕ_discrete (vtx b.o) (vtx c))
