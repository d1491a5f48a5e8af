-- What the rules of a table say of its swings, and back. Assumes nothing.
use mathlib.Core.Path.{◌≡◌, sym, ◌∙◌, subst}
use mathlib.Core.Logic.{◌≢◌}
use Prim.Native.Nat.{ℕ, ◌<◌}
use native.Mathlib.Omega.{arith}
use Rattle.corner.specs.Corner.{absent, next}
use Rattle.corner.proofs.Turns.{next_below}
use Rattle.table.specs.Table.{Table, corner_room, vertex, opposite, corner, Live, LiveVertex, Shaped}
use Rattle.table.specs.Rules.{Fan, WellFormed}
use Rattle.fan.proofs.Fan.{Left, Conn, conn_trans, conn_sym, Linked, OneFan, fan_conn, conn_fan, linked}

pub below_absent : (t : Table) → Shaped t → (c : ℕ) → c < corner_room t → c ≢ absent
below_absent t s c h e = omega (arith, s.corner_most)

module _ (t : Table) (S : Shaped t) (W : WellFormed t) where
  pub inside : (c : ℕ) → Live t c → c < corner_room t
  inside c h = omega (arith, W.corners_fit)

  pub table_linked : Linked (Live t) (opposite t) (vertex t)
  table_linked = linked (λ c h. below_absent t S c (inside c h)) face W.differ W.mate
    where
      face : (c : ℕ) → Live t c → Live t (next c)
      face c h = (next_below c t.corners W.thirds h.0, W.face_marks c h.0 ∙ h.1)

  pub table_fan : OneFan (Live t) (opposite t) (vertex t)
  unfolding OneFan
  table_fan c d h k z =
      let v : LiveVertex t (vertex t c) = W.vertex_live c h in
      let r : Live t (corner t (vertex t c)) = W.corner_live (vertex t c) v in
      let p : Conn (Left (Live t) (opposite t)) (corner t (vertex t c)) c = fan_conn table_linked r (W.one_fan c h) in
      let q : Fan (opposite t) (corner t (vertex t c)) d = subst (λ (v : ℕ). Fan (opposite t) (corner t v) d) (sym z) (W.one_fan d k) in
      conn_trans (conn_sym p) (fan_conn table_linked r q)

-- and back: one fan to a vertex, and its corner, give R5
pub fan_table : (t : Table) → OneFan (Live t) (opposite t) (vertex t) → ((c : ℕ) → Live t c → LiveVertex t (vertex t c))
    → ((v : ℕ) → LiveVertex t v → Live t (corner t v)) → ((v : ℕ) → LiveVertex t v → vertex t (corner t v) ≡ v) → Linked (Live t) (opposite t) (vertex t)
    → (c : ℕ) → Live t c → Fan (opposite t) (corner t (vertex t c)) c
unfolding OneFan
fan_table t F X N M L c h = conn_fan L (F (corner t (vertex t c)) c (N (vertex t c) (X c h)) h (M (vertex t c) (X c h)))
