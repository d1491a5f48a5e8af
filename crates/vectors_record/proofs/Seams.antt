-- A record on the first entries of its parts: what it leaves of each stands before the entries that stay.
use Prim.Native.Nat.{ℕ, zero, suc, min}
use mathlib.Core.Path.{◌≡◌, refl, sym, ap, ◌∙◌}
use mathlib.Core.List.{List, [], ◌∷◌, ◌++◌}
use Rattle.std.proofs.lemmas.List.{take_min, drop_min}
use native.Mathlib.Omega.{arith}
use lib.Ieee.{Float}
use lib.ListN.{length, take, drop, length-take}
use Rattle.table.specs.Table.{table}
use Rattle.vectors_changes.specs.declared.Rooms.{Rooms}
use Rattle.vectors_changes.specs.Change.{played}
use Rattle.vectors_record.specs.Record.{record_left}
use Rattle.vectors_record.specs.Replay.{within, beyond, Replayed}

module _ {A : Type 0} where
  front : (m : ℕ) (l e : List A) → length e ≡ length (take m l) → take m (e ++ drop m l) ≡ e
  front zero l [] h = refl
  front zero l (x ∷ e) h = absurd (omega (arith, h))
  front (suc m) [] [] h = refl
  front (suc m) [] (x ∷ e) h = absurd (omega (arith, h))
  front (suc m) (y ∷ l) [] h = absurd (omega (arith, h))
  front (suc m) (y ∷ l) (x ∷ e) h = ap (λ (r : List A). x ∷ r) (front m l e (omega (arith, h)))

  back : (m : ℕ) (l e : List A) → length e ≡ length (take m l) → drop m (e ++ drop m l) ≡ drop m l
  back zero l [] h = refl
  back zero l (x ∷ e) h = absurd (omega (arith, h))
  back (suc m) [] [] h = refl
  back (suc m) [] (x ∷ e) h = absurd (omega (arith, h))
  back (suc m) (y ∷ l) [] h = absurd (omega (arith, h))
  back (suc m) (y ∷ l) (x ∷ e) h = back m l e (omega (arith, h))

  -- how many entries are lent of a list that should have c
  pub lent : (c k p : ℕ) (l : List A) → k ≡ c → p ≡ min k (length l) → length (take p l) ≡ min c (length l)
  lent c k p l i e = rw (e, i, take_min c l, length-take c l)

-- e takes the place of the first a entries of l, which should have m
pub record Seam {A : Type 0} (m a : ℕ) (l e : List A) : Type 0 where
  pub first : take m l ≡ take a l
  pub taken : take m (e ++ drop a l) ≡ e
  pub after : drop m (e ++ drop a l) ≡ drop m l

pub seam : {A : Type 0} (m a : ℕ) (l e : List A) → a ≡ min m (length l) → length e ≡ length (take a l) → Seam m a l e
seam m a l e i h =
    let f : take m l ≡ take a l = sym (rw i (take_min m l)) in
    let d : drop a l ≡ drop m l = rw i (drop_min m l) in
    let k : length e ≡ length (take m l) = h ∙ ap length (sym f) in
    record { first = f; taken = rw d (front m l e k); after = rw d (back m l e k) }

module _ (n : Rooms) (op : ℕ) (cv co cm vc vm cv' co' cm' vc' vm' : List ℕ) (vp vp' : List Float) (w : List ℕ) where
  pub replayed :
      (a b c d e f nv nc nv' nc' p q p' q' x : ℕ) →
      Seam n.cv a cv cv' →
      Seam n.co b co co' →
      Seam n.cm c cm cm' →
      Seam n.vc d vc vc' →
      Seam n.vm e vm vm' →
      Seam n.vp f vp vp' →
      p' ≡ p →
      q' ≡ q →
      played x (table cv' co' cm' vc' vm' vp' nv' nc')
      ≡ record_left op (table (take a cv) (take b co) (take c cm) (take d vc) (take e vm) (take f vp) nv nc) w p' q' →
      Replayed n op (table cv co cm vc vm vp nv nc) w p q x
      (table (cv' ++ drop a cv) (co' ++ drop b co) (cm' ++ drop c cm) (vc' ++ drop d vc) (vm' ++ drop e vm) (vp' ++ drop f vp) nv' nc')
  unfolding within beyond
  replayed a b c d e f nv nc nv' nc' p q p' q' x s t u v y z i j is =
      record {
        leaves =
            rw (
              s.taken,
              t.taken,
              u.taken,
              v.taken,
              y.taken,
              z.taken,
              s.first,
              t.first,
              u.first,
              v.first,
              y.first,
              z.first,
              sym i,
              sym j,
            )
            is;
        keeps = rw (s.after, t.after, u.after, v.after, y.after, z.after);
      }
