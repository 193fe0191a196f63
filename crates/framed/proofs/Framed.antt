-- A number in one byte, a place in some more, and behind them a room that they leave alone: read back, they are what they were.
-- Assumes nothing.
use Prim.Native.Nat.{ℕ, ◌+◌, ◌-◌, ◌≤◌, ◌<◌}
use mathlib.Core.Path.{◌≡◌, sym, ap, ◌∙◌}
use mathlib.Core.List.{List, ◌++◌}
use lib.ListN.{length, get_or, set, take, drop, replicate, length-take, length-drop, length-replicate, get_or-replicate, get_or-append}
use lib.Seq.{take_all, length-take-le, get_or-append-add, get_or-take, get_or-drop, get_or-set_same, get_or-set_other, ext_get_or}
use native.Mathlib.Omega.{arith}
use Rattle.big.specs.Big.{big_of, Kept}

-- the room as it is lent, in a row of bytes that are all alike
pub lent-full : (first size most v : ℕ) (bytes : List ℕ) → size ≤ most → bytes ≡ replicate (first + most) v →
    take (first + size - first) (drop first bytes) ≡ replicate size v
lent-full first size most v bytes h e =
    ext_get_or 0 _ _ (long ∙ sym (length-replicate size v)) (λ i l.
    get_or-take (first + size - first) (drop first bytes) i 0 (omega (arith, long)) ∙ get_or-drop first bytes i 0 ∙ ap (λ (b : List ℕ). get_or b (first + i) 0) e
    ∙ get_or-replicate (first + most) (first + i) v 0 (omega (arith, long)) ∙ sym (get_or-replicate size i v 0 (omega (arith, long))))
  where
    long : length (take (first + size - first) (drop first bytes)) ≡ size
    long = simp (length-take, length-drop) (omega (arith, ap length e, length-replicate (first + most) v))

-- a room put back behind the first bytes
put_back : (first : ℕ) (bytes room rest : List ℕ) (i : ℕ) → first ≤ length bytes → i < length room →
    get_or (take first bytes ++ (room ++ rest)) (first + i) 0 ≡ get_or room i 0
put_back first bytes room rest i l h =
    ap (λ (n : ℕ). get_or (take first bytes ++ (room ++ rest)) (n + i) 0) (sym (length-take-le first bytes l))
    ∙ get_or-append-add (take first bytes) (room ++ rest) i 0
    ∙ get_or-append room rest 0 i h

-- as a program makes a row: bytes before, the room in them answered, a number set, a place written
module _ (P : List ℕ → ℕ → ℕ → Type 0) (width size : ℕ) (bytes room rest new : List ℕ) (number place : ℕ) where
  abbrev answered : List ℕ
  answered = take (1 + width) bytes ++ (room ++ rest)

  pub replied : 1 + width ≤ length bytes → length room ≡ size → 1 + width + size ≤ length new → 0 < length answered → P room number place →
      big_of new 1 width ≡ place → Kept (set answered 0 number) new 1 width → P (take size (drop (1 + width) new)) (get_or new 0 0) (big_of new 1 width)
  replied l r n some a p k = rw (behind, first, p) a
    where
      first : get_or new 0 0 ≡ number
      first = k.before 0 (omega arith) ∙ get_or-set_same answered 0 number 0 some

      long : length (take size (drop (1 + width) new)) ≡ size
      long = simp (length-take, length-drop) (omega arith)

      behind : take size (drop (1 + width) new) ≡ room
      behind = ext_get_or 0 _ _ (long ∙ sym r) (λ i h.
          get_or-take size (drop (1 + width) new) i 0 (omega (arith, long)) ∙ get_or-drop (1 + width) new i 0 ∙ k.after (1 + width + i) (omega arith)
          ∙ get_or-set_other answered 0 (1 + width + i) number 0 (omega arith) ∙ put_back (1 + width) bytes room rest i l (omega (arith, long)))

  -- so where the room is all that is behind
  pub replied-whole : 1 + width ≤ length bytes → length room ≡ size → length new ≡ 1 + width + size → 0 < length answered → P room number place →
      big_of new 1 width ≡ place → Kept (set answered 0 number) new 1 width → P (drop (1 + width) new) (get_or new 0 0) (big_of new 1 width)
  replied-whole l r n some a p k =
      rw (take_all size (drop (1 + width) new) (simp length-drop (omega arith))) at (replied l r (omega arith) some a p k)
