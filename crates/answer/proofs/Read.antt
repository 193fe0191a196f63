-- Bytes that read as the numbers of an answer record are that record, for code that writes it number by number.
-- Assumes nothing.
use Prim.Native.Nat.{ℕ, suc, ◌+◌, ◌*◌, ◌≤◌, ◌<◌}
use mathlib.Core.Path.{◌≡◌, refl, sym}
use mathlib.Core.List.{List, [], ◌∷◌, ◌++◌, append_assoc}
use lib.IntN.{ℤ, pos}
use lib.ListN.{length, get_or, take, drop, length-take, length-drop}
use lib.Seq.{take-add, drop-drop, take-suc, get_or-take, get_or-drop, ext_get_or}
use native.Mathlib.Omega.{arith}
use Rattle.big.specs.Big.{Bytes, big_of, bytes_of, complement_of}
use Rattle.big.proofs.Bytes.{written_read}
use Rattle.answer.specs.Record.{values_of, holds_record, clashes_record}

module _ (b : List ℕ) (B : Bytes b) where
  -- the eight bytes that both records begin with, and k more
  head_read : (k : ℕ) {n v m : ℕ} {rest : List ℕ} → 8 + k ≤ length b →
      big_of b 0 2 ≡ n → get_or b 2 0 ≡ 1 → get_or b 3 0 ≡ v → big_of b 4 2 ≡ m → big_of b 6 2 ≡ 0 → take k (drop 8 b) ≡ rest →
      take (8 + k) b ≡ bytes_of 2 n ++ (1 ∷ v ∷ []) ++ bytes_of 2 m ++ bytes_of 2 0 ++ rest
  head_read k {n} {v} l p q r s t e =
      cc (
        take-add 8 k b,
        take-add 6 2 b,
        take-add 4 2 b,
        take-suc b 3 0 (omega arith),
        take-suc b 2 0 (omega arith),
        append_assoc (bytes_of 2 n) (1 ∷ []) (v ∷ []),
        written_read b B 0 2 (omega arith),
        written_read b B 4 2 (omega arith),
        written_read b B 6 2 (omega arith),
      )

  values-read : (at : ℕ) (ns : List ℤ) → at + 8 * length ns ≤ length b →
      ((i : ℕ) → i < length ns → big_of b (at + 8 * i) 8 ≡ complement_of 8 (get_or ns i (pos 0))) →
      take (8 * length ns) (drop at b) ≡ values_of ns
  unfolding values_of
  values-read at [] l h = refl
  values-read at (n ∷ ns) l h =
      let e : 8 * suc (length ns) ≡ 8 + 8 * length ns = omega arith in
      let z : at + 8 * 0 ≡ at = omega arith in
      let s : (i : ℕ) → at + 8 + 8 * i ≡ at + 8 * suc i = λ i. omega arith in
      cc (
        take-add 8 (8 * length ns) (drop at b),
        drop-drop 8 at b,
        written_read b B at 8 (omega arith),
        h 0 (omega arith),
        values-read (at + 8) ns (omega arith) (λ i q. rw s (h (suc i) (omega arith))),
      )

  entries-read : (at : ℕ) (es : List ℕ) → at + length es ≤ length b → ((i : ℕ) → i < length es → get_or b (at + i) 0 ≡ get_or es i 0) →
      take (length es) (drop at b) ≡ es
  entries-read at es l h =
      let e : length es ≡ length (take (length es) (drop at b)) = simp (length-take, length-drop) (omega arith) in
      sym (ext_get_or 0 es _ e (λ i q. rw (get_or-take, get_or-drop) (sym (h i q))))

  pub holds_read : (D : ℕ) (ns : List ℤ) → 8 + 8 * length ns ≤ length b →
      big_of b 0 2 ≡ 8 + 8 * length ns → get_or b 2 0 ≡ 1 → get_or b 3 0 ≡ 0 → big_of b 4 2 ≡ D → big_of b 6 2 ≡ 0 →
      ((i : ℕ) → i < length ns → big_of b (8 + 8 * i) 8 ≡ complement_of 8 (get_or ns i (pos 0))) →
      take (8 + 8 * length ns) b ≡ holds_record D ns
  unfolding holds_record
  holds_read D ns l p q r s t h = head_read (8 * length ns) l p q r s t (values-read 8 ns l h)

  pub clashes-read : (es : List ℕ) → 8 + length es ≤ length b →
      big_of b 0 2 ≡ 8 + length es → get_or b 2 0 ≡ 1 → get_or b 3 0 ≡ 1 → big_of b 4 2 ≡ length es → big_of b 6 2 ≡ 0 →
      ((i : ℕ) → i < length es → get_or b (8 + i) 0 ≡ get_or es i 0) →
      take (8 + length es) b ≡ clashes_record es
  unfolding clashes_record
  clashes-read es l p q r s t h = head_read (length es) l p q r s t (entries-read 8 es l h)
