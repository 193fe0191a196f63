-- Bytes laid behind each other: a number as `big::write` leaves it, and the records of cells, one more at a time.
-- Assumes nothing.
use Prim.Native.Nat.{ℕ, suc, ◌+◌, ◌*◌, ◌≤◌, ◌<◌}
use mathlib.Core.Path.{◌≡◌, sym, ap, ◌∙◌}
use mathlib.Core.List.{List, [], ◌∷◌, ◌++◌, append_assoc, append-nil}
use lib.ListN.{length, get_or, take, drop, length-take, length-drop, take-append-drop}
use lib.Seq.{sets, sets-eq, take-add, take-suc, get_or-take, get_or-drop, ext_get_or}
use native.Mathlib.Omega.{arith}
use native.Mathlib.Numerals.{add-one}
use Rattle.big.specs.Big.{Bytes, big_of, bytes_of, Kept}
use Rattle.big.proofs.Bytes.{bytes-length, written_read}
use Rattle.written.specs.Written.{in_row}
use Rattle.written.proofs.Row.{row-length}
use Rattle.drafting.specs.Draft.{record_in, record_bytes, cells}

pub sets-append : (old : List ℕ) (at : ℕ) (a b : List ℕ) → sets (sets old at a) (at + length a) b ≡ sets old at (a ++ b)
sets-append old at [] b = ap (λ (i : ℕ). sets old i b) (omega arith)
sets-append old at (x ∷ a) b = ap (λ (i : ℕ). sets (sets old at (x ∷ a)) i b) (omega arith) ∙ sets-append _ (suc at) a b

-- what `big::write` leaves
pub wrote : {old new : List ℕ} {at w v : ℕ} → Bytes new → length new ≡ length old → at + w ≤ length old → big_of new at w ≡ v → Kept old new at w →
    new ≡ sets old at (bytes_of w v)
wrote {old} {new} {at} {w} {v} B e h is K =
    cc (
      sets-eq (bytes_of w v) old at (simp bytes-length h),
      bytes-length w v,
      before,
      after,
      written_read new B at w (omega arith),
      take-add at w new,
      take-append-drop (at + w) new,
    )
  where
    before : take at old ≡ take at new
    before =
        ext_get_or 0 _ _ (simp length-take (omega arith))
        (λ i l. let b : i < at = omega (arith, simp length-take at l) in simp get_or-take (sym (K.before i b)))

    after : drop (at + w) old ≡ drop (at + w) new
    after = ext_get_or 0 _ _ (simp length-drop (omega arith)) (λ i l. simp get_or-drop (sym (K.after (at + w + i) (omega arith))))

row_snoc : (xs : List ℕ) (x : ℕ) → in_row record_bytes (xs ++ x ∷ []) ≡ in_row record_bytes xs ++ record_bytes x
row_snoc [] x = append-nil _
row_snoc (y ∷ xs) x = rw (row_snoc xs x, append_assoc)

module _ (m : List ℕ) (from : ℕ) where
  abbrev pub rows : ℕ → List ℕ
  rows i = in_row record_bytes (cells m from i)

  pub rows-length : (i : ℕ) → from + i ≤ length m → length (rows i) ≡ 6 * i
  rows-length i h = row-length record_bytes (λ k. bytes-length 6 (record_in k)) (cells m from i) ∙ simp (length-take, length-drop) (omega arith)

  rows_more : (i : ℕ) → from + i < length m → rows (i + 1) ≡ rows i ++ record_bytes (get_or m (from + i) 0)
  rows_more i h = rw (add-one, take-suc (drop from m) i 0 (simp length-drop (omega arith)), get_or-drop) (row_snoc (cells m from i) _)

  -- one record more
  pub one_more : (old : List ℕ) (at i : ℕ) {room new : List ℕ} → from + i < length m → room ≡ sets old at (rows i) →
      new ≡ sets room (at + 6 * i) (record_bytes (get_or m (from + i) 0)) → new ≡ sets old at (rows (i + 1))
  one_more old at i h e f =
      cc (rows-length i (omega arith), rows_more i h, sets-append old at (rows i) (record_bytes (get_or m (from + i) 0)))
