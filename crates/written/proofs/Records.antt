-- The six bytes of a term and of an entry: they are bytes, they decode to it, and no row of the table sends them back.
-- Assumes nothing.
use Prim.Native.Nat.{ℕ, zero, suc, ◌*◌, ◌^◌, ◌≤◌, ◌<◌}
use mathlib.Core.Path.{◌≡◌, refl, ap, ◌∙◌}
use mathlib.Core.Bool.{false}
use mathlib.Core.List.{List, ◌∷◌}
use lib.IntN.{ℤ, pos, negsuc}
use lib.ListN.{length}
use native.Mathlib.Omega.{arith}
use borrow.Author.Tests.{le-ltb, lt-leb}
use Rattle.whole.specs.Whole.{plus, minus}
use Rattle.big.specs.Big.{Bytes, big_of, bytes_of, signed_of, complement_of}
use Rattle.big.proofs.Bytes.{bytes-bytes, complement-fits, signed-complement}
use Rattle.sheet.specs.Sheet.{Term, unknown, number, shift, apply, apply2, Relation, equal, unequal, at_most, less, Entry, ArgumentsBelow, of-unknown, of_number, of_shift, of-apply, of-apply2}
use Rattle.sheet.specs.Decode.{fields_at, decode_term, relation_of, decode_entry}
use Rattle.grounds.specs.Rows.{wrong_term, wrong_entry}
use Rattle.written.specs.Written.{whole_bytes, term_bytes, kind_of, entry_bytes}
use Rattle.written.specs.Fields.{WholeIn, TermIn, EntryIn}

pub term-six : (t : Term) → length (term_bytes t) ≡ 6
unfolding bytes_of
term-six unknown = refl
term-six (number c) = refl
term-six (shift a c) = refl
term-six (apply f a) = refl
term-six (apply2 f a b) = refl

pub entry-six : (e : Entry) → length (entry_bytes e) ≡ 6
unfolding bytes_of
entry-six e = refl

-- c is within half of what two bytes hold
half : (c : ℤ) → WholeIn c → (2 * plus c < 256 ^ 2) × (2 * minus c ≤ 256 ^ 2)
half (pos n) h = (omega arith, omega arith)
half (negsuc n) h = (omega arith, omega arith)

-- four bytes and more
module _ (kind symbol a b : ℕ) where
  pub more_bytes : (rest : List ℕ) → kind < 256 → symbol < 256 → a < 256 → b < 256 → Bytes rest → Bytes (kind ∷ symbol ∷ a ∷ b ∷ rest)
  more_bytes rest k f g h B zero = k
  more_bytes rest k f g h B (suc zero) = f
  more_bytes rest k f g h B (suc (suc zero)) = g
  more_bytes rest k f g h B (suc (suc (suc zero))) = h
  more_bytes rest k f g h B (suc (suc (suc (suc i)))) = B i

  whole-bytes : (c : ℤ) → kind < 256 → symbol < 256 → a < 256 → b < 256 → Bytes (kind ∷ symbol ∷ a ∷ b ∷ whole_bytes c)
  whole-bytes c k f g h = more_bytes (whole_bytes c) k f g h (bytes-bytes 2 (complement_of 2 c))

  whole-read : (c : ℤ) → WholeIn c → signed_of 2 (big_of (kind ∷ symbol ∷ a ∷ b ∷ whole_bytes c) 4 2) ≡ c
  unfolding big_of bytes_of
  whole-read c h =
      let (p, m) = half c h in ap (signed_of 2) (omega (arith, complement-fits 2 c p m)) ∙ signed-complement 2 c p m

pub term-bytes : {t : Term} → ArgumentsBelow 256 t → TermIn t → Bytes (term_bytes t)
unfolding bytes_of complement_of
term-bytes of-unknown h = whole-bytes 0 0 0 0 (pos 0) (omega arith) (omega arith) (omega arith) (omega arith)
term-bytes (of_number {c}) h = whole-bytes 1 0 0 0 c (omega arith) (omega arith) (omega arith) (omega arith)
term-bytes (of_shift {a} {c} l) h = whole-bytes 2 0 a 0 c (omega arith) (omega arith) l (omega arith)
term-bytes (of-apply {symbol = f} {a} l) h = whole-bytes 3 f a 0 (pos 0) (omega arith) h l (omega arith)
term-bytes (of-apply2 {symbol = f} {a} {b} l m) h = whole-bytes 4 f a b (pos 0) (omega arith) h l m

pub term-decoded : (t : Term) → TermIn t → decode_term (fields_at (term_bytes t) 0) ≡ t
unfolding decode_term fields_at bytes_of
term-decoded unknown h = refl
term-decoded (number c) h = ap number (whole-read 1 0 0 0 c h)
term-decoded (shift a c) h = ap (shift a) (whole-read 2 0 a 0 c h)
term-decoded (apply f a) h = refl
term-decoded (apply2 f a b) h = refl

pub term-fine : {i : ℕ} {t : Term} → ArgumentsBelow i t → wrong_term i (fields_at (term_bytes t) 0) ≡ false
unfolding wrong_term fields_at big_of bytes_of
term-fine of-unknown = refl
term-fine of_number = refl
term-fine (of_shift l) = lt-leb _ _ l
term-fine (of-apply l) = lt-leb _ _ l
term-fine (of-apply2 l m) = rw (lt-leb _ _ l, lt-leb _ _ m)

kind-small : (r : Relation) → kind_of r ≤ 3
kind-small equal = omega arith
kind-small unequal = omega arith
kind-small at_most = omega arith
kind-small less = omega arith

kind-read : (r : Relation) → relation_of (kind_of r) ≡ r
unfolding relation_of
kind-read equal = refl
kind-read unequal = refl
kind-read at_most = refl
kind-read less = refl

pub entry-bytes : (e : Entry) → e.a < 256 → e.b < 256 → Bytes (entry_bytes e)
entry-bytes e l m = whole-bytes (kind_of e.relation) 0 e.a e.b e.c (omega (arith, kind-small e.relation)) (omega arith) l m

pub entry-decoded : (e : Entry) → EntryIn e → decode_entry (fields_at (entry_bytes e) 0) ≡ e
unfolding decode_entry fields_at bytes_of
entry-decoded e h = rw (kind-read e.relation, whole-read (kind_of e.relation) 0 e.a e.b e.c h)

pub entry-fine : (T : ℕ) (e : Entry) → e.a < T → e.b < T → wrong_entry T (fields_at (entry_bytes e) 0) ≡ false
unfolding wrong_entry fields_at bytes_of
entry-fine T e l m = rw (le-ltb 3 (kind_of e.relation) (kind-small e.relation), lt-leb T e.a l, lt-leb T e.b m)
