-- The draft is the sheet's own bytes: a key's number has the six bytes of its record, and so has an entry's. And what `drafting::sheet` lays is the draft.
-- Assumes nothing.
use Prim.Native.Nat.{ℕ, suc, ◌+◌, ◌*◌, ◌/◌, ◌%◌, ◌≤◌, ◌<◌}
use mathlib.Core.Path.{◌≡◌, refl, ◌∙◌}
use mathlib.Core.List.{List, [], ◌∷◌, ◌++◌, map}
use lib.IntN.{ℤ, pos, negsuc}
use lib.ListN.{length, length-append, length-map}
use lib.Seq.{sets, sets-eq}
use native.Mathlib.Omega.{arith}
use borrow.Author.Tests.{lt-ltb, le-ltb}
use Rattle.big.specs.Big.{bytes_of, complement_of}
use Rattle.big.proofs.Bytes.{bytes-length}
use Rattle.sheet.specs.Limits.{max_terms, max_entries, sheet_length}
use Rattle.sheet.specs.Sheet.{Entry}
use Rattle.written.specs.Written.{term_bytes, kind_of, entry_bytes, in_row, sheet_bytes}
use Rattle.written.specs.Fields.{EachIn}
use Rattle.written.proofs.Records as Records
use Rattle.numbered.specs.Numbered.{Key, record_of}
use Rattle.numbered.specs.Numbered.Key.{of_variable, of_number, of_shift, of_apply, of_apply2}
use Rattle.numbered.specs.Within.{WholeIn}
use Rattle.promise.specs.Answered.{over}
use Rattle.met.specs.Model.{memory_cells, count_in}
use Rattle.met.specs.Keys.{kind_one, symbol_one, a_one, b_one, names, code_of, KeyIn, KeysIn, Table, entry_code}
use Rattle.drafting.specs.Draft.{record_bytes, EntryFits, entry_cells, front, draft}
use Rattle.drafting.proofs.Laid.{sets-append, rows, rows-length}

-- one digit more
digit : (w q d v : ℕ) → d < 256 → v ≡ q * 256 + d → bytes_of (suc w) v ≡ bytes_of w q ++ d ∷ []
unfolding bytes_of
digit w q d v h is =
    let quotient : v / 256 ≡ q = omega arith in
    let rest : v % 256 ≡ d = omega arith in
    cc

-- the head as `drafting::sheet` writes it
front_bytes_lem : (T L : ℕ) → T < 256 → L < 256 → bytes_of 6 ((((sheet_length T L * 256 + 1) * 256 + T) * 256 + L) * 256) ≡ front T L
unfolding bytes_of
front_bytes_lem T L t l =
    let n = sheet_length T L in
    digit 5 (((n * 256 + 1) * 256 + T) * 256 + L) 0 _ (omega arith) (omega arith)
    ∙ cc (digit 4 ((n * 256 + 1) * 256 + T) L _ l refl, digit 3 (n * 256 + 1) T _ t refl, digit 2 n 1 _ (omega arith) refl)

-- the fields of a record, behind each other
fields-bytes : (kind symbol a b c v : ℕ) → kind < 256 → symbol < 256 → a < 256 → b < 256 → c < 65536 →
    v ≡ kind * kind_one + symbol * symbol_one + a * a_one + b * b_one + c → kind ∷ symbol ∷ a ∷ b ∷ bytes_of 2 c ≡ record_bytes v
unfolding bytes_of
fields-bytes kind symbol a b c v k s f g h is =
    let four : ℕ = ((kind * 256 + symbol) * 256 + a) * 256 + b in
    rw (lt-ltb v names (omega arith))
    (cc (
      digit 5 (four * 256 + c / 256) (c % 256) v (omega arith) (omega arith),
      digit 4 four (c / 256 % 256) (four * 256 + c / 256) (omega arith) (omega arith),
      digit 3 ((kind * 256 + symbol) * 256 + a) b four g refl,
      digit 2 (kind * 256 + symbol) a _ f refl,
      digit 1 kind symbol _ s refl,
      digit 0 0 kind kind k (omega arith),
    ))

whole-fits : (c : ℤ) → WholeIn c → complement_of 2 c < 65536
unfolding complement_of
whole-fits (pos n) h = omega arith
whole-fits (negsuc n) h = omega arith

pub key-bytes : (k : Key) → KeyIn k → term_bytes (record_of k) ≡ record_bytes (code_of k)
unfolding bytes_of
key-bytes (of_variable n) h = rw (le-ltb (names + n) names (omega arith))
key-bytes (of_number c) h = fields-bytes 1 0 0 0 (complement_of 2 c) (code_of (of_number c)) (omega arith) (omega arith) (omega arith) (omega arith) (whole-fits c h) (omega arith)
key-bytes (of_shift a c) h = fields-bytes 2 0 a 0 (complement_of 2 c) (code_of (of_shift a c)) (omega arith) (omega arith) h.0 (omega arith) (whole-fits c h.1) (omega arith)
key-bytes (of_apply f a) h = fields-bytes 3 f a 0 0 (code_of (of_apply f a)) (omega arith) h.0 h.1 (omega arith) (omega arith) (omega arith)
key-bytes (of_apply2 f a b) h = fields-bytes 4 f a b 0 (code_of (of_apply2 f a b)) (omega arith) h.0 h.1 h.2 (omega arith) (omega arith)

pub entry-bytes : (e : Entry) → EntryFits e → entry_bytes e ≡ record_bytes (entry_code e)
unfolding complement_of
entry-bytes e h =
    let kind = Records.entry-bytes e h.left h.right 0 in
    rw h.none (fields-bytes (kind_of e.relation) 0 e.a e.b 0 (entry_code e) kind (omega arith) h.left h.right (omega arith) (omega arith))

keys-bytes : (xs : List Key) → KeysIn xs → in_row record_bytes (map code_of xs) ≡ in_row term_bytes (map record_of xs)
keys-bytes [] h = refl
keys-bytes (k ∷ xs) h = cc (key-bytes k h.0, keys-bytes xs h.1)

entries-bytes : (es : List Entry) → EachIn EntryFits es → in_row record_bytes (map entry_code es) ≡ in_row entry_bytes es
entries-bytes [] h = refl
entries-bytes (e ∷ es) h = cc (entry-bytes e h.0, entries-bytes es h.1)

-- the terms and the entries that the memory holds
pub draft-bytes : (m : List ℕ) (xs : List Key) (es : List Entry) → Table m xs → entry_cells m (length es) ≡ map entry_code es → EachIn EntryFits es →
    draft m (length es) ≡ sheet_bytes (record { terms = map record_of xs; entries = es })
unfolding draft
draft-bytes m xs es T e h = cc (T.count, T.held, keys-bytes xs T.keys, entries-bytes es h, length-map xs record_of)

module _ (m : List ℕ) (l : ℕ) (full : length m ≡ memory_cells) (few : count_in m ≤ max_terms) (short : l ≤ max_entries) where
  pub draft-length : length (draft m l) ≡ sheet_length (count_in m) l
  unfolding draft
  draft-length = simp (length-append, bytes-length) (omega (arith, rows-length m 0 (count_in m) (omega arith), rows-length m (max_terms + 1) l (omega arith)))

  -- the head, the terms' records and those of the entries, one laid behind the other
  pub drafted : (old : List ℕ) {head terms new : List ℕ} → sheet_length max_terms max_entries ≤ length old →
      head ≡ sets old 0 (bytes_of 6 ((((sheet_length (count_in m) l * 256 + 1) * 256 + count_in m) * 256 + l) * 256)) →
      terms ≡ sets head 6 (rows m 0 (count_in m)) → new ≡ sets terms (6 + 6 * count_in m) (rows m (max_terms + 1) l) → new ≡ over (draft m l) old
  unfolding draft
  drafted old room e f g =
      let head = front (count_in m) l in
      let terms = rows m 0 (count_in m) in
      let entries = rows m (max_terms + 1) l in
      let six : 0 + length head ≡ 6 = simp (length-append, bytes-length) in
      let more : 0 + length (head ++ terms) ≡ 6 + 6 * count_in m = simp (length-append, bytes-length) (omega (arith, rows-length m 0 (count_in m) (omega arith))) in
      let all : 0 + length (draft m l) ≡ length (draft m l) = omega arith in
      cc (
        front_bytes_lem (count_in m) l (omega arith) (omega arith),
        sets-append old 0 head terms,
        sets-append old 0 (head ++ terms) entries,
        sets-eq (draft m l) old 0 (omega (arith, draft-length)),
      )
