-- The reply is one only, the sheet that it gives is the text's, and the panel never sends that sheet back.
-- Assumes nothing.
use Prim.Native.Nat.{ℕ, ◌≤◌, ◌<◌}
use mathlib.Core.Path.{◌≡◌, sym, ◌∙◌}
use mathlib.Core.Logic.{◌⊎◌, inl, inr}
use mathlib.Core.List.{List}
use lib.ListN.{length, take}
use lib.Seq.{take-append_seam}
use native.Mathlib.Omega.{arith}
use native.Mathlib.Decide.{dec_lt}
use Rattle.sheet.specs.Decode.{sheet_of as decoded}
use Rattle.grounds.specs.Table.{fine, sheet_refusal}
use Rattle.text.specs.Text.{Line}
use Rattle.text.specs.Print.{print}
use Rattle.text.proofs.Text.{print-injective}
use Rattle.written.specs.Written.{sheet_bytes}
use Rattle.written.proofs.Bytes.{bytes-decode, bytes-fine}
use Rattle.numbered.specs.Numbered.{sheet_of}
use Rattle.slips.specs.Slips.{Slip, FirstSlip}
use Rattle.slips.specs.Slips.Slip.{form, deep, range, terms, lines}
use Rattle.promise.specs.Answered.{over, SentBack}
use Rattle.lines.specs.Reading.{Whole}
use Rattle.lines.proofs.Decides.{First, Read, decides}
use Rattle.transcript.specs.Transcribed.{sheet_room, SaysSheet, Transcribed}
use Rattle.transcript.proofs.Join.{formed, fields}

-- what a call comes to: the room is too short, or the text has a first slip, or it is whole
pub data Fate (text old : List ℕ) : Type 0 where
  short : length old < sheet_room → Fate text old
  slip : sheet_room ≤ length old → (N P : ℕ) → FirstSlip text N P → Fate text old
  sheet : sheet_room ≤ length old → (m : List ℕ) (l : ℕ) → Whole text m l → Fate text old

pub fate : (text old : List ℕ) → Fate text old
fate text old = go (dec_lt (length old) sheet_room) (decides text)
  where
    go : Dec (length old < sheet_room) → First text ⊎ Read text → Fate text old
    go (yes h) d = short h
    go (no h) (inl F) = slip (omega arith) F.number F.place F.first
    go (no h) (inr R) = sheet (omega arith) R.memory R.count R.whole

pub numbers : {bs : List ℕ} {N P : ℕ} → Slip bs N P → (20 ≤ N) × (N ≤ 23)
numbers (form f) = (omega arith, omega arith)
numbers (deep x d) = (omega arith, omega arith)
numbers (range x d) = (omega arith, omega arith)
numbers (terms x d) = (omega arith, omega arith)
numbers (lines x d) = (omega arith, omega arith)

-- the reply is one only
module _ {old new new' : List ℕ} {N P N' P' : ℕ} where
  both-back : {M Q : ℕ} → SentBack M Q old new N P → SentBack M Q old new' N' P' → (N ≡ N') × (P ≡ P') × (new ≡ new')
  both-back x y = (cc, cc, cc)

  both-sheets : {text : List ℕ} → SaysSheet text old new N P → SaysSheet text old new' N' P' → (N ≡ N') × (P ≡ P') × (new ≡ new')
  both-sheets x y = let e = print-injective x.lines y.lines (x.same ∙ sym y.same) in (cc, cc, cc)

  pub reply-unique : {text : List ℕ} → Transcribed text old new N P → Transcribed text old new' N' P' → (N ≡ N') × (P ≡ P') × (new ≡ new')
  reply-unique {text} a b = go (fate text old)
    where
      go : Fate text old → (N ≡ N') × (P ≡ P') × (new ≡ new')
      go (short h) = both-back (a.no_room h) (b.no_room h)
      go (slip h M Q F) = both-back (a.sent_back h M Q F) (b.sent_back h M Q F)
      go (sheet h m l W) = both-sheets (a.transcribed h W.clean) (b.transcribed h W.clean)

-- a printed text without a slip gives its own sheet
pub printed-sheet : (ls : List Line) {old new : List ℕ} {N P : ℕ} → sheet_room ≤ length old → ((M Q : ℕ) → Slip (print ls) M Q → ⊥) →
    Transcribed (print ls) old new N P → (N ≡ 0) × (P ≡ length (sheet_bytes (sheet_of ls))) × (new ≡ over (sheet_bytes (sheet_of ls)) old)
printed-sheet ls h clean a =
    let x = a.transcribed h clean in
    let e = print-injective x.lines ls x.same in
    (x.number_is, rw (← e) x.place_is, rw (← e) x.room-is)

-- number 24 says that the room is too short, and nothing else does
pub refused-exactly : (text old : List ℕ) {new : List ℕ} {N P : ℕ} → Transcribed text old new N P → (N ≡ 24 → length old < sheet_room) × (length old < sheet_room → N ≡ 24)
refused-exactly text old {N = N} a = (go (fate text old), λ h. (a.no_room h).number_is)
  where
    go : Fate text old → N ≡ 24 → length old < sheet_room
    go (short h) e = h
    go (slip h M Q F) e = absurd (omega (arith, (a.sent_back h M Q F).number_is, numbers F.slip))
    go (sheet h m l W) e = absurd (omega (arith, (a.transcribed h W.clean).number_is))

-- number 0: the text is whole, and the bytes are those of its sheet
record Given (text bytes : List ℕ) : Type 0 where
  memory : List ℕ
  count : ℕ
  whole : Whole text memory count
  bytes-are : bytes ≡ sheet_bytes (sheet_of whole.lines)

module _ {text old new : List ℕ} {P : ℕ} (a : Transcribed text old new 0 P) where
  given : Given text (take P new)
  given = go (fate text old)
    where
      go : Fate text old → Given text (take P new)
      go (short h) = absurd (omega (arith, (a.no_room h).number_is))
      go (slip h M Q F) = absurd (omega (arith, (a.sent_back h M Q F).number_is, numbers F.slip))
      go (sheet h m l W) =
          let x = a.transcribed h W.clean in
          let e = print-injective x.lines W.lines (x.same ∙ sym W.same) in
          record {
            memory = m;
            count = l;
            whole = W;
            bytes-are = rw (x.place_is, x.room-is, e) (take-append_seam (sheet_bytes (sheet_of W.lines)) _);
          }

  -- the panel doesn't send these bytes back
  pub never-sent-back : sheet_refusal (take P new) ≡ fine
  never-sent-back = let W = given.whole in rw given.bytes-are (bytes-fine (sheet_of W.lines) (formed W) (fields W))

  -- and the sheet that it reads from them is that of the lines typed
  pub judged-as-typed : (ls : List Line) → print ls ≡ text → decoded (take P new) ≡ sheet_of ls
  judged-as-typed ls p =
      let W = given.whole in
      let e = print-injective W.lines ls (W.same ∙ sym p) in
      rw (given.bytes-are, ← e) (bytes-decode (sheet_of W.lines) (formed W) (fields W))
