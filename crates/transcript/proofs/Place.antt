-- How far places reach: a refusal's no further than the text, and the length of a sheet no further than the room that every sheet fits in.
-- Assumes nothing.
use Prim.Native.Nat.{ℕ, ◌≤◌}
use mathlib.Core.Path.{◌≡◌, sym, ap, ◌∙◌}
use mathlib.Core.List.{List}
use lib.ListN.{length}
use native.Mathlib.Omega.{arith}
use Rattle.text.specs.Text.{Line}
use Rattle.text.specs.Print.Fault.{byte, early}
use Rattle.text.proofs.Text.{print-injective}
use Rattle.written.specs.Written.{sheet_bytes}
use Rattle.written.proofs.Bytes.{bytes-length}
use Rattle.numbered.specs.Numbered.{sheet_of}
use Rattle.slips.specs.Slips.{Slip}
use Rattle.slips.specs.Slips.Slip.{form, deep, range, terms, lines}
use Rattle.lines.specs.Reading.{Whole}
use Rattle.transcript.specs.Transcribed.{sheet_room, SaysSheet, Transcribed}
use Rattle.transcript.proofs.Join.{formed}
use Rattle.transcript.proofs.Unique.{Fate, fate, numbers}
use Rattle.transcript.proofs.Unique.Fate.{short, slip, sheet}

slip-place : {bs : List ℕ} {N P : ℕ} → Slip bs N P → P ≤ length bs
slip-place (form (byte h b n)) = omega arith
slip-place (form (early b n)) = omega arith
slip-place (deep u h) = omega (arith, u.within)
slip-place (range u h) = omega (arith, u.within)
slip-place (terms u h) = omega (arith, u.within)
slip-place (lines u h) = omega (arith, u.within)

sheet-short : {text m old new : List ℕ} {l N P : ℕ} → Whole text m l → SaysSheet text old new N P → P ≤ sheet_room
sheet-short W x =
    let e = print-injective x.lines W.lines (x.same ∙ sym W.same) in
    let n = x.place_is ∙ ap (λ (ls : List Line). length (sheet_bytes (sheet_of ls))) e ∙ bytes-length (sheet_of W.lines) in
    omega (arith, n, (formed W).terms, (formed W).entries)

module _ {text old new : List ℕ} {N P : ℕ} (T : Transcribed text old new N P) where
  pub place-within : (most : ℕ) → length text ≤ most → sheet_room ≤ most → P ≤ most
  place-within most t r = go (fate text old)
    where
      go : Fate text old → P ≤ most
      go (short h) = omega (arith, (T.no_room h).place_is)
      go (slip h M Q F) = omega (arith, (T.sent_back h M Q F).place_is, slip-place F.slip)
      go (sheet h m l W) = omega (arith, sheet-short W (T.transcribed h W.clean))

  pub sheet-within : N ≡ 0 → P ≤ sheet_room
  sheet-within e = go (fate text old)
    where
      go : Fate text old → P ≤ sheet_room
      go (short h) = absurd (omega (arith, (T.no_room h).number_is))
      go (slip h M Q F) = absurd (omega (arith, (T.sent_back h M Q F).number_is, numbers F.slip))
      go (sheet h m l W) = sheet-short W (T.transcribed h W.clean)
