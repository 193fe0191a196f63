-- The single claim under which the starred sheets are gathered: the files' bytes aren't sent back and decode to what the line says,
-- and each answer follows from the meaning.
-- Assumes nothing.
use Rattle.std.specs.Prelude.{ℕ, ◌≡◌, List, [], ◌∷◌}
use Rattle.sheet.specs.Limits.{room_needed}
use Rattle.sheet.specs.Sheet.{Sheet}
use Rattle.sheet.specs.Decode.{sheet_of}
use Rattle.meaning.specs.Lines
use Rattle.meaning.specs.Judged.{Judged}
use Rattle.grounds.specs.Table.{refusal, fine}
use Rattle.answer.specs.Record.{clashes_record}
use Rattle.starred.specs.Bytes

pub record Reads (bytes : List ℕ) (line : Sheet) : Type 0 where
  pub accepted : refusal bytes room_needed ≡ fine
  pub decodes : sheet_of bytes ≡ line

pub record Starred : Type 0 where
  pub judged : Judged
  pub sheet1 : Reads Bytes.bytes1 Lines.line1
  pub sheet2 : Reads Bytes.bytes2 Lines.line2
  pub sheet3 : Reads Bytes.bytes3 Lines.line3
  pub sheet4a : Reads Bytes.bytes4a Lines.line4a
  pub sheet4b : Reads Bytes.bytes4b Lines.line4b
  pub sheet4c : Reads Bytes.bytes4c Lines.line4c
  pub sheet5 : Reads Bytes.bytes5 Lines.line5
  pub sheet6 : Reads Bytes.bytes6 Lines.line6
  pub sheet7 : Reads Bytes.bytes7 Lines.line7
  pub sheet8 : Reads Bytes.bytes8 Lines.line8
  pub sheet9 : Reads Bytes.bytes9 Lines.line9
  pub sheet10a : Reads Bytes.bytes10a Lines.line10a
  pub sheet10b : Reads Bytes.bytes10b Lines.line10b
  -- the record of sheet 1's list
  pub sheet1-answer : clashes_record (0 ∷ 1 ∷ 2 ∷ []) ≡ 0x00 ∷ 0x0B ∷ 0x01 ∷ 0x01 ∷ 0x00 ∷ 0x03 ∷ 0x00 ∷ 0x00 ∷ 0x00 ∷ 0x01 ∷ 0x02 ∷ []
