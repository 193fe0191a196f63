-- `symbols::other_count` meets its contract: terms are looked at from the front, each by the mark of its symbol.
-- Assumes nothing.
use Rattle.std.proofs.Common.{◌≡◌, ℕ, ◌<◌, false}
use Rattle.sheet.specs.Decode.{sheet_of}
use Rattle.grounds.specs.Rows.{other_count_in}
use Rattle.symbols.proofs.Marks.{Marked}
use Rattle.symbols.proofs.other_count.Given as goal

abbrev pub invariant-loop-i : goal.invariant-loop-i
invariant-loop-i l = record {
  clear : (k : ℕ) → k < l.i → other_count_in (sheet_of l.sheet) k ≡ false;
  marked : Marked (sheet_of l.sheet) l.i l.marks;
}
