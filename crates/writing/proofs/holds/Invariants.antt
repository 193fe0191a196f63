-- `writing::holds` meets its contract: after i turns, the first i values stand behind the head.
-- Assumes nothing.
use Rattle.big.specs.Big.{Bytes}
use Rattle.answer.specs.Levels.{value_at}
use Rattle.writing.proofs.Fill.{Filled}
use Rattle.writing.proofs.holds.Given as goal

abbrev pub invariant-loop-i : goal.invariant-loop-i
invariant-loop-i l = record { bytes : Bytes l.room; filled : Filled (value_at l.v l.t) l.initial.room l.room l.i }
