-- The verdict on a set S of a sheet's entries: what each answer shows, and the table that is left where the set holds.
-- Assumes nothing.
use Rattle.std.specs.Prelude.{ℕ, ◌≡◌, Bool, true, false}
use Rattle.order.specs.First.{Set}
use Rattle.sheet.specs.Sheet.{Sheet}
use Rattle.meaning.specs.Meaning.{Holds as SheetHolds, Clashes as SheetClashes}
use Rattle.settled.specs.Settled.{Settled}
use Rattle.writing.specs.declared.Verdict.{Verdict}
use Rattle.writing.specs.declared.Verdict.TheVariants.{Holds, Clashes}

-- document 01's number of a verdict
abbrev pub number_of : Verdict → ℕ
number_of Holds = 0
number_of Clashes = 1

-- the last step decides
abbrev pub verdict_of : Bool → Verdict
verdict_of true = Holds
verdict_of false = Clashes

pub record Judged (s : Sheet) (S : Set) (d : ℕ → ℕ → ℕ) (answer : Verdict) : Type 0 where
  pub holds : number_of answer ≡ 0 → SheetHolds s S
  pub settled : number_of answer ≡ 0 → Settled s S d
  pub clashes : number_of answer ≡ 1 → SheetClashes s S
