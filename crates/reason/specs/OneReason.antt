-- When two replies to one sheet and one room are the same, but for which reason is written.
-- Assumes nothing.
use Rattle.std.specs.Prelude.{ℕ, ◌≤◌, ◌≡◌, List}
use Rattle.paper.specs.Record.{reason_record}
use Rattle.reasons.specs.Step.{Step}
use Rattle.promise.specs.Answered.{over}

-- the number; the place and the whole room unless a reason is written; and where one is, its list
pub record OneReason (old : List ℕ) (N P : ℕ) (new : List ℕ) (N' P' : ℕ) (new' : List ℕ) : Type 0 where
  pub number : N ≡ N'
  pub place : 10 ≤ N → P ≡ P'
  pub room : 10 ≤ N → new ≡ new'
  pub written : N ≡ 1 → (list : List ℕ) × (steps steps' : List Step) × (new ≡ over (reason_record list steps) old) × (new' ≡ over (reason_record list steps') old)
