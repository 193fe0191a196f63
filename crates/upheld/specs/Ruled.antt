-- What is told of one step: whether it ties or closes by the rules.
-- Assumes nothing.
use Rattle.std.specs.Prelude.{ℕ, ◌≡◌, Bool, List, length}
use Rattle.order.specs.First.{Set}
use Rattle.sheet.specs.Decode.{Sized, sheet_of}
use Rattle.sheet.specs.Sheet.{Term, Sheet, count_terms, ArgumentsBelow, WellFormed}
use Rattle.meaning.specs.Meaning.{SameInput}
use Rattle.meaning.specs.Decides.{Decides}
use Rattle.reasons.specs.Step.{Step}
use Rattle.reasons.specs.Rules.{Level, TieRight, Closing}
use Rattle.stated.specs.Said.{step_of, Formed}
use Rattle.stated.specs.declared.Step.{Step as Record}
use Rattle.links.specs.Links.{Rising}
use Rattle.linked.specs.Known.{Known}
use Rattle.upheld.specs.declared.Ruling.{Ruling}
use Rattle.upheld.specs.declared.Ruling.TheVariants.{Wrong, Ties, Closes}

-- what is lent: a sheet that isn't sent back, and memory of its size
pub record Asked (sheet legs links : List ℕ) : Type 0 where
  pub sized : Sized sheet
  pub well-formed : WellFormed (sheet_of sheet)
  pub legs-size : length legs ≡ 768
  pub links-size : length links ≡ 256
  pub rising : Rising links

-- the record has the form of a step, which is a right tie as step n
pub record RightTie (s : Sheet) (listed : Set) (steps : List Step) (n : ℕ) (r : Record) : Type 0 where
  pub formed : Formed r
  pub right : TieRight s listed steps n (step_of r)

-- or closes
pub record RightClosing (s : Sheet) (listed : Set) (steps : List Step) (n : ℕ) (r : Record) : Type 0 where
  pub formed : Formed r
  pub closing : Closing s listed steps n (step_of r)

-- what an answer tells of two terms whose arguments are points, and of a step, whatever the steps are of which all is known
pub record TellsInput (links : List ℕ) (f g : Term) (r : Bool) : Type 0 where
  pub decides : {s : Sheet} {listed : Set} {steps : List Step} {n : ℕ} {legs : List ℕ} → Known s listed steps n legs links →
      ArgumentsBelow (count_terms s) f → ArgumentsBelow (count_terms s) g → Decides (SameInput (Level steps n) f g) r

pub record TellsTie (sheet legs links : List ℕ) (k : Record) (r : Bool) : Type 0 where
  pub decides : {listed : Set} {steps : List Step} {n : ℕ} → Known (sheet_of sheet) listed steps n legs links →
      Decides (RightTie (sheet_of sheet) listed steps n k) r

pub record TellsClosing (sheet legs links : List ℕ) (listed : Set) (k : Record) (r : Bool) : Type 0 where
  pub decides : {steps : List Step} {n : ℕ} → Known (sheet_of sheet) listed steps n legs links →
      Decides (RightClosing (sheet_of sheet) listed steps n k) r

-- what a ruling tells: that a step does neither, that it ties, that it closes
abbrev pub Ruled : (s : Sheet) (listed : Set) (steps : List Step) (n : ℕ) → Record → Ruling → Type 0
Ruled s listed steps n r Wrong = (RightTie s listed steps n r → ⊥) × (RightClosing s listed steps n r → ⊥)
Ruled s listed steps n r Ties = RightTie s listed steps n r
Ruled s listed steps n r Closes = RightClosing s listed steps n r
