-- A text whose numbers are within their limits. Nothing here need be believed: it says of which texts a sheet's laws are shown.
-- Assumes nothing.
use Rattle.std.specs.Prelude.{ℕ, ◌≤◌, List, [], ◌∷◌}
use Rattle.text.specs.Text.{Sign, Plain, Arguments, Term, Line}
use Rattle.text.specs.Text.Sign.{plus, minus}
use Rattle.text.specs.Text.Plain.{variable, apply}
use Rattle.text.specs.Text.Arguments.{alone, pair}
use Rattle.text.specs.Text.Term.{number, plain, shifted}
pub use Rattle.written.specs.Fields.{WholeIn}

abbrev pub ShiftIn : Sign → ℕ → Type 0
ShiftIn plus n = n ≤ 32767
ShiftIn minus n = n ≤ 32768

abbrev mutual
  pub PlainIn : Plain → Type 0
  PlainIn (variable n) = n ≤ 99
  PlainIn (apply f ts) = (f ≤ 255) × ArgumentsIn ts

  pub ArgumentsIn : Arguments → Type 0
  ArgumentsIn (alone t) = TermIn t
  ArgumentsIn (pair t u) = TermIn t × TermIn u

  pub TermIn : Term → Type 0
  TermIn (number c) = WholeIn c
  TermIn (plain p) = PlainIn p
  TermIn (shifted p s n) = PlainIn p × ShiftIn s n

abbrev pub LinesIn : List Line → Type 0
LinesIn [] = Unit {0}
LinesIn (l ∷ ls) = TermIn l.left × TermIn l.right × LinesIn ls
