-- The abstract text: lines of a term, a relation and a term. Numbers and depths have no limit.
-- Assumes nothing.
use Rattle.std.specs.Prelude.{ℕ, ℤ}
use Rattle.sheet.specs.Sheet.{Relation}

-- a shift's sign: x0-0 and x0+0 are two texts, of one term
pub data Sign : Type 0 where
  plus minus : Sign

mutual
  -- a term that may end in a shift: x with a number, or f with a number and an argument list
  pub data Plain : Type 0 where
    variable : ℕ → Plain
    apply : ℕ → Arguments → Plain

  -- an argument list is made of terms, one or two of them
  pub data Arguments : Type 0 where
    alone : Term → Arguments
    pair : Term → Term → Arguments

  pub data Term : Type 0 where
    number : ℤ → Term
    plain : Plain → Term
    shifted : Plain → Sign → ℕ → Term

pub record Line : Type 0 where
  pub left : Term
  pub relation : Relation
  pub right : Term
