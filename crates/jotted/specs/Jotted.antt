-- A bound at a place of a list, and both bounds of a = b + c.
-- Assumes nothing.
use Rattle.std.specs.Prelude.{ℕ, ◌+◌, ◌*◌, ◌<◌, ◌≡◌, List, get_or, ℤ, neg_ℤ}
use Rattle.kind.specs.Code.{none, Within}
use Rattle.kind.specs.Kind.{Kind, weak, kind_of}
use Rattle.closure.specs.Table.{step}
use Rattle.sheet.specs.Limits.{max_terms, max_entries}
use Rattle.layers.specs.Bounds.{nowhere, from_at, to_at, code_at}
use Rattle.layers.specs.declared.Bound.{Bound}

-- as many as are ever listed: two for each term, for each entry, and for each tie of functions
abbrev pub most : ℕ
most = 4 * max_terms + 2 * max_entries

-- a bound of a sheet's size stands at m, and nothing else is changed
pub record One (list list' : List Bound) (m a b : ℕ) (g : Kind) : Type 0 where
  pub from_is : from_at list' m ≡ a
  pub to_is : to_at list' m ≡ b
  pub gap_is : kind_of (code_at list' m) ≡ g
  pub there : code_at list' m < none
  pub near : Within step (code_at list' m)
  pub bounds-kept : (k : ℕ) → (k ≡ m → ⊥) → get_or list' k nowhere ≡ get_or list k nowhere

-- so for a = b + c: there at m, and back at m + 1
pub record Both (list list' : List Bound) (m a b : ℕ) (c : ℤ) : Type 0 where
  pub between : List Bound
  pub there : One list between m a b (weak c)
  pub back : One between list' (m + 1) b a (weak (neg_ℤ c))
