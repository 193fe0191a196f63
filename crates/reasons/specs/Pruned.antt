-- A reason without the steps that a set doesn't keep: those that stay are counted anew, and walks name ties by their new numbers.
-- Assumes nothing.
use Rattle.std.specs.Prelude.{ℕ, zero, suc, ◌≤◌, ◌<◌, ◌≡◌, true, cond, List, [], ◌∷◌, length}
use Rattle.order.specs.First.{Set}
use Rattle.sheet.specs.Sheet.{Sheet}
use Rattle.reasons.specs.Step.{Bound, entry, entry_back, term, term_back, tie, tie_back, Step, by_walks, by_functions, closing_walk, closing_entry, step_at}
use Rattle.reasons.specs.Rules.{TieRight, Closing}
use Rattle.reasons.specs.Reason.{Rests, Gathered}

-- how many of the first n steps are kept: the new number of step n
unfoldable pub rank : Set → ℕ → ℕ
rank keep zero = zero
rank keep (suc n) = cond (keep n) (suc (rank keep n)) (rank keep n)

abbrev pub renamed_bound : Set → Bound → Bound
renamed_bound keep (entry e) = entry e
renamed_bound keep (entry_back e) = entry_back e
renamed_bound keep (term i) = term i
renamed_bound keep (term_back i) = term_back i
renamed_bound keep (tie t) = tie (rank keep t)
renamed_bound keep (tie_back t) = tie_back (rank keep t)

unfoldable pub renamed_walk : Set → List Bound → List Bound
renamed_walk keep [] = []
renamed_walk keep (b ∷ bs) = renamed_bound keep b ∷ renamed_walk keep bs

abbrev pub renamed : Set → Step → Step
renamed keep (by_walks a b c there back) = by_walks a b c (renamed_walk keep there) (renamed_walk keep back)
renamed keep (by_functions a b) = by_functions a b
renamed keep (closing_walk a round) = closing_walk a (renamed_walk keep round)
renamed keep (closing_entry e) = closing_entry e

-- the steps from number n on, without those that aren't kept
unfoldable pub pruned_from : Set → ℕ → List Step → List Step
pruned_from keep n [] = []
pruned_from keep n (k ∷ ks) = cond (keep n) (renamed keep k ∷ pruned_from keep (suc n) ks) (pruned_from keep (suc n) ks)

abbrev pub pruned : Set → List Step → List Step
pruned keep steps = pruned_from keep 0 steps

-- what makes steps good to prune: the kept ones obey the rules, the last one closes and is kept, and what a kept one rests on is kept;
-- and nothing is kept that the last one doesn't rest on
pub record Prunable (s : Sheet) (listed : Set) (steps : List Step) (last : ℕ) (keep : Set) : Type 0 where
  pub count : length steps ≡ suc last
  pub ties : (n : ℕ) → n < last → keep n ≡ true → TieRight s listed steps n (step_at steps n)
  pub closing : Closing s listed steps last (step_at steps last)
  pub last-kept : keep last ≡ true
  pub rests-kept : (n t : ℕ) → n ≤ last → keep n ≡ true → Rests s steps n (step_at steps n) t → keep t ≡ true
  pub needed : (n : ℕ) → n < last → keep n ≡ true → Gathered s steps last n
