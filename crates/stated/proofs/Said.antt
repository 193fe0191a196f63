-- The steps that records say, one by one: as many as there are records, each said by the record of its number, also of the first k.
-- Assumes nothing.
use Prim.Native.Nat.{ℕ, zero, suc, ◌<◌}
use mathlib.Core.Path.{◌≡◌, refl, ap}
use mathlib.Core.List.{List, [], ◌∷◌}
use native.Mathlib.Nat.{not-suc-le-zero, le_of_suc-le-suc}
use lib.ListN.{length, take}
use Rattle.reasons.specs.Step.{Step, step_at}
use Rattle.stated.specs.Said.{step_of, steps_of, record_at}
use Rattle.stated.specs.declared.Step.{Step as Record}

pub length-steps : (rs : List Record) → length (steps_of rs) ≡ length rs
unfolding steps_of
length-steps [] = refl
length-steps (r ∷ rs) = ap suc (length-steps rs)

pub step-said : (rs : List Record) (n : ℕ) → n < length rs → step_at (steps_of rs) n ≡ step_of (record_at rs n)
unfolding steps_of
step-said [] n h = absurd (not-suc-le-zero h)
step-said (r ∷ rs) zero h = refl
step-said (r ∷ rs) (suc n) h = step-said rs n (le_of_suc-le-suc h)

pub steps-take : (k : ℕ) (rs : List Record) → steps_of (take k rs) ≡ take k (steps_of rs)
unfolding steps_of
steps-take zero rs = refl
steps-take (suc k) [] = refl
steps-take (suc k) (r ∷ rs) = ap {B = List Step} (λ ks. step_of r ∷ ks) (steps-take k rs)
