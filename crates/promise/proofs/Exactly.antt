-- The mission's second demand: of a sheet that isn't sent back, "holds" is said exactly when values exist, and "clashes" exactly when none do.
-- Assumes nothing.
use Prim.Native.Nat.{ℕ}
use mathlib.Core.Path.{◌≡◌, refl}
use mathlib.Core.Logic.{◌↔◌, ◌⊎◌, inl, inr, ⊎_elim}
use mathlib.Core.List.{List}
use lib.ListN.{length}
use native.Mathlib.Omega.{arith}
use Rattle.order.specs.First.{every, set_of}
use Rattle.sheet.specs.Decode.{sheet_of}
use Rattle.meaning.specs.Meaning.{Holds, Clashes}
use Rattle.meaning.proofs.Meaning.{clashes-upward}
use Rattle.grounds.specs.Table.{fine, refusal}
use Rattle.promise.specs.Answered.{Decided, Answered}
use Rattle.promise.proofs.Unique.{holds-all}

module _ {sheet old new : List ℕ} {N P : ℕ} (a : Answered sheet old new N P) (e : refusal sheet (length old) ≡ fine) where
  -- what is said, and that it is so
  abbrev Said : Type 0
  Said = ((N ≡ 0) × Holds (sheet_of sheet) every) ⊎ ((N ≡ 1) × Clashes (sheet_of sheet) every)

  said : Said
  said = go (a.judged e)
    where
      go : Decided (sheet_of sheet) old new N P → Said
      go (inl h) = inl (h.number_is, holds-all h)
      go (inr c) = inr (c.number_is, clashes-upward (sheet_of sheet) (set_of c.list) every (λ x l m. refl) c.first.has)

  pub holds-exactly : N ≡ 0 ↔ Holds (sheet_of sheet) every
  holds-exactly = ⊎_elim (λ s. (λ q. s.1, λ h. s.0)) (λ s. (λ q. absurd (omega arith), λ h. absurd (s.1 h))) said

  pub clashes-exactly : N ≡ 1 ↔ Clashes (sheet_of sheet) every
  clashes-exactly = ⊎_elim (λ s. (λ q. absurd (omega arith), λ c. absurd (c s.1))) (λ s. (λ q. s.1, λ c. s.0)) said
