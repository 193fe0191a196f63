-- The verdict is one only: it says "clashes" exactly when the meaning does, whatever the table.
-- Assumes nothing.
use Prim.Native.Nat.{ℕ}
use mathlib.Core.Path.{◌≡◌, refl, sym}
use mathlib.Core.Logic.{◌↔◌}
use Rattle.order.specs.First.{Set}
use Rattle.sheet.specs.Sheet.{Sheet}
use Rattle.meaning.specs.Meaning.{Holds as SheetHolds, Clashes as SheetClashes}
use Rattle.writing.specs.declared.Verdict.{Verdict}
use Rattle.writing.specs.declared.Verdict.TheVariants.{Holds, Clashes}
use Rattle.verdict.specs.Judged.{number_of, Judged}

module _ (s : Sheet) (S : Set) where
  pub clashes-exactly : {d : ℕ → ℕ → ℕ} (r : Verdict) → Judged s S d r → number_of r ≡ 1 ↔ SheetClashes s S
  clashes-exactly Holds J = (J.clashes, λ c. absurd (c (J.holds refl)))
  clashes-exactly Clashes J = (J.clashes, λ c. refl)

  pub holds-exactly : {d : ℕ → ℕ → ℕ} (r : Verdict) → Judged s S d r → number_of r ≡ 0 ↔ SheetHolds s S
  holds-exactly Holds J = (J.holds, λ h. refl)
  holds-exactly Clashes J = (J.holds, λ h. absurd (J.clashes refl h))

  -- so two verdicts on one set agree
  pub one-verdict : {d e : ℕ → ℕ → ℕ} (q r : Verdict) → Judged s S d q → Judged s S e r → number_of q ≡ number_of r
  one-verdict Holds r J K = sym ((holds-exactly r K).1 (J.holds refl))
  one-verdict Clashes r J K = sym ((clashes-exactly r K).1 (J.clashes refl))
