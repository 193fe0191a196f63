-- No pair is left to tie: what is known of the table when none was found.
-- Assumes nothing.
use Prim.Native.Nat.{ℕ, ◌<◌}
use mathlib.Core.Path.{refl}
use mathlib.Core.Bool.{Bool, true, false}
use lib.Dec.{eqb}
use lib.IntN.{pos}
use native.Mathlib.Omega.{arith}
use Rattle.std.specs.Prelude.{None}
use Rattle.kind.specs.Code.{base}
use Rattle.closure.specs.Closed.{Closed, TiedAt, tie_of}
use Rattle.closure.specs.Table.{reach}
use Rattle.sheet.specs.Sheet.{Sheet, count_terms}
use Rattle.meaning.specs.Decides.{Decides}
use Rattle.settled.specs.Settled.{points}
use Rattle.ties.proofs.Tests.{tied-told}
use Rattle.pairs.specs.Passing.{PairTied}
use Rattle.pairs.proofs.Pairs.{saturated}
use Rattle.matched.specs.Matched.{Untied, First}

-- a tie at 0 is looked up, so what isn't untied is tied
tied-unless : {n : ℕ} {d : ℕ → ℕ → ℕ} {i j : ℕ} → Closed n (reach n) d → i < n → j < n → ((TiedAt d i j (pos 0) → ⊥) → ⊥) → TiedAt d i j (pos 0)
tied-unless {n} {d} {i} {j} C i< j< N = go (eqb (tie_of d i j) base) (tied-told 32768 (tie_of d i j) base C (i<, j<) (omega arith) refl refl)
  where
    go : (r : Bool) → Decides (TiedAt d i j (pos 0)) r → TiedAt d i j (pos 0)
    go true D = D.yes refl
    go false D = absurd (N (D.no refl))

pair-tied : {s : Sheet} {d : ℕ → ℕ → ℕ} {i j : ℕ} → Closed (points s) (reach (points s)) d → i < count_terms s → j < i → (Untied s d i j → ⊥)
    → PairTied s i j d
pair-tied C i< j< N = record { tied = λ J. tied-unless C (omega arith) (omega arith) (λ U. N (record { joined = J; untied = U })) }

pub first-none : {s : Sheet} {d : ℕ → ℕ → ℕ} → Closed (points s) (reach (points s)) d
    → ((i : ℕ) → i < count_terms s → (j : ℕ) → j < i → Untied s d i j → ⊥) → First s d None
first-none {s} {d} C N = saturated s d C (record { each = λ i i<. record { each = λ j j<. pair-tied C i< j< (N i i< j j<) } })
