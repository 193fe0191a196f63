-- What tests answer: of an order, of being the same, and of several tests together.
-- Assumes nothing.
use Prim.Native.Nat.{ℕ, ◌≤◌, ◌<◌}
use mathlib.Core.Path.{◌≡◌, refl}
use mathlib.Core.Logic.{◌⊎◌, inl, inr, ⊎_elim}
use mathlib.Core.Bool.{Bool, true, false, not, ◌&&◌, ◌||◌, false≢true}
use native.Mathlib.Omega.{arith}
use lib.Dec.{leb, ltb, eqb}
use borrow.Author.Tests.{leb-true, leb-false, ltb-true, ltb-false, eqb-true, eqb-false}
use Rattle.meaning.specs.Decides.{Decides}
use Rattle.meaning.proofs.Decides.{shown, refuted}

pub at-most : (m n : ℕ) → Decides (m ≤ n) (leb m n)
at-most m n = record { yes = leb-true m n; no = λ e h. let l = leb-false m n e in omega arith }

pub below : (m n : ℕ) → Decides (m < n) (ltb m n)
below m n = record { yes = ltb-true m n; no = λ e h. let l = ltb-false m n e in omega arith }

pub same : (m n : ℕ) → Decides (m ≡ n) (eqb m n)
same m n = record { yes = eqb-true m n; no = eqb-false m n }

pub flag : (b : Bool) → Decides (b ≡ true) b
flag true = shown refl
flag false = refuted (λ e. false≢true e)

pub none : {A : Type 0} {a : Bool} → Decides A a → Decides (A → ⊥) (not a)
none {a = true} D = refuted (λ h. h (D.yes refl))
none {a = false} D = shown (D.no refl)

pub both : {A B : Type 0} {a b : Bool} → Decides A a → Decides B b → Decides (A × B) (a && b)
both {a = true} {b = true} D E = shown (D.yes refl, E.yes refl)
both {a = true} {b = false} D E = refuted (λ h. E.no refl h.1)
both {a = false} D E = refuted (λ h. D.no refl h.0)

pub either : {A B : Type 0} {a b : Bool} → Decides A a → Decides B b → Decides (A ⊎ B) (a || b)
either {a = true} D E = shown (inl (D.yes refl))
either {a = false} {b = true} D E = shown (inr (E.yes refl))
either {a = false} {b = false} D E = refuted (⊎_elim (D.no refl) (E.no refl))
