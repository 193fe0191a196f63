-- What is so exactly when a test fails, and of several tests that none may hold.
-- Assumes nothing.
use Prim.Native.Nat.{ℕ, ◌≤◌, ◌<◌}
use mathlib.Core.Path.{◌≡◌, refl}
use mathlib.Core.Bool.{Bool, true, false, not, ◌||◌, true≢false, false≢true}
use native.Mathlib.Omega.{arith}
use lib.Dec.{leb, ltb}
use borrow.Author.Tests.{leb-true, leb-false, ltb-true, ltb-false}
use Rattle.meaning.specs.Decides.{Decides}

-- A holds exactly when the test doesn't
pub record Spares (A : Type 0) (test : Bool) : Type 0 where
  pub passed : test ≡ false → A
  pub caught : test ≡ true → A → ⊥

pub unless : {A : Type 0} {a : Bool} → Decides A a → Spares A (not a)
unless {a = true} D = record { passed = λ e. D.yes refl; caught = λ e. absurd (false≢true e) }
unless {a = false} D = record { passed = λ e. absurd (true≢false e); caught = λ e. D.no refl }

pub above : (m n : ℕ) → Spares (n < m) (leb m n)
above m n = record { passed = leb-false m n; caught = λ e h. let l = leb-true m n e in omega arith }

pub at_least : (m n : ℕ) → Spares (n ≤ m) (ltb m n)
at_least m n = record { passed = ltb-false m n; caught = λ e h. let l = ltb-true m n e in omega arith }

pub neither : {A B : Type 0} {a b : Bool} → Spares A a → Spares B b → Spares (A × B) (a || b)
neither {a = true} D E = record { passed = λ e. absurd (true≢false e); caught = λ e h. D.caught refl h.0 }
neither {a = false} D E = record { passed = λ e. (D.passed refl, E.passed e); caught = λ e h. E.caught e h.1 }
