-- What both answers of a test show, from what they show of its parts.
-- Assumes nothing.
use mathlib.Core.Path.{sym}
use mathlib.Core.Bool.{Bool, true, false, true≢false}
use Rattle.meaning.specs.Decides.{Decides}

pub shown : {A : Type 0} → A → Decides A true
shown a = record { yes = λ e. a; no = λ e x. true≢false e }

pub refuted : {A : Type 0} → (A → ⊥) → Decides A false
refuted n = record { yes = λ e. absurd (true≢false (sym e)); no = λ e. n }

-- a test of what is the same
pub told : {A B : Type 0} {r : Bool} → (A → B) → (B → A) → Decides A r → Decides B r
told to from D = record { yes = λ e. to (D.yes e); no = λ e b. D.no e (from b) }

-- one part is there, and the other is tested
pub rest : {A B : Type 0} {r : Bool} → A → Decides B r → Decides (A × B) r
rest a = told (λ b. (a, b)) (λ p. p.1)
