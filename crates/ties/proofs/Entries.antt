-- When an entry isn't broken, as the code's entries say it: any other than a ≠ entry.
-- Assumes nothing.
use Prim.Native.Nat.{ℕ}
use mathlib.Core.Path.{◌≡◌, refl}
use mathlib.Core.Bool.{false}
use native.Mathlib.Omega.{arith}
use Rattle.sheet.specs.declared.Entry.{Entry as Code-Entry}
use Rattle.sheet.specs.declared.Relation.{Relation as Code-Relation}
use Rattle.sheet.specs.declared.Relation.TheVariants.{Equal, Unequal, AtMost, Less}
use Rattle.sheet.specs.Sheet.{unequal}
use Rattle.sheet.specs.Says.{relation_says, entry_says}
use Rattle.meaning.specs.Decides.{Decides}
use Rattle.meaning.proofs.Decides.{refuted}
use Rattle.ties.specs.Ties.{Broken}

other : (r : Code-Relation) → (r ≡ Unequal → ⊥) → relation_says r ≡ unequal → ⊥
other Equal h e = let z : ◌≡◌ {A = ℕ} 0 1 = cc in omega arith
other Unequal h e = h refl
other AtMost h e = let z : ◌≡◌ {A = ℕ} 0 1 = cc in omega arith
other Less h e = let z : ◌≡◌ {A = ℕ} 0 1 = cc in omega arith

pub other-told : {d : ℕ → ℕ → ℕ} (e : Code-Entry) → (e.relation ≡ Unequal → ⊥) → Decides (Broken d (entry_says e)) false
other-told e h = refuted (λ b. other e.relation h b.is-unequal)
