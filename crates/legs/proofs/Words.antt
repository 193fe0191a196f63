-- The parts of a leg are read back from its number, and a sheet's c is a gap.
-- Assumes nothing.
use Prim.Native.Nat.{ℕ, suc, ◌+◌, ◌-◌, ◌%◌, ◌<◌}
use mathlib.Core.Path.{◌≡◌, refl}
use mathlib.Core.Bool.{Bool, true, false, cond}
use lib.Dec.{ltb}
use lib.IntN.{pos, negsuc, sub_ℕ}
use native.Mathlib.Omega.{arith}
use borrow.Author.Tests.{ltb-true, ltb-false}
use Rattle.big.specs.Big.{complement_of}
use Rattle.sheet.specs.declared.Biased.{Biased}
use Rattle.sheet.specs.declared.Term.{Term as Code-Term}
use Rattle.sheet.specs.declared.Term.TheVariants.{Unknown, Number, Shift, Apply, Apply2}
use Rattle.sheet.specs.declared.TermNumber.{TermNumber}
use Rattle.sheet.specs.Says.{term_says}
use Rattle.legs.specs.Legs.{range, gap_for, word_of, way_of, gap_of, from_of, to_of, term_leg}

module _ (way gap from to : ℕ) (gap< : gap < range) (from< : from < 256) (to< : to < 256) where
  pub way-word : way_of (word_of way gap from to) ≡ way
  way-word = omega arith

  pub gap_word : gap_of (word_of way gap from to) ≡ gap
  gap_word = omega arith

  pub from-word : from_of (word_of way gap from to) ≡ from
  from-word = omega arith

  pub to_word : to_of (word_of way gap from to) ≡ to
  to_word = omega arith

-- c is held with a bias
pub biased-gap : (c : ℕ) → c < 65536 → (c + range - 32768) % range ≡ gap_for (sub_ℕ c 32768)
unfolding complement_of
biased-gap c h = go (ltb c 32768) refl
  where
    go : (t : Bool) → ltb c 32768 ≡ t → (c + range - 32768) % range ≡ gap_for (cond t (negsuc (32768 - suc c)) (pos (c - 32768)))
    go true e = omega (arith, ltb-true c 32768 e)
    go false e = omega (arith, ltb-false c 32768 e)

-- the kinds of term that have no leg
pub none : (t : Code-Term) (level own : ℕ) → ((c : Biased) → t ≡ Number c → ⊥) → ((a : TermNumber) (c : Biased) → t ≡ Shift a c → ⊥) →
    0 ≡ term_leg level own (term_says t)
none Unknown level own k l = refl
none (Number c) level own k l = absurd (k c refl)
none (Shift a c) level own k l = absurd (l a c refl)
none (Apply s a) level own k l = refl
none (Apply2 s a b) level own k l = refl
