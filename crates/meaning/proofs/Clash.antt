-- What follows where values meet a sheet: what an entry says of them, as omega reads it, and that no entry tells two applications
-- of the same input apart.
-- Assumes nothing.
use Prim.Native.Nat.{ℕ, ◌+◌, ◌*◌}
use mathlib.Core.Path.{◌≡◌, sym, ◌∙◌}
use mathlib.Core.Bool.{true, ◌&&◌, and-eq-true_iff}
use lib.Dec.{ltb}
use lib.IntN.{ℤ, pos, ◌+ℤ◌, ◌*ℤ◌}
use borrow.Author.Tests.{ltb-true}
use Rattle.whole.specs.Whole.{plus, minus}
use Rattle.whole.proofs.Parts.{moved, plus-zero}
use Rattle.order.specs.First.{Set}
use Rattle.sheet.specs.Sheet.{Entry, Sheet, count_terms, count_entries, term_at, entry_at}
use Rattle.meaning.specs.Meaning.{SameInput, EntryTrue, Meet}

-- omega takes the parts of n(b) + cD for unknowns, so an entry comes with what they add up to
pub record Says (D : ℕ) (n : ℕ → ℤ) (e : Entry) : Type 0 where
  pub holds : EntryTrue D n e
  pub parts : plus (n e.b +ℤ e.c *ℤ pos D) + minus (n e.b) + minus e.c * D ≡ plus (n e.b) + plus e.c * D + minus (n e.b +ℤ e.c *ℤ pos D)

module _ {s : Sheet} {S : Set} {D : ℕ} {n : ℕ → ℤ} (m : Meet s S D n) where
  pub says : (e : ℕ) → ltb e (count_entries s) && S e ≡ true → Says D n (entry_at s e)
  says e h =
      let (l, k) = (and-eq-true_iff (ltb e (count_entries s)) (S e)).0 h in
      record { holds = m.entries e (ltb-true e _ l) k; parts = moved (n (entry_at s e).b) (entry_at s e).c D }

  pub not-apart : (i j : ℕ) → ltb i (count_terms s) && ltb j (count_terms s) ≡ true → SameInput (λ a b. n a ≡ n b) (term_at s i) (term_at s j)
      → (n i ≡ n j +ℤ pos 0 *ℤ pos D → ⊥) → ⊥
  not-apart i j h same apart =
      let (l, k) = (and-eq-true_iff (ltb i (count_terms s)) (ltb j (count_terms s))).0 h in
      apart (m.functions i j (ltb-true i _ l) (ltb-true j _ k) same ∙ sym (plus-zero (n j) D))
