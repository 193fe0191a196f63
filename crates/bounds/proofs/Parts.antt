-- The parts of a sheet as steps: a whole part is one step after the other.
-- Assumes nothing.
use Prim.Native.Nat.{ℕ, ◌+◌, ◌<◌}
use mathlib.Core.Path.{◌≡◌}
use mathlib.Core.Bool.{Bool, true}
use mathlib.Core.List.{List}
use native.Mathlib.Omega.{arith}
use borrow.Author.Count.{below_more}
use Rattle.cells.specs.Cells.{Kept}
use Rattle.order.specs.First.{Set}
use Rattle.sheet.specs.Sheet.{Sheet, Term, WellFormed, count_terms, count_entries, term_at, entry_at}
use Rattle.settled.specs.Settled.{zero_level, points, TermHeld, EntryHeld}
use Rattle.steps.specs.Step.{Went, Stepped}
use Rattle.steps.specs.True.{TermTrue, TermsTrue, MarkedTrue, EntriesTrue, TermsHeld, MarkedHeld, EntriesHeld}
use Rattle.steps.proofs.Steps.{followed, term-tighter, entry-tighter}

-- one more term, and one more entry
pub terms-more : (s : Sheet) (i : ℕ) {z : ℕ} {x : Term} {old mid new : List ℕ} {r : Bool} → WellFormed s → i < count_terms s
    → z ≡ count_terms s → x ≡ term_at s i → Kept (points s) old mid → Went (points s) (TermsTrue s) (TermsHeld s i) old mid
    → Stepped (z + 1) (TermTrue z i x) (λ d. TermHeld d z i x) mid new r → Stepped (points s) (TermsTrue s) (TermsHeld s (i + 1)) old new r
terms-more s i wf i< same is K W S =
    followed (λ D v q. q) (λ D v q. record { zero = q.zero; defined = q.defined i i< })
    (λ d e t p q.
    record {
      terms = below_more (λ k. TermHeld e (zero_level s) k (term_at s k)) i
          (λ k l. term-tighter t (omega arith) (omega arith) (wf.arguments k (omega arith)) (p.terms k l))
          q;
    })
    K W (rw (same, is) at S)

pub entries-more : (s : Sheet) (T : Set) (i : ℕ) {old mid new : List ℕ} {r : Bool} → WellFormed s → i < count_entries s
    → Kept (points s) old mid → Went (points s) (EntriesTrue s T) (EntriesHeld s T i) old mid
    → Stepped (points s) (MarkedTrue (T i) (entry_at s i)) (MarkedHeld (T i) (entry_at s i)) mid new r
    → Stepped (points s) (EntriesTrue s T) (EntriesHeld s T (i + 1)) old new r
entries-more s T i wf i< K W S =
    followed (λ D v q. q) (λ D v q. record { entry = q.entries i i< })
    (λ d e t p q.
    record {
      entries = below_more (λ k. T k ≡ true → EntryHeld e (entry_at s k)) i
          (λ k l m.
          let k< : k < count_entries s = omega arith in
          entry-tighter t (entry_at s k) (omega (arith, wf.left k k<)) (omega (arith, wf.right k k<)) (p.entries k l m))
          q.entry;
    })
    K W S
