-- The parts of the check together are what it tests.
-- Assumes nothing.
use Prim.Native.Nat.{ℕ, ◌+◌, ◌^◌, ◌≤◌, ◌<◌}
use mathlib.Core.Path.{◌≡◌, sym, ap}
use mathlib.Core.List.{List}
use mathlib.Core.Logic.{⊎_elim}
use lib.IntN.{ℤ, pos, negsuc, sub_ℕ}
use lib.ListN.{get_or}
use native.Mathlib.Omega.{arith}
use Rattle.whole.specs.Whole.{plus, minus}
use Rattle.whole.proofs.Parts.{sub_parts}
use Rattle.whole.proofs.Order.{order}
use Rattle.order.specs.First.{Set}
use Rattle.sheet.specs.Sheet.{Sheet, Term, count_terms, count_entries, term_at}
use Rattle.meaning.specs.Meaning.{SameInput, one, two}
use Rattle.keys.specs.Ready.{Near}
use Rattle.meets.specs.Met.{value, Met}
use Rattle.meets.specs.Parts.{TermsMet, EntriesMet}

-- a level x within B of the zero level z
above-limit : (x z B : ℕ) → x ≤ z + B → plus (sub_ℕ x z) ≤ B
above-limit x z B l = go (sub_ℕ x z) (sub_parts x z)
  where
    go : (w : ℤ) → plus w + z ≡ x + minus w → plus w ≤ B
    go (pos n) e = omega arith
    go (negsuc n) e = omega arith

below-limit : (x z B : ℕ) → z ≤ x + B → minus (sub_ℕ x z) ≤ B
below-limit x z B l = go (sub_ℕ x z) (sub_parts x z)
  where
    go : (w : ℤ) → plus w + z ≡ x + minus w → minus w ≤ B
    go (pos n) e = omega arith
    go (negsuc n) e = omega arith

other_way : {n : ℕ → ℤ} {t u : Term} → SameInput (λ a b. n a ≡ n b) t u → SameInput (λ a b. n a ≡ n b) u t
other_way (one p) = one (sym p)
other_way (two p q) = two (sym p) (sym q)

-- of two terms with the same input, one is before the other or they are one term
functional : {s : Sheet} {D : ℕ} {v : List ℕ} → TermsMet s D v (count_terms s) → (i j : ℕ) → i < count_terms s → j < count_terms s
    → SameInput (λ a b. value s v a ≡ value s v b) (term_at s i) (term_at s j) → value s v i ≡ value s v j
functional {s} {D} {v} T i j i< j< h =
    ⊎_elim
    (λ i≤. ⊎_elim (λ j≤. let e : i ≡ j = omega arith in ap (value s v) e) (λ k. (T.functions j j<).function i k h) (order j i))
    (λ k. sym ((T.functions i i<).function j k (other_way h))) (order i j)

-- t is the number of terms, as the code has it
module _ {s : Sheet} {S : Set} {D : ℕ} {v : List ℕ} {t : ℕ} (e : t ≡ count_terms s) where
  pub near_of : Met s S D v → Near v t
  near_of m =
      rw e
      (record {
        above = λ i l. omega (arith, sub_parts (get_or v i 0) (get_or v (count_terms s) 0), m.above i l);
        below = λ i l. omega (arith, sub_parts (get_or v i 0) (get_or v (count_terms s) 0), m.below i l);
      })

  pub terms-of : Met s S D v → TermsMet s D v t
  terms-of m =
      record {
        defined = λ i l. m.meet.defined i (omega arith);
        functions = λ i l. record { function = λ j k. m.meet.functions j i (omega arith) (omega arith) };
      }

  pub met : 1 ≤ D → Near v t → TermsMet s D v t → EntriesMet s S D v (count_entries s) → Met s S D v
  met D≥ near terms E =
      let N = rw e at near in
      let T = rw e at terms in
      record {
        meet = record { positive = D≥; defined = T.defined; functions = functional T; entries = E.entries };
        above = λ i l. above-limit (get_or v i 0) (get_or v (count_terms s) 0) (2 ^ 40) (N.above i l);
        below = λ i l. below-limit (get_or v i 0) (get_or v (count_terms s) 0) (2 ^ 40) (N.below i l);
      }

pub entries-of : {s : Sheet} {S : Set} {D : ℕ} {v : List ℕ} → Met s S D v → EntriesMet s S D v (count_entries s)
entries-of m = record { entries = m.meet.entries }
