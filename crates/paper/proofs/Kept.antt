-- The steps of the kept ties, one tie at a time.
-- Assumes nothing.
use Prim.Native.Nat.{ℕ, zero, suc, ◌+◌}
use mathlib.Core.Path.{◌≡◌, refl, sym, ap}
use mathlib.Core.Bool.{Bool, true, false, cond}
use mathlib.Core.List.{List, [], ◌∷◌, ◌++◌, append-nil, append_assoc}
use lib.ListN.{length}
use native.Mathlib.Numerals.{add-one}
use native.Mathlib.Nat.{add-zero}
use native.Mathlib.Omega.{arith}
use Rattle.order.specs.First.{Set}
use Rattle.sheet.specs.Decode.{each}
use Rattle.sheet.proofs.Decode.{length-each}
use Rattle.reasons.specs.Step.{Step}
use Rattle.reasons.specs.Pruned.{renamed, pruned_from, pruned}
use Rattle.paper.specs.Record.{step_bytes, steps_bytes}
use Rattle.paper.specs.Written.{Appended}
use Rattle.paper.proofs.Pieces.{nothing, then}

each_more : {A : Type 0} (n : ℕ) (f : ℕ → A) → each (suc n) f ≡ each n f ++ (f n ∷ [])
unfolding each
each_more zero f = refl
each_more (suc n) f = ap (λ l. f 0 ∷ l) (each_more n (λ i. f (suc i)))

steps-more : (ks : List Step) (k : Step) → steps_bytes (ks ++ (k ∷ [])) ≡ steps_bytes ks ++ step_bytes k
unfolding steps_bytes
steps-more [] k = append-nil (step_bytes k)
steps-more (j ∷ ks) k = rw (steps-more ks k) (sym (append_assoc (step_bytes j) (steps_bytes ks) (step_bytes k)))

cond-cons : {A : Type 0} (t : Bool) (x : A) (l : List A) → cond t (x ∷ l) l ≡ cond t (x ∷ []) [] ++ l
cond-cons true x l = refl
cond-cons false x l = refl

module _ (keep : Set) where
  pub pruned-nil : (n : ℕ) → pruned_from keep n [] ≡ []
  unfolding pruned_from
  pruned-nil n = refl

  pub pruned-cons : (n : ℕ) (k : Step) (ks : List Step) → pruned_from keep n (k ∷ ks) ≡ cond (keep n) (renamed keep k ∷ []) [] ++ pruned_from keep (suc n) ks
  unfolding pruned_from
  pruned-cons n k ks = cond-cons (keep n) (renamed keep k) (pruned_from keep (suc n) ks)

  pub pruned-append : (n : ℕ) (ks js : List Step) → pruned_from keep n (ks ++ js) ≡ pruned_from keep n ks ++ pruned_from keep (n + length ks) js
  pruned-append n [] js = rw (pruned-nil n, add-zero n)
  pruned-append n (k ∷ ks) js =
      let e : n + suc (length ks) ≡ suc n + length ks = omega arith in
      rw (e, pruned-cons n k (ks ++ js), pruned-cons n k ks, pruned-append (suc n) ks js) (sym (append_assoc (cond (keep n) (renamed keep k ∷ []) []) _ _))

  module _ (f : ℕ → Step) (t : ℕ) where
    pruned-next : pruned keep (each (t + 1) f) ≡ pruned keep (each t f) ++ cond (keep t) (renamed keep (f t) ∷ []) []
    pruned-next =
        let e : 0 + length (each t f) ≡ t = omega (arith, length-each t f) in
        rw (add-one, each_more t f, pruned-append 0 (each t f) (f t ∷ []), e, pruned-cons t (f t) [], pruned-nil, append-nil)

    pub tie-kept : {old mid new : List ℕ} {from at end : ℕ} → keep t ≡ true → Appended old mid from at (steps_bytes (pruned keep (each t f))) →
        Appended mid new at end (step_bytes (renamed keep (f t))) → Appended old new from end (steps_bytes (pruned keep (each (t + 1) f)))
    tie-kept e A B = rw (pruned-next, e, steps-more) (then A B)

    pub tie-left : {old new : List ℕ} {from at : ℕ} → keep t ≡ false → Appended old new from at (steps_bytes (pruned keep (each t f))) →
        Appended old new from at (steps_bytes (pruned keep (each (t + 1) f)))
    tie-left e A = rw (pruned-next, e, append-nil) A

  pub tie_none : (f : ℕ → Step) (b : List ℕ) (from : ℕ) → Appended b b from from (steps_bytes (pruned keep (each 0 f)))
  unfolding each pruned_from steps_bytes
  tie_none f b from = nothing b from from refl
