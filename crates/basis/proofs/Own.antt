-- The walks of a record's step are those of its two rows, whatever its kind. So the entries named there, and the ≠ entry, are the step's own;
-- and a walk rests on the ties named there.
-- Assumes nothing.
use Prim.Native.Nat.{ℕ, zero, suc, ◌/◌, ◌<◌}
use mathlib.Core.Path.{◌≡◌, refl}
use mathlib.Core.Bool.{Bool, true}
use mathlib.Core.Logic.{◌⊎◌, inl, inr, ⊎_elim, ◌≢◌, ◌↔◌}
use mathlib.Core.List.{List, [], ◌++◌, append-nil, Memᴰ as In}
use mathlib.Core.List.Memᴰ.{append_cases as in_either}
use mathlib.Core.List.Memᴰ.{append_left as in-first}
use mathlib.Core.List.Memᴰ.{append_right as in-second}
use lib.ListN.{length, get_or, set}
use native.Mathlib.Omega.{arith}
use Rattle.sheet.specs.Decode.{each}
use Rattle.sheet.specs.Sheet.{Sheet}
use Rattle.reasons.specs.Step.{Bound, entry, entry_back, tie, tie_back, Step, closing_entry, walks_of}
use Rattle.reasons.specs.Reason.{Rests, Uses}
use Rattle.reasons.specs.Reason.Rests.{over, over-back}
use Rattle.reasons.specs.Reason.Uses.{forwards, backwards, unequal}
use Rattle.stated.specs.Said.{step_kinds, step_of, walk_of, Formed}
use Rattle.stated.specs.declared.Step.{Step as Record}
use Rattle.basis.specs.Basis.{OfEntry, OfTie, Among, Added, OwnMarked}
use Rattle.basis.proofs.Names.{kind_of, number_of, named, entry-there, tie_there}
use Rattle.basis.proofs.Marking.{added-as, added-both, added-one}

-- the step of a record of a known kind
pub step_is : (r : Record) (q : ℕ) → r.kind ≡ q → step_of r ≡ get_or (step_kinds r) q (closing_entry 0)
unfolding step_of
step_is r q e = rw e

no_walk : {count : ℕ} (bounds : List ℕ) → count ≡ 0 → walk_of count bounds ≡ []
unfolding each
no_walk bounds e = rw e

abbrev pub NamedIn : (ℕ → Type 0) → Record → ℕ → Type 0
NamedIn Sort r k = Among Sort r.first r.there k ⊎ Among Sort r.second r.back k

module _ {r : Record} (F : Formed r) where
  walks-are : walks_of (step_of r) ≡ walk_of r.first r.there ++ walk_of r.second r.back
  walks-are = go r.kind refl
    where
      go : (q : ℕ) → r.kind ≡ q → walks_of (step_of r) ≡ walk_of r.first r.there ++ walk_of r.second r.back
      go zero e = rw (step_is r 0 e)
      go (suc zero) e = rw (step_is r 1 e, no_walk r.there (F.first (inl e)), no_walk r.back (F.second (omega arith)))
      go (suc (suc zero)) e = rw (step_is r 2 e, no_walk r.back (F.second (omega arith)), append-nil)
      go (suc (suc (suc zero))) e = rw (step_is r 3 e, no_walk r.there (F.first (inr e)), no_walk r.back (F.second (omega arith)))
      go (suc (suc (suc (suc q)))) e = absurd (omega (arith, F.kind))

  named_in : {Sort : ℕ → Type 0} {b : Bound} → ((w : ℕ) → w / 256 ≡ kind_of b → Sort w) → In b (walks_of (step_of r)) → NamedIn Sort r (number_of b)
  named_in s m =
      ⊎_elim (λ k. inl (named s F.there k)) (λ k. inr (named s F.back k)) (in_either (walk_of r.first r.there) (rw walks-are at m))

  in-walks : {b : Bound} → In b (walk_of r.first r.there) ⊎ In b (walk_of r.second r.back) → In b (walks_of (step_of r))
  in-walks o = rw walks-are (⊎_elim (λ m. in-first _ m) (λ m. in-second (walk_of r.first r.there) m) o)

  uses-named : {e : ℕ} → NamedIn OfEntry r e → Uses (step_of r) e
  uses-named (inl A) = ⊎_elim (λ m. forwards (in-walks (inl m))) (λ m. backwards (in-walks (inl m))) (entry-there A)
  uses-named (inr A) = ⊎_elim (λ m. forwards (in-walks (inr m))) (λ m. backwards (in-walks (inr m))) (entry-there A)

  pub rests-named : {s : Sheet} {steps : List Step} {n t : ℕ} → NamedIn OfTie r t → Rests s steps n (step_of r) t
  rests-named (inl A) = ⊎_elim (λ m. over (in-walks (inl m))) (λ m. over-back (in-walks (inl m))) (tie_there F.there A)
  rests-named (inr A) = ⊎_elim (λ m. over (in-walks (inr m))) (λ m. over-back (in-walks (inr m))) (tie_there F.back A)

  pub named-over : {t : ℕ} → In (tie t) (walks_of (step_of r)) → NamedIn OfTie r t
  named-over m = named_in (λ w e. omega arith) m

  pub named_back : {t : ℕ} → In (tie_back t) (walks_of (step_of r)) → NamedIn OfTie r t
  named_back m = named_in (λ w e. omega arith) m

  named-uses : {e : ℕ} → Uses (step_of r) e → NamedIn OfEntry r e ⊎ (step_of r ≡ closing_entry e)
  named-uses u = go u (λ m. named_in (λ w e. omega arith) m) (λ m. named_in (λ w e. omega arith) m)
    where
      go : {step : Step} {e : ℕ} {P : Type 0} → Uses step e → (In (entry e) (walks_of step) → P) → (In (entry_back e) (walks_of step) → P) →
          P ⊎ (step ≡ closing_entry e)
      go (forwards m) f g = inl (f m)
      go (backwards m) f g = inl (g m)
      go unequal f g = inr refl

  -- only a step of kind 3 has a ≠ entry
  entry-is : {e : ℕ} → step_of r ≡ closing_entry e → (r.kind ≡ 3) × (r.a ≡ e)
  entry-is {e} h = go r.kind refl
    where
      go : (q : ℕ) → r.kind ≡ q → (r.kind ≡ 3) × (r.a ≡ e)
      go zero k = let f = step_is r 0 k in let z : ◌≡◌ {A = ℕ} 0 1 = cc in absurd (omega arith)
      go (suc zero) k = let f = step_is r 1 k in let z : ◌≡◌ {A = ℕ} 0 1 = cc in absurd (omega arith)
      go (suc (suc zero)) k = let f = step_is r 2 k in let z : ◌≡◌ {A = ℕ} 0 1 = cc in absurd (omega arith)
      go (suc (suc (suc zero))) k = let f = step_is r 3 k in (k, cc)
      go (suc (suc (suc (suc q)))) k = absurd (omega (arith, F.kind))

  owned : {E : ℕ → Type 0} {old last : List Bool} → ((e : ℕ) → E e ↔ Uses (step_of r) e) → Added E old last → OwnMarked r old last
  owned i C = let D = added-as i C in record { size = D.size; own = D.own }

  module _ {old mid new : List Bool} (A : Added (Among OfEntry r.first r.there) old mid)
      (B : Added (Among OfEntry r.second r.back) mid new) where
    pub own-walks : r.kind ≢ 3 → OwnMarked r old new
    own-walks n = owned (λ e. (uses-named, λ u. ⊎_elim (λ x. x) (λ h. absurd (n (entry-is h).0)) (named-uses u))) (added-both A B)

    pub own-entry : r.kind ≡ 3 → r.a < length new → OwnMarked r old (set new r.a true)
    own-entry k l =
        owned (λ e. (⊎_elim uses-named (own e), λ u. ⊎_elim (λ x. inl x) (λ h. inr (entry-is h).1) (named-uses u)))
        (added-both (added-both A B) (added-one new l))
      where
        own : (e : ℕ) → r.a ≡ e → Uses (step_of r) e
        own e f = rw (step_is r 3 k, f) unequal
