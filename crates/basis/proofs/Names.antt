-- Names of a sort among the first of a row: of one more; and the bounds of the walk that the row says.
-- Assumes nothing.
use Prim.Native.Nat.{ℕ, zero, suc, ◌+◌, ◌*◌, ◌/◌, ◌%◌, ◌<◌}
use mathlib.Core.Path.{◌≡◌, refl, sym, ap, ◌∙◌, subst}
use mathlib.Core.Logic.{◌⊎◌, inl, inr, ⊎_elim}
use mathlib.Core.List.Memᴰ.{head as here}
use mathlib.Core.List.Memᴰ.{tail as later}
use mathlib.Core.List.{List, [], ◌∷◌, Memᴰ as In}
use lib.ListN.{length, get_or}
use native.Mathlib.Omega.{arith}
use Rattle.whole.proofs.Order.{order}
use Rattle.sheet.proofs.Decode.{length-each, get_or-each}
use Rattle.reasons.specs.Step.{Bound, entry, entry_back, term, term_back, tie, tie_back}
use Rattle.stated.specs.Said.{bound_kinds, bound_of, walk_of, WalkFormed}
use Rattle.basis.specs.Basis.{OfEntry, OfTie, Among}

module _ {Sort : ℕ → Type 0} {bounds : List ℕ} {k : ℕ} where
  pub among-more : {count : ℕ} → Among Sort count bounds k → Among Sort (count + 1) bounds k
  among-more A = record { at = A.at; within = omega (arith, A.within); sort = A.sort; number = A.number }

  pub among-last : {count : ℕ} → Among Sort (count + 1) bounds k →
      Among Sort count bounds k ⊎ (Sort (get_or bounds count 0) × (get_or bounds count 0 % 256 ≡ k))
  among-last {count} A =
      ⊎_elim (λ l. inr (last (omega (arith, A.within))))
      (λ l. inl (record { at = A.at; within = l; sort = A.sort; number = A.number })) (order count A.at)
    where
      last : A.at ≡ count → Sort (get_or bounds count 0) × (get_or bounds count 0 % 256 ≡ k)
      last e = subst (λ (x : ℕ). Sort (get_or bounds x 0) × (get_or bounds x 0 % 256 ≡ k)) e (A.sort, A.number)

-- a bound's kind and number
abbrev pub kind_of : Bound → ℕ
kind_of (entry e) = 0
kind_of (entry_back e) = 1
kind_of (term i) = 2
kind_of (term_back i) = 3
kind_of (tie t) = 4
kind_of (tie_back t) = 5

abbrev pub number_of : Bound → ℕ
number_of (entry e) = e
number_of (entry_back e) = e
number_of (term i) = i
number_of (term_back i) = i
number_of (tie t) = t
number_of (tie_back t) = t

kind-is : (w : ℕ) → w < 6 * 256 → (kind_of (bound_of w) ≡ w / 256) × (number_of (bound_of w) ≡ w % 256)
unfolding bound_of
kind-is w l = go (w / 256) refl
  where
    go : (q : ℕ) → w / 256 ≡ q →
        (kind_of (get_or (bound_kinds (w % 256)) q (entry 0)) ≡ q) × (number_of (get_or (bound_kinds (w % 256)) q (entry 0)) ≡ w % 256)
    go zero e = (refl, refl)
    go (suc zero) e = (refl, refl)
    go (suc (suc zero)) e = (refl, refl)
    go (suc (suc (suc zero))) e = (refl, refl)
    go (suc (suc (suc (suc zero)))) e = (refl, refl)
    go (suc (suc (suc (suc (suc zero))))) e = (refl, refl)
    go (suc (suc (suc (suc (suc (suc q)))))) e = absurd (omega arith)

-- what is in a list stands at a number in it
in-at : {A : Type 0} (l : List A) (d : A) (x : ℕ) → x < length l → In (get_or l x d) l
in-at [] d x h = absurd (omega arith)
in-at (a ∷ l) d zero h = here refl
in-at (a ∷ l) d (suc x) h = later (in-at l d x (omega arith))

at_in : {A : Type 0} (d : A) {a : A} {l : List A} → In a l → (x : ℕ) × (x < length l) × (get_or l x d ≡ a)
at_in d (here e) = (0, omega arith, sym e)
at_in d (later m) = let (x, h, e) = at_in d m in (suc x, omega arith, e)

module _ {count : ℕ} {bounds : List ℕ} where
  -- a bound of a walk is named in its row
  pub named : {Sort : ℕ → Type 0} {b : Bound} → ((w : ℕ) → w / 256 ≡ kind_of b → Sort w) → WalkFormed count bounds → In b (walk_of count bounds) →
      Among Sort count bounds (number_of b)
  named sorts F m =
      let (x, h, e) = at_in (entry 0) m in
      let l : x < count = omega (arith, length-each count (λ x. bound_of (get_or bounds x 0))) in
      let f = sym (get_or-each count (λ x. bound_of (get_or bounds x 0)) (entry 0) x l) ∙ e in
      let (k, n) = kind-is (get_or bounds x 0) (F x l) in
      record { at = x; within = l; sort = sorts (get_or bounds x 0) (sym k ∙ ap kind_of f); number = sym n ∙ ap number_of f }

  -- and what is named there is a bound of it
  bound-there : {Sort : ℕ → Type 0} {k : ℕ} (q : ℕ) (A : Among Sort count bounds k) → get_or bounds A.at 0 / 256 ≡ q →
      In (get_or (bound_kinds k) q (entry 0)) (walk_of count bounds)
  unfolding bound_of
  bound-there {k = k} q A e =
      rw (sym said) (in-at (walk_of count bounds) (entry 0) A.at (rw (length-each count (λ x. bound_of (get_or bounds x 0))) A.within))
    where
      said : get_or (walk_of count bounds) A.at (entry 0) ≡ get_or (bound_kinds k) q (entry 0)
      said =
          get_or-each count (λ x. bound_of (get_or bounds x 0)) (entry 0) A.at A.within
          ∙ ap (λ (x : ℕ). get_or (bound_kinds (get_or bounds A.at 0 % 256)) x (entry 0)) e
          ∙ ap (λ (x : ℕ). get_or (bound_kinds x) q (entry 0)) A.number

  pub entry-there : {e : ℕ} → Among OfEntry count bounds e → In (entry e) (walk_of count bounds) ⊎ In (entry_back e) (walk_of count bounds)
  entry-there A =
      ⊎_elim (λ l. inl (bound-there 0 A (omega arith))) (λ l. inr (bound-there 1 A (omega (arith, A.sort)))) (order (get_or bounds A.at 0) 255)

  pub tie_there : {t : ℕ} → WalkFormed count bounds → Among OfTie count bounds t →
      In (tie t) (walk_of count bounds) ⊎ In (tie_back t) (walk_of count bounds)
  tie_there F A =
      let l = F A.at A.within in
      ⊎_elim (λ h. inl (bound-there 4 A (omega (arith, A.sort)))) (λ h. inr (bound-there 5 A (omega arith))) (order (get_or bounds A.at 0) 1279)
