-- Listed bounds and their names: one of the ledger is what its name says, and one behind the ledger is a tie of functions, there or back.
-- Assumes nothing.
use Prim.Native.Nat.{ℕ, suc, ◌+◌, ◌-◌, ◌*◌, ◌/◌, ◌%◌, ◌≤◌, ◌<◌}
use mathlib.Core.Path.{◌≡◌, refl, sym, ap, ◌∙◌}
use mathlib.Core.List.{List, []}
use lib.ListN.{get_or}
use native.Mathlib.Omega.{arith}
use native.Mathlib.Decide.{ℕ_discrete, dec_lt}
use Rattle.kind.specs.Kind.{Kind, kind_of}
use Rattle.cells.specs.Cells.{cell}
use Rattle.order.specs.First.{Set}
use Rattle.sheet.specs.Sheet.{Sheet, count_terms, WellFormed}
use Rattle.layers.specs.Bounds.{from_at, to_at, code_at}
use Rattle.layers.specs.declared.Bound.{Bound as ListedBound}
use Rattle.reasons.specs.Step.{Bound, tie, tie_back, Step}
use Rattle.reasons.specs.Rules.{Over}
use Rattle.reasons.specs.Rules.Over.{an-entry, entry-back, a-number, number-back, a-shift, shift_back, a-tie, tie-back}
use Rattle.sketch.specs.Sketch.{bound_named, how_of, Fits}
use Rattle.grown.specs.Grown.{FunctionTie}
use Rattle.forest.proofs.Few.{few, few-more}
use Rattle.laid.specs.Laid.{IsTie}
use Rattle.drafted.specs.Drafted.{Drafted}
use Rattle.drafted.specs.Ending.{NamesBelow}

-- bound b is of the first m, or is there or back of the k-th tie behind them
pub data Standing (m b : ℕ) : Type 0 where
  in-ledger : b < m → Standing m b
  there : (k : ℕ) → b ≡ m + 2 * k → Standing m b
  back : (k : ℕ) → b ≡ m + 2 * k + 1 → Standing m b

pub standing : (m b : ℕ) → Standing m b
standing m b = go (dec_lt b m) (ℕ_discrete ((b - m) % 2) 0)
  where
    go : Dec (b < m) → Dec ((b - m) % 2 ≡ 0) → Standing m b
    go (yes l) e = in-ledger l
    go (no l) (yes e) = there ((b - m) / 2) (omega arith)
    go (no l) (no e) = back ((b - m) / 2) (omega arith)

-- the names of ties
named-tie : (t : ℕ) → t < 256 → bound_named (1024 + t) ≡ tie t
unfolding bound_named
named-tie t l =
    let p : (1024 + t) % 256 ≡ t = omega arith in
    let q : (1024 + t) / 256 ≡ 4 = omega arith in
    rw (p, q)

named_back : (t : ℕ) → t < 256 → bound_named (1280 + t) ≡ tie_back t
unfolding bound_named
named_back t l =
    let p : (1280 + t) % 256 ≡ t = omega arith in
    let q : (1280 + t) / 256 ≡ 5 = omega arith in
    rw (p, q)

-- the bound is tie t, either way
pub data OfTie : Bound → ℕ → Type 0 where
  forwards : {t : ℕ} → OfTie (tie t) t
  backwards : {t : ℕ} → OfTie (tie_back t) t

tie-is : {t u : ℕ} → OfTie (tie t) u → t ≡ u
tie-is forwards = refl

back_is : {t u : ℕ} → OfTie (tie_back t) u → t ≡ u
back_is backwards = refl

-- what step 0 may go over, any step may, and it is no tie
module _ {s : Sheet} {S : Set} where
  over_any : {steps : List Step} {n i j : ℕ} {b : Bound} {g : Kind} → Over s S [] 0 b i j g → Over s S steps n b i j g
  over_any (an-entry u g) = an-entry u g
  over_any (entry-back u r) = entry-back u r
  over_any (a-number l e) = a-number l e
  over_any (number-back l e) = number-back l e
  over_any (a-shift l e) = a-shift l e
  over_any (shift_back l e) = shift_back l e
  over_any (a-tie l h) = absurd (omega arith)
  over_any (tie-back l h) = absurd (omega arith)

  over-no-tie : {i j t : ℕ} {b : Bound} {g : Kind} → Over s S [] 0 b i j g → OfTie b t → ⊥
  over-no-tie o of = go of o
    where
      go : {i j t : ℕ} {b : Bound} {g : Kind} → OfTie b t → Over s S [] 0 b i j g → ⊥
      go forwards (a-tie l h) = omega arith
      go backwards (tie-back l h) = omega arith

  over-as : {steps : List Step} {n i i' j j' : ℕ} {b b' : Bound} {g g' : Kind} → b ≡ b' → i ≡ i' → j ≡ j' → g ≡ g' →
      Over s S steps n b' i' j' g' → Over s S steps n b i j g
  over-as p q r e h = rw (p, q, r, e) h

module _ {s : Sheet} {S : Set} {list : List ListedBound} {names ties labels : List ℕ} {m listed count : ℕ} (W : WellFormed s)
    (D : Drafted s S list names ties labels m listed count) where
  pub few-ties : count ≤ count_terms s
  few-ties = omega (arith, few (omega arith) D.laid.labelled)

  pub few-more-ties : {a b : ℕ} → a < count_terms s → b < count_terms s → (cell labels count a ≡ cell labels count b → ⊥) → count + 1 ≤ count_terms s
  few-more-ties l k h = omega (arith, few-more D.laid.labelled (omega arith) (omega arith) h)

  pub ledger-name : (b : ℕ) → b < m → get_or names b 0 < 1024
  ledger-name b l = (D.ledger.named b l).no_tie

  -- the k-th tie of functions
  abbrev number : ℕ → ℕ
  number = D.laid.number

  module _ (k : ℕ) (l : m + 2 * k < listed) where
    function : FunctionTie s list (m + 2 * k)
    function = D.functions.tie k (omega (arith, D.functions.listed-is))

    is-tie : IsTie list names ties (m + 2 * k) (number k)
    is-tie = D.laid.is-tie k l

    pub number-few : number k < count
    number-few = D.laid.number< k l

    number-byte : number k < 256
    number-byte = omega (arith, number-few, few-ties, W.terms)

    there-is : bound_named (get_or names (m + 2 * k) 0) ≡ tie (number k)
    there-is = ap bound_named is-tie.there ∙ named-tie (number k) number-byte

    back-tie : bound_named (get_or names (m + 2 * k + 1) 0) ≡ tie_back (number k)
    back-tie = ap bound_named is-tie.back ∙ named_back (number k) number-byte

  -- the ties of functions among the first e bounds have numbers below n
  abbrev pub Earlier : (e n : ℕ) → Type 0
  Earlier e n = (k : ℕ) → m + 2 * k < e → number k < n

  pub all-earlier : (e : ℕ) → e ≤ listed → Earlier e count
  all-earlier e l k h = number-few k (omega arith)

  -- a tie by walks rests on earlier bounds
  pub behind : (t : ℕ) {e : ℕ} → t < count → how_of (get_or ties t 0) ≡ suc e → (e < listed) × Earlier e t
  behind t {e} l how =
      let B = D.laid.by-walks t e l how in
      (B.0, λ k h. B.1.earlier k (omega (arith, B.1.bounds-are)))

  -- a bound has the name of a tie where it is one
  pub name-earlier : {e n : ℕ} (b : ℕ) → b < e → e ≤ listed → Earlier e n → NamesBelow n (get_or names b 0)
  name-earlier {e} {n} b l h earlier = go (standing m b)
    where
      go : Standing m b → NamesBelow n (get_or names b 0)
      go (in-ledger h) = let p = ledger-name b h in record { known = omega arith; earlier = λ q. absurd (omega arith) }
      go (there k q) =
          let k< : m + 2 * k < listed = omega arith in
          let p = (is-tie k k<).there in
          let x = earlier k (omega arith) in
          let r = number-byte k k< in
          rw q (record { known = omega arith; earlier = λ h. omega arith })
      go (back k q) =
          let k< : m + 2 * k < listed = omega arith in
          let p = (is-tie k k<).back in
          let x = earlier k (omega arith) in
          let r = number-byte k k< in
          rw q (record { known = omega arith; earlier = λ h. omega arith })

  pub name_below : (b : ℕ) → b < listed → NamesBelow count (get_or names b 0)
  name_below b l = name-earlier b l (omega arith) (all-earlier listed (omega arith))

  pub tie-named : (b t : ℕ) → b < listed → OfTie (bound_named (get_or names b 0)) t → (1024 ≤ get_or names b 0) × (get_or names b 0 % 256 ≡ t)
  tie-named b t l h = go (standing m b)
    where
      go : Standing m b → (1024 ≤ get_or names b 0) × (get_or names b 0 % 256 ≡ t)
      go (in-ledger k) = absurd (over-no-tie (D.ledger.named b k).over h)
      go (there k e) =
          let k< : m + 2 * k < listed = omega arith in
          let p = tie-is (rw (e, there-is k k<) at h) in
          let q = number-byte k k< in
          rw (e, (is-tie k k<).there) (omega arith, omega arith)
      go (back k e) =
          let k< : m + 2 * k < listed = omega arith in
          let p = back_is (rw (e, back-tie k k<) at h) in
          let q = number-byte k k< in
          rw (e, (is-tie k k<).back) (omega arith, omega arith)

  pub named-of-tie : (b : ℕ) → b < listed → 1024 ≤ get_or names b 0 → OfTie (bound_named (get_or names b 0)) (get_or names b 0 % 256)
  named-of-tie b l h = go (standing m b)
    where
      go : Standing m b → OfTie (bound_named (get_or names b 0)) (get_or names b 0 % 256)
      go (in-ledger k) = absurd (omega (arith, ledger-name b k))
      go (there k e) =
          let k< : m + 2 * k < listed = omega arith in
          let q = number-byte k k< in
          let r : (1024 + number k) % 256 ≡ number k = omega arith in
          rw (e, there-is k k<, (is-tie k k<).there, r) forwards
      go (back k e) =
          let k< : m + 2 * k < listed = omega arith in
          let q = number-byte k k< in
          let r : (1280 + number k) % 256 ≡ number k = omega arith in
          rw (e, back-tie k k<, (is-tie k k<).back, r) backwards

  -- what step n may go over
  pub over-bound : {steps : List Step} {e n : ℕ} (b : ℕ) → b < e → e ≤ listed → Fits ties count steps → Earlier e n →
      Over s S steps n (bound_named (get_or names b 0)) (from_at list b) (to_at list b) (kind_of (code_at list b))
  over-bound {steps} {e} {n} b l h F earlier = go (standing m b)
    where
      go : Standing m b → Over s S steps n (bound_named (get_or names b 0)) (from_at list b) (to_at list b) (kind_of (code_at list b))
      go (in-ledger k) = over_any (D.ledger.named b k).over
      go (there k q) =
          let k< : m + 2 * k < listed = omega arith in
          let I = is-tie k k< in
          rw q (over-as (there-is k k<) (sym I.left_is) (sym I.right_is) (function k k<).gap
          (a-tie (earlier k (omega arith)) (F.at (number k) (number-few k k<))))
      go (back k q) =
          let k< : m + 2 * k < listed = omega arith in
          let I = is-tie k k< in
          let T = function k k< in
          rw q (over-as (back-tie k k<) (T.back_from ∙ sym I.right_is) (T.back_to ∙ sym I.left_is) T.back-gap
          (tie-back (earlier k (omega arith)) (F.at (number k) (number-few k k<))))
