-- A walk read off from the last row down: with k numbers written, they are a walk from a to the point i, and row h has the rest.
-- Assumes nothing.
use Prim.Native.Nat.{ℕ, ◌+◌, ◌*◌, ◌≤◌, ◌<◌}
use mathlib.Core.Path.{◌≡◌, refl, sym, ◌∙◌, ap}
use mathlib.Core.List.{List, [], ◌∷◌, ◌++◌}
use mathlib.Core.Logic.{⊎_elim}
use lib.ListN.{length, get_or, set, take}
use lib.Seq.{take-suc-set, get_or-set_other}
use native.Mathlib.Decide.{ℕ_discrete}
use native.Mathlib.Numerals.{add-one}
use native.Mathlib.Omega.{arith}
use Rattle.kind.specs.Code.{none, base, sum_of, Addable}
use Rattle.kind.specs.Kind.{Kind, zero_gap, added, kind_of}
use Rattle.kind.proofs.Codes.{sum-there}
use Rattle.kind.proofs.Kind.{kind-sum, kind-three}
use Rattle.closure.proofs.Order.{added-comm, added-unit, added-assoc}
use Rattle.cells.specs.Cells.{stride, cell}
use Rattle.layers.specs.Bounds.{Bounds, from, to, code, Sound, Goes}
use Rattle.layers.specs.Bounds.Goes.{stop, step}
use Rattle.layers.specs.Layer.{Over, Chosen, Layered, Begun, Read}

unit-right : (k : Kind) → added k zero_gap ≡ k
unit-right k = added-comm k zero_gap ∙ added-unit k

-- a bound behind a walk
goes_on : {B : Bounds} {a i : ℕ} {t : Kind} {es : List ℕ} → Goes B a i t es → (e : ℕ) → e < B.count → from B e ≡ i
    → Goes B a (to B e) (added t (kind_of (code B e))) (es ++ (e ∷ []))
goes_on {B} stop e e< f = rw (sym f, added-unit, sym (unit-right (kind_of (code B e)))) (step e e< stop)
goes_on (step x x< w) e e< f = rw added-assoc (step x x< (goes_on w e e< f))

pub record Reading (B : Bounds) (n : ℕ) (best : List ℕ) (a last : ℕ) (old out : List ℕ) (k i h : ℕ) : Type 0 where
  pub total : Kind
  pub goes : Goes B a i total (take k out)
  pub adds : added total (kind_of (cell best h i)) ≡ kind_of (cell best last a)
  pub few : k + h ≤ last
  pub there : cell best h i < none
  pub inside : i < n
  pub kept : (s : ℕ) → k ≤ s → get_or out s 0 ≡ get_or old s 0

pub begin : (B : Bounds) (n : ℕ) (best : List ℕ) (a last : ℕ) (out : List ℕ) → a < n → cell best last a < none
    → Reading B n best a last out out 0 a last
begin B n best a last out a< t =
    record { total = zero_gap; goes = stop; adds = added-unit _; few = omega arith; there = t; inside = a<; kept = λ s l. refl }

module _ (B : Bounds) (n : ℕ) (S : Sound n B) (best : List ℕ) (a last : ℕ) (old out : List ℕ) (k i h g : ℕ) (above : h ≡ g + 1)
    (R : Reading B n best a last old out k i h) where
  up_is : cell best h i ≡ cell best (g + 1) i
  up_is = ap (λ (q : ℕ). cell best q i) above

  -- what is above a row, with the index as the code has it
  pub above-is : get_or best (g * stride + stride + i) 0 ≡ cell best h i
  above-is = ap (λ (q : ℕ). get_or best q 0) (omega arith)

  -- a row down
  pub stay : cell best h i ≡ cell best g i → Reading B n best a last old out k i g
  stay e =
      record {
        total = R.total;
        goes = R.goes;
        adds = rw e at R.adds;
        few = omega (arith, R.few);
        there = omega (arith, R.there);
        inside = R.inside;
        kept = R.kept;
      }

  pub chosen : Layered B B.count n (cell best g) (cell best (g + 1)) → (t : ℕ) → t ≡ cell best h i → t < cell best g i → Over B B.count (cell best g) i t
  chosen L t e l = ⊎_elim (λ f. absurd (omega (arith, up_is))) (λ o. rw (e ∙ up_is) o) (L.one i R.inside)

  pub kept-or : Layered B B.count n (cell best g) (cell best (g + 1)) → (t : ℕ) → t ≡ cell best h i → cell best g i ≤ t → cell best h i ≡ cell best g i
  kept-or L t e l = omega (arith, up_is, L.at-most i R.inside)

  -- a bound on, and a row down
  pub on : (e t : ℕ) → t ≡ cell best h i → Addable (code B e) (cell best g (to B e)) → Chosen B (cell best g) i t e → k < length out
      → Reading B n best a last old (set out k e) (k + 1) (to B e) g
  on e t t-is A C l =
      let sum : sum_of (code B e) (cell best g (to B e)) ≡ cell best h i = C.sums ∙ t-is in
      record {
        total = added R.total (kind_of (code B e));
        goes = rw (add-one k, take-suc-set out k e l) (goes_on R.goes e C.there C.starts);
        adds =
            added-assoc _ _ _ ∙ ap (added R.total) (sym (kind-sum _ _ A) ∙ ap kind_of sum) ∙ R.adds;
        few = omega (arith, R.few);
        there = (sum-there (code B e) (cell best g (to B e)) (omega (arith, R.there))).1;
        inside = S.to< e C.there;
        kept = λ s s<. get_or-set_other out k s e 0 (omega arith) ∙ R.kept s (omega arith);
      }

pub done : (B : Bounds) (n b : ℕ) (best : List ℕ) (a last : ℕ) (old out : List ℕ) (k i h : ℕ) → h ≡ 0 → Begun n b best
    → Reading B n best a last old out k i h → Read B a b best last old out k
done B n b best a last old out k i h z D R = go (ℕ_discrete i b)
  where
    zero_is : cell best h i ≡ cell best 0 i
    zero_is = ap (λ (q : ℕ). cell best q i) z

    go : Dec (i ≡ b) → Read B a b best last old out k
    go (yes e) =
        let base-is : cell best h i ≡ base = zero_is ∙ ap (cell best 0) e ∙ D.same in
        let total-is : R.total ≡ kind_of (cell best last a) =
        sym (unit-right R.total) ∙ ap (added R.total) (sym (ap kind_of base-is ∙ kind-three.1)) ∙ R.adds in
        record { few = omega (arith, R.few); goes = rw (sym total-is, sym e) R.goes; kept = R.kept }
    go (no e) = absurd (omega (arith, zero_is, D.apart i R.inside e, R.there))
