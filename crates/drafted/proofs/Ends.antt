-- An ending behind the ties of a draft: what it has to be, so that the steps are good to prune.
-- Assumes nothing.
use Prim.Native.Nat.{ℕ, suc, ◌+◌, ◌≤◌, ◌<◌}
use mathlib.Core.Path.{◌≡◌, ap, ◌∙◌}
use mathlib.Core.Bool.{Bool, true}
use mathlib.Core.List.{List, [], ◌∷◌, ◌++◌}
use lib.ListN.{length, length-append, get_or-append}
use lib.Seq.{get_or_at, get_or-append-add}
use native.Mathlib.Omega.{arith}
use native.Mathlib.Decide.{dec_lt}
use Rattle.order.specs.First.{Set, marked}
use Rattle.sheet.specs.Sheet.{Sheet, WellFormed}
use Rattle.sheet.proofs.Decode.{length-each, get_or-each}
use Rattle.layers.specs.Bounds.{Bounds}
use Rattle.layers.specs.declared.Bound.{Bound}
use Rattle.reasons.specs.Step.{Step, closing_entry, step_at}
use Rattle.reasons.specs.Rules.{TieRight, Closing}
use Rattle.reasons.specs.Reason.{Rests, Gathered as Gathers}
use Rattle.reasons.specs.Reason.Gathered.{own, further}
use Rattle.reasons.specs.Pruned.{Prunable}
use Rattle.sketch.specs.Sketch.{step_of, steps_of, ending}
use Rattle.needed.specs.Needed.{FoundBoth, Gathered}
use Rattle.drafted.specs.Drafted.{Drafted}
use Rattle.drafted.proofs.Named.{few-ties}
use Rattle.drafted.proofs.Walks.{InPlace, found_in, in-place-kept}
use Rattle.drafted.proofs.Kept.{tie-right-rules, tie-rests-kept, tie-gathered}

-- a draft's steps with others behind them
module _ (names ties walks : List ℕ) (count : ℕ) where
  pub before-ending : (ending : List Step) (t : ℕ) → t < count → step_at (steps_of names ties walks count ++ ending) t ≡ step_of names ties walks t
  before-ending ending t l =
      let e : length (steps_of names ties walks count) ≡ count = length-each count (step_of names ties walks) in
      get_or-append (steps_of names ties walks count) ending (closing_entry 0) t (omega arith)
      ∙ get_or-each count (step_of names ties walks) (closing_entry 0) t l

  pub at-ending : (k : Step) (ending : List Step) → step_at (steps_of names ties walks count ++ k ∷ ending) count ≡ k
  at-ending k ending = get_or_at (steps_of names ties walks count) k ending (closing_entry 0) count (length-each count (step_of names ties walks))

  pub at_last : (k l : Step) → step_at (steps_of names ties walks count ++ k ∷ l ∷ []) (suc count) ≡ l
  at_last k l =
      let n = length-each count (step_of names ties walks) in
      let e : suc count ≡ length (steps_of names ties walks count) + 1 = omega arith in
      ap (step_at (steps_of names ties walks count ++ k ∷ l ∷ [])) e ∙ get_or-append-add (steps_of names ties walks count) (k ∷ l ∷ []) 1 (closing_entry 0)

  pub length-ending : (ending : List Step) → length (steps_of names ties walks count ++ ending) ≡ count + length ending
  length-ending ending = simp (length-append, length-each)

module _ {s : Sheet} {S : Set} {list : List Bound} {names ties labels : List ℕ} {m listed count : ℕ} (W : WellFormed s)
    (D : Drafted s S list names ties labels m listed count) {walks walks' : List ℕ} {need need' : List Bool}
    (G : Gathered s list names ties count walks walks' need need') where
  -- what an ending adds, from step `count` on
  pub record Ends (steps : List Step) (last : ℕ) : Type 0 where
    pub is : (t : ℕ) → t < count → step_at steps t ≡ step_of names ties walks' t
    pub size : length steps ≡ suc last
    pub rules : (n : ℕ) → count ≤ n → n < last → TieRight s S steps n (step_at steps n)
    pub closing : Closing s S steps last (step_at steps last)
    pub last-kept : marked need' last ≡ true
    pub rests-kept : (n t : ℕ) → count ≤ n → n ≤ last → Rests s steps n (step_at steps n) t → marked need' t ≡ true
    pub first-ones : (t : ℕ) → t < count → marked need t ≡ true → Gathers s steps last t
    pub gathered : (n : ℕ) → count ≤ n → n < last → Gathers s steps last n

  pub prunable : {steps : List Step} {last : ℕ} → Ends steps last → Prunable s S steps last (marked need')
  prunable {steps} {last} E =
      record {
        count = E.size;
        ties = λ n l h. either n (λ k. tie-right-rules W D G steps E.is n k h) (λ k. E.rules n k l);
        closing = E.closing;
        last-kept = E.last-kept;
        rests-kept = λ n t l h R. either n (λ k. tie-rests-kept W D G steps E.is n k h t R) (λ k. E.rests-kept n t k l R);
        needed = λ n l h. either n (λ k. tie-gathered W D G steps E.is E.first-ones n k h) (λ k. E.gathered n k l);
      }
    where
      either : {A : Type 0} (n : ℕ) → (n < count → A) → (count ≤ n → A) → A
      either {A} n f g = go (dec_lt n count)
        where
          go : Dec (n < count) → A
          go (yes l) = f l
          go (no l) = g (omega arith)

  -- one closing step behind the ties
  module _ (k : Step) where
    abbrev pub one : List Step
    one = steps_of names ties walks' count ++ k ∷ []

    pub one_more : marked need count ≡ true → Closing s S one count k → ((t : ℕ) → Rests s one count k t → marked need' t ≡ true) →
        ((t : ℕ) → t < count → marked need t ≡ true → Rests s one count k t) → Ends one count
    one_more h C f g =
        let e : step_at one count ≡ k = at-ending names ties walks' count k [] in
        record {
          is = before-ending names ties walks' count (k ∷ []);
          size = length-ending names ties walks' count (k ∷ []) ∙ omega arith;
          rules = λ n l l'. absurd (omega arith);
          closing = rw e C;
          last-kept = G.stays count h;
          rests-kept = λ n t l l' R. f t (rw (let p : n ≡ count = omega arith in p, e) at R);
          first-ones = λ t l h. further {u = t} own (rw e (g t l h));
          gathered = λ n l l'. absurd (omega arith);
        }

  -- the walks of an ending stand at places that the gathering keeps
  pub ending-kept : {n a b : ℕ} {B : Bounds} {old new : List Bool} (at : ℕ) → 256 ≤ at → n ≤ 129 → length walks' ≡ length walks →
      InPlace n B a b names at walks old new → InPlace n B a b names at walks' old new
  ending-kept at h l e P =
      in-place-kept walks' (omega arith) e (λ k p q. G.walks-kept k (omega (arith, few-ties W D, W.terms))) P

  -- those of a tie's two walks both
  module _ {n a b : ℕ} {B : Bounds} {w : List ℕ} {old new : List Bool} (F : FoundBoth n B a b names ending w walks old new) (l : n ≤ 129)
      (same : length walks' ≡ length walks) where
    pub way-there : InPlace n B a b names ending walks' old F.need-between
    way-there =
        ending-kept 256 (omega arith) l same
        (in-place-kept walks (omega arith) F.back.as_long (λ k p q. F.back.before k (omega arith)) (found_in F.there))

    pub way_back : InPlace n B b a names (ending + 1) walks' F.need-between new
    way_back = ending-kept 257 (omega arith) l same (found_in F.back)
