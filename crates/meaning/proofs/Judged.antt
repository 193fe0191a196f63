-- The starred lines. Where a sheet holds, D and its terms' values are shown. Where it clashes, the list's entries contradict
-- each other, and for each of them values are shown, with D 1, that meet the list without it and with every lower entry.
-- Assumes nothing.
use Prim.Native.Nat.{ℕ, ◌<◌}
use mathlib.Core.Path.{◌≡◌, refl, sym, ◌∙◌}
use mathlib.Core.Bool.{true, true≢false}
use mathlib.Core.List.{List, [], ◌∷◌}
use mathlib.Core.Option.{Option, map, IsSome, get}
use lib.Dec.{lit<}
use lib.IntN.{ℤ, pos, ◌+ℤ◌}
use lib.ListN.{get_or}
use native.Mathlib.Omega.{arith}
use Rattle.whole.proofs.Parts.{parts-inj, plus-zero}
use Rattle.order.specs.First.{Set, every, set_of, number}
use Rattle.order.proofs.Laws.{lower, number-ties, first_of, unique}
use Rattle.sheet.specs.Sheet.{Sheet, count_entries}
use Rattle.meaning.specs.Meaning.{one, two, Meet, Holds, Clashes}
use Rattle.meaning.specs.Lines.{line6}
use Rattle.meaning.specs.Judged.{HoldsAll, ClashesFirst, Judged}
use Rattle.meaning.specs.Functions.{line_symbols, line11, FunctionsApart}
use Rattle.meaning.proofs.Meaning.{clashes-upward}
use Rattle.meaning.proofs.Check.{Answers, only_if, below, meets}
use Rattle.meaning.proofs.Clash.{says, not-apart}

-- every function answers its first argument, which is enough for the starred lines
abbrev firsts : Answers
firsts = record { one = λ f x. x; two = λ f x y. x }

abbrev model : Answers → (s : Sheet) (S : Set) → ℕ → List ℕ → Option (Holds s S)
model answers s S D values =
    let n : ℕ → ℤ = λ i. pos (get_or values i 0) in
    map (λ m. record { D = D; n = n; meet = m }) (meets answers D n s S)

holds : {line : Sheet} (D : ℕ) (values : List ℕ) → IsSome (model firsts line every D values) → HoldsAll line
holds {line} D values m = get (model firsts line every D values) m

abbrev models : (s : Sheet) (A : Set) → List (List ℕ) → Option ((x : ℕ) → x < count_entries s → A x ≡ true → Holds s (lower number A x))
models s A values = below (count_entries s) (λ x. only_if (A x) (model firsts s (lower number A x) 1 (get_or values x [])))

clashes : {line : Sheet} {list : List ℕ} → ((D : ℕ) (n : ℕ → ℤ) → Meet line (set_of list) D n → ⊥)
    → (values : List (List ℕ)) → IsSome (models line (set_of list) values) → ClashesFirst line list
clashes {line} {list} clash values m =
    let L = count_entries line in
    record {
      first =
          first_of (Clashes line) L number (number-ties L) (clashes-upward line) (set_of list)
          (λ h. clash h.D h.n h.meet) (λ x l e c. c (get (models line (set_of list) values) m x l e));
    }

pub judged : Judged
judged =
    record {
      sheet1 =
          clashes
          (λ D n m. not-apart m 2 3 refl (one (parts-inj _ _ (omega (arith, says m 0 refl, says m 1 refl)))) (says m 2 refl).holds)
          ((1 ∷ 0 ∷ 1 ∷ 0 ∷ []) ∷ (0 ∷ 1 ∷ 0 ∷ 1 ∷ []) ∷ (0 ∷ 0 ∷ 0 ∷ 0 ∷ []) ∷ []) tt;
      sheet2 = holds 1 (0 ∷ 1 ∷ 0 ∷ 1 ∷ []) tt;
      sheet3 = holds 2 (2 ∷ 3 ∷ 4 ∷ 3 ∷ 2 ∷ 4 ∷ []) tt;
      sheet4a = holds 1 (0 ∷ 1 ∷ 2 ∷ []) tt;
      sheet4b =
          clashes (λ D n m. omega (arith, says m 0 refl, says m 1 refl, says m 2 refl))
          ((0 ∷ 0 ∷ 1 ∷ []) ∷ (0 ∷ 1 ∷ 1 ∷ []) ∷ (0 ∷ 1 ∷ 2 ∷ []) ∷ []) tt;
      sheet4c =
          clashes (λ D n m. omega (arith, says m 0 refl, says m 1 refl, says m 2 refl))
          ((0 ∷ 0 ∷ 1 ∷ []) ∷ (0 ∷ 1 ∷ 1 ∷ []) ∷ (0 ∷ 1 ∷ 2 ∷ []) ∷ []) tt;
      sheet5 = holds 2 (0 ∷ 1 ∷ []) tt;
      sheet5-finer = λ D n m. omega (arith, says m 0 refl, says m 1 refl);
      sheet6 = sixth;
      sheet6-alone = λ h. (says h.meet 3 refl).holds (sym (plus-zero _ _));
      sheet6-not-first = λ f. true≢false (unique 4 number (number-ties 4) (Clashes line6) _ _ sixth.first f.first 0 (lit< tt));
      sheet7 = clashes (λ D n m. omega (arith, says m 0 refl)) ((0 ∷ []) ∷ []) tt;
      sheet8 =
          clashes
          (λ D n m. not-apart m 2 3 refl (one (m.defined 0 (lit< tt) ∙ sym (m.defined 1 (lit< tt)))) (says m 0 refl).holds)
          ((5 ∷ 5 ∷ 5 ∷ 5 ∷ []) ∷ []) tt;
      sheet9 =
          clashes
          (λ D n m. not-apart m 3 4 refl (one (m.defined 2 (lit< tt) ∙ sym (says m 0 refl).holds)) (says m 1 refl).holds)
          ((0 ∷ 0 ∷ 3 ∷ 3 ∷ 0 ∷ []) ∷ (0 ∷ 3 ∷ 3 ∷ 3 ∷ 3 ∷ []) ∷ []) tt;
      sheet10a = holds 1 (0 ∷ 1 ∷ 0 ∷ 1 ∷ []) tt;
      sheet10b =
          clashes
          (λ D n m. let e = (says m 0 refl).holds ∙ plus-zero (n 1) D in not-apart m 2 3 refl (two e (sym e)) (says m 1 refl).holds)
          ((0 ∷ 1 ∷ 0 ∷ 1 ∷ []) ∷ (0 ∷ 0 ∷ 0 ∷ 0 ∷ []) ∷ []) tt;
    }
  where
    sixth : ClashesFirst line6 (0 ∷ 1 ∷ 2 ∷ [])
    sixth =
        clashes (λ D n m. omega (arith, says m 0 refl, says m 1 refl, says m 2 refl))
        ((1 ∷ 0 ∷ 0 ∷ []) ∷ (1 ∷ 1 ∷ 0 ∷ []) ∷ (0 ∷ 0 ∷ 0 ∷ []) ∷ []) tt

-- a function of one argument answers it and its symbol's number, one of two answers the first
abbrev symbols : Answers
symbols = record { one = λ f x. x +ℤ pos f; two = λ f x y. x }

pub functions-apart : FunctionsApart
functions-apart =
    record {
      symbols = get (model symbols line_symbols every 1 (0 ∷ 7 ∷ 8 ∷ [])) tt;
      sheet11 = get (model symbols line11 every 1 (0 ∷ 7 ∷ 0 ∷ [])) tt;
    }
