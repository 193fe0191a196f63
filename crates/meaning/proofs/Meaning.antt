-- Laws of the meaning: fewer entries ask for less, and a set that contains a clashing set clashes.
-- Assumes nothing.
use Prim.Native.Nat.{ℕ, ◌<◌}
use lib.IntN.{ℤ}
use Rattle.order.specs.First.{Set, Within, Upward}
use Rattle.order.proofs.Laws.{upward-not}
use Rattle.sheet.specs.Sheet.{Sheet, Term, count_entries, ArgumentsBelow, of-apply, of-apply2}
use Rattle.meaning.specs.Meaning.{SameInput, one, two, Meet, Holds, Clashes}

pub meet-fewer : (s : Sheet) (A B : Set) (D : ℕ) (n : ℕ → ℤ) → Within (count_entries s) A B → Meet s B D n → Meet s A D n
meet-fewer s A B D n w m =
    record { positive = m.positive; defined = m.defined; functions = m.functions; entries = λ e l h. m.entries e l (w e l h) }

pub clashes-upward : (s : Sheet) → Upward (count_entries s) (Clashes s)
clashes-upward s =
    upward-not (count_entries s) (Holds s) (λ A B w h. record { D = h.D; n = h.n; meet = meet-fewer s A B h.D h.n w h.meet })

-- what makes arguments in range alike in one sense makes the inputs the same in any that follows from it
pub same-input-below : {P Q : ℕ → ℕ → Type 0} (i j : ℕ) (t u : Term) → ArgumentsBelow i t → ArgumentsBelow j u →
    ((a b : ℕ) → a < i → b < j → P a b → Q a b) → SameInput P t u → SameInput Q t u
same-input-below {P} {Q} i j t u a b f same = go same a b
  where
    go : {t u : Term} → SameInput P t u → ArgumentsBelow i t → ArgumentsBelow j u → SameInput Q t u
    go (one p) (of-apply k) (of-apply l) = one (f _ _ k l p)
    go (two p q) (of-apply2 k k') (of-apply2 l l') = two (f _ _ k l p) (f _ _ k' l' q)
