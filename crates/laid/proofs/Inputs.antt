-- Two terms with the same input, as the code reads them: applications of one symbol, both to one argument or both to two. When their arguments
-- are tied up, these are in one group each.
-- Assumes nothing.
use Prim.Native.Nat.{ℕ, ◌<◌}
use mathlib.Core.Path.{◌≡◌, refl, sym, ap, ◌∙◌}
use mathlib.Core.List.{List}
use native.Mathlib.Omega.{arith}
use Rattle.sheet.specs.declared.Symbol.{Symbol}
use Rattle.sheet.specs.declared.TermNumber.{TermNumber}
use Rattle.sheet.specs.declared.Term.{Term as Code-Term}
use Rattle.sheet.specs.declared.Term.TheVariants.{Apply, Apply2}
use Rattle.sheet.specs.Says.{term_says}
use Rattle.sheet.specs.Sheet.{Term, apply, apply2, Sheet, count_terms, term_at, ArgumentsBelow, WellFormed}
use Rattle.sheet.proofs.Below.{arguments-wider, argument, arguments}
use Rattle.meaning.specs.Meaning.{SameInput}
use Rattle.meaning.specs.Meaning.SameInput.{one, two}
use Rattle.settled.specs.Settled.{points}
use Rattle.laid.specs.Longer.{Are, TiedUp, Alike, Arguments, ArgumentsTied}
use Rattle.laid.proofs.Longer.{longer-as, longer-on}

-- what the same input says of two applications
pub ones : {R : ℕ → ℕ → Type 0} {f g a b : ℕ} → SameInput R (apply f a) (apply g b) → (f ≡ g) × R a b
ones (one p) = (refl, p)

pub twos : {R : ℕ → ℕ → Type 0} {f g a b c d : ℕ} → SameInput R (apply2 f a c) (apply2 g b d) → (f ≡ g) × R a b × R c d
twos (two p q) = (refl, p, q)

-- both are applied to one argument, or both to two
abbrev OneKind : Term → Term → Type 0
OneKind (apply f a) (apply g b) = Unit {0}
OneKind (apply2 f a c) (apply2 g b d) = Unit {0}
OneKind t u = ⊥

one_kind : {R : ℕ → ℕ → Type 0} {t u : Term} → SameInput R t u → OneKind t u
one_kind (one p) = tt
one_kind (two p q) = tt

kind-one : (y : Code-Term) (f a : ℕ) → OneKind (apply f a) (term_says y) → ((g : Symbol) (b : TermNumber) → y ≡ Apply g b → ⊥) → ⊥
kind-one (Apply g b) f a h k = k g b refl
kind-one y f a h k = h

kind-two : (y : Code-Term) (f a c : ℕ) → OneKind (apply2 f a c) (term_says y) → ((g : Symbol) (b d : TermNumber) → y ≡ Apply2 g b d → ⊥) → ⊥
kind-two (Apply2 g b d) f a c h k = k g b d refl
kind-two y f a c h k = h

kind-none : (x : Code-Term) (u : Term) → OneKind (term_says x) u → ((f : Symbol) (a : TermNumber) → x ≡ Apply f a → ⊥)
    → ((f : Symbol) (a c : TermNumber) → x ≡ Apply2 f a c → ⊥) → ⊥
kind-none (Apply f a) u h k l = k f a refl
kind-none (Apply2 f a c) u h k l = l f a c refl
kind-none x u h k l = h

-- what the code read is the term t
module _ {t : Term} {x : Code-Term} (is : term_says x ≡ t) where
  pub applied : {f : Symbol} {a : TermNumber} → x ≡ Apply f a → t ≡ apply f.0 a.0
  applied e = sym is ∙ ap term_says e

  pub applied2 : {f : Symbol} {a b : TermNumber} → x ≡ Apply2 f a b → t ≡ apply2 f.0 a.0 b.0
  applied2 e = sym is ∙ ap term_says e

  pub one-below : {n : ℕ} {f : Symbol} {a : TermNumber} → ArgumentsBelow n t → x ≡ Apply f a → a.0 < n
  one-below l p = argument (rw (applied p) at l)

  pub two-below : {n : ℕ} {f : Symbol} {a b : TermNumber} → ArgumentsBelow n t → x ≡ Apply2 f a b → (a.0 < n) × (b.0 < n)
  two-below l p = arguments (rw (applied2 p) at l)

  -- a third arm is not reached
  pub other-none : {R : ℕ → ℕ → Type 0} {u : Term} → SameInput R t u → ((f : Symbol) (a : TermNumber) → x ≡ Apply f a → ⊥)
      → ((f : Symbol) (a c : TermNumber) → x ≡ Apply2 f a c → ⊥) → ⊥
  other-none {u = u} I = kind-none x u (rw (sym is) at (one_kind I))

module _ {R : ℕ → ℕ → Type 0} {t u : Term} {x y : Code-Term} (P : term_says x ≡ t) (Q : term_says y ≡ u) (I : SameInput R t u) where
  -- nor arms of two kinds
  pub other-one : {f : Symbol} {a : TermNumber} → x ≡ Apply f a → ((g : Symbol) (b : TermNumber) → y ≡ Apply g b → ⊥) → ⊥
  other-one {f} {a} p = kind-one y f.0 a.0 (rw (applied P p, sym Q) at (one_kind I))

  pub other-two : {f : Symbol} {a c : TermNumber} → x ≡ Apply2 f a c → ((g : Symbol) (b d : TermNumber) → y ≡ Apply2 g b d → ⊥) → ⊥
  other-two {f} {a} {c} p = kind-two y f.0 a.0 c.0 (rw (applied2 P p, sym Q) at (one_kind I))

  -- in the arms that there are, the symbols are one, and the arguments are alike
  pub in-one : {f g : Symbol} {a b : TermNumber} → x ≡ Apply f a → y ≡ Apply g b → (f.0 ≡ g.0) × R a.0 b.0
  in-one p q = ones (rw (applied P p, applied Q q) at I)

  pub in-two : {f g : Symbol} {a b c d : TermNumber} → x ≡ Apply2 f a c → y ≡ Apply2 g b d → (f.0 ≡ g.0) × R a.0 b.0 × R c.0 d.0
  in-two p q = twos (rw (applied2 P p, applied2 Q q) at I)

-- the arguments of a term of the sheet are points
pub points-below : {n : ℕ} (s : Sheet) (i : ℕ) → n ≡ points s → WellFormed s → i < count_terms s → ArgumentsBelow n (term_at s i)
points-below {n} s i e wf l = arguments-wider {n = n} (omega arith) (wf.arguments i l)

those : {s : Sheet} {i j a b : ℕ} → Arguments s i j a b → (x y : ℕ) → Are a b x y → Arguments s i j x y
those A x y R = rw (R.left_is, R.right_is) A

module _ {s : Sheet} {i j : ℕ} {x y : Code-Term} (P : term_says x ≡ term_at s i) (Q : term_says y ≡ term_at s j) (A : Alike s i j)
    {n e t u : ℕ} {ties labels ties' labels' : List ℕ} where
  pub one-tied : {f g : Symbol} {a b : TermNumber} → x ≡ Apply f a → y ≡ Apply g b → TiedUp n e t a.0 b.0 ties labels ties' labels' u
      → ArgumentsTied s n i j e t ties labels ties' labels' u
  one-tied {a = a} {b} p q T =
      let first : Arguments s i j a.0 b.0 = record { tied = λ d J. (in-one P Q J p q).1 } in
      record {
        longer = longer-as (those first) T.longer;
        input = rw (applied P p, applied Q q, (in-one P Q A.joined p q).0) (one T.one-group);
      }

  pub two-tied : {f g : Symbol} {a b c d : TermNumber} {r : ℕ} {ties'' labels'' : List ℕ} → x ≡ Apply2 f a c → y ≡ Apply2 g b d
      → (a.0 < n) × (b.0 < n) → TiedUp n e t a.0 b.0 ties labels ties' labels' u → TiedUp n e u c.0 d.0 ties' labels' ties'' labels'' r
      → ArgumentsTied s n i j e t ties labels ties'' labels'' r
  two-tied {a = a} {b} {c} {d} p q l T U =
      let first : Arguments s i j a.0 b.0 = record { tied = λ d J. (in-two P Q J p q).1 } in
      let second : Arguments s i j c.0 d.0 = record { tied = λ d J. (in-two P Q J p q).2 } in
      record {
        longer = longer-on (longer-as (those first) T.longer) (longer-as (those second) U.longer);
        input = rw (applied2 P p, applied2 Q q, (in-two P Q A.joined p q).0) (two (U.longer.stays _ _ l.0 l.1 T.one-group) U.one-group);
      }
