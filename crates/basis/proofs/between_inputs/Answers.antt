-- `basis::between_inputs` meets its contract: both terms are the sheet's, and their tags say whether they are applications of one kind.
-- Assumes nothing.
use Prim.Native.Nat.{ℕ}
use mathlib.Core.Path.{◌≡◌, refl, sym, ap, ◌∙◌}
use mathlib.Core.List.{List}
use native.Mathlib.Omega.{arith}
use Rattle.sheet.specs.declared.Symbol.{Symbol}
use Rattle.sheet.specs.declared.Term.{Term as Code-Term}
use Rattle.sheet.specs.declared.Term.TheVariants.{Unknown, Number, Shift, Apply, Apply2}
use Rattle.sheet.specs.Says.{term_says}
use Rattle.sheet.specs.Sheet.{Term}
use Rattle.sheet.specs.declared.TermNumber.{TermNumber}
use Rattle.sets.specs.declared.Ties.{Ties}
use Rattle.basis.specs.Basis.{arity, InputsSay}
use Rattle.basis.specs.Basis.InputsSay.{one, two, other}
use Rattle.basis.proofs.between_inputs.Goals as goal

-- what isn't an application to one has another number of arguments; likewise to two; and what is none has none
one-apart : (t : Code-Term) → ((x : Symbol) (a : TermNumber) → t ≡ Apply x a → ⊥) → 1 ≡ arity (term_says t) → ⊥
one-apart Unknown n e = omega arith
one-apart (Number c) n e = omega arith
one-apart (Shift a c) n e = omega arith
one-apart (Apply x a) n e = n x a refl
one-apart (Apply2 x a b) n e = omega arith

two-apart : (t : Code-Term) → ((x : Symbol) (a b : TermNumber) → t ≡ Apply2 x a b → ⊥) → 2 ≡ arity (term_says t) → ⊥
two-apart Unknown n e = omega arith
two-apart (Number c) n e = omega arith
two-apart (Shift a c) n e = omega arith
two-apart (Apply x a) n e = omega arith
two-apart (Apply2 x a b) n e = n x a b refl

no-arguments : (t : Code-Term) → ((x : Symbol) (a : TermNumber) → t ≡ Apply x a → ⊥) → ((x : Symbol) (a b : TermNumber) → t ≡ Apply2 x a b → ⊥) →
    arity (term_says t) ≡ 0
no-arguments Unknown n m = refl
no-arguments (Number c) n m = refl
no-arguments (Shift a c) n m = refl
no-arguments (Apply x a) n m = absurd (n x a refl)
no-arguments (Apply2 x a b) n m = absurd (m x a b refl)

-- what is said of two terms, by what they were read as
said : {links paths : List ℕ} {ties : Ties} {t u : Term} {read read' : Code-Term} (f g : Code-Term) → term_says read ≡ t → term_says read' ≡ u → read ≡ f →
    read' ≡ g → InputsSay links paths (term_says f) (term_says g) ties → InputsSay links paths t u ties
said f g e e' r r' I = rw (sym e ∙ ap term_says r, sym e' ∙ ap term_says r') I

pub returns-in-Apply-g : goal.returns-in-Apply-g
returns-in-Apply-g c =
    said _ _ c.term_at-f.ensures c.term_at-g.ensures c.in-Apply.is c.in-Apply-g.is (one c.between.ensures)

pub returns-in_default-g : goal.returns-in_default-g
returns-in_default-g c =
    other (λ e. absurd (one-apart c.term_at-g.result c.in_default-g.not-Apply
    (sym (ap arity (sym c.term_at-f.ensures ∙ ap term_says c.in-Apply.is)) ∙ e ∙ ap arity (sym c.term_at-g.ensures))))
    c.none.ensures

pub returns-in-Apply2-g : goal.returns-in-Apply2-g
returns-in-Apply2-g c =
    said _ _ c.term_at-f.ensures c.term_at-g.ensures c.in-Apply2.is c.in-Apply2-g.is
    (two (record {
      first = c.between-first.result;
      first_says = c.between-first.ensures;
      second = c.between-second.result;
      second-says = c.between-second.ensures;
      all = c.either.ensures;
    }))

pub returns-in_default-g-2 : goal.returns-in_default-g-2
returns-in_default-g-2 c =
    other (λ e. absurd (two-apart c.term_at-g.result c.in_default-g-2.not-Apply2
    (sym (ap arity (sym c.term_at-f.ensures ∙ ap term_says c.in-Apply2.is)) ∙ e ∙ ap arity (sym c.term_at-g.ensures))))
    c.none-in_default-g-2.ensures

pub returns-in_default : goal.returns-in_default
returns-in_default c =
    other (λ e. ap arity (sym c.term_at-f.ensures) ∙ no-arguments c.term_at-f.result c.in_default.not-Apply c.in_default.not-Apply2) c.none-in_default.ensures
