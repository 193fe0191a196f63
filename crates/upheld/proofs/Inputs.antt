-- What is told of two terms: of the same kind and symbol, by their arguments; else that they aren't alike.
-- Assumes nothing.
use Prim.Native.Nat.{ℕ}
use mathlib.Core.Path.{◌≡◌, refl, sym}
use mathlib.Core.Logic.{◌≢◌}
use mathlib.Core.Bool.{Bool, true, false}
use mathlib.Core.List.{List}
use native.Mathlib.Omega.{arith}
use Rattle.sheet.specs.declared.Symbol.{Symbol}
use Rattle.sheet.specs.declared.TermNumber.{TermNumber}
use Rattle.sheet.specs.declared.Term.{Term as Code-Term}
use Rattle.sheet.specs.declared.Term.TheVariants.{Unknown, Number, Shift, Apply, Apply2}
use Rattle.sheet.specs.Says.{term_says}
use Rattle.sheet.specs.Sheet.{Term, apply, apply2}
use Rattle.sheet.proofs.Below.{argument, arguments}
use Rattle.meaning.specs.Meaning.{SameInput}
use Rattle.meaning.specs.Meaning.SameInput.{one, two}
use Rattle.meaning.proofs.Decides.{refuted, told}
use Rattle.probes.specs.Probes.{TiedAtSays}
use Rattle.upheld.specs.Ruled.{TellsInput}
use Rattle.upheld.proofs.Groups.{level-told}

same-one : {Alike : ℕ → ℕ → Type 0} {x y a b : ℕ} → SameInput Alike (apply x a) (apply y b) → (x ≡ y) × Alike a b
same-one (one h) = (refl, h)

one_same : {Alike : ℕ → ℕ → Type 0} {x y a b : ℕ} → x ≡ y → Alike a b → SameInput Alike (apply x a) (apply y b)
one_same e h = rw (sym e) (one h)

same-two : {Alike : ℕ → ℕ → Type 0} {x y a b c d : ℕ} → SameInput Alike (apply2 x a b) (apply2 y c d) → (x ≡ y) × Alike a c × Alike b d
same-two (two h k) = (refl, h, k)

two-same : {Alike : ℕ → ℕ → Type 0} {x y a b c d : ℕ} → x ≡ y → Alike a c → Alike b d → SameInput Alike (apply2 x a b) (apply2 y c d)
two-same e h k = rw (sym e) (two h k)

-- two terms that are alike at no arguments
unlike : {links : List ℕ} {f g : Term} → ((Alike : ℕ → ℕ → Type 0) → SameInput Alike f g → ⊥) → TellsInput links f g false
unlike n = record { decides = λ K A B. refuted (n _) }

module _ {links : List ℕ} {x y a b : ℕ} where
  pub one_told : {r : Bool} → x ≡ y → TiedAtSays links a b 0 r → TellsInput links (apply x a) (apply y b) r
  one_told e S = record {
    decides = λ K A B.
        let l = argument A in
        let m = argument B in
        told (one_same e) (λ I. (same-one I).1) (level-told K (omega arith) (omega arith) S);
  }

  pub one_symbol : x ≢ y → TellsInput links (apply x a) (apply y b) false
  one_symbol n = unlike (λ Alike I. n (same-one I).0)

module _ {links : List ℕ} {x y a b c d : ℕ} where
  pub two-told : {r : Bool} → x ≡ y → TiedAtSays links a c 0 true → TiedAtSays links b d 0 r → TellsInput links (apply2 x a b) (apply2 y c d) r
  two-told e S T = record {
    decides = λ K A B.
        let l = arguments A in
        let m = arguments B in
        let first = (level-told K (omega arith) (omega arith) S).yes refl in
        told (two-same e first) (λ I. (same-two I).2)
        (level-told K (omega arith) (omega arith) T);
  }

  pub two-first : TiedAtSays links a c 0 false → TellsInput links (apply2 x a b) (apply2 y c d) false
  two-first S = record {
    decides = λ K A B.
        let l = arguments A in
        let m = arguments B in
        refuted (λ I. (level-told K (omega arith) (omega arith) S).no refl (same-two I).1);
  }

  pub two-symbol : x ≢ y → TellsInput links (apply2 x a b) (apply2 y c d) false
  two-symbol n = unlike (λ Alike I. n (same-two I).0)

-- alike are two applications to one, or two to two
pub not-one : {links : List ℕ} (x a : ℕ) (g : Code-Term) → ((f : Symbol) (b : TermNumber) → g ≡ Apply f b → ⊥) → TellsInput links (apply x a) (term_says g) false
not-one x a g n = unlike (λ Alike I. go g n I)
  where
    go : {Alike : ℕ → ℕ → Type 0} (g : Code-Term) → ((f : Symbol) (b : TermNumber) → g ≡ Apply f b → ⊥) → SameInput Alike (apply x a) (term_says g) → ⊥
    go Unknown n I = elim I [ ]
    go (Number c) n I = elim I [ ]
    go (Shift b c) n I = elim I [ ]
    go (Apply f b) n I = n f b refl
    go (Apply2 f b c) n I = elim I [ ]

pub not-two : {links : List ℕ} (x a b : ℕ) (g : Code-Term) → ((f : Symbol) (c d : TermNumber) → g ≡ Apply2 f c d → ⊥) → TellsInput links (apply2 x a b) (term_says g) false
not-two x a b g n = unlike (λ Alike I. go g n I)
  where
    go : {Alike : ℕ → ℕ → Type 0} (g : Code-Term) → ((f : Symbol) (c d : TermNumber) → g ≡ Apply2 f c d → ⊥) → SameInput Alike (apply2 x a b) (term_says g) → ⊥
    go Unknown n I = elim I [ ]
    go (Number c) n I = elim I [ ]
    go (Shift c d) n I = elim I [ ]
    go (Apply f c) n I = elim I [ ]
    go (Apply2 f c d) n I = n f c d refl

pub no-application : {links : List ℕ} (f : Code-Term) (g : Term) → ((x : Symbol) (a : TermNumber) → f ≡ Apply x a → ⊥) →
    ((x : Symbol) (a b : TermNumber) → f ≡ Apply2 x a b → ⊥) → TellsInput links (term_says f) g false
no-application f g n m = unlike (λ Alike I. go f n m I)
  where
    go : {Alike : ℕ → ℕ → Type 0} (f : Code-Term) → ((x : Symbol) (a : TermNumber) → f ≡ Apply x a → ⊥) →
        ((x : Symbol) (a b : TermNumber) → f ≡ Apply2 x a b → ⊥) → SameInput Alike (term_says f) g → ⊥
    go Unknown n m I = elim I [ ]
    go (Number c) n m I = elim I [ ]
    go (Shift a c) n m I = elim I [ ]
    go (Apply x a) n m I = n x a refl
    go (Apply2 x a b) n m I = m x a b refl
