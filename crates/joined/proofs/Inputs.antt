-- When two terms have the same input, as their records say it.
-- Assumes nothing.
use Prim.Native.Nat.{ℕ, ◌≤◌, ◌<◌}
use mathlib.Core.Path.{◌≡◌, refl, sym, ◌∙◌}
use mathlib.Core.Bool.{Bool, true, false, not, ◌||◌, true≢false}
use mathlib.Core.Logic.{⊎_elim}
use lib.Dec.{ltb, eqb}
use lib.IntN.{pos}
use native.Mathlib.Nat.{eq-or-lt_of_le}
use native.Mathlib.Omega.{arith}
use borrow.Author.Tests.{ltb-false, eqb-true, eqb-false, le-ltb, eq-eqb, not-false}
use Rattle.closure.specs.Closed.{TiedAt}
use Rattle.sheet.specs.declared.Fields.{Fields}
use Rattle.sheet.specs.Decode.{decode_term}
use Rattle.sheet.specs.Sheet.{Term, ArgumentsBelow}
use Rattle.sheet.proofs.Below.{argument, arguments}
use Rattle.sheet.proofs.Made.{is_one, is-two, of_one, of_two}
use Rattle.meaning.specs.Meaning.{one, two}
use Rattle.meaning.specs.Decides.{Decides}
use Rattle.meaning.proofs.Decides.{told}
use Rattle.joined.specs.Joined.{Joined}

-- two records of one kind and symbol, the kind 3 or 4
pub record OneSymbol (t u : Fields) : Type 0 where
  pub kind : t.kind ≡ u.kind
  pub symbol : t.symbol ≡ u.symbol
  pub low : 3 ≤ t.kind
  pub high : t.kind ≤ 4

-- the test of it
abbrev other : Fields → Fields → Bool
other t u = ((ltb t.kind 3 || ltb 4 t.kind) || not (eqb t.kind u.kind)) || not (eqb t.symbol u.symbol)

or-false : (a b : Bool) → a || b ≡ false → (a ≡ false) × (b ≡ false)
or-false true b e = absurd (true≢false e)
or-false false b e = (refl, e)

pub one_symbol : (t u : Fields) → other t u ≡ false → OneSymbol t u
one_symbol t u e =
    let symbols = or-false _ _ e in
    let kinds = or-false _ _ symbols.0 in
    let range = or-false _ _ kinds.0 in
    record {
      kind = eqb-true _ _ (not-false _ kinds.1);
      symbol = eqb-true _ _ (not-false _ symbols.1);
      low = ltb-false _ _ range.0;
      high = ltb-false _ _ range.1;
    }

pub not-other : (t u : Fields) → OneSymbol t u → other t u ≡ false
not-other t u O = rw (le-ltb t.kind 3 O.low, le-ltb 4 t.kind O.high, eq-eqb _ _ O.kind, eq-eqb _ _ O.symbol)

-- what the same input comes to
pub record Input (d : ℕ → ℕ → ℕ) (t u : Fields) : Type 0 where
  pub alike : OneSymbol t u
  pub first : TiedAt d t.a u.a (pos 0)
  pub second : t.kind ≡ 4 → TiedAt d t.b u.b (pos 0)

-- the arguments of such records
first_below : {n : ℕ} (f : Fields) → 3 ≤ f.kind → f.kind ≤ 4 → ArgumentsBelow n (decode_term f) → f.a < n
first_below f l h A =
    ⊎_elim (λ e. argument (rw (is_one f (sym e)) at A)) (λ l. (arguments (rw (is-two f (omega arith)) at A)).0)
    (eq-or-lt_of_le {n = 3} {m = f.kind} l)

pub firsts : {n : ℕ} {t u : Fields} → OneSymbol t u → ArgumentsBelow n (decode_term t) × ArgumentsBelow n (decode_term u) → (t.a < n) × (u.a < n)
firsts {n} {t} {u} O A = (first_below t O.low O.high A.0, first_below u (omega arith) (omega arith) A.1)

-- not of kind 3, so of kind 4
pub four : {t u : Fields} → OneSymbol t u → (t.kind ≡ 3 → ⊥) → (t.kind ≡ 4) × (u.kind ≡ 4)
four {t} {u} O n = ⊎_elim (λ e. absurd (n (sym e))) (λ l. (omega arith, omega arith)) (eq-or-lt_of_le {n = 3} {m = t.kind} O.low)

pub seconds : {n : ℕ} {t u : Fields} → OneSymbol t u → (t.kind ≡ 3 → ⊥) → ArgumentsBelow n (decode_term t) × ArgumentsBelow n (decode_term u)
    → (t.b < n) × (u.b < n)
seconds {t = t} {u} O n A =
    let e = four O n in
    ((arguments (rw (is-two t e.0) at A.0)).1, (arguments (rw (is-two u e.1) at A.1)).1)

module _ {d : ℕ → ℕ → ℕ} {t u : Fields} where
  pub says : Joined d (decode_term t) (decode_term u) → Input d t u
  says = go refl refl
    where
      go : {x y : Term} → decode_term t ≡ x → decode_term u ≡ y → Joined d x y → Input d t u
      go e f (one p) =
          let l = of_one t e in
          let r = of_one u f in
          record {
            alike = record { kind = omega arith; symbol = l.1 ∙ sym r.1; low = omega arith; high = omega arith };
            first = rw (l.2, r.2) p;
            second = λ h. absurd (omega arith);
          }
      go e f (two p q) =
          let l = of_two t e in
          let r = of_two u f in
          record {
            alike = record { kind = omega arith; symbol = l.1 ∙ sym r.1; low = omega arith; high = omega arith };
            first = rw (l.2, r.2) p;
            second = λ h. rw (l.3, r.3) q;
          }

  -- of one symbol, and the first arguments tied
  module _ (O : OneSymbol t u) (first : TiedAt d t.a u.a (pos 0)) where
    pub one_told : t.kind ≡ 3 → Decides (Joined d (decode_term t) (decode_term u)) (eqb t.kind 3)
    one_told e =
        record {
          yes = λ f. rw (is_one t e, is_one u (sym O.kind ∙ e), O.symbol) (one first);
          no = λ f. absurd (eqb-false _ _ f e);
        }

    pub two-told : {r : Bool} → (t.kind ≡ 3 → ⊥) → Decides (TiedAt d t.b u.b (pos 0)) r
        → Decides (Joined d (decode_term t) (decode_term u)) r
    two-told n =
        let e = four O n in
        told (λ s. rw (is-two t e.0, is-two u e.1, O.symbol) (two first s)) (λ J. (says J).second e.0)
