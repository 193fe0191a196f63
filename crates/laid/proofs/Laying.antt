-- Ties laid up to bound e: what the loop keeps, how it begins, and what it finds at bound e.
-- Assumes nothing.
use Prim.Native.Nat.{ℕ, ◌+◌, ◌*◌, ◌≤◌, ◌<◌}
use mathlib.Core.Path.{◌≡◌, refl, sym, ◌∙◌, ap}
use mathlib.Core.List.{List}
use lib.IntN.{pos}
use lib.ListN.{length, get_or, set, length-set}
use lib.Seq.{get_or-set_same, get_or-set_other}
use native.Mathlib.Omega.{arith}
use Rattle.std.proofs.Common.{lt_of_not-le}
use Rattle.std.proofs.lemmas.List.{get_or_past}
use Rattle.kind.specs.Code.{base}
use Rattle.kind.proofs.Kind.{kind-three, kind-inj}
use Rattle.closure.specs.Closed.{TiedAt}
use Rattle.sheet.specs.Sheet.{Sheet}
use Rattle.settled.specs.Settled.{points}
use Rattle.walked.specs.Borne.{Exact}
use Rattle.layers.specs.Bounds.{nowhere, bounds, code_at, Listed}
use Rattle.layers.specs.declared.Bound.{Bound}
use Rattle.sketch.specs.Sketch.{left, right}
use Rattle.forest.specs.Labels.{Begun}
use Rattle.forest.proofs.Rows.{labelled-begun}
use Rattle.grown.specs.Grown.{FunctionTie, FunctionTies}
use Rattle.laid.specs.Laid.{Laid}

-- what is laid up to bound e, and that each tie is one of every table over the first e bounds
pub record Laying (s : Sheet) (list : List Bound) (old names ties labels : List ℕ) (m e t : ℕ) : Type 0 where
  pub before : ℕ
  pub e-is : e ≡ m + 2 * before
  pub laid : Laid s list old names ties labels m e t
  pub tied : (u : ℕ) → u < t → (d : ℕ → ℕ → ℕ) → Exact (points s) (Listed (bounds e list)) d
      → TiedAt d (left ties u) (right ties u) (pos 0)

pub none_yet : {n : ℕ} {s : Sheet} {list : List Bound} {names ties labels labels' : List ℕ} {m : ℕ} → n ≡ points s → Begun n labels labels'
    → Laying s list names names ties labels' m m 0
none_yet same B =
    record {
      before = 0;
      e-is = omega arith;
      laid =
          record {
            labelled = labelled-begun (rw same at B);
            number = λ k. 0;
            number< = λ k l. absurd (omega arith);
            is-tie = λ k l. absurd (omega arith);
            of-functions = λ t l. absurd (omega arith);
            by-walks = λ t e l. absurd (omega arith);
            names-kept = λ e l. refl;
          };
      tied = λ u l. absurd (omega arith);
    }

-- the bounds' names
pub record Named (names names' : List ℕ) (e t : ℕ) : Type 0 where
  pub there : get_or names' e 0 ≡ 1024 + t
  pub back : get_or names' (e + 1) 0 ≡ 1280 + t
  pub kept : (k : ℕ) → k < e → get_or names' k 0 ≡ get_or names k 0

pub named : (names : List ℕ) {e t : ℕ} → e + 1 < length names → Named names (set (set names e (1024 + t)) (e + 1) (1280 + t)) e t
named names {e} {t} l =
    let named-there = set names e (1024 + t) in
    record {
      there = get_or-set_other named-there (e + 1) e (1280 + t) 0 (omega arith) ∙ get_or-set_same names e (1024 + t) 0 (omega arith);
      back = get_or-set_same named-there (e + 1) (1280 + t) 0 (simp length-set l);
      kept = λ k h. get_or-set_other named-there (e + 1) k (1280 + t) 0 (omega arith) ∙ get_or-set_other names e k (1024 + t) 0 (omega arith);
    }

-- the tie of functions at bound e, and that its other bound is listed too
module _ {s : Sheet} {list : List Bound} {old names ties labels : List ℕ} {m e t listed : ℕ} (L : Laying s list old names ties labels m e t)
    (T : FunctionTies s list m listed) (l : e < listed) where
  pub both-listed : e + 2 ≤ listed
  both-listed = omega (arith, L.e-is, T.listed-is)

  pub function-tie : FunctionTie s list e
  function-tie = rw L.e-is (T.tie L.before (omega (arith, L.e-is, T.listed-is)))

  -- a bound past the list's end has the code 0, which is another gap's
  pub bound-there : e < length list
  bound-there = lt_of_not-le (λ h.
      let past : code_at list e ≡ 0 = ap (λ (b : Bound). b.gap.0) (get_or_past list e nowhere h) in
      omega (arith, past, kind-inj (code_at list e) base (omega (arith, past)) (omega arith) (function-tie.gap ∙ sym kind-three.1)))
