-- Lists of bounds that are the same up to a place: a table that rests on those rests on either's, and ties of functions there stand.
-- Assumes nothing.
use Prim.Native.Nat.{ℕ, ◌+◌, ◌≤◌}
use mathlib.Core.Path.{refl, sym, ap, ◌∙◌}
use mathlib.Core.List.{List}
use lib.IntN.{ℤ}
use native.Mathlib.Omega.{arith}
use Rattle.kind.specs.Kind.{kind_of}
use Rattle.sheet.specs.Sheet.{Sheet}
use Rattle.closure.specs.Walk.{Among}
use Rattle.walked.specs.Borne.{Exact}
use Rattle.walked.proofs.Bearing.{same-bounds}
use Rattle.layers.specs.Bounds.{bounds, Listed}
use Rattle.layers.specs.declared.Bound.{Bound}
use Rattle.layers.proofs.Same.{same-from, same-to, same-code}
use Rattle.jotted.specs.Jotted.{Both}
use Rattle.grown.specs.Grown.{FunctionTie, Front}

pub front-all : {m : ℕ} {list : List Bound} → Front m list list
front-all = record { bounds-kept = λ k l. refl }

-- nothing before the place where two bounds are put
pub front-both : {m a b : ℕ} {c : ℤ} {list list' : List Bound} → Both list list' m a b c
    → Front m list list'
front-both B = record { bounds-kept = λ k l. B.back.bounds-kept k (λ e. omega arith) ∙ B.there.bounds-kept k (λ e. omega arith) }

module _ {m : ℕ} {list list' : List Bound} (F : Front m list list') where
  pub front_less : {k : ℕ} → k ≤ m → Front k list list'
  front_less h = record { bounds-kept = λ k l. F.bounds-kept k (omega arith) }

  pub front-on : {list'' : List Bound} → Front m list' list'' → Front m list list''
  front-on G = record { bounds-kept = λ k l. G.bounds-kept k l ∙ F.bounds-kept k l }

  front-back : Front m list' list
  front-back = record { bounds-kept = λ k l. sym (F.bounds-kept k l) }

  pub among : Among (Listed (bounds m list)) (Listed (bounds m list'))
  among =
      record {
        more = λ e.
            record {
              number = e.number;
              there = e.there;
              starts = same-from (F.bounds-kept _ e.there) ∙ e.starts;
              ends = same-to (F.bounds-kept _ e.there) ∙ e.ends;
              gap = ap kind_of (same-code (F.bounds-kept _ e.there)) ∙ e.gap;
            };
      }

pub exact-front : {n m : ℕ} {list list' : List Bound} {d : ℕ → ℕ → ℕ} → Front m list list'
    → Exact n (Listed (bounds m list)) d → Exact n (Listed (bounds m list')) d
exact-front F X = same-bounds (among F) (among (front-back F)) X

pub tie-front : {s : Sheet} {e : ℕ} {list list' : List Bound} → Front (e + 2) list list'
    → FunctionTie s list e → FunctionTie s list' e
tie-front {e = e} F T =
    let kept = F.bounds-kept e (omega arith) in
    let behind = F.bounds-kept (e + 1) (omega arith) in
    let f = same-from kept in
    let t = same-to kept in
    record {
      d = T.d;
      exact = exact-front (front_less F (omega arith)) T.exact;
      left< = rw f T.left<;
      right< = rw t T.right<;
      joined = rw (f, t) T.joined;
      untied = rw (f, t) T.untied;
      gap = ap kind_of (same-code kept) ∙ T.gap;
      back_from = same-from behind ∙ T.back_from ∙ sym t;
      back_to = same-to behind ∙ T.back_to ∙ sym f;
      back-gap = ap kind_of (same-code behind) ∙ T.back-gap;
    }
