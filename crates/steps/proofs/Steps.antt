-- A bound put in is a step, steps follow one another, and what a table holds it still holds when it is tighter.
-- Assumes nothing.
use Prim.Native.Nat.{ℕ, ◌+◌, ◌*◌, ◌/◌, ◌%◌, ◌≤◌, ◌<◌}
use mathlib.Core.Path.{◌≡◌, refl, sym, ap}
use mathlib.Core.Bool.{Bool, true, false, true≢false}
use mathlib.Core.List.{List}
use lib.IntN.{ℤ}
use native.Mathlib.Omega.{arith}
use Rattle.whole.specs.Whole.{plus, minus}
use Rattle.kind.specs.Code.{none, half, sum_of, Within}
use Rattle.kind.specs.Meets.{Meets}
use Rattle.kind.proofs.Codes.{addable, sum-within}
use Rattle.kind.proofs.Flat.{meets}
use Rattle.kind.proofs.Laws.{meets-sum, meets-tighter, under_none}
use Rattle.closure.specs.Closed.{AtMost, Below, TiedAt}
use Rattle.closure.specs.Table.{Table, step, reach}
use Rattle.closure.proofs.Kept.{relaxed-holds}
use Rattle.cells.specs.Cells.{cell, Kept}
use Rattle.cells.proofs.Keeps.{kept-all, kept_on}
use Rattle.table.specs.Inserted.{Inserted}
use Rattle.sheet.specs.Sheet.{Term, Relation, equal, unequal, at_most, less, Entry, ArgumentsBelow, of-unknown, of_number, of_shift, of-apply, of-apply2}
use Rattle.settled.specs.Settled.{TermHeld, BoundHeld, EntryHeld}
use Rattle.steps.specs.Step.{Met, Went, Stepped, Weak, Strict}

-- what a step asks of levels
abbrev pub Asks : Type 1
Asks = ℕ → (ℕ → ℤ) → Type 0

-- what it leaves a table to hold
abbrev pub Leaves : Type 1
Leaves = (ℕ → ℕ → ℕ) → Type 0

-- e is as tight as d or tighter
pub record Tighter (n : ℕ) (d e : ℕ → ℕ → ℕ) : Type 0 where
  pub at : (i j : ℕ) → i < n → j < n → e i j ≤ d i j

-- a bound put in
module _ (n : ℕ) (old new : List ℕ) (a b g : ℕ) (r : Bool) (a< : a < n) (b< : b < n) (g< : g < none) (near : Within step g)
    (T : Table n (cell old)) where
  -- the levels meet the sum of three that relaxes a cell
  met : (D : ℕ) (v : ℕ → ℤ) (i j : ℕ) → i < n → j < n → Met n D (cell old) v → Meets D g (v a) (v b)
      → Meets D (sum_of (sum_of (cell old i a) g) (cell old b j)) (v i) (v j)
  met D v i j i< j< M q =
      let C = T.closed in
      meets-sum
      (addable (reach n + step) (reach n) _ _ (omega (arith, C.small))
      (sum-within (reach n) step _ _ (omega (arith, C.small)) (C.range i a i< a<) near) (C.range b j b< j<)).low
      (meets-sum (addable (reach n) step _ _ (omega (arith, C.small)) (C.range i a i< a<) near).low (M.met i a i< a<) q)
      (M.met b j b< j<)

  pub stepped : Inserted n old new a b g r → Stepped n (λ D v. Meets D g (v a) (v b)) (λ d. d a b ≤ g) old new r
  stepped I =
      record {
        went = λ e.
            let P = I.put e in
            record {
              table = P.table;
              tighter = λ i j i< j<. omega (arith, P.relaxed.at i j i< j<);
              met = λ D v D> M q.
                  record {
                    met = λ i j i< j<. rw (P.relaxed.at i j i< j<) (meets-tighter _ _ (M.met i j i< j<) (met D v i j i< j< M q));
                  };
              there = relaxed-holds n (reach n) (cell old) (cell new) a b g a< b< (omega arith) P.relaxed T.closed;
            };
        refuted = λ e D v D> M q.
            let C = T.closed in
            under_none D> (I.shut e).under
            (meets-sum (addable step (reach n) _ _ (omega (arith, C.small)) near (C.range b a b< a<)).low q (M.met b a b< a<));
        kept = go r I;
      }
    where
      go : (r : Bool) → Inserted n old new a b g r → Kept n old new
      go true I = (I.put refl).kept
      go false I = rw (I.shut refl).same (kept-all n old)

-- the same step told otherwise: asked of fewer levels, and leaving less
pub changed : {n : ℕ} {Q Q' : Asks} {P P' : Leaves} {old new : List ℕ} {r : Bool} → ((D : ℕ) (v : ℕ → ℤ) → Q' D v → Q D v)
    → ((d : ℕ → ℕ → ℕ) → P d → P' d) → Stepped n Q P old new r → Stepped n Q' P' old new r
changed asks leaves S =
    record {
      went = λ e.
          let W = S.went e in
          record { table = W.table; tighter = W.tighter; met = λ D v D> M q. W.met D v D> M (asks D v q); there = leaves _ W.there };
      refuted = λ e D v D> M q. S.refuted e D v D> M (asks D v q);
      kept = S.kept;
    }

-- a refusal shows the same, whatever the table was to hold
pub refused : {n : ℕ} {Q : Asks} {P P' : Leaves} {old new : List ℕ} {r : Bool} → r ≡ false → Stepped n Q P old new r
    → Stepped n Q P' old new false
refused e S = record { went = λ f. absurd (true≢false (sym f)); refuted = λ f. S.refuted e; kept = S.kept }

-- no step yet
pub went-none : {n : ℕ} {Q : Asks} {P : Leaves} {old : List ℕ} → Table n (cell old) → P (cell old) → Went n Q P old old
went-none T p = record { table = T; tighter = λ i j i< j<. omega arith; met = λ D v D> M q. M; there = p }

-- all steps done
pub arrived : {n : ℕ} {Q : Asks} {P : Leaves} {old new : List ℕ} → Kept n old new → Went n Q P old new → Stepped n Q P old new true
arrived K W = record { went = λ e. W; refuted = λ e. absurd (true≢false e); kept = K }

pub stayed : {n : ℕ} {Q : Asks} {P : Leaves} {old : List ℕ} → Table n (cell old) → P (cell old) → Stepped n Q P old old true
stayed T p = arrived (kept-all _ _) (went-none T p)

-- one more step
pub followed : {n : ℕ} {Q Q' Q'' : Asks} {P P' P'' : Leaves} {old mid new : List ℕ} {r : Bool}
    → ((D : ℕ) (v : ℕ → ℤ) → Q'' D v → Q D v) → ((D : ℕ) (v : ℕ → ℤ) → Q'' D v → Q' D v)
    → ((d e : ℕ → ℕ → ℕ) → Tighter n d e → P d → P' e → P'' e)
    → Kept n old mid → Went n Q P old mid → Stepped n Q' P' mid new r → Stepped n Q'' P'' old new r
followed first second both K W S =
    record {
      went = λ e.
          let X = S.went e in
          record {
            table = X.table;
            tighter = λ i j i< j<. omega (arith, W.tighter i j i< j<, X.tighter i j i< j<);
            met = λ D v D> M q. X.met D v D> (W.met D v D> M (first D v q)) (second D v q);
            there = both _ _ (record { at = X.tighter }) W.there X.there;
          };
      refuted = λ e D v D> M q. S.refuted e D v D> (W.met D v D> M (first D v q)) (second D v q);
      kept = kept_on K S.kept;
    }

-- what a table holds, a tighter one does
module _ {n : ℕ} {d e : ℕ → ℕ → ℕ} (t : Tighter n d e) where
  pub at-most-tighter : {i j up down : ℕ} → i < n → j < n → AtMost d i j up down → AtMost e i j up down
  at-most-tighter {i} {j} i< j< h = let l = t.at i j i< j< in record { there = omega arith; bound = omega arith }

  pub below-tighter : {i j up down : ℕ} → i < n → j < n → Below d i j up down → Below e i j up down
  below-tighter {i} {j} i< j< h = let l = t.at i j i< j< in record { there = omega arith; bound = omega arith }

  pub tied-tighter : {i j : ℕ} {c : ℤ} → i < n → j < n → TiedAt d i j c → TiedAt e i j c
  tied-tighter i< j< h = record { to = at-most-tighter i< j< h.to; back = at-most-tighter j< i< h.back }

  pub term-tighter : {z i : ℕ} {s : Term} → z < n → i < n → ArgumentsBelow i s → TermHeld d z i s → TermHeld e z i s
  term-tighter z< i< of-unknown h = h
  term-tighter z< i< of_number h = tied-tighter i< z< h
  term-tighter z< i< (of_shift a<) h = tied-tighter i< (omega arith) h
  term-tighter z< i< (of-apply a<) h = h
  term-tighter z< i< (of-apply2 a< b<) h = h

  pub entry-tighter : (x : Entry) → x.a < n → x.b < n → EntryHeld d x → EntryHeld e x
  entry-tighter x a< b< = go x.relation
    where
      go : (r : Relation) → BoundHeld d r x.a x.b x.c → BoundHeld e r x.a x.b x.c
      go equal h = tied-tighter a< b< h
      go unequal h = h
      go at_most h = at-most-tighter a< b< h
      go less h = below-tighter a< b< h

-- codes of the bound up - down
module _ {g up down : ℕ} where
  pub weak-met : {D : ℕ} {x y : ℤ} → Weak g up down → plus x + minus y + down * D ≤ plus y + minus x + up * D → Meets D g x y
  weak-met {D} w h =
      let halves : (g + 1) / 2 + down ≡ half + up = omega arith in
      let even : g % 2 ≡ 0 = omega arith in
      meets λ _. record { line = omega (arith, ap (λ (k : ℕ). k * D) halves) }

  pub strict-met : {D : ℕ} {x y : ℤ} → Strict g up down → plus x + minus y + down * D < plus y + minus x + up * D → Meets D g x y
  strict-met {D} w h =
      let halves : (g + 1) / 2 + down ≡ half + up = omega arith in
      let odd : g % 2 ≡ 1 = omega arith in
      meets λ _. record { line = omega (arith, ap (λ (k : ℕ). k * D) halves) }

  -- the table holds the bound, however its number is split into up and down
  pub weak-held : {d : ℕ → ℕ → ℕ} {i j up' down' : ℕ} → Weak g up down → up + down' ≡ up' + down → d i j ≤ g → AtMost d i j up' down'
  weak-held w e h = record { there = omega arith; bound = omega arith }

  pub strict-held : {d : ℕ → ℕ → ℕ} {i j up' down' : ℕ} → Strict g up down → up + down' ≡ up' + down → d i j ≤ g → Below d i j up' down'
  strict-held w e h = record { there = omega arith; bound = omega arith }
