-- One pair of terms: the three answers of a pass over it, and that a table in which no pair is left to tie is saturated.
-- Assumes nothing.
use Prim.Native.Nat.{ℕ, ◌+◌, ◌<◌}
use mathlib.Core.Path.{◌≡◌, refl, sym, ◌∙◌}
use mathlib.Core.Bool.{Bool, true, false}
use mathlib.Core.Logic.{⊎_elim}
use mathlib.Core.List.{List}
use lib.IntN.{ℤ, pos}
use native.Mathlib.Nat.{eq-or-lt_of_le}
use native.Mathlib.Omega.{arith}
use Rattle.whole.proofs.Order.{order}
use Rattle.whole.proofs.Parts.{plus-zero}
use Rattle.closure.specs.Closed.{Closed, TiedAt}
use Rattle.closure.specs.Table.{reach}
use Rattle.cells.specs.Cells.{cell}
use Rattle.sheet.specs.Sheet.{Term, Sheet, count_terms, term_at, WellFormed}
use Rattle.meaning.specs.Meaning.{one, two}
use Rattle.meaning.specs.Decides.{Decides}
use Rattle.meaning.proofs.Meaning.{same-input-below}
use Rattle.settled.specs.Settled.{points, Saturated}
use Rattle.settled.proofs.Held.{tied-met}
use Rattle.steps.specs.Step.{Met, Stepped}
use Rattle.steps.specs.True.{TieTrue}
use Rattle.ties.proofs.Zero.{tied_back, tied-self}
use Rattle.joined.specs.Joined.{Joined, JoinedAt}
use Rattle.std.specs.Prelude.{Result, Ok}
use Rattle.pairs.specs.declared.Clash.{Clash}
use Rattle.pairs.specs.Passing.{FunctionsTrue, PairTied, AllTied, Passing, clash, tied, still, Tying, refused, fresh, already, put_of}
use Rattle.pairs.proofs.Total.{falls}

-- two points that weren't tied, and a step that ties them
pub tied-new : {n i j : ℕ} {old new : List ℕ} {r : Bool} → i < n → j < n → (TiedAt (cell old) i j (pos 0) → ⊥)
    → Stepped n (TieTrue i j (pos 0)) (λ k. TiedAt k i j (pos 0)) old new r → Tying n i j old new (put_of r)
tied-new {n} {i} {j} {old} {new} {r} i< j< not S = go r refl
  where
    go : (b : Bool) → r ≡ b → Tying n i j old new (put_of b)
    go true f =
        let G = S.went f in
        fresh (record { table = G.table; tighter = G.tighter; met = G.met; there = tt }) S.kept
        (falls n (cell old) (cell new) G.tighter i j i< j< not G.there)
    go false f = refused (S.refuted f) S.kept

module _ (s : Sheet) (W : WellFormed s) (i j : ℕ) (i< : i < count_terms s) (j< : j < i) (old : List ℕ) where
  pub not-joined : {same : Bool} → Decides (JoinedAt s (cell old) i j) same → same ≡ false → Passing s (PairTied s i j) old old (Ok false)
  not-joined D e = still (record { tied = λ q. absurd (D.no e q) })

  module _ (J : JoinedAt s (cell old) i j) where
    -- arguments that the table ties are equal in whatever meets it, so the functions' answers are
    asked : (D : ℕ) (v : ℕ → ℤ) → Met (points s) D (cell old) v → FunctionsTrue s D v → TieTrue i j (pos 0) D v
    asked D v M F =
        record {
          tied =
              F.functions i j i< (omega arith)
              (same-input-below i j (term_at s i) (term_at s j) (W.arguments i i<) (W.arguments j (omega arith))
              (λ a b p q t. tied-met (pos 0) t (M.met a b (omega arith) (omega arith)) (M.met b a (omega arith) (omega arith)) ∙ plus-zero (v b) D)
              J) ∙
              sym (plus-zero (v j) D);
        }

    pass_on : {new : List ℕ} {r : Result Bool Clash} → Tying (points s) i j old new r → Passing s (PairTied s i j) old new r
    pass_on (refused R k) = clash (λ D v D> M F. R D v D> M (asked D v M F)) k
    pass_on (fresh w k l) =
        tied (record { table = w.table; tighter = w.tighter; met = λ D v D> M F. w.met D v D> M (asked D v M F); there = tt }) k l
    pass_on (already t) = still (record { tied = λ q. t })

    -- m is what the code counted
    pub joined : {m : ℕ} {new : List ℕ} {r : Result Bool Clash} → m ≡ count_terms s → Tying (m + 1) i j old new r → Passing s (PairTied s i j) old new r
    joined m-is T = pass_on (rw m-is at T)

-- tied at 0 is tied at 0 from either side, and so are inputs
joined_back : {d : ℕ → ℕ → ℕ} {t u : Term} → Joined d t u → Joined d u t
joined_back (one p) = one (tied_back p)
joined_back (two p q) = two (tied_back p) (tied_back q)

pub saturated : (s : Sheet) (d : ℕ → ℕ → ℕ) → Closed (points s) (reach (points s)) d
    → AllTied s d → Saturated s d
saturated s d C E i j i< j< J =
    ⊎_elim
    (λ p. ⊎_elim (λ e. rw e (tied-self C (omega arith))) (λ l. tied_back (((E.each j j<).each i l).tied (joined_back J))) (eq-or-lt_of_le {n = i} {m = j} p))
    (λ l. ((E.each i i<).each j l).tied J)
    (order i j)
