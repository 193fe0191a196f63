-- A table of no bounds rests on none, one that a bound is put in rests on that too, and what a table rests on may be said otherwise.
-- Assumes nothing.
use Prim.Native.Nat.{ℕ, ◌≤◌, ◌<◌}
use mathlib.Core.Path.{◌≡◌}
use mathlib.Core.Logic.{inl, inr, ⊎_elim}
use Rattle.kind.specs.Code.{none, base, sum_of, Within}
use Rattle.kind.specs.Kind.{Kind, kind_of}
use Rattle.closure.specs.Closed.{RelaxedBy}
use Rattle.closure.specs.Walk.{Among}
use Rattle.closure.specs.Table.{step, Held, Table}
use Rattle.closure.proofs.Table as closure
use Rattle.closure.proofs.Walks.{reached-more, held-less}
use Rattle.walked.specs.Borne.{Exact, With}
use Rattle.walked.specs.Borne.With.{old, new}

pub fresh : (N : ℕ) (E : ℕ → ℕ → Kind → Type 0) (d : ℕ → ℕ → ℕ) → ((i j : ℕ) (g : Kind) → E i j g → ⊥) → Table N d
    → ((i : ℕ) → i < N → d i i ≡ base) → ((i j : ℕ) → i < N → j < N → (i ≡ j → ⊥) → d i j ≡ none) → Exact N E d
fresh N E d never T same apart =
    record {
      table = T;
      held = record { more = λ e. absurd (never _ _ _ e) };
      borne = record { walked = closure.stays N E d same apart };
    }

pub same-bounds : {E F : ℕ → ℕ → Kind → Type 0} {N : ℕ} {d : ℕ → ℕ → ℕ} → Among E F → Among F E → Exact N E d → Exact N F d
same-bounds A A' X =
    record {
      table = X.table;
      held = record { more = λ f. X.held.more (A'.more f) };
      borne = record { walked = λ i j p q. ⊎_elim (λ m. inl m) (λ r. inr (reached-more A r)) (X.borne.walked i j p q) };
    }

pub put-exact : (N : ℕ) (E : ℕ → ℕ → Kind → Type 0) (d relaxed : ℕ → ℕ → ℕ) (a b g : ℕ) → a < N → b < N → g < none → Within step g
    → base ≤ sum_of g (d b a) → RelaxedBy N d relaxed a b g → Exact N E d → Exact N (With E a b (kind_of g)) relaxed
put-exact N E d relaxed a b g a< b< g< near ok R X =
    record {
      table = closure.relaxed N d relaxed a b g a< b< g< near ok R X.table;
      held = record { more = held };
      borne =
          record {
            walked = closure.new-walked N d relaxed a b g a< b< g< near ok R X.table (record { more = λ e. old e }) new X.borne.walked;
          };
    }
  where
    held : {i j : ℕ} {h : Kind} → With E a b (kind_of g) i j h → Held N relaxed i j h
    held (old e) = held-less relaxed (closure.less N d relaxed a b g a< b< g< near ok R X.table) (X.held.more e)
    held new = closure.bound N d relaxed a b g a< b< g< near ok R X.table
