-- What the bounds that are put in leave of the table, one after the other; and the table of no bounds, that they start from.
-- Assumes nothing.
use Prim.Native.Nat.{ℕ, ◌+◌, ◌<◌}
use mathlib.Core.Path.{◌≡◌, refl, sym, ◌∙◌, ap}
use mathlib.Core.List.{List}
use native.Mathlib.Decide.{dec_lt}
use native.Mathlib.Omega.{arith}
use Rattle.kind.specs.Kind.{Kind, kind_of}
use Rattle.walked.specs.Borne.{Exact, With}
use Rattle.walked.specs.Borne.With.{old, new}
use Rattle.walked.proofs.Bearing.{fresh, same-bounds, put-exact}
use Rattle.cells.specs.Cells.{cell}
use Rattle.cells.proofs.Keeps.{kept_on}
use Rattle.table.specs.Inserted.{Put, Started}
use Rattle.layers.specs.Bounds.{bounds, from_at, to_at, code_at, Sound, Listed}
use Rattle.layers.specs.declared.Bound.{Bound}
use Rattle.rests.specs.Rested.{Rested}

module _ (n : ℕ) (list : List Bound) where
  pub started : (before after : List ℕ) → Started n before after → Exact n (Listed (bounds 0 list)) (cell after)
  started before after S =
      fresh n (Listed (bounds 0 list)) (cell after) (λ i j g e. absurd (omega (arith, e.there))) S.table S.same S.apart

  -- the first k + 1 bounds are the first k and bound k
  module _ (k : ℕ) where
    to-listed : {i j : ℕ} {g : Kind} → With (Listed (bounds k list)) (from_at list k) (to_at list k) (kind_of (code_at list k)) i j g
        → Listed (bounds (k + 1) list) i j g
    to-listed (old e) =
        record { number = e.number; there = omega (arith, e.there); starts = e.starts; ends = e.ends; gap = e.gap }
    to-listed new = record { number = k; there = omega arith; starts = refl; ends = refl; gap = refl }

    of-listed : {i j : ℕ} {g : Kind} → Listed (bounds (k + 1) list) i j g
        → With (Listed (bounds k list)) (from_at list k) (to_at list k) (kind_of (code_at list k)) i j g
    of-listed {i} {j} {g} e = go (dec_lt e.number k)
      where
        go : Dec (e.number < k) → With (Listed (bounds k list)) (from_at list k) (to_at list k) (kind_of (code_at list k)) i j g
        go (yes l) = old (record { number = e.number; there = l; starts = e.starts; ends = e.ends; gap = e.gap })
        go (no l) =
            let last : e.number ≡ k = omega (arith, e.there) in
            let from_is = sym e.starts ∙ ap (λ (x : ℕ). from_at list x) last in
            let to_is = sym e.ends ∙ ap (λ (x : ℕ). to_at list x) last in
            let gap_is = sym e.gap ∙ ap (λ (x : ℕ). kind_of (code_at list x)) last in
            rw (from_is, to_is, gap_is) new

  module _ (m start k : ℕ) (before d after : List ℕ) (k< : k < m) (S : Sound n (bounds m list))
      (R : Rested n k list start before d k) where
    pub one_more : Put n d after (from_at list k) (to_at list k) (code_at list k) → Rested n (k + 1) list start before after (k + 1)
    one_more P =
        record {
          at_least = omega (arith, R.at_least);
          at-most = omega arith;
          exact =
              same-bounds (record { more = to-listed k }) (record { more = of-listed k })
              (put-exact n (Listed (bounds k list)) (cell d) (cell after) _ _ _ (S.from< k k<) (S.to< k k<) (S.there k k<) (S.near k k<)
              P.not-under P.relaxed R.exact);
          shut = λ l. absurd (omega arith);
          kept = kept_on R.kept P.kept;
          tighter = λ i j p q. omega (arith, P.relaxed.at i j p q, R.tighter i j p q);
        }
