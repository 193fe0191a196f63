-- Terms that have one input stand together: what term i is paired with, and what is listed once it is in.
-- Assumes nothing.
use Prim.Native.Nat.{ℕ, ◌+◌, ◌*◌, ◌-◌, ◌≤◌, ◌<◌}
use mathlib.Core.Path.{◌≡◌, ◌∙◌}
use mathlib.Core.Logic.{⊎_elim}
use mathlib.Core.List.{List}
use lib.ListN.{get_or}
use native.Mathlib.Omega.{arith}
use borrow.Author.Count.{below_more}
use Rattle.whole.proofs.Order.{order}
use Rattle.closure.specs.Closed.{Closed}
use Rattle.sheet.specs.Sheet.{Sheet, WellFormed, count_terms, term_at}
use Rattle.sheet.proofs.Below.{arguments-wider}
use Rattle.settled.specs.Settled.{points}
use Rattle.sorted.specs.Inserted.{Inserted, FirstFrom}
use Rattle.roots.specs.Keyed.{Keyed}
use Rattle.roots.proofs.Roots.{keyless, one_key}
use Rattle.joined.specs.Joined.{Joined}
use Rattle.pairs.specs.Passing.{PairTied, RowTied, EachTied}
use Rattle.groups.specs.Listed.{ListedAt, Listed, GroupTied, TermPassed, KeyPut}

-- the pairs of a group, from the first place on whose key isn't below the least
module _ {s : Sheet} {i : ℕ} {keys : List ℕ} {least : ℕ} where
  pub none-paired : {m place : ℕ} → FirstFrom m keys least place → (d : ℕ → ℕ → ℕ) → GroupTied s i keys least place d
  none-paired F d = record { each = λ q l h. absurd (omega (arith, F.below q l)) }

  pub one-paired : {q : ℕ} {d : ℕ → ℕ → ℕ} → GroupTied s i keys least q d → PairTied s i (get_or keys q 0 - least) d → GroupTied s i keys least (q + 1) d
  one-paired {q} G P = record { each = below_more _ q G.each (λ h. P) }

-- term i's key put in among those of the terms before it
module _ {s : Sheet} {i : ℕ} {old new : List ℕ} {key place : ℕ} {d : ℕ → ℕ → ℕ}
    (K : Keyed d (term_at s i) key) (I : Inserted i old new (256 * key + i) place) where
  still-listed : (j : ℕ) → ListedAt s i old j d → ListedAt s (i + 1) new j d
  still-listed j L =
      ⊎_elim
      (λ h.
      record {
        key = L.key;
        keyed = L.keyed;
        place = L.place + 1;
        within = omega (arith, L.within);
        there = (I.higher L.place h L.within).0 ∙ L.there;
      })
      (λ h.
      record {
        key = L.key;
        keyed = L.keyed;
        place = L.place;
        within = omega (arith, L.within);
        there = (I.lower L.place h).0 ∙ L.there;
      })
      (order place L.place)

  pub one-listed : Listed s i old d → Listed s (i + 1) new d
  one-listed L = record {
    listed = below_more _ i (λ j l. still-listed j (L.listed j l))
        (record { key = key; keyed = K; place = place; within = omega (arith, I.within); there = I.here });
  }

  -- a term that has i's input has its key, and a lower number: it stands below i's place
  paired : {R : ℕ} → WellFormed s → Closed (points s) R d → i < count_terms s → GroupTied s i new (256 * key) place d
      → (j : ℕ) → j < i → ListedAt s i old j d → Joined d (term_at s i) (term_at s j) → PairTied s i j d
  paired W C i< G j j< L J =
      let k : key ≡ L.key =
      one_key C (arguments-wider (omega arith) (W.arguments i i<)) (arguments-wider (omega arith) (W.arguments j (omega arith))) J K L.keyed in
      ⊎_elim
      (λ h. absurd (omega (arith, I.higher L.place h L.within, L.there)))
      (λ h.
      let e : get_or new L.place 0 - 256 * key ≡ j = omega (arith, I.lower L.place h, L.there) in
      let least : 256 * key ≤ get_or new L.place 0 = omega (arith, I.lower L.place h, L.there) in
      let pair : PairTied s i (get_or new L.place 0 - 256 * key) d = G.each L.place h least in
      rw e at pair)
      (order place L.place)

  pub group-passed : {R : ℕ} → WellFormed s → Closed (points s) R d → i < count_terms s → GroupTied s i new (256 * key) place d
      → TermPassed s i old d
  group-passed W C i< G = record { row = λ L. record { each = λ j j<. record { tied = λ J. (paired W C i< G j j< (L.listed j j<) J).tied J } } }

-- a term without an input has nothing to be tied by
pub none_passed : {s : Sheet} {i key : ℕ} {keys : List ℕ} {d : ℕ → ℕ → ℕ} → Keyed d (term_at s i) key → key ≡ 0 → TermPassed s i keys d
none_passed K e = record { row = λ L. record { each = λ j j<. record { tied = λ J. absurd (keyless (rw e at K) J) } } }

-- the first m terms: each is paired with those before it, and its key listed
pub record TermsPassed (s : Sheet) (m : ℕ) (keys : List ℕ) (d : ℕ → ℕ → ℕ) : Type 0 where
  pub rows : EachTied (RowTied s) m d
  pub listed : Listed s m keys d

pub no-terms : {s : Sheet} {keys : List ℕ} {d : ℕ → ℕ → ℕ} → TermsPassed s 0 keys d
no-terms = record { rows = record { each = λ k l. absurd (omega arith) }; listed = record { listed = λ j l. absurd (omega arith) } }

pub one-term : {s : Sheet} {i : ℕ} {old new : List ℕ} {d : ℕ → ℕ → ℕ} → KeyPut s i old new d → TermsPassed s i old d → TermPassed s i old d
    → TermsPassed s (i + 1) new d
one-term {s} {i} {d = d} K A P =
    record {
      rows = record { each = below_more (λ k. RowTied s k d) i A.rows.each (P.row A.listed) };
      listed = one-listed K.keyed K.put A.listed;
    }
