-- What a draft that is ready gives the calls that gather and write: what each of them asks.
-- Assumes nothing.
use Rattle.std.proofs.Common.{◌≡◌, ℕ, ◌+◌, ◌*◌, ◌%◌, ◌<◌, ◌≤◌, Bool, List, length, get_or, ap, arith}
use Rattle.closure.specs.Closed.{TiedAt}
use Rattle.cells.specs.Cells.{stride, cells, cell}
use Rattle.sheet.specs.declared.Entry.{Entry as Code-Entry}
use Rattle.sheet.specs.Says.{biased_says, entry_says}
use Rattle.sheet.specs.Sheet.{Entry, Sheet, count_terms, count_entries, entry_at}
use Rattle.settled.specs.Settled.{points}
use Rattle.layers.specs.Bounds.{bounds, from_at, to_at, Sound, Reachable}
use Rattle.layers.specs.declared.Bound.{Bound}
use Rattle.layers.proofs.Rests.{reachable, sound-fewer, way_back}
use Rattle.ties.specs.Ties.{Broken}
use Rattle.forest.specs.Labels.{Labelled}
use Rattle.needed.specs.Needed.{Gathered}
use Rattle.sketch.specs.Sketch.{place, walks_length}
use Rattle.drafted.specs.Ending.{NamesBelow, Legible}
use Rattle.drafted.proofs.Named.{few-ties, few-more-ties, name_below}
use Rattle.drafted.proofs.Readings.{ties-legible}
use Rattle.paper.specs.Written.{Nameable, Readable}
use Rattle.argued.specs.Draft.{Ready, Writable}

pub nameable : {t name : ℕ} → NamesBelow t name → Nameable t name
nameable N = record { known = N.known; earlier = N.earlier }

pub readable : {t listed : ℕ} {names walks : List ℕ} {at : ℕ} → listed ≤ length names → (at + 1) * place ≤ length walks →
    Legible t listed names walks at → Readable t names walks at
readable l full L = record {
  short = omega (arith, L.short);
  there = full;
  listed = λ x h. omega (arith, L.listed< x h);
  named = λ x h. nameable (L.named x h);
}

module _ {s : Sheet} {list : List Bound} {names ties labels best room : List ℕ} {m listed count put k : ℕ}
    (Y : Ready s list names ties labels best room m listed count put k) where
  pub few : count ≤ 128
  few = omega (arith, few-ties Y.formed Y.drafted, Y.formed.terms)

  -- marks for all ties that bounds name
  pub names-fit : (u b : ℕ) → 128 ≤ u → b < listed → 1024 ≤ get_or names b 0 → get_or names b 0 % 256 < u
  names-fit u b l h g = omega (arith, few, (name_below Y.formed Y.drafted b h).earlier g)

  -- what the memory of ties, marks and walks has to hold
  pub memory : (need : List Bool) (walks : List ℕ) → length need ≡ stride → length walks ≡ walks_length →
      (length ties ≡ stride) × (length labels ≡ cells) × (count ≤ count_terms s) × (count ≤ length need) × (walks_length ≤ length walks)
  memory need walks n w = (Y.all-ties, Y.all-labels, few-ties Y.formed Y.drafted, omega (arith, few, n), omega (arith, w))

  module _ {t : ℕ} (e : t ≡ count_terms s) where
    pub points-few : t + 1 ≤ stride
    points-few = omega (arith, Y.formed.terms)

    pub round-asks : put < listed → Sound (t + 1) (bounds (put + 1) list)
        × Reachable (t + 1) (bounds put list) (to_at list put) (from_at list put)
    round-asks l =
        rw e (
          sound-fewer (omega arith) Y.drafted.sound,
          way_back (points s) listed put list l Y.drafted.sound (cell best) Y.grew.exact (Y.grew.shut l),
        )

  -- what is gathered can be written
  pub writable : {walks walks' : List ℕ} {need need' : List Bool} → Gathered s list names ties count walks walks' need need' →
      walks_length ≤ length walks' → count ≤ length need' → Writable room ties names walks' need' k count
  writable {walks' = walks'} G full q = record {
    enough = Y.enough;
    few = Y.few;
    few-ties = few;
    all-ties = omega (arith, few, Y.all-ties);
    all-needed = q;
    readable = λ t l h g.
        let (there, back) = ties-legible Y.formed Y.drafted G full t l h g in
        (readable Y.all-names (omega (arith, few)) there, readable Y.all-names (omega (arith, few)) back);
  }

-- where the table has all bounds, and an entry on tied terms was read
module _ {s : Sheet} {list : List Bound} {names ties labels best room : List ℕ} {m listed count k : ℕ}
    (Y : Ready s list names ties labels best room m listed count listed k) (entry : Code-Entry) {x : ℕ}
    (E : entry_says entry ≡ entry_at s x) (x< : x < count_entries s) where
  pub left< : entry.a.0 < count_terms s
  left< = omega (arith, Y.formed.left x x<, ap (λ (y : Entry). y.a) E)

  pub right< : entry.b.0 < count_terms s
  right< = omega (arith, Y.formed.right x x<, ap (λ (y : Entry). y.b) E)

  pub on_tied : Broken (cell best) (entry_at s x) → TiedAt (cell best) entry.a.0 entry.b.0 (biased_says entry.c)
  on_tied B = (rw (← E) at B).tied

  -- so there are fewer ties than terms, where those don't have them in one group
  pub few-more : (cell labels count entry.a.0 ≡ cell labels count entry.b.0 → ⊥) → count < 128
  few-more apart = omega (arith, few-more-ties Y.formed Y.drafted left< right< apart, Y.formed.terms)

  module _ {t : ℕ} (e : t ≡ count_terms s) where
    pub labelled : Labelled (t + 1) ties labels count
    labelled = rw e Y.drafted.laid.labelled

    pub both-asks : Broken (cell best) (entry_at s x) → Sound (t + 1) (bounds listed list)
        × Reachable (t + 1) (bounds listed list) entry.a.0 entry.b.0
        × Reachable (t + 1) (bounds listed list) entry.b.0 entry.a.0
    both-asks B =
        let T = on_tied B in
        rw e (
          Y.drafted.sound,
          reachable _ _ (cell best) Y.grew.exact _ _ (omega (arith, left<)) (omega (arith, right<)) T.to.there,
          reachable _ _ (cell best) Y.grew.exact _ _ (omega (arith, right<)) (omega (arith, left<)) T.back.there,
        )
