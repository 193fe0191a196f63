-- What is gathered and written closes every list that this is a draft of, with none to spare.
-- Assumes nothing.
use Rattle.std.proofs.Common.{◌≡◌, ℕ, ◌+◌, ◌*◌, ◌%◌, ◌^◌, ◌<◌, ◌≤◌, Bool, true, false, ◌⊎◌, List, length, get_or, set, ℤ, pos, negsuc, sym, refl, ap, ◌∙◌, inl, inr, arith, length-set, get_or-set_other, get_or-set_same}
use lib.IntN.{sub_ℕ}
use native.Mathlib.Decide.{dec_lt}
use Rattle.big.specs.Big.{signed_of}
use Rattle.big.proofs.Bytes.{signed-complement, complement-difference}
use Rattle.whole.specs.Whole.{plus, minus}
use Rattle.whole.proofs.Parts.{sub_parts}
use Rattle.cells.specs.Cells.{cell}
use Rattle.order.specs.First.{Set, marked}
use Rattle.sheet.specs.Limits.{max_terms}
use Rattle.sheet.specs.declared.Entry.{Entry as Code-Entry}
use Rattle.sheet.specs.Says.{biased_says, entry_says}
use Rattle.sheet.specs.Sheet.{Entry, Sheet, count_terms, count_entries, entry_at}
use Rattle.ties.specs.Ties.{Broken}
use Rattle.layers.specs.Bounds.{bounds}
use Rattle.layers.specs.declared.Bound.{Bound}
use Rattle.reasons.specs.Step.{Step}
use Rattle.reasons.specs.Pruned.{pruned, Prunable}
use Rattle.reasons.proofs.Pruned.{pruned-closes, pruned-spare}
use Rattle.sketch.specs.Sketch.{place, ending, walks_length}
use Rattle.forest.specs.Labels.{PathMarked}
use Rattle.needed.specs.Needed.{FoundBoth, FoundRound, Gathered}
use Rattle.drafted.specs.Drafted.{Drafted}
use Rattle.drafted.specs.Ending.{round_steps, path_steps, tie_steps, BrokenEntry}
use Rattle.drafted.proofs.Ready.{behind-none, behind_more}
use Rattle.drafted.proofs.Endings.{round-prunable, path-prunable, tie-prunable}
use Rattle.drafted.proofs.Readings.{round-legible, tie-legible}
use Rattle.paper.specs.Written.{Readable}
use Rattle.argued.specs.Draft.{Ready}
use Rattle.argued.specs.Argued.{StepsWritten, Closed}
use Rattle.argued.proofs.Asked.{readable, on_tied}

closed : {s : Sheet} {S keep : Set} {steps : List Step} {last k : ℕ} {old new : List ℕ} {end : ℕ} → Prunable s S steps last keep →
    StepsWritten k (pruned keep steps) old new end → Closed s S k old new end
closed P w = record { steps = _; last = _; closes = pruned-closes P; spare = pruned-spare P; written = w }

module _ {s : Sheet} {list : List Bound} {names ties labels best room : List ℕ} {m listed count put k : ℕ}
    (Y : Ready s list names ties labels best room m listed count put k) {t : ℕ} (e : t ≡ count_terms s) where
  abbrev DraftOf : Set → Type 0
  DraftOf S = Drafted s S list names ties labels m listed count

  -- bound `put` closes a walk
  module _ {w walks walks' : List ℕ} {before need₀ need' : List Bool}
      (F : FoundRound (t + 1) (bounds put list) names put ending w walks before need₀)
      (G : Gathered s list names ties count walks walks' (set need₀ count true) need') (l : put < listed) (c : count < length need₀)
      (same : length walks' ≡ length walks) where
    pub round-marked : marked need' count ≡ true
    round-marked = G.stays count (get_or-set_same need₀ count true false c)

    pub round-readable : walks_length ≤ length walks' → Readable count names walks' ending × (get_or walks' (ending * place) 0 ≤ max_terms)
    round-readable full =
        let L = round-legible Y.formed Y.drafted G full put l (rw e at F) same in
        (readable Y.all-names (omega arith) L, omega (arith, L.short))

    pub round-closes : {old new : List ℕ} {end : ℕ} → ((u : ℕ) → marked before u ≡ true → ⊥) →
        StepsWritten k (pruned (marked need') (round_steps list names ties walks' count put)) old new end → (S : Set) → DraftOf S → Closed s S k old new end
    round-closes none W S D =
        closed (round-prunable Y.formed D G put l Y.grew.exact (Y.grew.shut l) (rw e at F) none
        (behind_more count (omega arith) behind-none) (get_or-set_same need₀ count true false c) same) W

-- c in 8 bytes, as code without signed numbers makes it
small : (v : ℕ) (n : ℤ) → v < 65536 → plus n + 32768 ≡ v + minus n → (2 * plus n < 256 ^ 8) × (2 * minus n ≤ 256 ^ 8)
small v (pos n) l e = (omega arith, omega arith)
small v (negsuc n) l e = (omega arith, omega arith)

signed-c : (r v : ℕ) → r < 2 ^ 64 → v < 65536 → (r + 32768) % 2 ^ 64 ≡ v → signed_of 8 r ≡ sub_ℕ v 32768
signed-c r v r< v< e =
    let (p, q) = small v (sub_ℕ v 32768) v< (sub_parts v 32768) in
    ap (signed_of 8) (complement-difference 8 r v 32768 (sub_ℕ v 32768) (sub_parts v 32768) r< (go (dec_lt (r + 32768) (2 ^ 64))))
    ∙ signed-complement 8 (sub_ℕ v 32768) p q
  where
    go : Dec (r + 32768 < 2 ^ 64) → (r + 32768 ≡ v) ⊎ (r + 32768 ≡ v + 256 ^ 8)
    go (yes l) = inl (omega arith)
    go (no l) = inr (omega arith)

module _ {s : Sheet} {list : List Bound} {names ties labels best room : List ℕ} {m listed count k : ℕ}
    (Y : Ready s list names ties labels best room m listed count listed k) (entry : Code-Entry) {x : ℕ}
    (E : entry_says entry ≡ entry_at s x) (x< : x < count_entries s) (B : Broken (cell best) (entry_at s x)) where
  broken-entry : (S : Set) → S x ≡ true → BrokenEntry s S (cell best) x entry.a.0 entry.b.0 (biased_says entry.c)
  broken-entry S h = record {
    there = x<;
    on_list = h;
    is-unequal = B.is-unequal;
    a-is = sym (ap (λ (y : Entry). y.a) E);
    b-is = sym (ap (λ (y : Entry). y.b) E);
    c-is = sym (ap (λ (y : Entry). y.c) E);
    tied = on_tied Y entry E x< B;
  }

  -- it closes by the path between its terms
  module _ {walks walks' : List ℕ} {before need₀ need' : List Bool} (P : PathMarked ties count entry.a.0 entry.b.0 before need₀)
      (G : Gathered s list names ties count walks walks' (set need₀ count true) need') (c : count < length need₀) where
    pub path-marked : marked need' count ≡ true
    path-marked = G.stays count (get_or-set_same need₀ count true false c)

    pub path-closes : {old new : List ℕ} {end : ℕ} → ((u : ℕ) → marked before u ≡ true → ⊥) →
        StepsWritten k (pruned (marked need') (path_steps names ties walks' count x)) old new end →
        (S : Set) → S x ≡ true → Drafted s S list names ties labels m listed count → Closed s S k old new end
    path-closes none W S h D =
        closed (path-prunable Y.formed D G x Y.grew.exact (Y.grew.saturated refl) (broken-entry S h) P none
        (behind_more count (omega arith) behind-none) (get_or-set_same need₀ count true false c)) W

  -- or behind a tie of them
  module _ {t : ℕ} (e : t ≡ count_terms s) {w walks walks' : List ℕ} {before need₀ need' : List Bool}
      (F : FoundBoth (t + 1) (bounds listed list) entry.a.0 entry.b.0 names ending w walks before need₀)
      (G : Gathered s list names ties count walks walks' (set (set need₀ count true) (count + 1) true) need')
      (c : count + 1 < length need₀) (same : length walks' ≡ length walks) where
    first-marked : marked (set (set need₀ count true) (count + 1) true) count ≡ true
    first-marked = get_or-set_other (set need₀ count true) (count + 1) count true false (omega arith) ∙ get_or-set_same need₀ count true false (omega arith)

    second-marked : marked (set (set need₀ count true) (count + 1) true) (count + 1) ≡ true
    second-marked = get_or-set_same (set need₀ count true) (count + 1) true false (simp length-set c)

    pub tie-marked : (marked need' count ≡ true) × (marked need' (count + 1) ≡ true)
    tie-marked = (G.stays count first-marked, G.stays (count + 1) second-marked)

    pub tie-readable : walks_length ≤ length walks' → Readable count names walks' ending × Readable count names walks' (ending + 1)
    tie-readable full =
        let (there, back) = tie-legible Y.formed Y.drafted G full (rw e at F) same in
        (readable Y.all-names (omega arith) there, readable Y.all-names (omega arith) back)

    pub tie-closes : {old new : List ℕ} {end : ℕ} (r : ℕ) → r < 2 ^ 64 → entry.c.0 < 65536 → (r + 32768) % 2 ^ 64 ≡ entry.c.0 →
        (cell labels count entry.a.0 ≡ cell labels count entry.b.0 → ⊥) → ((u : ℕ) → marked before u ≡ true → ⊥) →
        StepsWritten k (pruned (marked need') (tie_steps names ties walks' count entry.a.0 entry.b.0 (signed_of 8 r) x)) old new end →
        (S : Set) → S x ≡ true → Drafted s S list names ties labels m listed count → Closed s S k old new end
    tie-closes r r< c< q far none W S h D =
        closed (tie-prunable Y.formed D G x Y.grew.exact (broken-entry S h) far (rw e at F) none
        (behind_more (count + 1) (omega arith) (behind_more count (omega arith) behind-none)) first-marked second-marked same)
        (rw (signed-c r entry.c.0 r< c< q) at W)
