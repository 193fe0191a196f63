-- Ties by their ranks in a list are ties by their new numbers, in the walks that name earlier ties alone.
-- Assumes nothing.
use Prim.Native.Nat.{ℕ, zero, suc, ◌+◌, ◌*◌, ◌/◌, ◌%◌, ◌≤◌, ◌<◌}
use mathlib.Core.Path.{◌≡◌, refl, ap, ap₂, ◌∙◌}
use mathlib.Core.Bool.{Bool, true, false}
use mathlib.Core.List.{List, [], ◌∷◌}
use lib.ListN.{length, get_or, set, drop, length-take}
use lib.Seq.{get_or-set_same, get_or-set_other, get_or-take, get_or-drop}
use native.Mathlib.Numerals.{add-one}
use native.Mathlib.Omega.{arith}
use borrow.Author.Count.{below_more}
use Rattle.order.specs.First.{Set}
use Rattle.reasons.specs.Step.{entry, tie, tie_back}
use Rattle.reasons.specs.Pruned.{rank, renamed_bound, renamed_walk, renamed}
use Rattle.reasons.proofs.Rank.{rank-kept, rank_left, rank-zero}
use Rattle.sketch.specs.Sketch.{kinds_of, bound_named, named, place, numbers_at, walk_at, how_of, left, right, tie_step, step_of}
use Rattle.paper.specs.Record.{step_bytes}
use Rattle.paper.specs.Written.{Appended, ranked_bound, ranked_walk, Ranked, Nameable, Readable}

pub rank-low : (keep : Set) (n : ℕ) → rank keep n ≤ n
rank-low keep zero = omega (arith, rank-zero keep)
rank-low keep (suc n) = go (rank-low keep n) (keep n) refl
  where
    go : rank keep n ≤ n → (t : Bool) → keep n ≡ t → rank keep (suc n) ≤ suc n
    go l true e = omega (arith, rank-kept keep n e)
    go l false e = omega (arith, rank_left keep n e)

-- the rank that a kept step makes, and one that isn't kept
pub rank-more : (keep : Set) (t : ℕ) {k : ℕ} → keep t ≡ true → k ≡ rank keep t → k + 1 ≡ rank keep (t + 1)
rank-more keep t e q = rw (add-one t, rank-kept keep t e) (omega arith)

pub rank_same : (keep : Set) (t : ℕ) {k : ℕ} → keep t ≡ false → k ≡ rank keep t → k ≡ rank keep (t + 1)
rank_same keep t e q = rw (add-one t, rank_left keep t e) q

pub ranked-none : (keep : Set) (ranks : List ℕ) → Ranked keep ranks 0
ranked-none keep ranks = record { at = λ u h. absurd (omega arith) }

-- one rank more
pub ranked-more : {keep : Set} {ranks : List ℕ} {t : ℕ} (k : ℕ) → t < length ranks → k ≡ rank keep t → Ranked keep ranks t →
    Ranked keep (set ranks t k) (t + 1)
ranked-more {keep} {ranks} {t} k l e R = record {
  at = below_more (λ u. get_or (set ranks t k) u 0 ≡ rank keep u) t
      (λ u h. get_or-set_other ranks t u k 0 (omega arith) ∙ R.at u h)
      (get_or-set_same ranks t k 0 l ∙ e);
}

module _ (keep : Set) (ranks : List ℕ) (t : ℕ) (R : Ranked keep ranks t) where
  kind-agrees : (k n : ℕ) → k < 6 → (4 ≤ k → n < t) →
      ranked_bound ranks (get_or (kinds_of n) k (entry 0)) ≡ renamed_bound keep (get_or (kinds_of n) k (entry 0))
  kind-agrees zero n l h = refl
  kind-agrees (suc zero) n l h = refl
  kind-agrees (suc (suc zero)) n l h = refl
  kind-agrees (suc (suc (suc zero))) n l h = refl
  kind-agrees (suc (suc (suc (suc zero)))) n l h = ap tie (R.at n (h (omega arith)))
  kind-agrees (suc (suc (suc (suc (suc zero))))) n l h = ap tie_back (R.at n (h (omega arith)))
  kind-agrees (suc (suc (suc (suc (suc (suc k)))))) n l h = absurd (omega arith)

  pub bound-agrees : (name : ℕ) → Nameable t name → ranked_bound ranks (bound_named name) ≡ renamed_bound keep (bound_named name)
  unfolding bound_named
  bound-agrees name N = kind-agrees (name / 256) (name % 256) (omega (arith, N.known)) (λ h. N.earlier (omega arith))

  walk-agrees : (names es : List ℕ) → ((x : ℕ) → x < length es → Nameable t (get_or names (get_or es x 0) 0)) →
      ranked_walk ranks (named names es) ≡ renamed_walk keep (named names es)
  unfolding named ranked_walk renamed_walk
  walk-agrees names [] N = refl
  walk-agrees names (e ∷ es) N =
      ap₂ ◌∷◌ (bound-agrees (get_or names e 0) (N 0 (omega arith))) (walk-agrees names es (λ x h. N (suc x) (omega arith)))

  pub place-agrees : (names walks : List ℕ) (at : ℕ) → Readable t names walks at →
      ranked_walk ranks (walk_at names walks at) ≡ renamed_walk keep (walk_at names walks at)
  place-agrees names walks at A = walk-agrees names (numbers_at walks at) (λ x h. one x (omega (arith, simp length-take at h)))
    where
      one : (x : ℕ) → x < get_or walks (at * place) 0 → Nameable t (get_or names (get_or (numbers_at walks at) x 0) 0)
      one x h =
          rw (get_or-take (get_or walks (at * place) 0) (drop (at * place + 1) walks) x 0 h, get_or-drop (at * place + 1) walks x 0) (A.named x h)

  step-agrees : (names walks : List ℕ) (at how a b : ℕ) → (0 < how → Readable t names walks at × Readable t names walks (at + 1)) →
      tie_step how a b (ranked_walk ranks (walk_at names walks at)) (ranked_walk ranks (walk_at names walks (at + 1)))
      ≡ renamed keep (tie_step how a b (walk_at names walks at) (walk_at names walks (at + 1)))
  unfolding tie_step
  step-agrees names walks at zero a b A = refl
  step-agrees names walks at (suc h) a b A =
      let (B, C) = A (omega arith) in
      rw (place-agrees names walks at B, place-agrees names walks (at + 1) C)

-- so the step of tie t that is written is the renamed one
pub tie-renamed : {old new : List ℕ} {from end : ℕ} (keep : Set) (ranks names ties walks : List ℕ) (t count : ℕ) → t < count → Ranked keep ranks count →
    (0 < how_of (get_or ties t 0) → Readable t names walks (2 * t) × Readable t names walks (2 * t + 1)) →
    Appended old new from end (step_bytes (tie_step (how_of (get_or ties t 0)) (left ties t) (right ties t)
    (ranked_walk ranks (walk_at names walks (2 * t))) (ranked_walk ranks (walk_at names walks (2 * t + 1))))) →
    Appended old new from end (step_bytes (renamed keep (step_of names ties walks t)))
tie-renamed keep ranks names ties walks t count l R A B =
    let earlier : Ranked keep ranks t = record { at = λ u h. R.at u (omega arith) } in
    rw (← step-agrees keep ranks t earlier names walks (2 * t) (how_of (get_or ties t 0)) (left ties t) (right ties t) A) B
