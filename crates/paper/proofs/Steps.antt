-- A step is its head and its walks, one behind the other, and is no longer than the longest.
-- Assumes nothing.
use Prim.Native.Nat.{ℕ, zero, suc, ◌+◌, ◌*◌, ◌≤◌, ◌<◌}
use mathlib.Core.Path.{◌≡◌}
use mathlib.Core.List.{List, ◌∷◌}
use lib.ListN.{length, get_or}
use lib.IntN.{ℤ}
use native.Mathlib.Omega.{arith}
use Rattle.big.specs.Big.{signed_of}
use Rattle.reasons.specs.Step.{Bound, by_walks, closing_walk}
use Rattle.sketch.specs.Sketch.{place, walk_at, tie_step}
use Rattle.paper.specs.Record.{step_head, step_bytes, bound_bytes, walk_bytes, step_length}
use Rattle.paper.specs.Written.{Appended, ranked_walk, Readable}
use Rattle.paper.proofs.Pieces.{then}
use Rattle.paper.proofs.Heads.{signed-zero, head-length}
use Rattle.paper.proofs.Walks.{bound-length, place-length, place-bytes}

pub by-walks-written : {old one two new : List ℕ} {from p q end : ℕ} (a b : ℕ) (c : ℤ) (ranks names walks : List ℕ) (at : ℕ) {t : ℕ} →
    Readable t names walks at → Readable t names walks (at + 1) →
    Appended old one from p (step_head 0 a b c (get_or walks (at * place) 0) (get_or walks ((at + 1) * place) 0)) →
    Appended one two p q (walk_bytes (ranked_walk ranks (walk_at names walks at))) →
    Appended two new q end (walk_bytes (ranked_walk ranks (walk_at names walks (at + 1)))) →
    Appended old new from end (step_bytes (by_walks a b c (ranked_walk ranks (walk_at names walks at)) (ranked_walk ranks (walk_at names walks (at + 1)))))
    × (end ≤ from + step_length)
by-walks-written a b c ranks names walks at R S A B C = (
  rw (place-length ranks names walks at R, place-length ranks names walks (at + 1) S) (then (then A B) C),
  omega (
    arith,
    simp head-length at A.end_is,
    B.end_is,
    place-bytes ranks names walks at R,
    R.short,
    C.end_is,
    place-bytes ranks names walks (at + 1) S,
    S.short,
  ),
)

pub round-written : {old one two new : List ℕ} {from p q end : ℕ} (a : ℕ) (b : Bound) (ranks names walks : List ℕ) (at : ℕ) {t : ℕ} →
    Readable t names walks at →
    Appended old one from p (step_head 2 a 0 (signed_of 8 0) (get_or walks (at * place) 0 + 1) 0) →
    Appended one two p q (bound_bytes b) →
    Appended two new q end (walk_bytes (ranked_walk ranks (walk_at names walks at))) →
    Appended old new from end (step_bytes (closing_walk a (b ∷ ranked_walk ranks (walk_at names walks at)))) × (end ≤ from + step_length)
unfolding walk_bytes
round-written a b ranks names walks at R A B C =
    let e : length (b ∷ ranked_walk ranks (walk_at names walks at)) ≡ get_or walks (at * place) 0 + 1 = omega (arith, place-length ranks names walks at R) in (
      rw (e, ← signed-zero) (then A (then B C)),
      omega (arith, simp head-length at A.end_is, B.end_is, bound-length b, C.end_is, place-bytes ranks names walks at R, R.short),
    )

-- a tie's step, by functions and by walks
pub by-functions : {old new : List ℕ} {from end how a b l r : ℕ} (there back : List Bound) → how ≡ 0 → a ≡ l → b ≡ r →
    Appended old new from end (step_head 1 a b (signed_of 8 0) 0 0) →
    Appended old new from end (step_bytes (tie_step how l r there back)) × (end ≤ from + step_length)
unfolding tie_step
by-functions there back z p q A = (rw (z, ← p, ← q, ← signed-zero) A, omega (arith, simp head-length at A.end_is))

pub by-walks : {old new : List ℕ} {from end how a b l r : ℕ} (there back : List Bound) → 0 < how → a ≡ l → b ≡ r →
    Appended old new from end (step_bytes (by_walks a b (signed_of 8 0) there back)) → Appended old new from end (step_bytes (tie_step how l r there back))
unfolding tie_step
by-walks {how = suc h} there back z p q A = rw (← p, ← q, ← signed-zero) A
by-walks {how = zero} there back z p q A = absurd (omega arith)
