-- The bytes of a walk, bound behind bound, and how many there are.
-- Assumes nothing.
use Prim.Native.Nat.{ℕ, ◌+◌, ◌*◌, ◌≤◌, ◌<◌}
use mathlib.Core.Path.{◌≡◌, refl, sym, ◌∙◌}
use mathlib.Core.List.{List, [], ◌∷◌, ◌++◌, append-nil, append_assoc}
use lib.ListN.{length, get_or, take, length-append, length-take, length-drop}
use lib.Seq.{take-suc}
use native.Mathlib.Numerals.{add-one}
use native.Mathlib.Omega.{arith}
use Rattle.reasons.specs.Step.{Bound, entry, entry_back, term, term_back, tie, tie_back}
use Rattle.sketch.specs.Sketch.{place, bound_named, named, numbers_at, walk_at}
use Rattle.paper.specs.Record.{bound_bytes, walk_bytes}
use Rattle.paper.specs.Written.{Appended, ranked_bound, ranked_walk, Readable}
use Rattle.paper.proofs.Pieces.{nothing, then}

pub bound-length : (b : Bound) → length (bound_bytes b) ≡ 2
bound-length (entry e) = refl
bound-length (entry_back e) = refl
bound-length (term i) = refl
bound-length (term_back i) = refl
bound-length (tie t) = refl
bound-length (tie_back t) = refl

walk-length : (bs : List Bound) → length (walk_bytes bs) ≡ 2 * length bs
unfolding walk_bytes
walk-length [] = refl
walk-length (b ∷ bs) = omega (arith, length-append (bound_bytes b) (walk_bytes bs), bound-length b, walk-length bs)

-- a name is one among more ties too
pub more-ties : {t u : ℕ} {names walks : List ℕ} {at : ℕ} → t ≤ u → Readable t names walks at → Readable u names walks at
more-ties {t} {u} {names} {walks} {at} l R = record {
  short = R.short;
  there = R.there;
  listed = R.listed;
  named = λ x h. let n = R.named x h in record { known = n.known; earlier = λ k. omega (arith, n.earlier k) };
}

module _ (ranks names : List ℕ) where
  -- the bytes of the bounds that have these numbers
  unfoldable pub numbered : List ℕ → List ℕ
  numbered es = walk_bytes (ranked_walk ranks (named names es))

  -- one bound more
  numbered_more : (es : List ℕ) (e : ℕ) → numbered (es ++ (e ∷ [])) ≡ numbered es ++ bound_bytes (ranked_bound ranks (bound_named (get_or names e 0)))
  unfolding numbered walk_bytes ranked_walk named
  numbered_more [] e = append-nil _
  numbered_more (d ∷ es) e = rw (numbered_more es e) (sym (append_assoc (bound_bytes (ranked_bound ranks (bound_named (get_or names d 0)))) _ _))

  pub walk_none : (b : List ℕ) (from : ℕ) → Appended b b from from (numbered [])
  unfolding numbered walk_bytes ranked_walk named
  walk_none b from = nothing b from from refl

  pub walk_more : {old mid new : List ℕ} {from end next : ℕ} (l : List ℕ) (x e : ℕ) → x < length l → get_or l x 0 ≡ e →
      Appended old mid from end (numbered (take x l)) → Appended mid new end next (bound_bytes (ranked_bound ranks (bound_named (get_or names e 0)))) →
      Appended old new from next (numbered (take (x + 1) l))
  walk_more l x e h q A B = rw (add-one, take-suc l x 0 h, q, numbered_more) (then A B)

  length-ranked : (es : List ℕ) → length (ranked_walk ranks (named names es)) ≡ length es
  unfolding ranked_walk named
  length-ranked [] = refl
  length-ranked (e ∷ es) = omega (arith, length-ranked es)

  -- the walk at a place has as many bounds as it says
  module _ (walks : List ℕ) (at : ℕ) {t : ℕ} (R : Readable t names walks at) where
    pub place-length : length (ranked_walk ranks (walk_at names walks at)) ≡ get_or walks (at * place) 0
    place-length = length-ranked (numbers_at walks at) ∙ simp (length-take, length-drop) (omega (arith, R.short, R.there))

    pub place-bytes : length (walk_bytes (ranked_walk ranks (walk_at names walks at))) ≡ 2 * get_or walks (at * place) 0
    place-bytes = omega (arith, walk-length (ranked_walk ranks (walk_at names walks at)), place-length)
