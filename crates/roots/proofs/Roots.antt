-- Points that a closed table ties at 0 have one root, so terms that it gives the same input have one key.
-- Assumes nothing.
use Prim.Native.Nat.{ℕ, ◌<◌}
use mathlib.Core.Path.{◌≡◌}
use lib.IntN.{pos}
use native.Mathlib.Omega.{arith}
use Rattle.whole.proofs.Order.{neither-below}
use Rattle.closure.specs.Closed.{Closed, TiedAt}
use Rattle.sheet.specs.Sheet.{Term, ArgumentsBelow, of-apply, of-apply2}
use Rattle.meaning.specs.Meaning.{SameInput, one, two}
use Rattle.ties.proofs.Zero.{tied_back, tied_on}
use Rattle.roots.specs.Keyed.{Root, Keyed, for-apply, for-apply2}

-- a term without an input has the same input as none
pub keyless : {d : ℕ → ℕ → ℕ} {Alike : ℕ → ℕ → Type 0} {t u : Term} → Keyed d t 0 → SameInput Alike t u → ⊥
keyless {d} {Alike} k s = go s k
  where
    go : {t u : Term} → SameInput Alike t u → Keyed d t 0 → ⊥
    go (one p) (for-apply P e) = omega arith
    go (two p q) (for-apply2 P Q e) = omega arith

module _ {N R : ℕ} {d : ℕ → ℕ → ℕ} (C : Closed N R d) where
  not_lower : {a b r s : ℕ} → a < N → b < N → TiedAt d a b (pos 0) → Root d a r → Root d b s → r < s → ⊥
  not_lower a< b< t P Q l = Q.lowest _ l (tied_on C b< a< (omega (arith, P.within)) (tied_back t) P.tied)

  pub one-root : {a b r s : ℕ} → a < N → b < N → TiedAt d a b (pos 0) → Root d a r → Root d b s → r ≡ s
  one-root a< b< t P Q = neither-below (not_lower a< b< t P Q) (not_lower b< a< (tied_back t) Q P)

  pub one_key : {t u : Term} {k l : ℕ} → ArgumentsBelow N t → ArgumentsBelow N u → SameInput (λ a b. TiedAt d a b (pos 0)) t u
      → Keyed d t k → Keyed d u l → k ≡ l
  one_key t< u< same k l = go same t< u< k l
    where
      go : {t u : Term} {k l : ℕ} → SameInput (λ a b. TiedAt d a b (pos 0)) t u → ArgumentsBelow N t → ArgumentsBelow N u → Keyed d t k → Keyed d u l → k ≡ l
      go (one p) (of-apply a<) (of-apply b<) (for-apply P e) (for-apply Q f) = omega (arith, one-root a< b< p P Q)
      go (two p q) (of-apply2 a< b<) (of-apply2 a'< b'<) (for-apply2 P Q e) (for-apply2 P' Q' f) =
          omega (arith, one-root a< a'< p P P', one-root b< b'< q Q Q')
