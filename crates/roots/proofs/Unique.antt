-- A term has one key, and a key tells the input: what roots promises is fixed, and a pass looks at no pair of two kinds or symbols.
-- Assumes nothing.
use Prim.Native.Nat.{ℕ, ◌≤◌, ◌<◌}
use mathlib.Core.Path.{◌≡◌, refl}
use lib.IntN.{pos}
use native.Mathlib.Omega.{arith}
use Rattle.closure.specs.Closed.{Closed, TiedAt}
use Rattle.sheet.specs.Sheet.{Term, ArgumentsBelow, of-apply, of-apply2}
use Rattle.sheet.proofs.Below.{argument, arguments}
use Rattle.meaning.specs.Meaning.{SameInput, one, two}
use Rattle.meaning.proofs.Meaning.{same-input-below}
use Rattle.ties.proofs.Zero.{tied_back, tied_on, tied-self}
use Rattle.roots.specs.Keyed.{Root, Keyed, for-unknown, for-number, for-shift, for-apply, for-apply2}
use Rattle.roots.proofs.Roots.{one-root}

module _ {N R : ℕ} {d : ℕ → ℕ → ℕ} (C : Closed N R d) where
  -- a term's key is one only
  pub key-unique : {t : Term} {k l : ℕ} → ArgumentsBelow N t → Keyed d t k → Keyed d t l → k ≡ l
  key-unique a for-unknown for-unknown = refl
  key-unique a for-number for-number = refl
  key-unique a for-shift for-shift = refl
  key-unique (of-apply a<) (for-apply P e) (for-apply Q f) = omega (arith, one-root C a< a< (tied-self C a<) P Q)
  key-unique (of-apply2 a< b<) (for-apply2 P Q e) (for-apply2 P' Q' f) =
      omega (arith, one-root C a< a< (tied-self C a<) P P', one-root C b< b< (tied-self C b<) Q Q')

-- arguments that have one root, each by its own table
pub record OneRoot (d e : ℕ → ℕ → ℕ) (a b : ℕ) : Type 0 where
  pub root : ℕ
  pub first : Root d a root
  pub second : Root e b root

same-root : {d e : ℕ → ℕ → ℕ} {a b r s : ℕ} → r ≡ s → Root d a r → Root e b s → OneRoot d e a b
same-root e P Q = record { root = _; first = P; second = rw e Q }

-- terms of one key, be it by two tables, are of one kind and symbol, and their arguments have one root
pub key-tells : {N : ℕ} {d e : ℕ → ℕ → ℕ} {t u : Term} {k : ℕ} → N ≤ 256 → ArgumentsBelow N t → ArgumentsBelow N u → Keyed d t k → Keyed e u k → 0 < k
    → SameInput (OneRoot d e) t u
key-tells n a b for-unknown q k = absurd (omega arith)
key-tells n a b for-number q k = absurd (omega arith)
key-tells n a b for-shift q k = absurd (omega arith)
key-tells n a b (for-apply P e) for-unknown k = absurd (omega arith)
key-tells n a b (for-apply P e) for-number k = absurd (omega arith)
key-tells n a b (for-apply P e) for-shift k = absurd (omega arith)
key-tells n a b (for-apply {symbol = x} {r = r} P e) (for-apply {symbol = y} {r = s} Q f) k =
    let a< = argument a in
    let b< = argument b in
    let symbol : x ≡ y = omega (arith, P.within, Q.within) in
    let root : r ≡ s = omega (arith, P.within, Q.within) in
    rw symbol (one (same-root root P Q))
key-tells n a b (for-apply P e) (for-apply2 A B f) k = absurd (omega (arith, P.within, A.within, B.within, argument a, arguments b))
key-tells n a b (for-apply2 A B f) for-unknown k = absurd (omega arith)
key-tells n a b (for-apply2 A B f) for-number k = absurd (omega arith)
key-tells n a b (for-apply2 A B f) for-shift k = absurd (omega arith)
key-tells n a b (for-apply2 A B f) (for-apply P e) k = absurd (omega (arith, P.within, A.within, B.within, arguments a, argument b))
key-tells n a b (for-apply2 {symbol = x} {r = r} {s = s} P Q e) (for-apply2 {symbol = y} {r = u} {s = v} A B f) k =
    let a< = arguments a in
    let b< = arguments b in
    let symbol : x ≡ y = omega (arith, P.within, Q.within, A.within, B.within) in
    let first : r ≡ u = omega (arith, P.within, Q.within, A.within, B.within) in
    let second : s ≡ v = omega (arith, P.within, Q.within, A.within, B.within) in
    rw symbol (two (same-root first P A) (same-root second Q B))

-- so by one table they have the same input
pub one_input : {N R : ℕ} {d : ℕ → ℕ → ℕ} {t u : Term} {k : ℕ} → Closed N R d → N ≤ 256 → ArgumentsBelow N t → ArgumentsBelow N u
    → Keyed d t k → Keyed d u k → 0 < k → SameInput (λ a b. TiedAt d a b (pos 0)) t u
one_input {N} {d = d} {t} {u} C n a b p q k =
    same-input-below N N t u a b
    (λ x y x< y< O. tied_on C x< (omega (arith, O.first.within)) y< O.first.tied (tied_back O.second.tied))
    (key-tells n a b p q k)
