-- Ties at 0 in a closed table: from either side, and one behind the other.
-- Assumes nothing.
use Prim.Native.Nat.{ℕ, ◌<◌}
use mathlib.Core.Path.{◌≡◌}
use lib.IntN.{pos}
use native.Mathlib.Omega.{arith}
use Rattle.kind.specs.Code.{base, Within}
use Rattle.kind.proofs.Codes.{sum_mono, zero-sum}
use Rattle.closure.specs.Closed.{Closed, AtMost, TiedAt}

pub tied_back : {d : ℕ → ℕ → ℕ} {a b : ℕ} → TiedAt d a b (pos 0) → TiedAt d b a (pos 0)
tied_back t = record { to = t.back; back = t.to }

module _ {N R : ℕ} {d : ℕ → ℕ → ℕ} (C : Closed N R d) where
  at-most-on : (a b c : ℕ) → a < N → b < N → c < N → AtMost d a b 0 0 → AtMost d b c 0 0 → AtMost d a c 0 0
  at-most-on a b c a< b< c< p q =
      let zero : Within R base = record { low = omega arith; high = λ l. omega arith; top = omega arith } in
      let m = sum_mono R R (d a b) base (d b c) (omega (arith, C.small)) (C.range a b a< b<) zero (C.range b c b< c<) (omega (arith, p.bound)) in
      let z = zero-sum (d b c) (C.range b c b< c<).top in
      let t = C.tri a c b a< c< b< in
      record { there = omega (arith, q.there); bound = omega (arith, q.bound) }

  pub tied_on : {a b c : ℕ} → a < N → b < N → c < N → TiedAt d a b (pos 0) → TiedAt d b c (pos 0) → TiedAt d a c (pos 0)
  tied_on {a} {b} {c} a< b< c< s t =
      record { to = at-most-on a b c a< b< c< s.to t.to; back = at-most-on c b a c< b< a< t.back s.back }

  pub tied-self : {a : ℕ} → a < N → TiedAt d a a (pos 0)
  tied-self {a} a< =
      let e : d a a ≡ base = C.same a a< in
      record { to = record { there = omega arith; bound = omega arith }; back = record { there = omega arith; bound = omega arith } }
