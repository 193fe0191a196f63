-- How far a gap is from zero: of a sum, and of a code.
-- Assumes nothing.
use Prim.Native.Nat.{ℕ, ◌+◌, ◌≤◌, ◌<◌}
use mathlib.Core.Logic.{◌↔◌}
use lib.IntN.{ℤ, pos, negsuc}
use native.Mathlib.Omega.{arith}
use Rattle.whole.specs.Whole.{plus, minus}
use Rattle.whole.proofs.Parts.{add_parts}
use Rattle.kind.specs.Code.{none, Within}
use Rattle.kind.specs.Kind.{Kind, added, kind_of}
use Rattle.kind.proofs.Codes.{there}
use Rattle.closure.specs.Walk.{Tight, Near}
use Rattle.closure.proofs.Order.{Is, Seen, seen, mark, line, both, of_code, halved}
use Rattle.closure.proofs.Order.Is.{plain, under}
use Rattle.closure.proofs.Order.Seen.{missing, present}

-- one of a number's two parts is 0, so their difference bounds both
pub near-is : {k : Kind} {m : ℕ} {c : ℤ} (w : ℕ) → Is k m c → Near w k ↔ (plus c ≤ minus c + w) × (minus c ≤ plus c + w)
unfolding Near
near-is w (plain {c = pos n}) = (λ h. (omega arith, omega arith), λ h. (omega arith, omega arith))
near-is w (plain {c = negsuc n}) = (λ h. (omega arith, omega arith), λ h. (omega arith, omega arith))
near-is w (under {c = pos n}) = (λ h. (omega arith, omega arith), λ h. (omega arith, omega arith))
near-is w (under {c = negsuc n}) = (λ h. (omega arith, omega arith), λ h. (omega arith, omega arith))

pub near-added : (u v w : ℕ) (x y : Kind) → v + w ≤ u → Near v x → Near w y → Near u (added x y)
unfolding Near
near-added u v w x y l = go (seen x) (seen y)
  where
    go : {x y : Kind} → Seen x → Seen y → Near v x → Near w y → Near u (added x y)
    go missing b p q = absurd p
    go (present i) missing p q = absurd q
    go (present {c = c} i) (present {c = d} j) p q =
        let s = (near-is v i).0 p in
        let t = (near-is w j).0 q in
        (near-is u (both i j)).1 (omega (arith, add_parts c d), omega (arith, add_parts c d))

pub near-code : (w g : ℕ) → g < none → Within w g → Near w (kind_of g)
near-code w g p r =
    (near-is w (of_code g p)).1 (omega (arith, halved g, r.high p), omega (arith, halved g, r.high p))

-- a code whose gap is as tight as a near one, and no tighter, is near
pub within : (v w g : ℕ) (k : Kind) → v ≤ w → g ≤ none → Near v k → Tight k (kind_of g) → Tight (kind_of g) k → Within w g
unfolding Near
within v w g k l top n h h' =
    there g (λ p. go (seen k) n h h' p) (λ p. record { low = omega arith; high = λ q. omega arith; top = top })
  where
    go : {k : Kind} → Seen k → Near v k → Tight k (kind_of g) → Tight (kind_of g) k → g < none → Within w g
    go missing n h h' p = absurd n
    go (present i) n h h' p =
        let s = (near-is v i).0 n in
        let t = (line i (of_code g p)).0 h in
        let t' = (line (of_code g p) i).0 h' in
        record { low = omega (arith, halved g, mark i); high = λ q. omega (arith, halved g); top = top }
