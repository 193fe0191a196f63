-- What both answers of the look-up of a tie show.
-- Assumes nothing.
use Prim.Native.Nat.{ℕ, ◌+◌, ◌*◌, ◌-◌, ◌<◌}
use mathlib.Core.Path.{◌≡◌}
use lib.Dec.{eqb}
use lib.IntN.{sub_ℕ}
use native.Mathlib.Omega.{arith}
use borrow.Author.Tests.{eqb-true, eqb-false}
use Rattle.whole.specs.Whole.{plus, minus}
use Rattle.whole.proofs.Parts.{sub_parts}
use Rattle.kind.specs.Code.{base}
use Rattle.closure.specs.Closed.{Closed, TiedAt, tie_of}
use Rattle.closure.proofs.Ties.{tie-at}
use Rattle.meaning.specs.Decides.{Decides}

-- the table's gap is compared with c's
pub tied-told : {n R : ℕ} {d : ℕ → ℕ → ℕ} {a b : ℕ} (c t w : ℕ) → Closed n R d → (a < n) × (b < n) → c < 65536
    → t ≡ tie_of d a b → w ≡ base + 2 * c - 2 * 32768 → Decides (TiedAt d a b (sub_ℕ c 32768)) (eqb t w)
tied-told {n} {R} {d} {a} {b} c t w C i c< e f =
    let p : plus (sub_ℕ c 32768) + 32768 ≡ c + minus (sub_ℕ c 32768) = sub_parts c 32768 in
    let q = tie-at n R d C a b i.0 i.1 (sub_ℕ c 32768) (omega arith) in
    record {
      yes = λ h. q.1 (omega (arith, eqb-true t w h));
      no = λ h k. eqb-false t w h (omega (arith, q.0 k));
    }
