-- What the codes of c, of -c and of c strict say.
-- Assumes nothing.
use Prim.Native.Nat.{ℕ}
use mathlib.Core.Path.{◌≡◌}
use lib.IntN.{sub_ℕ, neg_ℤ}
use native.Mathlib.Omega.{arith}
use Rattle.whole.proofs.Parts.{sub_parts, neg-plus, neg-minus}
use Rattle.kind.specs.Kind.{weak, strict, kind_of}
use Rattle.kind.proofs.Kind.{kind-is}
use Rattle.steps.specs.Step.{Weak, Strict}

pub weak-to : (g c : ℕ) → Weak g c 32768 → kind_of g ≡ weak (sub_ℕ c 32768)
weak-to g c w = kind-is g 0 (sub_ℕ c 32768) w.there (omega arith) (omega (arith, sub_parts c 32768))

pub weak-back : (g c : ℕ) → Weak g 32768 c → kind_of g ≡ weak (neg_ℤ (sub_ℕ c 32768))
weak-back g c w =
    kind-is g 0 (neg_ℤ (sub_ℕ c 32768)) w.there (omega arith)
    (omega (arith, sub_parts c 32768, neg-plus (sub_ℕ c 32768), neg-minus (sub_ℕ c 32768)))

pub strict-to : (g c : ℕ) → Strict g c 32768 → kind_of g ≡ strict (sub_ℕ c 32768)
strict-to g c s = kind-is g 1 (sub_ℕ c 32768) s.there (omega arith) (omega (arith, sub_parts c 32768))
