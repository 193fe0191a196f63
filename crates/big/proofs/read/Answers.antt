-- `big::read` meets its contract: v is the number of the k bytes read, and one byte more fits, as k < width ≤ 8.
-- Assumes nothing.
use Rattle.std.proofs.Common.{◌≡◌, ℕ, ◌+◌, ◌^◌, ◌<◌, List, refl, add-one, arith}
use Rattle.std.proofs.Math.Nat.{pow-le-pow_right}
use Rattle.big.specs.Big.{Bytes, big_of}
use Rattle.big.proofs.Reading.{big-more, big-bound}
use Rattle.big.proofs.read.Goals as goal

-- where a byte is still to come, at most seven are read
room : (b : List ℕ) → Bytes b → (at k : ℕ) → k < 8 → big_of b at k < 256 ^ 7
room b B at k l = omega (arith, big-bound b B at k, pow-le-pow_right {n = 256} (omega arith) {i = k} {j = 7} (omega arith))

pub loop-k-init : goal.loop-k-init
unfolding big_of
loop-k-init c = refl

pub overflow_mul-v : goal.overflow_mul-v
overflow_mul-v c = omega (arith, room c.args.b.now (λ i. (c.type_inv.b i).fits) c.args.at c.loop-k.k (omega arith))

pub overflow_add-v : goal.overflow_add-v
overflow_add-v c =
    omega (arith, room c.args.b.now (λ i. (c.type_inv.b i).fits) c.args.at c.loop-k.k (omega arith), c.type_inv.b (c.args.at + c.loop-k.k))

pub loop-k-preserved : goal.loop-k-preserved
loop-k-preserved c = rw (add-one, big-more) (omega arith)

pub returns : goal.returns
returns c =
    let e : c.loop-k.k ≡ c.args.width = omega arith in
    let is = rw e at c.loop-k.invariant in
    (is, rw is (big-bound _ (λ i. (c.type_inv.b i).fits) _ _))
