-- `listing::list` meets its contract: the k bytes from the place on list the marked entries below x, and the rest is as it was.
-- Assumes nothing.
use Rattle.std.proofs.Common.{◌≡◌, ℕ, ◌+◌, List, length, false, refl, sym, ◌∙◌, set, take, drop, length-take, length-drop, get_or-take, get_or-set_other, arith}
use Rattle.std.proofs.Math.Seq.{drop-set-add}
use Rattle.big.specs.Big.{Kept}
use Rattle.order.proofs.Lists.{listed-none, listed_in, listed-out}
use Rattle.listing.proofs.list.Goals as goal
use Rattle.listing.proofs.list.Goals.{then-marked, else-marked}

kept_more : {old b : List ℕ} {at k : ℕ} (x : ℕ) → Kept old b at k → Kept old (set b (at + k) x) at (k + 1)
kept_more {b} {at} {k} x K = record {
  before = λ i h. get_or-set_other b (at + k) i x 0 (omega arith) ∙ K.before i h;
  after = λ i h. get_or-set_other b (at + k) i x 0 (omega arith) ∙ K.after i (omega arith);
}

pub loop-x-init : goal.loop-x-init
loop-x-init c = record { count = omega arith; listed = listed-none _ _; kept = record { before = λ i h. refl; after = λ i h. refl } }

pub loop-x-preserved : goal.loop-x-preserved
loop-x-preserved c =
    let loop = c.loop-x in
    let all : length (take c.args.n c.args.marks.now) ≡ c.args.n = simp length-take (omega arith) in
    let mark = get_or-take c.args.n c.args.marks.now loop.x false (omega arith) in
    elim c.if-marked.branch [
      | then-marked w ↦ rw (w.room-is, w.k-is) record {
        count = omega arith;
        listed = rw (drop-set-add c.args.at loop.room loop.k loop.x)
            (listed_in _ (drop c.args.at loop.room) loop.x loop.k (sym mark ∙ w.if-marked.true) (simp length-drop (omega arith)) loop.invariant.listed);
        kept = kept_more loop.x loop.invariant.kept;
      }
      | else-marked w ↦ rw (w.room-is, w.k-is) record {
        count = omega arith;
        listed = listed-out _ (drop c.args.at loop.room) loop.x loop.k (sym mark ∙ w.if-marked.false) loop.invariant.listed;
        kept = loop.invariant.kept;
      }
    ]

pub returns : goal.returns
returns c =
    let all : length (take c.args.n c.args.marks.now) ≡ c.args.n = simp length-take (omega arith) in
    let end : c.loop-x.x ≡ c.args.n = omega arith in
    record { count = omega arith; listed = rw end at c.loop-x.invariant.listed; kept = c.loop-x.invariant.kept }
