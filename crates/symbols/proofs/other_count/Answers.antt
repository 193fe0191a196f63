-- `symbols::other_count` meets its contract: terms are looked at from the front, each by the mark of its symbol.
-- Assumes nothing.
use Rattle.std.proofs.Common.{◌+◌, sym, ◌∙◌, below_more, arith}
use Rattle.sheet.specs.Decode.{term_place}
use Rattle.grounds.proofs.Lowest.{found, lowest-none}
use Rattle.symbols.proofs.Marks.{term-uses, term-uses-none, passed_over, marked-none, tested, marked_other, marked-use}
use Rattle.symbols.proofs.other_count.Goals as goal
use Rattle.symbols.proofs.other_count.Goals.{then-kind+else-used-kind, else-kind}

pub loop-i-init : goal.loop-i-init
loop-i-init c = record { clear = λ k h. absurd (omega arith); marked = marked-none _ }

pub returns-then-used-kind : goal.returns-then-used-kind
returns-then-used-kind c =
    let loop = c.loop-i in
    found loop.invariant.clear c.loop-i-test.true
    (sym (tested loop.invariant.marked _ _ (omega (arith, c.type_inv.sheet (term_place loop.i + 1))) (term-uses _ _ (omega arith) c.if-kind.true)) ∙ c.if-used-kind.true)

pub loop-i-preserved : goal.loop-i-preserved
loop-i-preserved c =
    let loop = c.loop-i in
    let byte = c.type_inv.sheet (term_place loop.i + 1) in
    elim c.if-kind.branch [
      | then-kind+else-used-kind w ↦
          let uses = term-uses c.args.sheet.now loop.i (omega arith) w.if-kind.true in record {
            clear = below_more _ _ loop.invariant.clear (sym (tested loop.invariant.marked _ _ (omega (arith, byte)) uses) ∙ w.if-used-kind.false);
            marked = rw w.marks-is (marked-use loop.invariant.marked _ _ (omega (arith, byte)) uses w.if-used-kind.false);
          }
      | else-kind w ↦
          let none = term-uses-none c.args.sheet.now loop.i (omega arith) w.if-kind.false in
          record { clear = below_more _ _ loop.invariant.clear (sym (passed_over _ _ none)); marked = rw w.marks-is (marked_other loop.invariant.marked none) }
    ]

pub returns : goal.returns
returns c = lowest-none _ _ (λ k h. c.loop-i.invariant.clear k (omega arith))
