-- `joined::same_at` meets its contract: it reads the two records.
-- Assumes nothing.
use native.Mathlib.Omega.{arith}
use Rattle.sheet.proofs.Below.{arguments-wider}
use Rattle.joined.proofs.same_at.Goals as goal

pub same_input-requires : goal.same_input-requires
same_input-requires c =
    let wf = c.count_terms-n.ensures.formed in record {
      d_len = (c.requires.d_len.0, omega (arith, wf.terms), rw c.count_terms-n.ensures.count.0 c.requires.d_len.1);
      arguments_below = (
        rw c.record_of.ensures (arguments-wider (omega arith) (wf.arguments c.args.i.0 (omega arith))),
        rw c.record_of-2.ensures (arguments-wider (omega arith) (wf.arguments c.args.j.0 (omega arith))),
      );
    }

pub returns : goal.returns
returns c = rw (c.record_of.ensures, c.record_of-2.ensures) at c.same_input.ensures
