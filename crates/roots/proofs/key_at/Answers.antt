-- `roots::key_at` meets its contract: the arguments of the term that it reads are terms.
-- Assumes nothing.
use native.Mathlib.Omega.{arith}
use Rattle.sheet.proofs.Below.{arguments-wider}
use Rattle.roots.proofs.key_at.Goals as goal

pub key_of-requires : goal.key_of-requires
key_of-requires c =
    let wf = c.count_terms-n.ensures.formed in (
      c.requires.d_len.0,
      omega (arith, wf.terms),
      rw c.count_terms-n.ensures.count.0 c.requires.d_len.1,
      rw c.term_at.ensures (arguments-wider (omega arith) (wf.arguments c.args.i.0 (omega arith))),
    )
