-- `reading::term_at` meets its contract: the record at the term's place is within a sheet of the stated size.
-- Assumes nothing.
use mathlib.Core.Path.{sym, ap, ◌∙◌}
use native.Mathlib.Omega.{arith}
use Rattle.sheet.specs.Decode.{decode_term}
use Rattle.sheet.proofs.Decode.{terms-stated, term-decoded}
use Rattle.reading.proofs.term_at.Goals as goal

pub fields_at-requires : goal.fields_at-requires
fields_at-requires c = omega (arith, terms-stated c.args.sheet.now)

pub returns : goal.returns
returns c = c.from.ensures ∙ ap decode_term c.fields_at.ensures ∙ sym (term-decoded _ _ c.requires.1)
