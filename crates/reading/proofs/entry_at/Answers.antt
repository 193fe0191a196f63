-- `reading::entry_at` meets its contract: the record at the entry's place is within a sheet of the stated size.
-- Assumes nothing.
use mathlib.Core.Path.{sym, ap, ◌∙◌}
use native.Mathlib.Omega.{arith}
use Rattle.sheet.specs.Decode.{fields_at, decode_entry}
use Rattle.sheet.proofs.Decode.{terms-stated, entries-stated, entry-decoded}
use Rattle.reading.proofs.entry_at.Goals as goal

pub fields_at-requires : goal.fields_at-requires
fields_at-requires c = let b = c.args.sheet.now in omega (arith, terms-stated b, entries-stated b)

pub returns : goal.returns
returns c =
    let stated = terms-stated c.args.sheet.now in
    c.from.ensures ∙ ap decode_entry (c.fields_at.ensures ∙ ap (fields_at _) (omega arith)) ∙ sym (entry-decoded _ _ c.requires.1)
