-- An entry made of a record's fields is what they decode to: its two calls say so.
-- Assumes nothing.
use Rattle.sheet.specs.Decode.{decode_entry}
use Rattle.sheet.proofs.EntryFromFields.from.Goals as goal

pub returns : goal.returns
unfolding decode_entry
returns c = rw (c.from.ensures, c.biased_of.ensures)
