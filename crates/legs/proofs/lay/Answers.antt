-- `legs::lay` meets its contract: entries' legs lie before those of terms (proofs/Laid.antt).
-- Assumes nothing.
use native.Mathlib.Omega.{arith}
use Rattle.legs.proofs.Laid.{all_laid}
use Rattle.legs.proofs.lay.Goals as goal

pub returns : goal.returns
returns c =
    all_laid (omega (arith, c.formed.ensures.entries)) c.lay_entries.ensures c.lay_terms.ensures
