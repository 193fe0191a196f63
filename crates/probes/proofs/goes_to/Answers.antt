-- `probes::goes_to` meets its contract: where the walk has come to, test by test (proofs/Told.antt).
-- Assumes nothing.
use native.Mathlib.Omega.{arith}
use Rattle.meaning.proofs.Decides.{refuted}
use Rattle.probes.proofs.Told.{goes-here}
use Rattle.probes.proofs.goes_to.Goals as goal

pub returns-then-zero-count : goal.returns-then-zero-count
returns-then-zero-count c = refuted (λ G. let l = G.few in omega arith)

pub returns-in_default : goal.returns-in_default
returns-in_default c = refuted (λ G. c.in_default.ensures _ G.goes)

pub returns : goal.returns
returns c = goes-here (omega arith) c.in-Some.ensures
