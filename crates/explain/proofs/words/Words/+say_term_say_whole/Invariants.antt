-- `explain::words::Words::say_term` and `say_whole` end: the depth that is left falls with each term inside a term.
-- Assumes nothing.
use Rattle.std.proofs.Common.{◌+◌, ◌*◌}
use Rattle.explain.proofs.words.Words.+say_term_say_whole.Given as goal

abbrev pub decreases-say_term : goal.decreases-say_term
decreases-say_term g l = 2 * l.deep

abbrev pub decreases-say_whole : goal.decreases-say_whole
decreases-say_whole g l = 2 * l.deep + 1
