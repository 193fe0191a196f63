-- `grown::tie_all` meets its contract: before each turn the table has all that is listed, and one more tie is put in (proofs/Growing.antt).
-- Assumes nothing.
use native.Mathlib.Omega.{arith}
use Rattle.cells.proofs.Keeps.{kept-all, kept_on}
use Rattle.grown.proofs.Fronts.{front-all}
use Rattle.grown.proofs.Back.{pair}
use Rattle.grown.proofs.Growing.{begun, room, listing, rests, sound, front-still, shut, grown}
use Rattle.grown.proofs.tie_all.Goals as goal

pub loop-i-init : goal.loop-i-init
loop-i-init c =
    let lists = c.requires.list_len in
    (begun lists.0 c.requires.sound c.requires.exact, front-all, kept-all _ _)

pub both-requires : goal.both-requires
both-requires c =
    let G = c.loop-i.invariant.0 in
    let l = room c.count_terms-n.ensures.formed.terms c.requires.list_len.1 G (pair c.in-Some.ensures) in
    omega (arith, G.all-room)

pub put-put-requires-clause-sound : goal.put-put-requires-clause-sound
put-put-requires-clause-sound c =
    let new = c.both.auto in
    let L =
    listing c.count_terms-n.ensures.formed.terms c.requires.list_len.1 c.loop-i.invariant.0 (pair c.in-Some.ensures) c.both.ensures new.list
    in
    rw c.count_terms-n.ensures.count.0 (sound L)

pub put-put-requires-clause-exact : goal.put-put-requires-clause-exact
put-put-requires-clause-exact c =
    let new = c.both.auto in
    let L =
    listing c.count_terms-n.ensures.formed.terms c.requires.list_len.1 c.loop-i.invariant.0 (pair c.in-Some.ensures) c.both.ensures new.list
    in
    rw c.count_terms-n.ensures.count.0 (rests L)

pub returns-then-put-listed-clause-grew : goal.returns-then-put-listed-clause-grew
returns-then-put-listed-clause-grew c =
    let new = c.both.auto in
    let L =
    listing c.count_terms-n.ensures.formed.terms c.requires.list_len.1 c.loop-i.invariant.0 (pair c.in-Some.ensures) c.both.ensures new.list
    in
    shut L (rw c.count_terms-n.ensures.count.0 at c.put-put.ensures) c.if-put-listed.true

pub loop-i-preserved : goal.loop-i-preserved
loop-i-preserved c =
    let inv = c.loop-i.invariant in
    let new = c.both.auto in
    let L = listing c.count_terms-n.ensures.formed.terms c.requires.list_len.1 inv.0 (pair c.in-Some.ensures) c.both.ensures new.list in
    let R = rw c.count_terms-n.ensures.count.0 at c.put-put.ensures in
    (grown L R c.if-put-listed.false, front-still L inv.1, kept_on inv.2 R.kept)
