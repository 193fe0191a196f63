-- `gathered::gather` meets its contract (proofs/Gathering.antt).
-- Assumes nothing.
use mathlib.Core.Path.{ap, ◌∙◌}
use lib.ListN.{length}
use native.Mathlib.Omega.{arith}
use Rattle.stated.specs.Said.{steps_of}
use Rattle.gathered.proofs.Standing.{said, stands, walks-fit, rests-said, earlier}
use Rattle.gathered.proofs.Gathering.{begun, next-through, one_more, done}
use Rattle.gathered.proofs.+gather.Goals as goal

pub mark-requires : goal.mark-requires
mark-requires t c =
    let p = c.requires in
    let fit = walks-fit p.1.upright p.1.among c.step_at-s.ensures in
    let formed = (stands p.1.upright p.1.among c.step_at-s.ensures).formed in
    (p.2, formed, fit.0, fit.1)

pub rests-ties-requires : goal.rests-ties-requires
rests-ties-requires t c =
    let p = c.requires in
    let known = stands p.1.upright p.1.among c.step_at-s.ensures in (
      p.0,
      record {
        listed = p.1.listed;
        steps = steps_of c.args.steps.now;
        m = p.1.last;
        legs = p.1.legs;
        n = c.args.at;
        stands = known;
      },
    )

pub gather-requires : goal.gather-requires
gather-requires t c =
    let q = c.requires.1 in
    let i = c.loop-t.invariant in
    let on = c.rests-ties.ensures _ _ _ _ _ (stands q.upright q.among c.step_at-s.ensures) in
    let l = earlier q.upright q.among c.step_at-s.ensures ((on.exactly _).0 c.in-Some.ensures.here.0) in (
      omega (arith, l, c.decreases),
      (
        c.requires.0,
        record { listed = q.listed; last = q.last; legs = q.legs; among = omega (arith, l, q.among); upright = q.upright },
        i.entries-size,
        c.in-Some.ensures.size ∙ i.walked-size,
      ),
    )

pub loop-t-preserved : goal.loop-t-preserved
loop-t-preserved t c =
    let i = c.loop-t.invariant in
    let n = c.in-Some.ensures in
    record {
      entries-size = omega arith;
      walked-size = omega (arith, n.size);
      within = omega (arith, n.below);
      partly = λ h.
          let q = c.requires.1 in
          let on = c.rests-ties.ensures _ _ _ _ _ (stands q.upright q.among c.step_at-s.ensures) in
          let next = (on.exactly _).0 n.here.0 in
          let l = earlier q.upright q.among c.step_at-s.ensures next in
          let r = rests-said q.upright q.among c.step_at-s.ensures next in
          one_more _ _ _ (i.partly h) n l r (c.gather.ensures (next-through _ _ _ (i.partly h) n l));
    }

pub returns : goal.returns
returns t c = λ h.
    let q = c.requires.1 in
    let i = c.loop-t.invariant in
    let on = c.rests-ties.ensures _ _ _ _ _ (stands q.upright q.among c.step_at-s.ensures) in
    let o = c.mark.ensures in
    let n = c.in_default.ensures in
    done _ _ _ (i.partly (begun _ _ _ o h)) n (omega arith, omega (arith, ap length n.same)) (said q.upright q.among c.step_at-s.ensures) o on
