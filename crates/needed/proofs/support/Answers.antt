-- `needed::support` meets its contract (proofs/Supporting.antt).
-- Assumes nothing.
use Rattle.std.proofs.Common.{◌≡◌, suc, sym, ap, ◌∙◌, arith}
use Rattle.sketch.specs.Sketch.{left_of, right_of, how_of}
use Rattle.needed.proofs.Supporting.{supported-arguments, asked-walks, supported-both}
use Rattle.needed.proofs.support.Goals as goal

pub both-requires-clause-sound : goal.both-requires-clause-sound
both-requires-clause-sound c =
    let tie = c.requires.all_points.1 in
    let next : c.how.result ≡ suc c.in-Some.m = omega (arith, c.in-Some.ensures) in
    asked-walks (c.left-a.ensures ∙ ap left_of tie) (c.right-b.ensures ∙ ap right_of tie) c.requires.all_points.0 c.requires.grounds
    (sym (c.how.ensures ∙ ap how_of tie) ∙ next)

pub both-requires-clause-n_le_stride : goal.both-requires-clause-n_le_stride
both-requires-clause-n_le_stride c =
    let pre = c.requires in
    let tie = pre.all_points.1 in
    let next : c.how.result ≡ suc c.in-Some.m = omega (arith, c.in-Some.ensures) in
    let W = pre.grounds.walks _ (sym (c.how.ensures ∙ ap how_of tie) ∙ next) in
    omega (
      arith,
      c.left-a.ensures ∙ ap left_of tie,
      c.right-b.ensures ∙ ap right_of tie,
      pre.grounds.left<,
      pre.grounds.right<,
      c.formed.ensures.terms,
      pre.ties_len,
      W.all-names,
    )

pub both-requires-clause-by_index : goal.both-requires-clause-by_index
both-requires-clause-by_index c =
    let next : c.how.result ≡ suc c.in-Some.m = omega (arith, c.in-Some.ensures) in
    let W = c.requires.grounds.walks _ (sym (c.how.ensures ∙ ap how_of c.requires.all_points.1) ∙ next) in
    λ e e< t. omega (arith, W.earlier e e< t, c.requires.ties_len.3)

pub returns-in-None-clause-supported : goal.returns-in-None-clause-supported
returns-in-None-clause-supported c =
    let tie = c.requires.all_points.1 in
    let zero : c.how.result ≡ 0 = omega (arith, c.in-None.ensures) in
    supported-arguments (c.left-a.ensures ∙ ap left_of tie) (c.right-b.ensures ∙ ap right_of tie) (sym (c.how.ensures ∙ ap how_of tie) ∙ zero) c.arguments.ensures

pub returns-in-Some-clause-supported : goal.returns-in-Some-clause-supported
returns-in-Some-clause-supported c =
    let pre = c.requires in
    let tie = pre.all_points.1 in
    let next : c.how.result ≡ suc c.in-Some.m = omega (arith, c.in-Some.ensures) in
    supported-both (c.left-a.ensures ∙ ap left_of tie) (c.right-b.ensures ∙ ap right_of tie) pre.all_points.0 pre.grounds (sym (c.how.ensures ∙ ap how_of tie) ∙ next)
    (omega (arith, c.formed.ensures.terms, pre.all_points.0)) (omega (arith, c.formed.ensures.terms, pre.ties_len)) c.both.ensures.found
