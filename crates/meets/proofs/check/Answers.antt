-- `meets::check` meets its contract: the limits, then the terms, then the entries.
-- Assumes nothing.
use mathlib.Core.Path.{◌≡◌, sym, ◌∙◌}
use mathlib.Core.Bool.{true}
use Rattle.meaning.proofs.Decides.{refuted, told}
use Rattle.meets.specs.Parts.{TermsMet}
use Rattle.meets.proofs.Joined.{near_of, terms-of, entries-of, met}
use Rattle.meets.proofs.check.Goals as goal
use Rattle.meets.proofs.check.Goals.{then-limits, else-limits}

pub returns-then-terms : goal.returns-then-terms
returns-then-terms c =
    let pre = c.requires in
    let e = c.count_terms-t.ensures.count.0 in
    let near : c.limits.result ≡ true = elim c.if-limits.branch [ then-limits w ↦ w.if-limits.true | else-limits w ↦ cc ] in
    let terms : TermsMet c.args.sheet.now c.args.d c.args.v.now c.count_terms-t.result =
    elim c.if-limits.branch [ then-limits w ↦ w.terms.ensures.yes (sym w.value-is ∙ c.if-terms.true) | else-limits w ↦ cc ] in
    told (met e pre.le_d.0 (c.limits.ensures.yes near) terms) entries-of c.entries.ensures

pub returns-else-terms : goal.returns-else-terms
returns-else-terms c =
    let e = c.count_terms-t.ensures.count.0 in
    rw c.if-terms.false
    (elim c.if-limits.branch [
      | then-limits w ↦ refuted (λ m. w.terms.ensures.no (sym w.value-is ∙ c.if-terms.false) (terms-of e m))
      | else-limits w ↦ refuted (λ m. c.limits.ensures.no w.if-limits.false (near_of e m))
    ])
