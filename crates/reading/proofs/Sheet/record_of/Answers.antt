-- `reading::Sheet::record_of` meets its contract: the record at the term's place is within a sheet of the stated size.
-- Assumes nothing.
use mathlib.Core.Path.{◌≡◌, sym, ap, ◌∙◌}
use native.Mathlib.Omega.{arith}
use Rattle.sheet.specs.Decode.{decode_term, sheet_of}
use Rattle.sheet.specs.Sheet.{count_terms, term_at}
use Rattle.sheet.proofs.Decode.{terms-stated, term-decoded}
use Rattle.reading.proofs.Sheet.record_of.Goals as goal

pub fields_at-requires : goal.fields_at-requires
fields_at-requires c =
    let told : term_at (sheet_of c.self.inside.bytes.now) c.args.i.0 ≡ term_at c.args.self.now c.args.i.0 = ap (λ s. term_at s c.args.i.0) c.self.view_is in
    let counted : count_terms (sheet_of c.self.inside.bytes.now) ≡ count_terms c.args.self.now = ap count_terms c.self.view_is in
    omega (arith, terms-stated c.self.inside.bytes.now, c.self.invariant.0.whole)

pub returns : goal.returns
returns c =
    let counted : count_terms (sheet_of c.self.inside.bytes.now) ≡ count_terms c.args.self.now = ap count_terms c.self.view_is in
    ap decode_term c.fields_at.ensures ∙ sym (term-decoded _ _ (omega arith)) ∙ ap (λ s. term_at s c.args.i.0) c.self.view_is
