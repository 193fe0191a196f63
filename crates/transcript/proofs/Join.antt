-- The promise, from what the reader tells and what the writer wrote.
-- Assumes nothing.
use Prim.Native.Nat.{ℕ, ◌≤◌, ◌<◌}
use mathlib.Core.Path.{◌≡◌, refl, sym, ap, ◌∙◌}
use mathlib.Core.List.{List, [], ◌∷◌}
use lib.IntN.{pos}
use lib.ListN.{length}
use native.Mathlib.Omega.{arith}
use Rattle.std.specs.Prelude.{IsErrAnd}
use Rattle.std.proofs.lemmas.Result.{err_from_is_err_and}
use Rattle.sheet.specs.Sheet.{equal, Entry, WellFormed}
use Rattle.text.specs.Text.{Line}
use Rattle.written.specs.Fields.{EachIn, FieldsIn}
use Rattle.written.specs.Written.{sheet_bytes}
use Rattle.written.proofs.Row.{each_at, each_of}
use Rattle.numbered.specs.Numbered.{Key, enter_line, enter_lines, sheet_of}
use Rattle.numbered.proofs.Formed.{lines-formed, lines-fields, entries-length}
use Rattle.slips.specs.declared.Slip.{Slip}
use Rattle.slips.specs.Says.{number_of as slip_number, place_of as slip_place}
use Rattle.slips.specs.Slips.{FirstSlip}
use Rattle.slips.proofs.Clean.{slip-unique}
use Rattle.lines.specs.Reading.{Whole}
use Rattle.drafting.specs.Draft.{EntryFits, entry_cells, draft, Drafted}
use Rattle.drafting.proofs.Draft.{draft-bytes, draft-length}
use Rattle.transcript.specs.Transcribed.{Typed, number_of, place_of, sheet_room, Transcribed}

pub too_short : {text old : List ℕ} → length old < sheet_room → Transcribed text old old 24 0
too_short h = record {
  no_room = λ k. record { number_is = refl; place_is = refl; room-is = refl };
  sent_back = λ k. absurd (omega arith);
  transcribed = λ k. absurd (omega arith);
}

pub slipped : {text old : List ℕ} {N P : ℕ} → sheet_room ≤ length old → FirstSlip text N P → Transcribed text old old N P
slipped h F = record {
  no_room = λ k. absurd (omega arith);
  sent_back = λ k M Q G. let e = slip-unique F G in record { number_is = e.0; place_is = e.1; room-is = refl };
  transcribed = λ k none. absurd (none _ _ F.slip);
}

-- what a `?` sends back
pub slipped-exit : {text old : List ℕ} (r : Typed) (slip : Slip) → IsErrAnd r (λ e. e ≡ slip) → sheet_room ≤ length old → FirstSlip text (slip_number slip) (slip_place slip) →
    Transcribed text old old (number_of r) (place_of r)
slipped-exit r slip e h F = let p = err_from_is_err_and r e in rw (p.1, p.2) (slipped h F)

-- entries of a text have c = 0
entries-even : (ls : List Line) (xs : List Key) → EachIn (λ e. e.c ≡ pos 0) (enter_lines ls xs).entries
entries-even [] xs = tt
entries-even (l ∷ ls) xs = (refl, entries-even ls (enter_line l xs).keys)

abbrev none : Entry
none = record { relation = equal; a = 0; b = 0; c = pos 0 }

entries_fit : (ls : List Line) → WellFormed (sheet_of ls) → EachIn EntryFits (enter_lines ls []).entries
entries_fit ls W = each_of EntryFits (enter_lines ls []).entries none (λ i h. record {
  none = each_at (λ e. e.c ≡ pos 0) (enter_lines ls []).entries none (entries-even ls []) i h;
  left = let l = W.left i h in let t = W.terms in omega arith;
  right = let r = W.right i h in let t = W.terms in omega arith;
})

module _ {text m : List ℕ} {l : ℕ} (T : Whole text m l) where
  pub formed : WellFormed (sheet_of T.lines)
  formed =
      let c = T.count in
      let s = T.some in
      let f = T.few in
      lines-formed T.lines (omega arith) T.in_limits T.holds.table.few (omega arith)

  pub fields : FieldsIn (sheet_of T.lines)
  fields =
      let c = T.count in
      let s = T.some in
      let f = T.few in
      lines-fields T.lines (omega arith) T.in_limits T.holds.table.few (omega arith)

  -- what is drafted is the sheet of the text
  drafted-bytes : draft m l ≡ sheet_bytes (sheet_of T.lines)
  drafted-bytes =
      let es = (enter_lines T.lines []).entries in
      let n : length es ≡ l = entries-length T.lines [] ∙ T.count in
      ap (draft m) (sym n)
      ∙ draft-bytes m (enter_lines T.lines []).keys es T.holds.table (ap (entry_cells m) (entries-length T.lines []) ∙ T.holds.entries) (entries_fit T.lines formed)

  pub transcribed : {old new : List ℕ} {size : ℕ} → sheet_room ≤ length old → Drafted m l old new size → Transcribed text old new 0 size
  transcribed h D =
      let f = T.holds.table.few in
      let c = T.holds.table.count in
      let n = draft-length m l T.holds.table.cells (omega arith) T.few in
      record {
        no_room = λ k. absurd (omega arith);
        sent_back = λ k N P F. absurd (T.clean N P F.slip);
        transcribed = λ k none. record {
          lines = T.lines;
          same = T.same;
          number_is = refl;
          place_is = D.size_is ∙ sym n ∙ ap length drafted-bytes;
          room-is = rw (← drafted-bytes) D.room-is;
        };
      }
