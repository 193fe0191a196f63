-- The starred sheets: what their bytes say is computed, and what follows from the meaning is `judged`.
-- Assumes nothing.
use mathlib.Core.Path.{refl}
use Rattle.big.specs.Big.{big_of, signed_of, bytes_of}
use Rattle.sheet.specs.Decode.{sheet_of, fields_at, relation_of, decode_term, decode_entry, each}
use Rattle.meaning.proofs.Judged.{judged}
use Rattle.grounds.specs.Rows.{wrong_length, wrong_version, wrong_shape, wrong_term_of, wrong_entry_of, wrong_term, wrong_entry, lowest}
use Rattle.grounds.specs.Table.{refusal, sheet_refusal}
use Rattle.answer.specs.Record.{clashes_record}
use Rattle.starred.specs.Claim.{Starred}

pub starred : Starred
unfolding big_of signed_of bytes_of sheet_of fields_at relation_of decode_term decode_entry each refusal sheet_refusal wrong_length wrong_version wrong_shape wrong_term_of wrong_entry_of wrong_term wrong_entry lowest clashes_record
starred =
    record {
      judged = judged;
      sheet1 = record { accepted = refl; decodes = refl };
      sheet2 = record { accepted = refl; decodes = refl };
      sheet3 = record { accepted = refl; decodes = refl };
      sheet4a = record { accepted = refl; decodes = refl };
      sheet4b = record { accepted = refl; decodes = refl };
      sheet4c = record { accepted = refl; decodes = refl };
      sheet5 = record { accepted = refl; decodes = refl };
      sheet6 = record { accepted = refl; decodes = refl };
      sheet7 = record { accepted = refl; decodes = refl };
      sheet8 = record { accepted = refl; decodes = refl };
      sheet9 = record { accepted = refl; decodes = refl };
      sheet10a = record { accepted = refl; decodes = refl };
      sheet10b = record { accepted = refl; decodes = refl };
      sheet1-answer = refl;
    }
