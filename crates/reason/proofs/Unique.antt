-- The reply is one only but for which reason is written, and a sheet's reasons are of one list.
-- Assumes nothing.
use Prim.Native.Nat.{ℕ, ◌≤◌, ◌<◌}
use mathlib.Core.Path.{◌≡◌, refl, sym, ◌∙◌}
use mathlib.Core.List.{List}
use mathlib.Core.Logic.{◌↔◌}
use lib.ListN.{length}
use native.Mathlib.Omega.{arith}
use Rattle.order.specs.First.{every, set_of}
use Rattle.sheet.specs.Decode.{sheet_of}
use Rattle.sheet.specs.Limits.{room_needed}
use Rattle.sheet.specs.Sheet.{Sheet}
use Rattle.meaning.specs.Meaning.{Holds, Clashes}
use Rattle.grounds.specs.Table.{Reply, fine, refused, refusal}
use Rattle.grounds.proofs.Replies.{refused-ten}
use Rattle.promise.specs.Answered.{SentBack}
use Rattle.promise.proofs.Unique.{one-first, not-both}
use Rattle.paper.specs.Record.{reason_room}
use Rattle.reason.specs.Reasoned.{Told, holds, short, why, SaysWhy, Reasoned}
use Rattle.reason.specs.OneReason.{OneReason}

-- sent back with one number twice
same_back : {N P : ℕ} {old new new' : List ℕ} {n p n' p' : ℕ} → 10 ≤ N → SentBack N P old new n p → SentBack N P old new' n' p' → OneReason old n p new n' p' new'
same_back l b b' =
    record {
      number = b.number_is ∙ sym b'.number_is;
      place = λ h. b.place_is ∙ sym b'.place_is;
      room = λ h. b.room-is ∙ sym b'.room-is;
      written = λ h. absurd (omega (arith, b.number_is));
    }

module _ (s : Sheet) {old new new' : List ℕ} {N P N' P' : ℕ} where
  why-both : SaysWhy s old new N P → SaysWhy s old new' N' P' → OneReason old N P new N' P' new'
  why-both w w' =
      let same = one-first s w.list w'.list w.first w'.first w.within w'.within in
      record {
        number = w.number_is ∙ sym w'.number_is;
        place = λ h. absurd (omega (arith, w.number_is));
        room = λ h. absurd (omega (arith, w.number_is));
        written = λ h. (w.list, w.steps, w'.steps, w.room-is, rw same w'.room-is);
      }

  one_told : Told s old new N P → Told s old new' N' P' → OneReason old N P new N' P' new'
  one_told (holds h b) (holds h' b') = same_back (omega arith) b b'
  one_told (holds h b) (short c l b') = absurd (c h)
  one_told (holds h b) (why w) = absurd (not-both s (set_of w.list) h w.first.has)
  one_told (short c l b) (holds h b') = absurd (c h)
  one_told (short c l b) (short c' l' b') = same_back (omega arith) b b'
  one_told (short c l b) (why w) = absurd (omega (arith, w.enough))
  one_told (why w) (holds h b) = absurd (not-both s (set_of w.list) h w.first.has)
  one_told (why w) (short c l b) = absurd (omega (arith, w.enough))
  one_told (why w) (why w') = why-both w w'

-- with the same sheet and the same room
pub reason-unique : {sheet old new new' : List ℕ} {N P N' P' : ℕ} → Reasoned sheet old new N P → Reasoned sheet old new' N' P' →
    OneReason old N P new N' P' new'
reason-unique {sheet} {old} {new} {new'} {N} {P} {N'} {P'} a b = go (refusal sheet room_needed) refl
  where
    go : (r : Reply) → refusal sheet room_needed ≡ r → OneReason old N P new N' P' new'
    go fine e = one_told (sheet_of sheet) (a.told e) (b.told e)
    go (refused Q R) e = same_back (refused-ten sheet room_needed Q R e) (a.sent_back Q R e) (b.sent_back Q R e)

-- which number a sheet gets that isn't sent back: the meaning decides, and then the room
module _ {s : Sheet} {old new : List ℕ} {N P : ℕ} where
  why-clashes : SaysWhy s old new N P → Clashes s every
  why-clashes w h = not-both s (set_of w.list) h w.first.has

  pub holds-exactly : Told s old new N P → N ≡ 26 ↔ Holds s every
  holds-exactly (holds h b) = (λ e. h, λ e. b.number_is)
  holds-exactly (short c l b) = (λ e. absurd (omega (arith, b.number_is)), λ h. absurd (c h))
  holds-exactly (why w) = (λ e. absurd (omega (arith, w.number_is)), λ h. absurd (why-clashes w h))

  pub short-exactly : Told s old new N P → N ≡ 25 ↔ Clashes s every × (length old < reason_room)
  short-exactly (holds h b) = (λ e. absurd (omega (arith, b.number_is)), λ d. absurd (d.0 h))
  short-exactly (short c l b) = (λ e. (c, l), λ d. b.number_is)
  short-exactly (why w) = (λ e. absurd (omega (arith, w.number_is)), λ d. absurd (omega (arith, w.enough, d.1)))

  pub written-exactly : Told s old new N P → N ≡ 1 ↔ Clashes s every × (reason_room ≤ length old)
  written-exactly (holds h b) = (λ e. absurd (omega (arith, b.number_is)), λ d. absurd (d.0 h))
  written-exactly (short c l b) = (λ e. absurd (omega (arith, b.number_is)), λ d. absurd (omega (arith, d.1)))
  written-exactly (why w) = (λ e. (why-clashes w, w.enough), λ d. w.number_is)
