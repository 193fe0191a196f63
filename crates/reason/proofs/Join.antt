-- What the parts promise, joined: of a sheet that holds, of a room that is too short, and of a reason that is written.
-- Assumes nothing.
use Prim.Native.Nat.{ℕ, ◌≤◌, ◌<◌}
use mathlib.Core.Path.{◌≡◌, refl, sym, ◌∙◌}
use mathlib.Core.List.{List}
use lib.ListN.{length}
use native.Mathlib.Omega.{arith}
use Rattle.order.specs.First.{Set, every, number}
use Rattle.order.proofs.Laws.{first-agree}
use Rattle.order.proofs.Lists.{listed-agrees}
use Rattle.sheet.specs.Decode.{sheet_of}
use Rattle.sheet.specs.Limits.{room_needed}
use Rattle.sheet.specs.Sheet.{Sheet, count_entries, WellFormed}
use Rattle.meaning.specs.Meaning.{Holds, Clashes, FirstClash}
use Rattle.meaning.proofs.Meaning.{clashes-upward}
use Rattle.meaning.proofs.Empty.{clash-some}
use Rattle.grounds.specs.Table.{fine, refused, refusal}
use Rattle.grounds.proofs.Replies.{fine-refused}
use Rattle.promise.proofs.Recorded.{recorded}
use Rattle.reasons.proofs.Exact.{reason-for, closes-within}
use Rattle.paper.specs.Record.{reason_room}
use Rattle.argued.specs.Argued.{Argued}
use Rattle.reason.specs.Reasoned.{Told, holds, short, why, Reasoned}

pub told-holds : (s : Sheet) (old : List ℕ) → Holds s every → Told s old old 26 0
told-holds s old h = holds h (record { number_is = refl; place_is = refl; room-is = refl })

pub told-short : (s : Sheet) (old : List ℕ) → Clashes s every → length old < reason_room → Told s old old 25 0
told-short s old c l = short c l (record { number_is = refl; place_is = refl; room-is = refl })

pub told-why : (s : Sheet) (old new : List ℕ) (size : ℕ) (A : Set) → length new ≡ length old → WellFormed s → reason_room ≤ length old →
    FirstClash s A → Argued s A old new size → Told s old new 1 size
told-why s old new size A same wf enough first a =
    let agree = listed-agrees (count_entries s) A a.list a.listed in
    let first' = first-agree (count_entries s) number (Clashes s) (clashes-upward s) A _ agree first in
    let closes = closes-within a.closes (λ x l h. sym (agree x l) ∙ h) in
    why
    (record {
      list = a.list;
      first = first';
      within = record {
        some = clash-some s wf A a.list (length a.list) first.has a.listed;
        entry = a.listed.entry;
        rising = a.listed.rising;
      };
      steps = a.steps;
      reason = reason-for s a.list a.steps a.last wf first' closes a.spare;
      spare = a.spare;
      enough = enough;
      fits = omega (arith, a.short, a.size_is);
      number_is = refl;
      place_is = a.size_is;
      room-is = recorded _ old new same size a.size_is a.bytes a.after;
    })

pub reasoned-refused : (sheet old : List ℕ) (N P : ℕ) → refusal sheet room_needed ≡ refused N P → Reasoned sheet old old N P
reasoned-refused sheet old N P e = record {
  sent_back = λ Q R q. record { number_is = cc; place_is = cc; room-is = refl };
  told = λ f. absurd (fine-refused f e);
}

pub reasoned-told : (sheet old new : List ℕ) (N P : ℕ) → refusal sheet room_needed ≡ fine → Told (sheet_of sheet) old new N P → Reasoned sheet old new N P
reasoned-told sheet old new N P e t = record { sent_back = λ Q R q. absurd (fine-refused e q); told = λ f. t }
