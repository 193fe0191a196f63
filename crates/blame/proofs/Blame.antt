-- The list that is written is the first that clashes, and the bytes are its record.
-- Assumes nothing.
use Prim.Native.Nat.{ℕ, ◌<◌}
use mathlib.Core.Path.{◌≡◌, refl}
use mathlib.Core.Bool.{true, false}
use mathlib.Core.List.{List}
use lib.ListN.{length, replicate, get_or-replicate}
use native.Mathlib.Omega.{arith}
use Rattle.order.specs.First.{Set, every, marked, number}
use Rattle.order.proofs.Laws.{first-agree}
use Rattle.order.proofs.Lists.{listed-agrees}
use Rattle.sheet.specs.Limits.{max_entries}
use Rattle.sheet.specs.Sheet.{Sheet, count_entries, WellFormed}
use Rattle.meaning.specs.Meaning.{Holds, Clashes, FirstClash}
use Rattle.meaning.proofs.Meaning.{meet-fewer, clashes-upward}
use Rattle.meaning.proofs.Empty.{clash-some}
use Rattle.listing.specs.Named.{Named}
use Rattle.blame.specs.Blamed.{Blamed}

pub all-marked : {s : Sheet} → WellFormed s → (x : ℕ) → x < count_entries s → marked (replicate max_entries true) x ≡ true
all-marked wf x l = get_or-replicate max_entries x true false (omega (arith, wf.entries))

pub all_hold : {s : Sheet} → WellFormed s → Holds s (marked (replicate max_entries true)) → Holds s every
all_hold {s} wf h = record { D = h.D; n = h.n; meet = meet-fewer s every _ h.D h.n (λ x l e. all-marked wf x l) h.meet }

pub all-clash : (s : Sheet) → Clashes s (marked (replicate max_entries true)) → Clashes s every
all-clash s c = clashes-upward s _ every (λ x l h. refl) c

pub blamed : {s : Sheet} {A : Set} {old new : List ℕ} {size : ℕ} → WellFormed s → FirstClash s A → Named (count_entries s) A old new size → Blamed s old new size
blamed {s} {A} wf first n = record {
  list = n.list;
  first = first-agree (count_entries s) number (Clashes s) (clashes-upward s) A _ (listed-agrees (count_entries s) A n.list n.listed) first;
  within = record {
    some = clash-some s wf A n.list (length n.list) first.has n.listed;
    entry = n.listed.entry;
    rising = n.listed.rising;
  };
  size_is = n.size_is;
  bytes = n.bytes;
  kept = n.kept;
}
