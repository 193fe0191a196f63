-- Every text has a first slip, or is whole without one.
-- Assumes nothing.
use Prim.Native.Nat.{ℕ, zero, suc, ◌-◌, ◌≤◌, ◌<◌}
use mathlib.Core.Path.{◌≡◌, refl}
use mathlib.Core.Logic.{◌⊎◌, inl, inr}
use mathlib.Core.Bool.{Bool, true, false}
use mathlib.Core.List.{List, []}
use lib.ListN.{length, get_or, replicate}
use native.Mathlib.Omega.{arith}
use native.Mathlib.Decide.{dec_lt}
use Rattle.sheet.specs.Limits.{max_entries}
use Rattle.slips.specs.Outcome.{Outcome}
use Rattle.slips.specs.Outcome.Outcome.{read, refused}
use Rattle.slips.specs.Slips.{FirstSlip}
use Rattle.met.specs.Model.{memory_cells}
use Rattle.met.proofs.Entered.{table-start}
use Rattle.lines.specs.Model.{line_at, begins_line}
use Rattle.lines.specs.Reading.{Holds, Whole}
use Rattle.lines.proofs.Told.{LineTold}
use Rattle.lines.proofs.Onward.{Far, set_out, told, one_more, one-too-many, begins-none, empty, whole}

-- the text has a first slip
pub record First (bs : List ℕ) : Type 0 where
  pub number : ℕ
  pub place : ℕ
  pub first : FirstSlip bs number place

-- the text is read to its end
pub record Read (bs : List ℕ) : Type 0 where
  pub memory : List ℕ
  pub count : ℕ
  pub whole : Whole bs memory count

-- behind as many lines as may be
full : {bs : List ℕ} {i l : ℕ} {m : List ℕ} → Far bs i l m → i < length bs → l ≡ max_entries → First bs
full {bs} {i} F h n = go (begins_line (get_or bs i 0)) refl
  where
    go : (t : Bool) → t ≡ begins_line (get_or bs i 0) → First bs
    go true e = record { number = 23; place = i; first = one-too-many F h n e refl refl }
    go false e = record { number = 20; place = i; first = begins-none F h e refl refl }

-- one line more, or the end; what comes behind a line is given
module _ {bs : List ℕ} {i l : ℕ} {m : List ℕ} (F : Far bs i l m) (behind : i < length bs → (e n : ℕ) (new : List ℕ) → i < e → Far bs e n new → First bs ⊎ Read bs) where
  line : (new : List ℕ) (o : Outcome) → i < length bs → LineTold bs F.lines i new o → First bs ⊎ Read bs
  line new (read e n) h E = behind h e n new E.begins (one_more F E)
  line new (refused N P) h S = inl (record { number = N; place = P; first = S })

  further : First bs ⊎ Read bs
  further = go (dec_lt i (length bs)) (dec_lt l max_entries) (dec_lt 0 l)
    where
      few : l ≤ max_entries
      few = let c = F.count in let f = F.reading.few in omega arith

      go : Dec (i < length bs) → Dec (l < max_entries) → Dec (0 < l) → First bs ⊎ Read bs
      go (yes h) (yes n) s = let u = line_at bs i m l in line u.memory u.outcome h (told F h n)
      go (yes h) (no n) s = inl (full F h (omega arith))
      go (no h) n (yes s) = inr (record { memory = m; count = l; whole = whole F (omega arith) (λ z. omega arith) })
      go (no h) n (no s) = inl (record { number = 20; place = 0; first = empty F (omega arith) (omega arith) })

-- each line takes one or more of the bytes that are left, at most k
onward : (k : ℕ) {bs : List ℕ} {i l : ℕ} {m : List ℕ} → length bs - i ≤ k → Far bs i l m → First bs ⊎ Read bs
onward zero b F = further F (λ h. absurd (omega arith))
onward (suc k) b F = further F (λ h e n new p G. onward k (omega arith) G)

-- before the first line
pub nothing_read : Holds [] (replicate memory_cells 0)
nothing_read = record { table = table-start; entries = refl }

pub decides : (bs : List ℕ) → First bs ⊎ Read bs
decides bs = onward (length bs) (omega arith) (set_out bs (replicate memory_cells 0) nothing_read)
