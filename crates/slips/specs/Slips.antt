-- What is wrong with a text, after document 02: at which bytes each refusal is due. The earliest byte counts, and there the lowest number.
-- Assumes nothing.
use Rattle.std.specs.Prelude.{ℕ, zero, suc, ◌≤◌, ◌<◌, ◌≡◌, Bool, List, length, get_or, take}
use Rattle.sheet.specs.Limits.{max_terms, max_entries}
use Rattle.text.specs.Text.Sign.{plus, minus}
use Rattle.text.specs.Print.{is_digit, Fault}
use Rattle.text.specs.Typed.{Context, Use, State, value, shown, Alive}
use Rattle.text.specs.Typed.Context.{on_left, on_right, argument, second}
use Rattle.text.specs.Typed.Lead.{of_negative, of_variable, of_symbol, of_shift}
use Rattle.text.specs.Typed.Use.{of_number, led}
use Rattle.text.specs.Typed.State.{stopped, wants, due, digits, closed, bang, under}
use Rattle.numbered.specs.Completed.{completed}

-- brackets go no deeper than this
abbrev pub max_depth : ℕ
max_depth = 16

-- the largest number that may stand there: x99, f255, and c from -32,768 to 32,767
abbrev pub limit : Use → ℕ
limit of_number = 32767
limit (led of_negative) = 32768
limit (led of_variable) = 99
limit (led of_symbol) = 255
limit (led (of_shift p plus)) = 32767
limit (led (of_shift p minus)) = 32768

-- how many brackets are open
abbrev pub depth_of : Context → ℕ
depth_of (on_left ls) = zero
depth_of (on_right ls t r) = zero
depth_of (argument f C) = suc (depth_of C)
depth_of (second f t C) = suc (depth_of C)

abbrev pub depth : State → ℕ
depth stopped = zero
depth (wants C) = depth_of C
depth (due C L) = depth_of C
depth (digits C K n) = depth_of C
depth (closed C f ts) = depth_of C
depth (bang ls t) = zero
depth (under ls t) = zero

-- how many lines are begun: behind whole lines the next one isn't
abbrev pub line : Context → ℕ
line (on_left ls) = suc (length ls)
line (on_right ls t r) = suc (length ls)
line (argument f C) = line C
line (second f t C) = line C

abbrev pub begun : State → ℕ
begun stopped = zero
begun (wants (on_left ls)) = length ls
begun (wants (on_right ls t r)) = suc (length ls)
begun (wants (argument f C)) = line C
begun (wants (second f t C)) = line C
begun (due C L) = line C
begun (digits C K n) = line C
begun (closed C f ts) = line C
begun (bang ls t) = suc (length ls)
begun (under ls t) = suc (length ls)

-- s is bs as far as its byte p, that one included
pub record Upto (bs : List ℕ) (p : ℕ) (s : State) : Type 0 where
  pub within : p < length bs
  pub alive : Alive s
  pub looks : shown s ≡ take (suc p) bs

-- a digit stands at p
abbrev pub digit_at : List ℕ → ℕ → Bool
digit_at bs p = is_digit (get_or bs p 0)

pub data Slip (bs : List ℕ) : (number place : ℕ) → Type 0 where
  -- no text of the form begins so, or the text ends too early
  form : {p : ℕ} → Fault bs p → Slip bs 20 p
  -- an opening bracket that goes too deep
  deep : {p : ℕ} {s : State} → Upto bs p s → max_depth < depth s → Slip bs 21 p
  -- a digit that takes a number out of range
  range : {p : ℕ} {C : Context} {K : Use} {n : ℕ} → Upto bs p (digits C K n) → limit K < value K n → Slip bs 22 p
  -- the last byte of a term too many
  terms : {p : ℕ} {s : State} → Upto bs p s → max_terms < length (completed (digit_at bs (suc p)) s) → Slip bs 23 p
  -- the first byte of a line too many
  lines : {p : ℕ} {s : State} → Upto bs p s → max_entries < begun s → Slip bs 23 p

-- the refusal: a slip at the earliest byte, the lowest number first at one byte
pub record FirstSlip (bs : List ℕ) (number place : ℕ) : Type 0 where
  pub slip : Slip bs number place
  pub earliest : (N P : ℕ) → Slip bs N P → place ≤ P
  pub lowest : (N : ℕ) → Slip bs N place → number ≤ N
