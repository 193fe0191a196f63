-- A draft of a list that was written, with the table that was grown for it, is ready for its ending.
-- Assumes nothing.
use Rattle.std.proofs.Common.{◌≡◌, ℕ, ◌≤◌, List, length, arith}
use Rattle.cells.specs.Cells.{stride, cells, cell}
use Rattle.order.specs.First.{Set}
use Rattle.sheet.specs.Sheet.{Sheet, WellFormed, count_entries}
use Rattle.grown.specs.Grown.{Grew}
use Rattle.layers.specs.declared.Bound.{Bound}
use Rattle.jotted.specs.Jotted.{most}
use Rattle.drafted.specs.Drafted.{Drafted}
use Rattle.paper.specs.Record.{head_length, reason_room}
use Rattle.paper.specs.Written.{Lists}
use Rattle.argued.specs.Draft.{Ready}
use Rattle.argued.proofs.Record.{few-listed}

-- where no bound was refused, the table has all of them
pub all-grew : {s : Sheet} {list : List Bound} {m : ℕ} {d : ℕ → ℕ → ℕ} {listed put : ℕ} → Grew s list m d listed put → listed ≤ put →
    Grew s list m d listed listed
all-grew {listed = listed} {put} G l = rw (let e : put ≡ listed = omega (arith, G.at-most) in e) at G

pub ready : {s : Sheet} {list : List Bound} {names ties labels best old room : List ℕ} {m listed put count k : ℕ} {S : Set} → WellFormed s →
    Drafted s S list names ties labels m listed count → Grew s list m (cell best) listed put →
    Lists (count_entries s) S old room head_length k → reason_room ≤ length old →
    length names ≡ most → length ties ≡ stride → length labels ≡ cells → length best ≡ cells →
    Ready s list names ties labels best room m listed count put k
ready {names = names} {old = old} {room} {S = S} W D G L r n t l b = record {
  formed = W;
  set = S;
  drafted = D;
  grew = G;
  all-names = omega (arith, n, D.ledger.few, W.terms, W.entries, G.ties.listed-is, G.ties.few);
  all-ties = t;
  all-labels = l;
  all-cells = b;
  enough = omega (arith, r, L.written.size);
  few = omega (arith, few-listed L.listed, W.entries);
}
