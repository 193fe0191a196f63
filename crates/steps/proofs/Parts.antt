-- The parts of a sheet as steps: a tie is two bounds, a term or an entry what its kind says, and a whole part one step after the other.
-- Assumes nothing.
use Prim.Native.Nat.{ℕ, ◌+◌, ◌<◌}
use mathlib.Core.Path.{◌≡◌}
use mathlib.Core.Bool.{Bool, true, false}
use mathlib.Core.List.{List}
use lib.IntN.{pos, sub_ℕ, ◌+ℤ◌, ◌*ℤ◌}
use native.Mathlib.Omega.{arith}
use Rattle.whole.specs.Whole.{plus, minus, ◌≼◌, ◌≺◌}
use Rattle.whole.proofs.Parts.{scaled, sub_parts}
use Rattle.closure.specs.Closed.{AtMost, Below, TiedAt}
use Rattle.closure.specs.Table.{Table}
use Rattle.cells.specs.Cells.{cell}
use Rattle.table.specs.Inserted.{Inserted}
use Rattle.steps.specs.Step.{Stepped, Weak, Strict}
use Rattle.steps.specs.True.{TieTrue}
use Rattle.steps.proofs.Steps.{stepped, changed, refused, followed, at-most-tighter, weak-met, strict-met, weak-held, strict-held}

-- the bounds of a against b + c, where c is held as c + 32,768
module _ {n a b : ℕ} (c : ℕ) {g : ℕ} {old new : List ℕ} {r : Bool} (a< : a < n) (b< : b < n) (T : Table n (cell old)) where
  pub at-most-put : Weak g c 32768 → Inserted n old new a b g r
      → Stepped n (λ D v. v a ≼ v b +ℤ sub_ℕ c 32768 *ℤ pos D) (λ d. AtMost d a b (plus (sub_ℕ c 32768)) (minus (sub_ℕ c 32768))) old new r
  at-most-put w I =
      changed (λ D v q. weak-met w (omega (arith, scaled c 32768 D (v b)))) (λ d h. weak-held w (omega (arith, sub_parts c 32768)) h)
      (stepped n old new a b g r a< b< w.there w.near T I)

  pub less-put : Strict g c 32768 → Inserted n old new a b g r
      → Stepped n (λ D v. v a ≺ v b +ℤ sub_ℕ c 32768 *ℤ pos D) (λ d. Below d a b (plus (sub_ℕ c 32768)) (minus (sub_ℕ c 32768))) old new r
  less-put w I =
      changed (λ D v q. strict-met w (omega (arith, scaled c 32768 D (v b)))) (λ d h. strict-held w (omega (arith, sub_parts c 32768)) h)
      (stepped n old new a b g r a< b< w.there w.near T I)

  pub at-least-put : Weak g 32768 c → Inserted n old new b a g r
      → Stepped n (λ D v. v b +ℤ sub_ℕ c 32768 *ℤ pos D ≼ v a) (λ d. AtMost d b a (minus (sub_ℕ c 32768)) (plus (sub_ℕ c 32768))) old new r
  at-least-put w I =
      changed (λ D v q. weak-met w (omega (arith, scaled c 32768 D (v b)))) (λ d h. weak-held w (omega (arith, sub_parts c 32768)) h)
      (stepped n old new b a g r b< a< w.there w.near T I)

-- both are the tie; a refusal of the first is one of it
pub tie-refused : {n a b : ℕ} (c : ℕ) {g : ℕ} {old new : List ℕ} {r : Bool} → a < n → b < n → Table n (cell old)
    → Weak g c 32768 → Inserted n old new a b g r → r ≡ false
    → Stepped n (TieTrue a b (sub_ℕ c 32768)) (λ d. TiedAt d a b (sub_ℕ c 32768)) old new r
tie-refused c a< b< T w I e = rw e (refused e (changed (λ D v t. rw t.tied (omega arith)) (λ d h. h) (at-most-put c a< b< T w I)))

pub tie-put : {n a b : ℕ} (c : ℕ) {g h : ℕ} {old mid new : List ℕ} {q r : Bool} → a < n → b < n → Table n (cell old)
    → Weak g c 32768 → Inserted n old mid a b g q → q ≡ true → Weak h 32768 c → Inserted n mid new b a h r
    → Stepped n (TieTrue a b (sub_ℕ c 32768)) (λ d. TiedAt d a b (sub_ℕ c 32768)) old new r
tie-put c a< b< T w I e w' I' =
    let S = at-most-put c a< b< T w I in
    followed (λ D v t. rw t.tied (omega arith)) (λ D v t. rw t.tied (omega arith))
    (λ d e t p q. record { to = at-most-tighter t a< b< p; back = q })
    S.kept (S.went e) (at-least-put c a< b< (I.put e).table w' I')
