-- Steps that follow each other are counted one by one, and those of them that tie.
-- Assumes nothing.
use Prim.Native.Nat.{ℕ, suc, ◌+◌, ◌≤◌, ◌<◌}
use mathlib.Core.Path.{◌≡◌, refl}
use mathlib.Core.List.{List}
use lib.ListN.{length}
use native.Mathlib.Decide.{dec_lt}
use native.Mathlib.Omega.{arith}
use Rattle.sheet.specs.Decode.{byte_at}
use Rattle.recited.specs.Recited.{size_at, Whole, Steps, done, tie, other}
use Rattle.recited.specs.Reading.{Ends}
use Rattle.recited.proofs.Reading.{ends-within}

-- so many steps are left from `at` on, and so many ties were found before
pub record Left (r : List ℕ) (at left found ties : ℕ) : Type 0 where
  pub others : ℕ
  pub steps : Steps r at left others
  pub sum : ties ≡ found + others

-- those from `first` on are so many and so many ties just where those that are left are
pub record Passed (r : List ℕ) (first count ties at left found : ℕ) : Type 0 where
  pub within : at ≤ length r
  pub few : found + left ≤ count
  pub to : Left r at left found ties → Steps r first count ties
  pub from : Steps r first count ties → Left r at left found ties

-- a step is a tie by its kind
pub record Adds (r : List ℕ) (at found more : ℕ) : Type 0 where
  pub tie : byte_at r at < 2 → more ≡ found + 1
  pub other : 2 ≤ byte_at r at → more ≡ found

pub none_passed : (r : List ℕ) (first count ties : ℕ) → first ≤ length r → Passed r first count ties first count 0
none_passed r first count ties l =
    record {
      within = l;
      few = omega arith;
      to = λ L. let e : L.others ≡ ties = omega (arith, L.sum) in rw e at L.steps;
      from = λ S. record { others = ties; steps = S; sum = omega arith };
    }

none_left : {r : List ℕ} {at others : ℕ} → Steps r at 0 others → (at ≡ length r) × (others ≡ 0)
none_left (done h) = (h, refl)

-- over one step
module _ {r : List ℕ} {at end left found more ties : ℕ} (W : Whole r at) (E : Ends r at end) (A : Adds r at found more) where
  one_on : Left r end left more ties → Left r at (suc left) found ties
  one_on L = go (dec_lt (byte_at r at) 2)
    where
      rest : Steps r (at + size_at r at) left L.others
      rest = rw (E.whole W) at L.steps

      go : Dec (byte_at r at < 2) → Left r at (suc left) found ties
      go (yes b) = record { others = suc L.others; steps = tie W b rest; sum = omega (arith, L.sum, A.tie b) }
      go (no b) = record { others = L.others; steps = other W (omega arith) rest; sum = omega (arith, L.sum, A.other (omega arith)) }

  one-back : {others : ℕ} → ties ≡ found + others → Steps r at (suc left) others → Left r end left more ties
  one-back e (tie {ties = others} X b S) = record { others = others; steps = rw (E.whole W) S; sum = omega (arith, A.tie b) }
  one-back {others} e (other X b S) = record { others = others; steps = rw (E.whole W) S; sum = omega (arith, A.other b) }

module _ {r : List ℕ} {first count ties at left found : ℕ} (P : Passed r first count ties at left found) where
  pub one-passed : {end rest more : ℕ} → left ≡ suc rest → Whole r at → Ends r at end → Adds r at found more → Passed r first count ties end rest more
  one-passed {end} {rest} {more} e W E A =
      record {
        within = ends-within E;
        few = fewer (dec_lt (byte_at r at) 2);
        to = λ L. P.to (rw e (one_on W E A L));
        from = λ S. let L = P.from S in one-back W E A L.sum (rw e at L.steps);
      }
    where
      fewer : Dec (byte_at r at < 2) → more + rest ≤ count
      fewer (yes b) = omega (arith, P.few, A.tie b)
      fewer (no b) = omega (arith, P.few, A.other (omega arith))

  module _ (e : left ≡ 0) where
    pub all-passed : at ≡ length r → ties ≡ found → Steps r first count ties
    all-passed i j = P.to (record { others = 0; steps = rw e (done i); sum = omega arith })

    pub wrong-end : (at ≡ length r → ties ≡ found → ⊥) → Steps r first count ties → ⊥
    wrong-end f S = let L = P.from S in let (i, j) = none_left (rw e at L.steps) in f i (omega (arith, L.sum))
