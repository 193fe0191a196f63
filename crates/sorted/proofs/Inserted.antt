-- What putting a key in leaves: the others moved up one by one, numbers that ascend again, and all of them still there.
-- Assumes nothing.
use Prim.Native.Nat.{ℕ, ◌+◌, ◌-◌, ◌≤◌, ◌<◌}
use mathlib.Core.Path.{◌≡◌}
use mathlib.Core.Logic.{⊎_elim}
use mathlib.Core.List.{List}
use lib.ListN.{get_or}
use native.Mathlib.Nat.{eq-or-lt_of_le}
use native.Mathlib.Omega.{arith}
use Rattle.whole.proofs.Order.{order}
use Rattle.sorted.specs.Inserted.{Ascending, Inserted}

-- the keys from place on, none of them below key, stand one higher; what stands at place is free
pub record Shifted (m : ℕ) (old new : List ℕ) (key place : ℕ) : Type 0 where
  pub same : (q : ℕ) → q < place → get_or new q 0 ≡ get_or old q 0
  pub moved : (q : ℕ) → place ≤ q → q < m → (get_or new (q + 1) 0 ≡ get_or old q 0) × (key ≤ get_or old q 0)
  pub past : (q : ℕ) → m < q → get_or new q 0 ≡ get_or old q 0

pub ascending-none : (keys : List ℕ) → Ascending 0 keys
ascending-none keys = record { ascend = λ p q l h. absurd (omega arith) }

pub ascending-fewer : {m n : ℕ} {keys : List ℕ} → m ≤ n → Ascending n keys → Ascending m keys
ascending-fewer l A = record { ascend = λ p q g h. A.ascend p q g (omega arith) }

-- once the key is in, those up to its place are at most the key, and those from there on at least
module _ {m : ℕ} {old new : List ℕ} {key place : ℕ} (I : Inserted m old new key place) where
  up_to : (q : ℕ) → q ≤ place → get_or new q 0 ≤ key
  up_to q l = ⊎_elim (λ e. rw e (omega (arith, I.here))) (λ g. omega (arith, I.lower q g)) (eq-or-lt_of_le {n = q} {m = place} l)

  pub above : (q : ℕ) → place < q → q < m + 1 → (get_or new q 0 ≡ get_or old (q - 1) 0) × (key ≤ get_or old (q - 1) 0)
  above q l h =
      let e : q - 1 + 1 ≡ q = omega arith in
      let moved = I.higher (q - 1) (omega arith) (omega arith) in
      (rw e at moved.0, moved.1)

  from-there : (q : ℕ) → place ≤ q → q < m + 1 → key ≤ get_or new q 0
  from-there q l h =
      ⊎_elim (λ e. let f : q ≡ place = omega arith in rw f (omega (arith, I.here))) (λ g. omega (arith, above q g h))
      (eq-or-lt_of_le {n = place} {m = q} l)

  pub ascending-more : Ascending m old → Ascending (m + 1) new
  ascending-more A = record {
    ascend = λ p q g h.
        ⊎_elim
        (λ l.
        ⊎_elim
        (λ k. omega (arith, up_to p k, from-there q l h))
        (λ k. omega (arith, above p k (omega arith), above q (omega arith) h, A.ascend (p - 1) (q - 1) (omega arith) (omega arith)))
        (order p place))
        (λ l. omega (arith, I.lower p (omega arith), I.lower q l, A.ascend p q g (omega (arith, I.within))))
        (order place q);
  }
