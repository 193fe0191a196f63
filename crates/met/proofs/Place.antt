-- A key's place in a list, found from the front as the search for it goes, and what is told then.
-- Assumes nothing.
use Prim.Native.Nat.{ℕ, zero, suc, ◌+◌, ◌-◌, ◌≤◌, ◌<◌}
use mathlib.Core.Path.{◌≡◌, refl}
use mathlib.Core.Bool.{Bool, true, false, cond}
use lib.Dec.{eqb, ltb}
use mathlib.Core.List.{List, [], ◌∷◌}
use lib.ListN.{length, take, set}
use Rattle.std.specs.Prelude.{◌==◌, Some, None, position, not}
use Rattle.std.specs.List.{position_or_len}
use Rattle.std.proofs.lemmas.List.{length-take-le}
use Rattle.std.proofs.lemmas.List.Sums.{prefix_len-le-length}
use native.Mathlib.Omega.{arith}
use borrow.Author.Tests.{lt-ltb, le-ltb, le-leb, lt-leb, ltb-true, ltb-false}
use Rattle.sheet.specs.Limits.{max_terms}
use Rattle.slips.specs.Outcome.Outcome.{read, refused}
use Rattle.met.specs.Model.{count_in, place_in, entered}

-- the search for a key passes first at its place
place-first : (ks : List ℕ) (key : ℕ) → place_in ks key ≡ position_or_len (λ k. k == key) ks
place-first [] key = refl
place-first (k ∷ ks) key = go (eqb k key) (place-first ks key)
  where
    go : (t : Bool) → place_in ks key ≡ position_or_len (λ k. k == key) ks → cond t zero (suc (place_in ks key)) ≡ cond (not t) (1 + position_or_len (λ k. k == key) ks) 0
    go true e = refl
    go false e = omega arith

-- and among the first n cells it finds the place, or that there is none
module _ (m : List ℕ) (key : ℕ) {n : ℕ} (l : n ≤ length m) where
  abbrev ks : List ℕ
  ks = take n m

  abbrev first : ℕ
  first = position_or_len (λ k. k == key) ks

  long : length ks ≡ n
  long = length-take-le n m l

  pub found : {j : ℕ} → position (λ k. k == key) ks ≡ Some j → (place_in ks key ≡ j) × (j < n)
  found {j} e = rw (place-first ks key) (go (ltb first (length ks)) refl e)
    where
      go : (t : Bool) → ltb first (length ks) ≡ t → cond t (Some first) None ≡ Some j → (first ≡ j) × (j < n)
      go true q e = let s : first ≡ j = cc in (s, omega (arith, ltb-true first (length ks) q, long))
      go false q e = cc

  pub missed : position (λ k. k == key) ks ≡ None → place_in ks key ≡ n
  missed e = rw (place-first ks key) (go (ltb first (length ks)) refl e)
    where
      go : (t : Bool) → ltb first (length ks) ≡ t → cond t (Some first) None ≡ None → first ≡ n
      go true q e = cc
      go false q e = omega (arith, ltb-false first (length ks) q, prefix_len-le-length (λ k. not (k == key)) ks, long)

module _ (m : List ℕ) (key e : ℕ) where
  pub told-met : {i : ℕ} → place_in (take (count_in m) m) key ≡ i → i < count_in m → entered m key e ≡ record { memory = m; outcome = read e i }
  unfolding entered
  told-met p h = rw (p, lt-ltb _ _ h)

  pub told-full : place_in (take (count_in m) m) key ≡ count_in m → max_terms ≤ count_in m → entered m key e ≡ record { memory = m; outcome = refused 23 (e - 1) }
  unfolding entered
  told-full p h = rw (p, le-ltb (count_in m) (count_in m) (omega arith), le-leb _ _ h)

  pub told-new : place_in (take (count_in m) m) key ≡ count_in m → count_in m < max_terms →
      entered m key e ≡ record { memory = set (set m (count_in m) key) max_terms (count_in m + 1); outcome = read e (count_in m) }
  unfolding entered
  told-new p h = rw (p, le-ltb (count_in m) (count_in m) (omega arith), lt-leb _ _ h)
