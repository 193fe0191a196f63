-- A bound and both bounds of a = b + c, with their names, behind the two lists.
-- Assumes nothing.
use Prim.Native.Nat.{ℕ, ◌+◌, ◌<◌}
use mathlib.Core.Path.{◌≡◌, refl, ◌∙◌}
use mathlib.Core.List.{List, [], ◌∷◌}
use lib.ListN.{length, get_or, set, length-set}
use lib.IntN.{ℤ}
use lib.Seq.{get_or-set_same, get_or-set_other}
use native.Mathlib.Omega.{arith}
use Rattle.kind.specs.Kind.{Kind}
use Rattle.layers.specs.declared.Bound.{Bound}
use Rattle.layers.proofs.Same.{same-from, same-to, same-code}
use Rattle.jotted.specs.Jotted.{One, Both}
use Rattle.ledger.specs.Put.{Item, item, two_ways, At, end, next, Put}

pub nothing_put : {list : List Bound} {names : List ℕ} {m : ℕ} → Put list names list names m [] m
nothing_put = record {
  count = omega arith;
  stand = end;
  bounds-kept = λ k l. refl;
  names-kept = λ k l. refl;
}

-- the bound at m, under its name
named : {list list' : List Bound} {names : List ℕ} {m name a b : ℕ} {g : Kind} → One list list' m a b g
    → get_or names m 0 ≡ name → At list' names m (item a b g name)
named O n =
    record { from_is = O.from_is; to_is = O.to_is; gap_is = O.gap_is; there = O.there; near = O.near; name-is = n }

-- and where only another place is written
still : {list : List Bound} {names : List ℕ} {list' : List Bound} {names' : List ℕ} {k m a b : ℕ} {g : Kind} {x : Item} → At list names k x
    → One list list' m a b g → get_or names' k 0 ≡ get_or names k 0 → k < m → At list' names' k x
still {k = k} {m} A O n l =
    let same = O.bounds-kept k (λ e. omega arith) in
    record {
      from_is = same-from same ∙ A.from_is;
      to_is = same-to same ∙ A.to_is;
      gap_is = rw (same-code same) A.gap_is;
      there = rw (same-code same) A.there;
      near = rw (same-code same) A.near;
      name-is = n ∙ A.name-is;
    }

module _ {list list' : List Bound} (names : List ℕ) (m name : ℕ) {a b : ℕ} where
  pub single-put : {g : Kind} → One list list' m a b g → m < length names
      → Put list names list' (set names m name) m (item a b g name ∷ []) (m + 1)
  single-put O l =
      record {
        count = omega arith;
        stand = next (named O (get_or-set_same names m name 0 l)) end;
        bounds-kept = λ k h. O.bounds-kept k (λ e. omega arith);
        names-kept = λ k h. get_or-set_other names m k name 0 (λ e. omega arith);
      }

  pub pair_put : {c : ℤ} → Both list list' m a b c → m + 1 < length names
      → Put list names list' (set (set names m name) (m + 1) (name + 256)) m (two_ways a b c name) (m + 2)
  pair_put B l =
      let one : List ℕ = set names m name in
      let kept : (k : ℕ) → k < m + 1 → get_or (set one (m + 1) (name + 256)) k 0 ≡ get_or one k 0 =
      λ k h. get_or-set_other one (m + 1) k (name + 256) 0 (λ e. omega arith) in
      record {
        count = omega arith;
        stand = next (still {names = one} (named B.there (get_or-set_same names m name 0 (omega arith))) B.back (kept m (omega arith)) (omega arith))
            (next (named B.back (get_or-set_same one (m + 1) (name + 256) 0 (simp length-set (omega arith)))) end);
        bounds-kept = λ k h. B.back.bounds-kept k (λ e. omega arith) ∙ B.there.bounds-kept k (λ e. omega arith);
        names-kept = λ k h. kept k (omega arith) ∙ get_or-set_other names m k name 0 (λ e. omega arith);
      }
