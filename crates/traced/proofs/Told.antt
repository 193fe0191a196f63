-- The sets of no tie, those of one tie more, and what they say: the ties of the path between two points.
-- Assumes nothing.
use Prim.Native.Nat.{ℕ, suc, ◌≤◌, ◌<◌}
use mathlib.Core.Path.{◌≡◌, refl, sym, ap, ap₂, ◌∙◌}
use mathlib.Core.Bool.{Bool, true, xor}
use mathlib.Core.Logic.{◌≢◌, ◌↔◌, ⊎_elim}
use mathlib.Core.List.{List, Memᴰ as In}
use lib.Dec.{eqb}
use lib.IntN.{ℤ}
use lib.ListN.{get_or, set, replicate}
use native.Mathlib.Nat.{eq-or-lt_of_le}
use native.Mathlib.Omega.{arith}
use Rattle.order.specs.First.{Set}
use Rattle.sheet.specs.Sheet.{Sheet, count_terms}
use Rattle.reasons.specs.Step.{Step, step_at}
use Rattle.reasons.specs.Rules.{Ties, Tied, TieRight}
use Rattle.reasons.proofs.Paths.{JoinsTwo, right-joins, turned, one-path}
use Rattle.sets.specs.declared.Ties.{Ties as TieSet}
use Rattle.sets.specs.Sets.{has, stored, put}
use Rattle.sets.proofs.Rows.{stored-put, stored_other, put-length}
use Rattle.legs.specs.Legs.{range}
use Rattle.links.specs.Links.{link_of, by_of, up_of, root, top_of, by, up, Climbs, Joined}
use Rattle.links.specs.Links.Joined.{first_below, second_below}
use Rattle.links.proofs.Words.{by-link, up-link}
use Rattle.links.proofs.Hanging.{at-lower, at-upper, at_other, three}
use Rattle.routes.specs.Routes.{Upwards, FromBoth, both, PathSays, LaidPath}
use Rattle.linked.specs.Known.{Across, Kin, Known}
use Rattle.linked.specs.Known.Across.{first_below as first-end, second_below as second-end}
use Rattle.linked.proofs.Groups.{lifted, across-tied}
use Rattle.linked.proofs.Common.{ties-small, settled, Above, above, common}
use Rattle.linked.proofs.Few.{kin-few, distinct}
use Rattle.linked.proofs.Joins.{start-by}
use Rattle.traced.specs.Traced.{oddly, Traced}
use Rattle.traced.proofs.Odd.{xor_comm, odd-over, turned-odd, on-odd, odd_is}
use Rattle.traced.proofs.Climbs.{upwards-odd}

-- at first no point is linked
pub traced-start : {steps : List Step} → Traced steps (replicate 256 (top_of 1)) (replicate 512 0)
traced-start = record { size = refl; path = λ h m T. absurd (omega (arith, start-by _ h)) }

-- a tie's set has the tie itself, and what is on the ways up from its ends
record Ends (links paths : List ℕ) (u n lower upper : ℕ) (there : Bool) : Type 0 where
  low : Bool
  high : Bool
  from-lower : Upwards links paths u lower low
  from-upper : Upwards links paths u upper high
  is : there ≡ xor (eqb u n) (xor low high)

module _ {links paths : List ℕ} {u n a b : ℕ} {there : Bool} where
  ends : {odd : Bool} → FromBoth links paths u a b odd → there ≡ xor (eqb u n) odd → Ends links paths u n a b there
  ends (both {x} {y} A B) e = record { low = x; high = y; from-lower = A; from-upper = B; is = e }

  ends_turned : Ends links paths u n a b there → Ends links paths u n b a there
  ends_turned E = record {
    low = E.high;
    high = E.low;
    from-lower = E.from-upper;
    from-upper = E.from-lower;
    is = E.is ∙ ap (λ (o : Bool). xor (eqb u n) o) (xor_comm E.low E.high);
  }

module _ {s : Sheet} {listed : Set} {steps : List Step} {n : ℕ} {legs links paths : List ℕ} (K : Known s listed steps n legs links)
    (T : Traced steps links paths) where
  joins : (t : ℕ) → t < n → JoinsTwo steps t
  joins t l = right-joins (K.ties t l)

  module _ (R : TieRight s listed steps n (step_at steps n)) where
    joins-next : (t : ℕ) → t < suc n → JoinsTwo steps t
    joins-next t l = ⊎_elim (λ e. rw e (right-joins R)) (λ m. joins t m) (eq-or-lt_of_le {n = t} {m = n} (omega arith))

    -- x, to which the lower end of tie n climbs, goes below y, to which the upper end climbs
    module _ (size k : ℕ) (size_small : size < 256) (k-small : k < range) {lower upper x y g h : ℕ} {d : ℤ} (lower-point : lower ≤ count_terms s)
        (upper-point : upper ≤ count_terms s) (across : Across (step_at steps n) lower upper d) (C : Climbs links root lower x g)
        (D : Climbs links root upper y h) (path : TieSet) (own : (u : ℕ) → Ends links paths u n lower upper (has path u)) where
      abbrev kin : Kin s steps n links
      kin = K.links-are

      abbrev new : List ℕ
      new = set (set links x (link_of n y k)) y (top_of size)

      below : Above kin n lower x
      below = above kin (ties-small kin) lower-point (settled kin lower-point C)

      over : Above kin n upper y
      over = above kin (ties-small kin) upper-point (settled kin upper-point D)

      small : n ≤ 128
      small = omega (arith, kin-few kin, kin.terms)

      y-small : y < 256
      y-small = omega (arith, over.point, kin.terms)

      own-path : {c : ℤ} {p : List ℕ} → Tied steps (suc n) x y c p → (u : ℕ) → has path u ≡ oddly u p
      own-path {p = p} h u =
          let record { low = a; high = b; from-lower = A; from-upper = B; is = e } = own u in
          let L = below.grouped in
          let U = over.grouped in
          let back = turned L.tied in
          let low = upwards-odd kin T joins lower-point A (settled kin lower-point C) L.tied in
          let high = upwards-odd kin T joins upper-point B (settled kin upper-point D) U.tied in
          let round = turned-odd steps n joins L.tied back.tied u in
          let all = odd-over u n back.path U.path in
          let one = ap (λ (l : List ℕ). oddly u l) (one-path steps (suc n) joins-next h (across-tied back.tied across U.tied)).1 in
          cc

      each-path : {i : ℕ} {c : ℤ} {p : List ℕ} → i < 256 → by new i < root → Tied steps (suc (by new i)) i (up new i) c p →
          (u : ℕ) → has (stored (put paths n path) (by new i)) u ≡ oddly u p
      each-path {i} {c} {p} l m h u =
          three x y i (λ e. absurd (omega (arith, topmost e))) new-one (λ v w. kept (at_other links x y (link_of n y k) (top_of size) i v w))
        where
          topmost : i ≡ y → by new i ≡ root
          topmost e =
              rw e (ap by_of (at-upper links x y (link_of n y k) (top_of size) (omega (arith, y-small, kin.size)))
              ∙ by-link root size 0 (omega arith) size_small (omega arith))

          new-one : i ≢ y → i ≡ x → has (stored (put paths n path) (by new i)) u ≡ oddly u p
          new-one apart f =
              let e : get_or new i 0 ≡ link_of n y k = rw f (at-lower links x y (link_of n y k) (top_of size) (rw f at apart) (omega (arith, below.point, kin.terms, kin.size))) in
              let b : by new i ≡ n = ap by_of e ∙ by-link n y k (omega (arith, small)) y-small k-small in
              let v : up new i ≡ y = ap up_of e ∙ up-link n y k (omega (arith, small)) y-small k-small in
              rw (b, stored-put paths n path (omega (arith, small, T.size))) (own-path (rw (b, v, f) at h) u)

          kept : get_or new i 0 ≡ get_or links i 0 → has (stored (put paths n path) (by new i)) u ≡ oddly u p
          kept e =
              let b : by links i < root = omega (arith, ap by_of e) in
              let o = stored_other paths n (by links i) path (λ f. omega (arith, kin.earlier.earlier i l b)) in
              rw (e, o) (T.path l b (rw e at h) u)

      traced : Traced steps new (put paths n path)
      traced = record { size = put-length paths n path ∙ T.size; path = each-path }

    pub traced-next : {links' paths' : List ℕ} {a b g : ℕ} {c : ℤ} → Ties (step_at steps n) a b c → a ≤ count_terms s → b ≤ count_terms s →
        Joined links links' n a b g → LaidPath links paths paths' n a b → Traced steps links' paths'
    traced-next {links'} {paths'} {a} {b} {g} t p q joined L = rw L.is (go joined)
      where
        go : Joined links links' n a b g → Traced steps links' (put paths n L.path)
        go (first_below {size = z} C D l e) =
            rw e (traced z _ l (omega arith) p q (first-end t) C D L.path (λ u. let (odd, w, is) = L.own u in ends w is))
        go (second_below {size = z} C D l e) =
            rw e (traced z _ l (omega arith) q p (second-end t) D C L.path (λ u. let (odd, w, is) = L.own u in ends_turned (ends w is)))

  pub traced-between : {t i j : ℕ} {c : ℤ} {p : List ℕ} → t ≤ n → i ≤ count_terms s → j ≤ count_terms s → Tied steps t i j c p → (r : TieSet) →
      PathSays links paths i j r → (u : ℕ) → has r u ≡ true ↔ In u p
  traced-between {t} {i} {j} {c} {p} l a b h r says u =
      let (to, from) = odd_is {u = u} (distinct (λ v m. joins v (omega arith)) h) in
      let e = from-both (has r u) (says u) in
      (λ f. to (sym e ∙ f), λ m. e ∙ from m)
    where
      from-both : (odd : Bool) → FromBoth links paths u i j odd → odd ≡ oddly u p
      from-both odd (both A B) =
          let kin = K.links-are in
          let whole = lifted n l h in
          let C = common kin n (omega arith) i j c p a whole in
          let L = (above kin (ties-small kin) a C.left).grouped.tied in
          let U = (above kin (ties-small kin) b C.right).grouped.tied in
          let D = (turned U).tied in
          ap₂ xor (upwards-odd kin T joins a A C.left L) (upwards-odd kin T joins b B C.right U ∙ sym (turned-odd steps n joins U D u))
          ∙ sym (on-odd steps n joins L D whole u)
