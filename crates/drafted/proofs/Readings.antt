-- What is written can be read: the walks of kept ties, and those of an ending.
-- Assumes nothing.
use Prim.Native.Nat.{ℕ, zero, suc, ◌+◌, ◌*◌, ◌≤◌, ◌<◌}
use mathlib.Core.Path.{◌≡◌, refl}
use mathlib.Core.Bool.{Bool, true}
use mathlib.Core.List.{List}
use lib.ListN.{length, get_or}
use native.Mathlib.Omega.{arith}
use Rattle.order.specs.First.{Set, marked}
use Rattle.sheet.specs.Sheet.{Sheet, WellFormed}
use Rattle.settled.specs.Settled.{points}
use Rattle.layers.specs.Bounds.{bounds}
use Rattle.layers.specs.declared.Bound.{Bound}
use Rattle.sketch.specs.Sketch.{how_of, ending, walks_length}
use Rattle.needed.specs.Needed.{FoundBoth, FoundRound, Gathered}
use Rattle.drafted.specs.Drafted.{Drafted}
use Rattle.drafted.specs.Ending.{Legible}
use Rattle.drafted.proofs.Named.{few-ties, all-earlier, behind}
use Rattle.drafted.proofs.Walks.{legible-of, found_in}
use Rattle.drafted.proofs.Ends.{ending-kept, way-there, way_back}

module _ {s : Sheet} {S : Set} {list : List Bound} {names ties labels : List ℕ} {m listed count : ℕ} (W : WellFormed s)
    (D : Drafted s S list names ties labels m listed count) {walks walks' : List ℕ} {need need' : List Bool}
    (G : Gathered s list names ties count walks walks' need need') (full : walks_length ≤ length walks') where
  pub ties-legible : (t : ℕ) → t < count → marked need' t ≡ true → 0 < how_of (get_or ties t 0) →
      Legible t listed names walks' (2 * t) × Legible t listed names walks' (2 * t + 1)
  ties-legible t l kept h = go (how_of (get_or ties t 0)) refl
    where
      go : (how : ℕ) → how_of (get_or ties t 0) ≡ how → Legible t listed names walks' (2 * t) × Legible t listed names walks' (2 * t + 1)
      go zero how = absurd (omega arith)
      go (suc e) how =
          let (e<, earlier) = behind W D t l how in
          let T = G.there t e l kept how in
          let B = G.back t e l kept how in
          let c : t < 128 = omega (arith, few-ties W D, W.terms) in (
            legible-of W D (omega arith) earlier (2 * t) (omega arith) T.few T.goes,
            legible-of W D (omega arith) earlier (2 * t + 1) (omega arith) B.few B.goes,
          )

  pub round-legible : {w : List ℕ} {before need₀ : List Bool} (e : ℕ) → e < listed →
      FoundRound (points s) (bounds e list) names e ending w walks before need₀ → length walks' ≡ length walks →
      Legible count listed names walks' ending
  round-legible e e< F same =
      let P = ending-kept W D G ending (omega arith) (omega (arith, W.terms)) same (found_in F.way) in
      legible-of W D (omega arith) (all-earlier W D e (omega arith)) 256 (omega arith) P.few P.goes

  pub tie-legible : {a b : ℕ} {w : List ℕ} {before need₀ : List Bool}
      (F : FoundBoth (points s) (bounds listed list) a b names ending w walks before need₀) →
      length walks' ≡ length walks → Legible count listed names walks' ending × Legible count listed names walks' (ending + 1)
  tie-legible F same =
      let few : points s ≤ 129 = omega (arith, W.terms) in
      let P = way-there W D G F few same in
      let Q = way_back W D G F few same in
      let earlier = all-earlier W D listed (omega arith) in (
        legible-of W D (omega arith) earlier 256 (omega arith) P.few P.goes,
        legible-of W D (omega arith) earlier 257 (omega arith) Q.few Q.goes,
      )
