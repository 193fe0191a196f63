-- A walk over legs that comes to be under zero; and a walk over legs is one by the rules with its total, and the other way round.
-- Assumes nothing.
use Prim.Native.Nat.{ℕ, ◌+◌, ◌≤◌}
use mathlib.Core.Path.{◌≡◌, sym, ◌∙◌, ap, subst}
use mathlib.Core.Logic.{◌≢◌}
use mathlib.Core.Bool.{Bool, true, false, false≢true}
use mathlib.Core.List.{List}
use native.Mathlib.Omega.{arith}
use lib.IntN.{ℤ}
use lib.ListN.{length, get_or, take}
use Rattle.kind.specs.Kind.{Kind, weak}
use Rattle.order.specs.First.{Set}
use Rattle.sheet.specs.Sheet.{Sheet, WellFormed, count_terms}
use Rattle.sheet.proofs.Decode.{length-each}
use Rattle.meaning.specs.Decides.{Decides}
use Rattle.meaning.proofs.Decides.{told}
use Rattle.reasons.specs.Step.{Step}
use Rattle.reasons.specs.Rules.{TieWithin, Chain, Walk, Under}
use Rattle.stated.specs.Said.{bound_of, walk_of, WalkFormed}
use Rattle.legs.specs.Legs.{gap_for, start_at, Goes}
use Rattle.legs.specs.declared.Stand.{Stand}
use Rattle.legs.proofs.Walks.{goes_one}
use Rattle.strides.specs.Trodden.{SmallSheet, kind_for, Trod}
use Rattle.strides.proofs.Told.{goes-chain, chain-goes}
use Rattle.linked.specs.Known.{Known}
use Rattle.linked.proofs.Few.{kin-few}
use Rattle.probes.specs.Probes.{GoesTo, UnderAt}
use Rattle.probes.proofs.Told.{plain-stand}
use Rattle.upheld.proofs.Gaps.{gap-one, stands-under, under-stands}

-- a walk over legs that comes to be under zero
pub record Falls (legs bounds : List ℕ) (level count i k : ℕ) : Type 0 where
  pub end : Stand
  pub few : count ≤ level + 1
  pub goes : Goes legs (take count bounds) (start_at i) end
  pub at-is : end.at ≡ k
  pub under : UnderAt end

module _ {legs bounds : List ℕ} {level count i k : ℕ} {e : Stand} (g : Goes legs (take count bounds) (start_at i) e) where
  pub falls-here : {r : Bool} → count ≤ level + 1 → e.at ≡ k → Decides (UnderAt e) r → Decides (Falls legs bounds level count i k) r
  falls-here few a =
      told (λ u. record { end = e; few = few; goes = g; at-is = a; under = u }) (λ F. subst UnderAt (sym (goes_one g F.goes)) F.under)

  pub falls-there : e.at ≢ k → Falls legs bounds level count i k → ⊥
  falls-there n F = n (ap (λ (x : Stand). x.at) (goes_one g F.goes) ∙ F.at-is)

-- a walk of a step, by the rules: its bounds are formed
pub record Walked (s : Sheet) (listed : Set) (steps : List Step) (n count : ℕ) (bounds : List ℕ) (i k : ℕ) (total : Kind) : Type 0 where
  pub formed : WalkFormed count bounds
  pub walk : Walk s listed steps n (walk_of count bounds) i k total

pub record Sinks (s : Sheet) (listed : Set) (steps : List Step) (n count : ℕ) (bounds : List ℕ) (i k : ℕ) : Type 0 where
  pub total : Kind
  pub walked : Walked s listed steps n count bounds i k total
  pub under : Under total

few-bounds : (count : ℕ) (bounds : List ℕ) → length (walk_of count bounds) ≡ count
few-bounds count bounds = length-each count (λ x. bound_of (get_or bounds x 0))

-- a total that isn't strict
weak-is : (b : Bool) (c z : ℤ) → weak c ≡ kind_for b z → (b ≡ true → ⊥) × (c ≡ z)
weak-is true c z e = let z : ◌≡◌ {A = ℕ} 0 1 = cc in absurd (omega arith)
weak-is false c z e = (λ h. false≢true h, cc)

module _ {s : Sheet} {listed : Set} {steps : List Step} {n : ℕ} {legs links : List ℕ} (wf : WellFormed s) (small : SmallSheet s)
    (K : Known s listed steps n legs links) {level : ℕ} (level-is : count_terms s ≡ level) where
  few-ties : n ≤ 256
  few-ties = let l = kin-few K.links-are in let m = wf.terms in omega arith

  treads : {count i k : ℕ} {total : Kind} (bounds : List ℕ) → 129 ≤ length bounds → Walked s listed steps n count bounds i k total →
      Trod legs count bounds i k total
  treads {count} {i} {k} {total} bounds room W =
      let m = wf.terms in
      let f = W.walk.few in
      let l = few-bounds count bounds in
      chain-goes wf small K.legs-are few-ties count bounds (omega arith) (omega arith) i k total W.formed W.walk.chain

  pub goes-walk : {count i j gap : ℕ} {bounds : List ℕ} (c : ℤ) → gap ≡ gap_for c → TieWithin c → 129 ≤ length bounds →
      GoesTo legs bounds level count i j gap → Walked s listed steps n count bounds i j (weak c)
  goes-walk {count} {i} {j} {bounds = bounds} c g w room G =
      let m = wf.terms in
      let f = G.few in
      let C = goes-chain wf small K.legs-are few-ties count bounds (omega arith) (omega arith) i _ G.goes in
      let D = C.comes in
      let e = gap-one c D.sum (omega arith) (omega arith) D.up D.down (sym g ∙ D.gap_is) in
      record {
        formed = C.formed;
        walk = record {
          chain = subst (Chain s listed steps n (walk_of count bounds) i j) (D.total-is ∙ ap weak (sym e)) C.chain;
          few = omega (arith, few-bounds count bounds);
        };
      }

  pub walk-goes : {count i j gap : ℕ} (bounds : List ℕ) (c : ℤ) → gap ≡ gap_for c → 129 ≤ length bounds →
      Walked s listed steps n count bounds i j (weak c) → GoesTo legs bounds level count i j gap
  walk-goes {count} {i} {j} {gap} bounds c g room W =
      let T = treads bounds room W in
      let D = T.comes in
      let f = W.walk.few in
      let (w, e) = weak-is T.end.strict c D.sum D.total-is in
      let p = plain-stand T.end T.at-is (D.gap_is ∙ ap gap_for (sym e) ∙ sym g) w in
      record {
        few = omega (arith, few-bounds count bounds);
        goes = subst (Goes legs (take count bounds) (start_at i)) p T.goes;
      }

  pub falls-sinks : {count i k : ℕ} (bounds : List ℕ) → 129 ≤ length bounds → Falls legs bounds level count i k →
      Sinks s listed steps n count bounds i k
  falls-sinks {count} {i} {k} bounds room F =
      let m = wf.terms in
      let f = F.few in
      let C = goes-chain wf small K.legs-are few-ties count bounds (omega arith) (omega arith) i _ F.goes in
      record {
        total = C.total;
        walked = record {
          formed = C.formed;
          walk = record {
            chain = subst (λ (k : ℕ). Chain s listed steps n (walk_of count bounds) i k C.total) F.at-is C.chain;
            few = omega (arith, few-bounds count bounds);
          };
        };
        under = stands-under C.comes F.under;
      }

  pub sinks-falls : {count i k : ℕ} (bounds : List ℕ) → 129 ≤ length bounds → Sinks s listed steps n count bounds i k →
      Falls legs bounds level count i k
  sinks-falls {count} bounds room S =
      let T = treads bounds room S.walked in
      let f = S.walked.walk.few in
      record {
        end = T.end;
        few = omega (arith, few-bounds count bounds);
        goes = T.goes;
        at-is = T.at-is;
        under = under-stands T.comes S.under;
      }
