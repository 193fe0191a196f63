-- Walks in memory over listed bounds: they chain by the rules, their ties are those that are named, and they can be read.
-- Assumes nothing.
use Prim.Native.Nat.{ℕ, zero, suc, ◌+◌, ◌-◌, ◌*◌, ◌≤◌, ◌<◌}
use mathlib.Core.Path.{◌≡◌, refl, sym, ap, ◌∙◌, subst}
use mathlib.Core.Bool.{Bool, true}
use mathlib.Core.Logic.{inl, inr, ⊎_elim}
use mathlib.Core.List.Memᴰ.{append_left as in_left}
use mathlib.Core.List.Memᴰ.{head as here}
use mathlib.Core.List.Memᴰ.{not-nil}
use mathlib.Core.List.Memᴰ.{tail as later}
use mathlib.Core.List.{List, [], ◌∷◌, Memᴰ as In}
use lib.ListN.{length, get_or, take, drop, length-take, length-drop}
use lib.Seq.{get_or-take, get_or-drop, ext_get_or}
use native.Mathlib.Omega.{arith}
use Rattle.kind.specs.Code.{none}
use Rattle.kind.specs.Kind.{Kind, added, kind_of}
use Rattle.closure.specs.Walk.{Tight}
use Rattle.closure.proofs.Order.{tight-antisym}
use Rattle.order.specs.First.{Set, marked}
use Rattle.sheet.specs.Sheet.{Sheet, WellFormed}
use Rattle.settled.specs.Settled.{points}
use Rattle.walked.specs.Borne.{Exact, Few}
use Rattle.walked.proofs.Found.{no-tighter, shortest}
use Rattle.layers.specs.Bounds.{Bounds, bounds, from_at, to_at, code_at, Listed, Goes}
use Rattle.layers.specs.declared.Bound.{Bound as ListedBound}
use Rattle.layers.specs.Bounds.Goes.{stop, step}
use Rattle.layers.proofs.Rests.{goes-walk}
use Rattle.reasons.specs.Step.{Bound, Step}
use Rattle.reasons.specs.Rules.{Chain, Walk}
use Rattle.reasons.specs.Rules.Chain.{stop as ended, step as further}
use Rattle.sketch.specs.Sketch.{bound_named, named, place, numbers_at, Fits}
use Rattle.needed.specs.Needed.{NamedIn, Marks, Found}
use Rattle.drafted.specs.Drafted.{Drafted}
use Rattle.drafted.specs.Ending.{Legible}
use Rattle.drafted.proofs.Named.{OfTie, Earlier, all-earlier, name-earlier, tie-named, named-of-tie, over-bound}

module _ {B : Bounds} where
  goes-below : {i j b : ℕ} {t : Kind} {es : List ℕ} → Goes B i j t es → In b es → b < B.count
  goes-below stop p = absurd (not-nil p)
  goes-below (step e l w) (here p) = rw p l
  goes-below (step e l w) (later p) = goes-below w p

  goes_at : {i j : ℕ} {t : Kind} {es : List ℕ} (x : ℕ) → Goes B i j t es → x < length es → get_or es x 0 < B.count
  goes_at x stop p = absurd (omega arith)
  goes_at zero (step e l w) p = l
  goes_at (suc x) (step e l w) p = goes_at x w (omega arith)

  -- a walk than which none is tighter comes to the cell of a table that rests on the bounds
  pub least-total : {d : ℕ → ℕ → ℕ} {n i j : ℕ} {t : Kind} {es : List ℕ} → Exact n (Listed B) d → i < n → j < n → d i j < none →
      Goes B i j t es → ((u : Kind) → Few (Listed B) (n - 1) i j u → Tight t u) → t ≡ kind_of (d i j)
  least-total {d} {n} {i} {j} X i< j< l w least =
      tight-antisym _ _ (least _ (shortest n (Listed B) d X i j i< j< l)) (no-tighter n (Listed B) d X i j i< j< (goes-walk w).walk)

-- a walk that is kept in memory
pub numbers-same : (old new : List ℕ) (at : ℕ) → length new ≡ length old → get_or old (at * place) 0 < place →
    ((k : ℕ) → at * place ≤ k → k < (at + 1) * place → get_or new k 0 ≡ get_or old k 0) → numbers_at new at ≡ numbers_at old at
numbers-same old new at e l f =
    rw (f (at * place) (omega arith) (omega arith)) (ext_get_or 0 (part new) (part old) (simp (length-take, length-drop) (rw e)) at_each)
  where
    n : ℕ
    n = get_or old (at * place) 0

    part : List ℕ → List ℕ
    part l = take n (drop (at * place + 1) l)

    at_each : (i : ℕ) → i < length (part new) → get_or (part new) i 0 ≡ get_or (part old) i 0
    at_each i h =
        let k : i < n = omega (arith, length-take n (drop (at * place + 1) new)) in
        get_or-take n _ i 0 k ∙ get_or-drop (at * place + 1) new i 0 ∙ f (at * place + 1 + i) (omega arith) (omega arith)
        ∙ sym (get_or-drop (at * place + 1) old i 0) ∙ sym (get_or-take n _ i 0 k)

-- what is found at a place: a walk of fewer than n bounds, than which none is tighter, and its ties marked
pub record InPlace (n : ℕ) (B : Bounds) (a b : ℕ) (names : List ℕ) (at : ℕ) (walks : List ℕ) (old new : List Bool) : Type 0 where
  pub few : get_or walks (at * place) 0 < n
  pub total : Kind
  pub goes : Goes B a b total (numbers_at walks at)
  pub least : (t : Kind) → Few (Listed B) (n - 1) a b t → Tight total t
  pub marks : Marks names (numbers_at walks at) old new

pub found_in : {n a b at : ℕ} {B : Bounds} {names walks walks' : List ℕ} {old new : List Bool} → Found n B a b names at walks walks' old new →
    InPlace n B a b names at walks' old new
found_in F = record { few = F.few; total = F.total; goes = F.goes; least = λ t f. F.least f; marks = F.marks }

-- it stays where the memory is kept
pub in-place-kept : {n a b at : ℕ} {B : Bounds} {names walks : List ℕ} {old new : List Bool} (walks' : List ℕ) → n < place →
    length walks' ≡ length walks →
    ((k : ℕ) → at * place ≤ k → k < (at + 1) * place → get_or walks' k 0 ≡ get_or walks k 0) → InPlace n B a b names at walks old new →
    InPlace n B a b names at walks' old new
in-place-kept {n} {a} {b} {at} {B} {names} {walks} {old} {new} walks' h e f P =
    let same : numbers_at walks' at ≡ numbers_at walks at = numbers-same walks walks' at e (omega (arith, P.few)) f in
    record {
      few = omega (arith, f (at * place) (omega arith) (omega arith), P.few);
      total = P.total;
      goes = subst (λ (es : List ℕ). Goes B a b P.total es) (sym same) P.goes;
      least = P.least;
      marks = subst (λ (es : List ℕ). Marks names es old new) (sym same) P.marks;
    }

-- a walk goes over tie t
pub record TieIn (walk : List Bound) (t : ℕ) : Type 0 where
  pub bound : Bound
  pub there : In bound walk
  pub of-tie : OfTie bound t

named-later : {names es : List ℕ} {e t : ℕ} → NamedIn names es t → NamedIn names (e ∷ es) t
named-later N = record { bound = N.bound; there = later N.there; a-tie = N.a-tie; is = N.is }

length-named : (names es : List ℕ) → length (named names es) ≡ length es
unfolding named
length-named names [] = refl
length-named names (e ∷ es) = ap suc (length-named names es)

module _ {s : Sheet} {S : Set} {list : List ListedBound} {names ties labels : List ℕ} {m listed count : ℕ} (W : WellFormed s)
    (D : Drafted s S list names ties labels m listed count) where
  -- the ties that a walk goes over are those that its numbers name
  abbrev Known : List ℕ → Type 0
  Known es = (b : ℕ) → In b es → b < listed

  tie-at : (es : List ℕ) {b : Bound} {t : ℕ} → Known es → In b (named names es) → OfTie b t → NamedIn names es t
  unfolding named
  tie-at [] f p o = absurd (not-nil p)
  tie-at (e ∷ es) {t = t} f (here p) o =
      let N = tie-named W D e t (f e (here refl)) (rw p at o) in
      record { bound = e; there = here refl; a-tie = N.0; is = N.1 }
  tie-at (e ∷ es) f (later p) o = named-later (tie-at es (λ b q. f b (later q)) p o)

  pub tie-in : (es : List ℕ) {t : ℕ} → Known es → TieIn (named names es) t → NamedIn names es t
  tie-in es f T = tie-at es f T.there T.of-tie

  in-named : {b : ℕ} {es : List ℕ} → In b es → In (bound_named (get_or names b 0)) (named names es)
  unfolding named
  in-named (here p) = here (ap (λ (x : ℕ). bound_named (get_or names x 0)) p)
  in-named (later p) = later (in-named p)

  pub in-tie : (es : List ℕ) {t : ℕ} → Known es → NamedIn names es t → TieIn (named names es) t
  in-tie es f N =
      record {
        bound = bound_named (get_or names N.bound 0);
        there = in-named N.there;
        of-tie = rw N.is at (named-of-tie W D N.bound (f _ N.there) N.a-tie);
      }

  -- a walk over the first e bounds, the ties among which are earlier than n
  module _ {e n : ℕ} (h : e ≤ listed) (earlier : Earlier W D e n) where
    pub known : {i j : ℕ} {t : Kind} {es : List ℕ} → Goes (bounds e list) i j t es → Known es
    known w b p = omega (arith, goes-below w p)

    module _ {steps : List Step} (F : Fits ties count steps) where
      chain-of : {i j : ℕ} {t : Kind} {es : List ℕ} → Goes (bounds e list) i j t es → Chain s S steps n (named names es) i j t
      unfolding named
      chain-of stop = ended
      chain-of (step b l w) = further (over-bound W D b l h F earlier) (chain-of w)

      pub walk_of : {i j : ℕ} {t : Kind} (walks : List ℕ) (at : ℕ) → get_or walks (at * place) 0 < points s →
          Goes (bounds e list) i j t (numbers_at walks at) → Walk s S steps n (named names (numbers_at walks at)) i j t
      walk_of walks at l w =
          record {
            chain = chain-of w;
            few = omega (arith, length-named names (numbers_at walks at), length-take (get_or walks (at * place) 0) (drop (at * place + 1) walks));
          }

    pub legible-of : {i j : ℕ} {t : Kind} {walks : List ℕ} (at : ℕ) → (at + 1) * place ≤ length walks → get_or walks (at * place) 0 < points s →
        Goes (bounds e list) i j t (numbers_at walks at) → Legible n listed names walks at
    legible-of {walks = walks} at full l w =
        record {
          short = omega (arith, W.terms);
          listed< = λ x x<. omega (arith, below x x<);
          named = λ x x<. name-earlier W D _ (below x x<) h earlier;
        }
      where
        below : (x : ℕ) → x < get_or walks (at * place) 0 → get_or walks (at * place + 1 + x) 0 < e
        below x x< =
            let k : ℕ = get_or walks (at * place) 0 in
            let r : x < length (numbers_at walks at) =
            omega (arith, W.terms, length-take k (drop (at * place + 1) walks), length-drop (at * place + 1) walks) in
            rw (get_or-take k (drop (at * place + 1) walks) x 0 x<, get_or-drop (at * place + 1) walks x 0) at (goes_at x w r)

  -- the walk with bound e in front
  pub round-of : {steps : List Step} {j : ℕ} {t : Kind} (walks : List ℕ) (at e : ℕ) → e < listed → Fits ties count steps →
      get_or walks (at * place) 0 < points s → Goes (bounds e list) (to_at list e) j t (numbers_at walks at) →
      Walk s S steps count (bound_named (get_or names e 0) ∷ named names (numbers_at walks at)) (from_at list e) j (added (kind_of (code_at list e)) t)
  round-of walks at e l F h w =
      record {
        chain =
            further (over-bound W D e l (omega arith) F (all-earlier W D listed (omega arith)))
            (chain-of (omega arith) (all-earlier W D e (omega arith)) F w);
        few = omega (arith, length-named names (numbers_at walks at), length-take (get_or walks (at * place) 0) (drop (at * place + 1) walks));
      }

  -- and its ties
  module _ (e : ℕ) (es : List ℕ) (l : e < listed) (f : Known es) where
    all_known : Known (e ∷ es)
    all_known b (here p) = omega arith
    all_known b (later p) = f b p

    pub round-in : {t : ℕ} → TieIn (bound_named (get_or names e 0) ∷ named names es) t → NamedIn names (e ∷ es) t
    unfolding named
    round-in T = tie-in (e ∷ es) all_known T

    pub in-round : {t : ℕ} → NamedIn names (e ∷ es) t → TieIn (bound_named (get_or names e 0) ∷ named names es) t
    unfolding named
    in-round N = in-tie (e ∷ es) all_known N

-- the marks of a walk, and then of a bound, are those of the walk behind the bound
module _ {names es : List ℕ} {e : ℕ} {old mid new : List Bool} (A : Marks names es old mid) (B : Marks names (e ∷ []) mid new) where
  one-named : {t : ℕ} → NamedIn names (e ∷ []) t → NamedIn names (e ∷ es) t
  one-named N = record { bound = N.bound; there = in_left es N.there; a-tie = N.a-tie; is = N.is }

  named-marked : {t : ℕ} → NamedIn names (e ∷ es) t → marked new t ≡ true
  named-marked {t} N = go N.there
    where
      go : In N.bound (e ∷ es) → marked new t ≡ true
      go (here p) = B.on t (record { bound = N.bound; there = here p; a-tie = N.a-tie; is = N.is })
      go (later p) = B.stays t (A.on t (record { bound = N.bound; there = p; a-tie = N.a-tie; is = N.is }))

  pub marks-round : Marks names (e ∷ es) old new
  marks-round =
      record {
        on = λ t N. named-marked N;
        stays = λ t h. B.stays t (A.stays t h);
        only = λ t h. ⊎_elim (λ k. ⊎_elim inl (λ N. inr (named-later N)) (A.only t k)) (λ N. inr (one-named N)) (B.only t h);
      }
