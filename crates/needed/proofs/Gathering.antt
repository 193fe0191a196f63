-- From the last tie down: what the needed ties from t on rest on is found and marked. What is done at tie t marks earlier ties only, and
-- keeps the walks behind its own, so it changes nothing of that.
-- Assumes nothing.
use Prim.Native.Nat.{ℕ, suc, ◌+◌, ◌-◌, ◌*◌, ◌/◌, ◌%◌, ◌≤◌, ◌<◌}
use mathlib.Core.Path.{◌≡◌, refl, ap, ◌∙◌, subst}
use mathlib.Core.Bool.{Bool, true}
use mathlib.Core.List.{List}
use mathlib.Core.Logic.{◌⊎◌, inl, inr, ⊎_elim}
use lib.ListN.{length, get_or}
use native.Mathlib.Omega.{arith}
use native.Mathlib.Nat.{eq-or-lt_of_le}
use native.Mathlib.Decide.{ℕ_discrete, dec_le}
use Rattle.cells.specs.Cells.{stride}
use Rattle.order.specs.First.{marked}
use Rattle.sheet.specs.Sheet.{Term, Sheet, term_at}
use Rattle.meaning.specs.Meaning.{SameInput}
use Rattle.meaning.specs.Meaning.SameInput.{one, two}
use Rattle.settled.specs.Settled.{points}
use Rattle.layers.specs.Bounds.{bounds, Sound}
use Rattle.layers.specs.declared.Bound.{Bound}
use Rattle.layers.proofs.Rests.{sound-fewer}
use Rattle.sketch.specs.Sketch.{place, numbers_at, how_of, left, right}
use Rattle.forest.proofs.Rows.{labelled-less}
use Rattle.laid.specs.Laid.{ByWalks, Laid}
use Rattle.needed.specs.Needed.{PathOn, WalkOn, Leads, Led, Gathered}
use Rattle.needed.specs.Needed.Leads.{there, back, arguments}
use Rattle.needed.specs.Support.{Walkable, Grounds, Supported}
use Rattle.needed.proofs.Copying.{numbers-kept}

-- `Gathered`, as far as ties from t on go
pub record From (s : Sheet) (list : List Bound) (names ties : List ℕ) (t count : ℕ) (walks walks' : List ℕ) (need need' : List Bool) : Type 0 where
  pub functions : (u : ℕ) → t ≤ u → u < count → marked need' u ≡ true → how_of (get_or ties u 0) ≡ 0
      → SameInput (PathOn ties u need') (term_at s (left ties u)) (term_at s (right ties u))
  pub there : (u : ℕ) → t ≤ u → (e : ℕ) → u < count → marked need' u ≡ true → how_of (get_or ties u 0) ≡ suc e
      → WalkOn (points s) list names walks' need' e (left ties u) (right ties u) (2 * u)
  pub back : (u : ℕ) → t ≤ u → (e : ℕ) → u < count → marked need' u ≡ true → how_of (get_or ties u 0) ≡ suc e
      → WalkOn (points s) list names walks' need' e (right ties u) (left ties u) (2 * u + 1)
  pub stays : (x : ℕ) → marked need x ≡ true → marked need' x ≡ true
  pub only : (x : ℕ) → marked need' x ≡ true → (marked need x ≡ true) ⊎ ((L : Led s names ties walks' need' count x) × (t ≤ L.by))
  pub walks-kept : (k : ℕ) → 2 * count * place ≤ k → get_or walks' k 0 ≡ get_or walks k 0

from_up : (P : ℕ → Type 0) (t : ℕ) → P t → ((u : ℕ) → t < u → P u) → (u : ℕ) → t ≤ u → P u
from_up P t p f u l = ⊎_elim (λ e. subst P e p) (f u) (eq-or-lt_of_le {n = t} {m = u} l)

input-more : {A B : ℕ → ℕ → Type 0} {u v : Term} → ((i j : ℕ) → A i j → B i j) → SameInput A u v → SameInput B u v
input-more f (one h) = one (f _ _ h)
input-more f (two h k) = two (f _ _ h) (f _ _ k)

module _ {s : Sheet} {list : List Bound} {names ties : List ℕ} {count : ℕ} where
  pub none_yet : (walks : List ℕ) (need : List Bool) → From s list names ties count count walks walks need need
  none_yet walks need =
      record {
        functions = λ u l h. absurd (omega arith);
        there = λ u l e h. absurd (omega arith);
        back = λ u l e h. absurd (omega arith);
        stays = λ x m. m;
        only = λ x m. inl m;
        walks-kept = λ k l. refl;
      }

  pub all : {walks walks' : List ℕ} {need need' : List Bool} → From s list names ties 0 count walks walks' need need'
      → Gathered s list names ties count walks walks' need need'
  all G =
      record {
        functions = λ u. G.functions u (omega arith);
        there = λ u. G.there u (omega arith);
        back = λ u. G.back u (omega arith);
        stays = G.stays;
        only = λ x m. ⊎_elim inl (λ L. inr L.0) (G.only x m);
        walks-kept = G.walks-kept;
      }

  module _ {t : ℕ} {walks walks' : List ℕ} {need need' : List Bool} (G : From s list names ties (t + 1) count walks walks' need need') where
    -- tie t isn't needed
    pub left_out : (marked need' t ≡ true → ⊥) → From s list names ties t count walks walks' need need'
    left_out n =
        record {
          functions = λ u l h m. G.functions u (above u l m) h m;
          there = λ u l e h m. G.there u (above u l m) e h m;
          back = λ u l e h m. G.back u (above u l m) e h m;
          stays = G.stays;
          only = λ x m. ⊎_elim inl (λ L. inr (L.0, omega (arith, L.1))) (G.only x m);
          walks-kept = G.walks-kept;
        }
      where
        above : (u : ℕ) → t ≤ u → marked need' u ≡ true → t + 1 ≤ u
        above u l m = ⊎_elim (λ e. absurd (n (rw e m))) (λ h. omega arith) (eq-or-lt_of_le {n = t} {m = u} l)

    -- it is, and what it rests on is found
    module _ {walks'' : List ℕ} {need'' : List Bool} (small : points s ≤ stride) (room : 2 * count * place ≤ length walks')
        (same : length walks'' ≡ length walks') (t< : t < count) (own : marked need' t ≡ true) (S : Supported s list names ties t walks' walks'' need' need'') where
      -- whether a tie behind it is needed stays
      decided : (u : ℕ) → t ≤ u → marked need'' u ≡ true → marked need' u ≡ true
      decided u l m = ⊎_elim (λ o. o) (λ h. absurd (omega (arith, h.0))) (S.only u m)

      path-more : (u i j : ℕ) → PathOn ties u need' i j → PathOn ties u need'' i j
      path-more u i j P = record { path = P.path; tied = P.tied; on = λ x m. S.stays x (P.on x m) }

      numbers-same : (at : ℕ) → 2 * t + 2 ≤ at → at < 2 * count → get_or walks' (at * place) 0 < points s → numbers_at walks'' at ≡ numbers_at walks' at
      numbers-same at l h f = numbers-kept at walks' walks'' same (omega arith) (omega arith) (λ k p q. S.after k (omega arith))

      walk_more : (at : ℕ) {e a b : ℕ} → 2 * t + 2 ≤ at → at < 2 * count → WalkOn (points s) list names walks' need' e a b at
          → WalkOn (points s) list names walks'' need'' e a b at
      walk_more at l h W =
          let e = numbers-same at l h W.few in
          record {
            few = rw (S.after (at * place) (omega arith)) W.few;
            goes = rw e W.goes;
            on = λ x N. S.stays x (W.on x (rw e at N));
          }

      leads-more : (u x : ℕ) → t < u → u < count → marked need' u ≡ true → Leads s names ties walks' u x → Leads s names ties walks'' u x
      leads-more u x l h m (there {e = e} how N) =
          there {t = x} how (rw (numbers-same (2 * u) (omega arith) (omega arith) (G.there u (omega arith) e h m how).few) N)
      leads-more u x l h m (back {e = e} how N) =
          back {t = x} how (rw (numbers-same (2 * u + 1) (omega arith) (omega arith) (G.back u (omega arith) e h m how).few) N)
      leads-more u x l h m (arguments how F T p) = arguments how F T p

      led-more : {x : ℕ} (L : Led s names ties walks' need' count x) → t + 1 ≤ L.by → (L' : Led s names ties walks'' need'' count x) × (t ≤ L'.by)
      led-more {x} L l =
          let l' = leads-more L.by x (omega arith) L.there L.needed L.leads in
          (record { by = L.by; later = L.later; there = L.there; needed = S.stays _ L.needed; leads = l' }, omega arith)

      only : (x : ℕ) → marked need'' x ≡ true → (marked need x ≡ true) ⊎ ((L : Led s names ties walks'' need'' count x) × (t ≤ L.by))
      only x m =
          ⊎_elim (λ o. ⊎_elim inl (λ L. inr (led-more L.0 L.1)) (G.only x o))
          (λ h. inr (record { by = t; later = h.0; there = t<; needed = S.stays t own; leads = h.1 }, omega arith)) (S.only x m)

      pub one_more : From s list names ties t count walks walks'' need need''
      one_more =
          record {
            functions = from_up _ t (λ h m. S.functions)
                (λ u b h m how. input-more (path-more u) (G.functions u (omega arith) h (decided u (omega arith) m) how));
            there = from_up _ t (λ e h m. S.there e)
                (λ u b e h m how. walk_more (2 * u) (omega arith) (omega arith) (G.there u (omega arith) e h (decided u (omega arith) m) how));
            back = from_up _ t (λ e h m. S.back e)
                (λ u b e h m how. walk_more (2 * u + 1) (omega arith) (omega arith) (G.back u (omega arith) e h (decided u (omega arith) m) how));
            stays = λ x m. S.stays x (G.stays x m);
            only = only;
            walks-kept = λ k l. S.after k (omega arith) ∙ G.walks-kept k l;
          }

-- ties as they are laid have grounds
module _ {s : Sheet} {list : List Bound} {old names ties labels : List ℕ} {m listed count : ℕ}
    (L : Laid s list old names ties labels m listed count) (S : Sound (points s) (bounds listed list))
    (named : listed ≤ length names) (plain : (e : ℕ) → e < m → get_or names e 0 < 1024) (few : count ≤ 256) where
  -- of bounds m + 2k and m + 2k + 1 the names are those of the tie that is listed k-th
  number_of : (b k : ℕ) → b < listed → (b ≡ m + 2 * k) ⊎ (b ≡ m + 2 * k + 1) → get_or names b 0 % 256 ≡ L.number k
  number_of b k l (inl e) = let n = L.number< k (omega arith) in omega (arith, ap (λ (x : ℕ). get_or names x 0) e, (L.is-tie k (omega arith)).there)
  number_of b k l (inr e) = let n = L.number< k (omega arith) in omega (arith, ap (λ (x : ℕ). get_or names x 0) e, (L.is-tie k (omega arith)).back)

  half : (b : ℕ) → m ≤ b → (b ≡ m + 2 * ((b - m) / 2)) ⊎ (b ≡ m + 2 * ((b - m) / 2) + 1)
  half b l = go (ℕ_discrete ((b - m) % 2) 0)
    where
      go : Dec ((b - m) % 2 ≡ 0) → (b ≡ m + 2 * ((b - m) / 2)) ⊎ (b ≡ m + 2 * ((b - m) / 2) + 1)
      go (yes e) = inl (omega arith)
      go (no n) = inr (omega arith)

  module _ {t e : ℕ} (W : ByWalks s list ties L.number m t e) (e< : e < listed) where
    earlier : (b : ℕ) → b < e → 1024 ≤ get_or names b 0 → get_or names b 0 % 256 < t
    earlier b b< h = go (dec_le m b)
      where
        go : Dec (m ≤ b) → get_or names b 0 % 256 < t
        go (yes l) =
            let n = number_of b ((b - m) / 2) (omega arith) (half b l) in
            omega (arith, W.earlier ((b - m) / 2) (omega (arith, W.bounds-are)))
        go (no n) = absurd (omega (arith, plain b (omega arith)))

    walkable : Walkable s list names ties t e
    walkable =
        record { sound = sound-fewer (omega arith) S; all-names = omega arith; earlier = earlier; d = W.d; exact = W.exact; tied = W.tied }

  pub grounds : {t : ℕ} → t < count → Grounds s list names ties labels t
  grounds {t} l =
      record {
        labelled = labelled-less (omega arith) L.labelled;
        left< = L.labelled.left< t l;
        right< = L.labelled.right< t l;
        functions = L.of-functions t l;
        walks = λ e how. let W = L.by-walks t e l how in walkable W.1 W.0;
      }
