-- The next tie of a set that isn't walked yet, by what the sets on the way to it have.
-- Assumes nothing.
use Prim.Native.Nat.{ℕ}
use mathlib.Core.Path.{◌≡◌, refl, ◌∙◌, sym, ap}
use mathlib.Core.Bool.{Bool, true, false, not, ◌&&◌, ◌||◌, true≢false}
use mathlib.Core.List.{List}
use lib.Dec.{eqb}
use lib.ListN.{length}
use borrow.Author.Tests.{not-true, not-false}
use native.Mathlib.Omega.{arith}
use Rattle.sets.specs.declared.Ties.{Ties}
use Rattle.sets.specs.Sets.{has, stored, put, FirstFrom}
use Rattle.sets.proofs.Rows.{put-length, stored-put}
use Rattle.std.specs.Prelude.{Some, None}
use Rattle.gathered.specs.Gathers.{is_walked, NextSays}

both : (a b : Bool) → a && b ≡ true → (a ≡ true) × (b ≡ true)
both true b h = (refl, h)
both false b h = absurd (true≢false (sym h))

-- `rest` has the ties of a set that aren't walked
module _ (ties : Ties) (walked : List ℕ) (rest : Ties) {before : Ties} (is : before ≡ stored walked 0)
    (left : (t : ℕ) → has rest t ≡ has ties t && not (has before t)) where
  still-left : (t : ℕ) → has rest t ≡ has ties t && not (is_walked walked t)
  still-left t = left t ∙ ap (λ (a : Ties). has ties t && not (has a t)) is

  passed : (t : ℕ) → has rest t ≡ false → has ties t ≡ true → is_walked walked t ≡ true
  passed t n h = not-false _ (sym (still-left t ∙ ap (λ (a : Bool). a && not (is_walked walked t)) h) ∙ n)

  -- r is its first one
  pub found : (from : ℕ) {r : ℕ} (one more : Ties) → FirstFrom rest from (Some r) → length walked ≡ 2 → ((t : ℕ) → has one t ≡ eqb t r) →
      ((t : ℕ) → has more t ≡ has before t || has one t) → NextSays ties from walked (put walked 0 more) (Some r)
  found from {r} one more f size alone either = record {
    size = put-length walked 0 more;
    below = f.below;
    from_on = f.from_on;
    passed = λ t l b. passed t (f.none t l b);
    here = let h = both _ _ (sym (still-left r) ∙ f.here) in (h.0, not-true _ h.1);
    now-walked = λ t.
        ap (λ (a : Ties). has a t) (stored-put walked 0 more (omega (arith, size)))
        ∙ either t
        ∙ ap (λ (a : Ties). has a t || has one t) is
        ∙ ap (λ (a : Bool). is_walked walked t || a) (alone t);
  }

  -- it has none
  pub not_found : (from : ℕ) → FirstFrom rest from None → NextSays ties from walked walked None
  not_found from f = record { passed = λ t l b. passed t (f t l b); same = refl }
