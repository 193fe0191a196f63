-- Marks of the ties that bounds name: of no bound, of one, and of bounds behind others.
-- Assumes nothing.
use Prim.Native.Nat.{ℕ, ◌%◌, ◌≤◌, ◌<◌}
use mathlib.Core.Path.{◌≡◌, refl, sym, ap, ◌∙◌}
use mathlib.Core.Bool.{Bool, true, false}
use mathlib.Core.List.Memᴰ.{head as here}
use mathlib.Core.List.Memᴰ.{not-nil}
use mathlib.Core.List.{List, [], ◌∷◌, ◌++◌, Memᴰ as In}
use mathlib.Core.List.Memᴰ.{append_cases as in_either}
use mathlib.Core.List.Memᴰ.{append_left as in-first}
use mathlib.Core.List.Memᴰ.{append_right as in-second}
use mathlib.Core.List.Memᴰ.{eq_of_singleton as the_one}
use mathlib.Core.Logic.{◌⊎◌, inl, inr, ⊎_elim}
use lib.ListN.{length, get_or, set}
use lib.Seq.{get_or-set_same, get_or-set_other}
use native.Mathlib.Decide.{ℕ_discrete}
use Rattle.order.specs.First.{marked}
use Rattle.needed.specs.Needed.{NamedIn, Marks}

pub marks-none : (names : List ℕ) (need : List Bool) → Marks names [] need need
marks-none names need = record { on = λ t N. absurd (not-nil N.there); stays = λ t m. m; only = λ t m. inl m }

module _ (names : List ℕ) (e : ℕ) (need : List Bool) where
  module _ (h : 1024 ≤ get_or names e 0) (l : get_or names e 0 % 256 < length need) where
    abbrev new : List Bool
    new = set need (get_or names e 0 % 256) true

    own : marked new (get_or names e 0 % 256) ≡ true
    own = get_or-set_same need (get_or names e 0 % 256) true false l

    stays : (t : ℕ) → marked need t ≡ true → marked new t ≡ true
    stays t m = go (ℕ_discrete t (get_or names e 0 % 256))
      where
        go : Dec (t ≡ get_or names e 0 % 256) → marked new t ≡ true
        go (yes f) = rw f own
        go (no n) = get_or-set_other need (get_or names e 0 % 256) t true false n ∙ m

    only : (t : ℕ) → marked new t ≡ true → (marked need t ≡ true) ⊎ NamedIn names (e ∷ []) t
    only t m = go (ℕ_discrete t (get_or names e 0 % 256))
      where
        go : Dec (t ≡ get_or names e 0 % 256) → (marked need t ≡ true) ⊎ NamedIn names (e ∷ []) t
        go (yes f) = inr (record { bound = e; there = here refl; a-tie = h; is = sym f })
        go (no n) = inl (sym (get_or-set_other need (get_or names e 0 % 256) t true false n) ∙ m)

    pub marks-one : Marks names (e ∷ []) need new
    marks-one =
        record {
          on = λ t N. let f = ap (λ (b : ℕ). get_or names b 0 % 256) (the_one N.there) in rw (sym N.is ∙ f) own;
          stays = stays;
          only = only;
        }

-- a bound that is in another list too
moved : {names es fs : List ℕ} {t : ℕ} (N : NamedIn names es t) → In N.bound fs → NamedIn names fs t
moved N m = record { bound = N.bound; there = m; a-tie = N.a-tie; is = N.is }

pub marks-both : {names es fs : List ℕ} {a b c : List Bool} → Marks names es a b → Marks names fs b c → Marks names (es ++ fs) a c
marks-both {es = es} {fs} M N =
    record {
      on = λ t I. ⊎_elim (λ m. N.stays t (M.on t (moved I m))) (λ m. N.on t (moved I m)) (in_either es I.there);
      stays = λ t m. N.stays t (M.stays t m);
      only = λ t m. ⊎_elim (λ o. ⊎_elim inl (λ I. inr (moved I (in-first fs I.there))) (M.only t o))
          (λ I. inr (moved I (in-second es I.there))) (N.only t m);
    }
