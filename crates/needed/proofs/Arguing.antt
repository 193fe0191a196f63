-- The paths between the arguments of two applications, marked one behind the other.
-- Assumes nothing.
use Prim.Native.Nat.{ℕ}
use mathlib.Core.Path.{◌≡◌}
use mathlib.Core.Bool.{Bool, true}
use mathlib.Core.List.{List}
use mathlib.Core.Logic.{◌⊎◌, inl, inr, ⊎_elim}
use Rattle.order.specs.First.{marked}
use Rattle.sheet.specs.Sheet.{Term, apply, apply2}
use Rattle.meaning.specs.Meaning.SameInput.{one, two}
use Rattle.forest.specs.Labels.{PathMarked}
use Rattle.needed.specs.Needed.{PathOn, Facing}
use Rattle.needed.specs.Needed.Facing.{one as only_one, first as the-first, second as the_second}
use Rattle.needed.specs.Support.{Between, Argued}

-- a marked path stays so
module _ {ties : List ℕ} {t i j : ℕ} {old new : List Bool} (P : PathMarked ties t i j old new) where
  path-on : {later : List Bool} → ((x : ℕ) → marked new x ≡ true → marked later x ≡ true) → PathOn ties t later i j
  path-on stays = record { path = P.path; tied = P.tied; on = λ x m. stays x (P.on x m).1 }

  between : {u v : Term} → Facing u v i j → (x : ℕ) → marked new x ≡ true → (marked old x ≡ true) ⊎ Between ties t u v x
  between F x m =
      ⊎_elim inl (λ k. inr (record { i = i; j = j; path = P.path; facing = F; tied = P.tied; on = k; earlier = (P.on x k).0 })) (P.only x m)

module _ {ties : List ℕ} {t f g : ℕ} {u v : Term} {old : List Bool} where
  pub argued-one : {a b : ℕ} {new : List Bool} → u ≡ apply f a → v ≡ apply g b → f ≡ g → PathMarked ties t a b old new → Argued ties t u v old new
  argued-one p q e P = rw (p, q, e) (record { input = one (path-on P (λ x m. m)); stays = P.stays; only = between P only_one })

  pub argued-two : {a b c d : ℕ} {mid new : List Bool} → u ≡ apply2 f a c → v ≡ apply2 g b d → f ≡ g → PathMarked ties t a b old mid
      → PathMarked ties t c d mid new → Argued ties t u v old new
  argued-two p q e P Q =
      rw (p, q, e) (record {
        input = two (path-on P Q.stays) (path-on Q (λ x m. m));
        stays = λ x m. Q.stays x (P.stays x m);
        only = λ x m. ⊎_elim (between P the-first x) inr (between Q the_second x m);
      })
