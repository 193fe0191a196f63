-- Writing a number from its last byte to its first, and that what is left is one only.
-- Assumes nothing.
use Prim.Native.Nat.{ℕ, suc, ◌+◌, ◌-◌, ◌/◌, ◌%◌, ◌^◌, ◌≤◌, ◌<◌}
use mathlib.Core.Path.{◌≡◌, refl, sym, ◌∙◌, subst}
use mathlib.Core.Logic.{◌≢◌, ◌⊎◌, inl, inr}
use mathlib.Core.List.{List}
use lib.ListN.{length, get_or, set}
use lib.Seq.{get_or-set_same, get_or-set_other, ext_get_or}
use native.Mathlib.Omega.{arith}
use native.Mathlib.Nat.{pow-suc}
use Rattle.whole.proofs.Order.{order}
use Rattle.big.specs.Big.{Bytes, big_of, Kept}
use Rattle.big.proofs.Reading.{big-more, big-digits}

-- the last w - k bytes are written, and what is left, `rest`, belongs into the first k
pub record Written (old new : List ℕ) (at w v rest k : ℕ) : Type 0 where
  pub fits : rest < 256 ^ k
  pub before : (m : ℕ) → m < at + k → get_or new m 0 ≡ get_or old m 0
  pub after : (m : ℕ) → at + w ≤ m → get_or new m 0 ≡ get_or old m 0
  pub whole : (b : List ℕ) → ((m : ℕ) → at + k ≤ m → m < at + w → get_or b m 0 ≡ get_or new m 0) → big_of b at k ≡ rest → big_of b at w ≡ v

write_step : (old new : List ℕ) (at w v rest k : ℕ) → Written old new at w v rest (suc k) → suc k ≤ w → at + k < length new →
    Written old (set new (at + k) (rest % 256)) at w v (rest / 256) k
write_step old new at w v rest k P h l = record {
  fits = omega (arith, P.fits, pow-suc 256 k);
  before = λ m q. other m (omega arith) ∙ P.before m (omega arith);
  after = λ m q. other m (omega arith) ∙ P.after m q;
  whole = λ b s e.
      P.whole b (λ m p q. s m (omega arith) q ∙ other m (omega arith))
      (big-more b at k ∙ omega (arith, e, s (at + k) (omega arith) (omega arith), get_or-set_same new (at + k) (rest % 256) 0 l));
}
  where
    other : (m : ℕ) → m ≢ at + k → get_or (set new (at + k) (rest % 256)) m 0 ≡ get_or new m 0
    other m = get_or-set_other new (at + k) m (rest % 256) 0

-- as the loop has it
pub write_again : (old new : List ℕ) (at w v rest k : ℕ) → 0 < k → k ≤ w → at + (k - 1) < length new → Written old new at w v rest k →
    Written old (set new (at + (k - 1)) (rest % 256)) at w v (rest / 256) (k - 1)
write_again old new at w v rest k h q l P =
    let e : k ≡ suc (k - 1) = omega arith in
    write_step old new at w v rest (k - 1) (subst (Written old new at w v rest) e P) (omega arith) l

pub write-end : (old new : List ℕ) (at w v rest : ℕ) → Written old new at w v rest 0 → (big_of new at w ≡ v) × Kept old new at w
unfolding big_of
write-end old new at w v rest P = (
  P.whole new (λ m p q. refl) (omega (arith, P.fits)),
  record { before = λ m l. P.before m (omega arith); after = P.after },
)

-- what `big::write` leaves is one only
pub write-told : (old a b : List ℕ) (at w : ℕ) → Bytes a → Bytes b → length a ≡ length b → big_of a at w ≡ big_of b at w →
    Kept old a at w → Kept old b at w → a ≡ b
write-told old a b at w A B l e k m = ext_get_or 0 a b l (λ i _. same i (order at i) (order (at + w) i))
  where
    same : (i : ℕ) → (at ≤ i) ⊎ (i < at) → (at + w ≤ i) ⊎ (i < at + w) → get_or a i 0 ≡ get_or b i 0
    same i (inr p) q = k.before i p ∙ sym (m.before i p)
    same i (inl p) (inl q) = k.after i q ∙ sym (m.after i q)
    same i (inl p) (inr q) = big-digits a b A B at w e i p q
