-- A head written as one number, and that it stands while what follows it is written.
-- Assumes nothing.
use Rattle.std.proofs.Common.{◌≡◌, ℕ, ◌+◌, ◌*◌, ◌<◌, ◌≤◌, List, get_or, refl, ◌∙◌, arith}
use Rattle.big.specs.Big.{Bytes, big_of, Kept}
use Rattle.big.proofs.Reading.{big-same}
use Rattle.writing.specs.Head.{Headed}

-- a number before the bytes that are written stays
pub before-kept : {old new : List ℕ} {at w : ℕ} → Kept old new at w → (p k : ℕ) → p + k ≤ at → big_of new p k ≡ big_of old p k
before-kept {old} {new} K p k l = big-same new old p k (λ m h q. K.before m (omega arith))

-- digits of a number, of one byte and of two
byte : (q p r s : ℕ) → r < 256 → s < 256 → q * 256 + r ≡ p * 256 + s → (q ≡ p) × (r ≡ s)
byte q p r s r< s< e = (omega arith, omega arith)

pair : (q p r s : ℕ) → r < 65536 → s < 65536 → q * 65536 + r ≡ p * 65536 + s → (q ≡ p) × (r ≡ s)
pair q p r s r< s< e = (omega arith, omega arith)

-- as `writing::head` writes it
pub headed : {old new : List ℕ} {n v m : ℕ} → Bytes new → v < 256 → m < 65536 →
    big_of new 0 8 ≡ (((n * 256 + 1) * 256 + v) * 65536 + m) * 65536 → Kept old new 0 8 → Headed old new n v m
unfolding big_of
headed {new} {n} {v} {m} B v< m< e K =
    let (six, zero_is) = pair (big_of new 0 6) (((n * 256 + 1) * 256 + v) * 65536 + m) (big_of new 6 2) 0 (omega (arith, B 6, B 7)) (omega arith) (omega arith) in
    let (four, count-is) = pair (big_of new 0 4) ((n * 256 + 1) * 256 + v) (big_of new 4 2) m (omega (arith, B 4, B 5)) m< (omega arith) in
    let (three, verdict-is) = byte (big_of new 0 3) (n * 256 + 1) (get_or new 3 0) v (B 3) v< (omega arith) in
    let (size_is, one-is) = byte (big_of new 0 2) n (get_or new 2 0) 1 (B 2) (omega arith) (omega arith) in
    record { size_is = size_is; one-is = one-is; verdict-is = verdict-is; count-is = count-is; zero_is = zero_is; kept = K }

pub head-stays : {old mid new : List ℕ} {n v m w : ℕ} → Headed old mid n v m → Kept mid new 8 w → Headed new new n v m
head-stays H K = record {
  size_is = before-kept K 0 2 (omega arith) ∙ H.size_is;
  one-is = K.before 2 (omega arith) ∙ H.one-is;
  verdict-is = K.before 3 (omega arith) ∙ H.verdict-is;
  count-is = before-kept K 4 2 (omega arith) ∙ H.count-is;
  zero_is = before-kept K 6 2 (omega arith) ∙ H.zero_is;
  kept = record { before = λ i l. refl; after = λ i l. refl };
}
