-- Values as levels: one level for each of t terms, and behind them the zero level, from which the values are counted.
-- Assumes nothing.
use Rattle.std.specs.Prelude.{ℕ, ◌+◌, ◌*◌, ◌≤◌, ◌≡◌, List, ℤ, get_or, take}
use Rattle.std.proofs.Math.IntN.{sub_ℕ}
use Rattle.sheet.specs.Decode.{each}
use Rattle.answer.specs.Record.{holds_record}

abbrev pub value_at : List ℕ → ℕ → ℕ → ℤ
value_at v t i = sub_ℕ (get_or v i 0) (get_or v t 0)

-- new is old with the record of these values in its first bytes
pub record Recorded (old new v : List ℕ) (D t : ℕ) : Type 0 where
  pub bytes : take (8 + 8 * t) new ≡ holds_record D (each t (value_at v t))
  pub kept : (k : ℕ) → 8 + 8 * t ≤ k → get_or new k 0 ≡ get_or old k 0
