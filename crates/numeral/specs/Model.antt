-- How a number is read. Nothing here need be believed: proofs/ says what it means for the text.
-- Assumes nothing.
use Rattle.std.specs.Prelude.{ℕ, suc, ◌+◌, ◌*◌, ◌-◌, ◌≤◌, ◌<◌, ◌≡◌, cond, List, [], ◌∷◌, ltb, eqb, get_or, drop, Option, Some, None, Ok, Err}
use Rattle.slips.specs.Outcome.{Outcome, Found}
use Rattle.slips.specs.Outcome.Outcome.{read, refused}

-- it ends behind something, and fits two bytes
abbrev pub Bounded : Found → Type 0
Bounded (Ok found) = (1 ≤ found.0) × (found.1 ≤ 65535)
Bounded (Err slip) = Unit {0}

-- the digit that a byte is, or 10 or more
abbrev pub digit_of : ℕ → ℕ
digit_of b = cond (ltb b 48) 10 (b - 48)

-- the digit d, or none
abbrev pub DigitAs : ℕ → Option ℕ → Type 0
DigitAs d (Some c) = (c < 10) × (c ≡ d)
DigitAs d None = 10 ≤ d

-- on from a number n that ends before e
unfoldable pub more : ℕ → List ℕ → (e n : ℕ) → Outcome
more limit [] e n = read e n
more limit (b ∷ bs) e n =
    cond (ltb (digit_of b) 10)
    (cond (eqb n 0) (refused 20 e) (cond (ltb limit (10 * n + digit_of b)) (refused 22 e) (more limit bs (suc e) (10 * n + digit_of b))))
    (read e n)

unfoldable pub number : List ℕ → (i least limit : ℕ) → Outcome
number bs i least limit =
    let d = digit_of (get_or bs i 0) in
    cond (ltb 9 d) (refused 20 i) (cond (ltb d least) (refused 20 i) (more limit (drop (suc i) bs) (suc i) d))
