-- Marks of symbols: how each is used by the terms so far; a term's test by the mark of its symbol is row 16's.
-- Assumes nothing.
use Prim.Native.Nat.{ℕ, zero, suc, ◌+◌, ◌<◌}
use mathlib.Core.Path.{◌≡◌, refl, sym, ap, ap₂, ◌∙◌, subst}
use mathlib.Core.Bool.{Bool, true, false, not, ◌&&◌, ◌||◌, true≢false}
use mathlib.Core.List.{List}
use lib.Dec.{eqb}
use lib.ListN.{length, get_or, set, replicate, length-set, get_or-replicate}
use lib.Seq.{get_or-set_same, get_or-set_other}
use native.Mathlib.Omega.{arith}
use native.Mathlib.Decide.{ℕ_discrete}
use borrow.Author.Tests.{eq-eqb, ne_eqb, eqb-true, eqb-false}
use Rattle.sheet.specs.declared.Fields.{Fields}
use Rattle.sheet.specs.Sheet.{Term, unknown, number, shift, apply, apply2, Sheet, term_at}
use Rattle.sheet.specs.Decode.{byte_at, stated_terms, term_place, fields_at, term_kinds, decode_term, sheet_of}
use Rattle.sheet.proofs.Decode.{terms-stated, term-decoded}
use Rattle.grounds.specs.Rows.{with_one, with_two, other_count, some_below, other_count_in}
use Rattle.grounds.proofs.Passed.{neither}
use Rattle.grounds.proofs.Counts.{none_of}

-- a term of kind 3 or 4, and its symbol
pub data Uses (symbol : ℕ) : (kind : ℕ) → Term → Type 0 where
  one : {a : ℕ} → Uses symbol 3 (apply symbol a)
  two : {a b : ℕ} → Uses symbol 4 (apply2 symbol a b)

pub uses : (f : Fields) → eqb f.kind 3 || eqb f.kind 4 ≡ true → Uses f.symbol f.kind (decode_term f)
unfolding decode_term
uses f = go (eqb f.kind 3) (eqb f.kind 4) refl refl
  where
    go : (t u : Bool) → eqb f.kind 3 ≡ t → eqb f.kind 4 ≡ u → t || u ≡ true → Uses f.symbol f.kind (get_or (term_kinds f) f.kind unknown)
    go true u p q e = rw (eqb-true f.kind 3 p) one
    go false true p q e = rw (eqb-true f.kind 4 q) two
    go false false p q e = absurd (true≢false (sym e))

-- terms of other kinds use no symbol
pub uses-none : (f : Fields) → eqb f.kind 3 || eqb f.kind 4 ≡ false → (symbol : ℕ) →
    (with_one symbol (decode_term f) ≡ false) × (with_two symbol (decode_term f) ≡ false)
unfolding decode_term
uses-none f e symbol = let (p, q) = neither _ _ e in go f.kind (eqb-false _ _ p) (eqb-false _ _ q)
  where
    go : (k : ℕ) → (k ≡ 3 → ⊥) → (k ≡ 4 → ⊥) → (with_one symbol (get_or (term_kinds f) k unknown) ≡ false) × (with_two symbol (get_or (term_kinds f) k unknown) ≡ false)
    go zero p q = (refl, refl)
    go (suc zero) p q = (refl, refl)
    go (suc (suc zero)) p q = (refl, refl)
    go (suc (suc (suc zero))) p q = absurd (p refl)
    go (suc (suc (suc (suc zero)))) p q = absurd (q refl)
    go (suc (suc (suc (suc (suc k))))) p q = (refl, refl)

-- so of a sheet's terms by their bytes
module _ (b : List ℕ) (i : ℕ) (l : i < stated_terms b) where
  abbrev kind : ℕ
  kind = byte_at b (term_place i)

  decoded : term_at (sheet_of b) i ≡ decode_term (fields_at b (term_place i))
  decoded = term-decoded b i (omega (arith, terms-stated b))

  pub term-uses : eqb kind 3 || eqb kind 4 ≡ true → Uses (byte_at b (term_place i + 1)) kind (term_at (sheet_of b) i)
  unfolding fields_at
  term-uses e = rw decoded (uses (fields_at b (term_place i)) e)

  pub term-uses-none : eqb kind 3 || eqb kind 4 ≡ false → (symbol : ℕ) →
      (with_one symbol (term_at (sheet_of b) i) ≡ false) × (with_two symbol (term_at (sheet_of b) i) ≡ false)
  unfolding fields_at
  term-uses-none e symbol = rw decoded (uses-none (fields_at b (term_place i)) e symbol)

-- of such a term row 16 says nothing
not-other : (t u : Term) → ((symbol : ℕ) → (with_one symbol t ≡ false) × (with_two symbol t ≡ false)) → other_count t u ≡ false
not-other unknown u none = refl
not-other (number c) u none = refl
not-other (shift a c) u none = refl
not-other (apply f a) u none = absurd (true≢false (sym (eq-eqb f f refl) ∙ (none f).0))
not-other (apply2 f a b) u none = absurd (true≢false (sym (eq-eqb f f refl) ∙ (none f).1))

pub passed_over : (s : Sheet) (i : ℕ) → ((symbol : ℕ) → (with_one symbol (term_at s i) ≡ false) × (with_two symbol (term_at s i) ≡ false)) → false ≡ other_count_in s i
unfolding other_count_in
passed_over s i none = sym (none_of i _ (λ j l. not-other (term_at s i) (term_at s j) none))

-- of a symbol, whether it was used with one argument, and with two, and its mark
pub data Mark : (one two : Bool) → ℕ → Type 0 where
  unused : Mark false false 0
  ones : Mark true false 3
  twos : Mark false true 4

pub record Marked (s : Sheet) (i : ℕ) (marks : List ℕ) : Type 0 where
  pub long : length marks ≡ 256
  pub mark : (symbol : ℕ) → symbol < 256 →
      Mark (some_below i (λ j. with_one symbol (term_at s j))) (some_below i (λ j. with_two symbol (term_at s j))) (get_or marks symbol 0)

-- the test: used, and not so
abbrev pub differs : ℕ → ℕ → Bool
differs mark kind = not (eqb mark 0) && not (eqb mark kind)

differs-one : {one two : Bool} {m : ℕ} → Mark one two m → differs m 3 ≡ two
differs-one unused = refl
differs-one ones = refl
differs-one twos = refl

differs-two : {one two : Bool} {m : ℕ} → Mark one two m → differs m 4 ≡ one
differs-two unused = refl
differs-two ones = refl
differs-two twos = refl

pub marked-none : (s : Sheet) → Marked s 0 (replicate 256 0)
unfolding some_below
marked-none s = record { long = refl; mark = λ symbol h. rw (get_or-replicate {A = ℕ} 256 symbol 0 0 h) unused }

-- a term that doesn't use the symbol, and one that does, as it was used so far
kept : {one two : Bool} {m : ℕ} → Mark one two m → Mark (one || false) (two || false) m
kept unused = unused
kept ones = ones
kept twos = twos

used : {one two : Bool} {m symbol kind : ℕ} {t : Term} → Uses symbol kind t → Mark one two m → differs m kind ≡ false →
    Mark (one || with_one symbol t) (two || with_two symbol t) kind
used {symbol = symbol} one unused e = rw (eq-eqb symbol symbol refl) ones
used one ones e = ones
used one twos e = absurd (true≢false e)
used {symbol = symbol} two unused e = rw (eq-eqb symbol symbol refl) twos
used two ones e = absurd (true≢false e)
used two twos e = twos

unused-by : {symbol kind : ℕ} {t : Term} → Uses symbol kind t → (other : ℕ) → (symbol ≡ other → ⊥) → (with_one other t ≡ false) × (with_two other t ≡ false)
unused-by one other apart = (ne_eqb _ other apart, refl)
unused-by two other apart = (refl, ne_eqb _ other apart)

module _ {s : Sheet} {i : ℕ} {marks : List ℕ} (marked : Marked s i marks) where
  -- the test is row 16's
  pub tested : (symbol kind : ℕ) → symbol < 256 → Uses symbol kind (term_at s i) → differs (get_or marks symbol 0) kind ≡ other_count_in s i
  unfolding other_count_in
  tested symbol kind h = go (term_at s i) kind
    where
      go : (t : Term) (k : ℕ) → Uses symbol k t → differs (get_or marks symbol 0) k ≡ some_below i (λ j. other_count t (term_at s j))
      go _ _ one = differs-one (marked.mark symbol h)
      go _ _ two = differs-two (marked.mark symbol h)

  -- marks after one more term
  more : (marks' : List ℕ) → length marks' ≡ 256 → ((symbol : ℕ) → symbol < 256 →
      Mark (some_below i (λ j. with_one symbol (term_at s j)) || with_one symbol (term_at s i)) (some_below i (λ j. with_two symbol (term_at s j)) || with_two symbol (term_at s i))
      (get_or marks' symbol 0)) → Marked s (i + 1) marks'
  unfolding some_below
  more marks' long m = let e : i + 1 ≡ suc i = omega arith in rw e (record { long = long; mark = m })

  pub marked_other : ((symbol : ℕ) → (with_one symbol (term_at s i) ≡ false) × (with_two symbol (term_at s i) ≡ false)) → Marked s (i + 1) marks
  marked_other none = more marks marked.long (λ symbol h. rw ((none symbol).0, (none symbol).1) (kept (marked.mark symbol h)))

  pub marked-use : (symbol kind : ℕ) → symbol < 256 → Uses symbol kind (term_at s i) → differs (get_or marks symbol 0) kind ≡ false →
      Marked s (i + 1) (set marks symbol kind)
  marked-use symbol kind h u e = more (set marks symbol kind) (simp length-set marked.long) (λ other l. go other l (ℕ_discrete symbol other))
    where
      go : (other : ℕ) → other < 256 → Dec (symbol ≡ other) →
          Mark (some_below i (λ j. with_one other (term_at s j)) || with_one other (term_at s i)) (some_below i (λ j. with_two other (term_at s j)) || with_two other (term_at s i))
          (get_or (set marks symbol kind) other 0)
      go other l (yes same) =
          rw (← same, get_or-set_same marks symbol kind 0 (omega (arith, marked.long))) (used u (marked.mark symbol h) e)
      go other l (no apart) =
          let (p, q) = unused-by u other apart in
          rw (p, q, get_or-set_other marks symbol other kind 0 (λ e. apart (sym e))) (kept (marked.mark other l))
