-- The reply is unique but for the choice of values, and it is a refusal exactly when the table says so.
-- Assumes nothing.
use Prim.Native.Nat.{ℕ, ◌+◌, ◌*◌, ◌≤◌}
use mathlib.Core.Path.{◌≡◌, refl, sym, ap, ◌∙◌}
use mathlib.Core.Logic.{inl, inr}
use mathlib.Core.List.{List, [], ◌∷◌, ◌++◌}
use lib.ListN.{length, take, drop, length-append, length-drop}
use lib.Seq.{ext_get_or, take-append_seam, drop-append_seam}
use native.Mathlib.Omega.{arith}
use Rattle.big.specs.Big.{bytes_of}
use Rattle.order.specs.First.{Set, every, set_of, number, Agree, Within}
use Rattle.order.proofs.Laws.{number-ties, minimal}
use Rattle.order.proofs.Lists.{first-list-unique}
use Rattle.sheet.specs.Decode.{sheet_of}
use Rattle.sheet.specs.Sheet.{Sheet, count_terms, count_entries}
use Rattle.sheet.proofs.Decode.{length-each}
use Rattle.meaning.specs.Meaning.{Holds, Clashes, FirstClash}
use Rattle.meaning.proofs.Meaning.{clashes-upward}
use Rattle.grounds.specs.Table.{Reply, fine, refused, refusal}
use Rattle.grounds.proofs.Fine.{fine-formed}
use Rattle.grounds.proofs.Replies.{fine-refused, fine-sheet, refused-ten}
use Rattle.answer.specs.Record.{listed, holds_record, clashes_record, ListWithin, AnswerForm, holds as form-holds, clashes as form-clashes}
use Rattle.answer.proofs.Tells.{holds-length, clashes-length}
use Rattle.promise.specs.Answered.{over, SaysHolds, SaysClashes, Decided, Answered}
use Rattle.promise.specs.OneReply.{OneReply}
use Rattle.promise.proofs.Listing.{within-listed, within-short}

-- the first list of a sheet is one only
module _ (s : Sheet) where
  pub one-first : (es es' : List ℕ) → FirstClash s (set_of es) → FirstClash s (set_of es') → ListWithin (count_entries s) es → ListWithin (count_entries s) es' → es ≡ es'
  one-first es es' f f' w w' =
      let L = count_entries s in
      let (l, e) = first-list-unique (Clashes s) L number (number-ties L) (set_of es) (set_of es') es es' _ _ f f' (within-listed w) (within-listed w') in
      ext_get_or 0 es es' l e

  -- and there is none where the sheet holds
  pub not-both : (A : Set) → Holds s every → Clashes s A → ⊥
  not-both A h c = clashes-upward s A every (λ x l e. refl) c h

module _ {s : Sheet} {old new : List ℕ} {N P : ℕ} where
  pub holds-all : SaysHolds s old new N P → Holds s every
  holds-all h = record { D = h.D; n = h.n; meet = h.meet }

  pub holds-place : SaysHolds s old new N P → P ≡ 8 + 8 * count_terms s
  holds-place h = omega (arith, h.place_is, holds-length h.D (listed s h.n), length-each (count_terms s) h.n)

  module _ (c : SaysClashes s old new N P) where
    pub clashes-place : P ≡ 8 + length c.list
    clashes-place = c.place_is ∙ clashes-length c.list

    pub list-short : length c.list ≤ count_entries s
    list-short = within-short c.within

    -- of the parts of the list only the whole clashes
    pub nothing-to-spare : (B : Set) → Clashes s B → Within (count_entries s) B (set_of c.list) → Agree (count_entries s) (set_of c.list) B
    nothing-to-spare B = minimal (count_entries s) number (Clashes s) (set_of c.list) B c.first

module _ {s : Sheet} {old new old' new' : List ℕ} {N P N' P' : ℕ} where
  pub exclusive : SaysHolds s old new N P → SaysClashes s old' new' N' P' → ⊥
  exclusive h c = not-both s (set_of c.list) (holds-all h) c.first.has

  pub one_list : (c : SaysClashes s old new N P) (c' : SaysClashes s old' new' N' P') → c.list ≡ c'.list
  one_list c c' = one-first s c.list c'.list c.first c'.first c.within c'.within

-- what any values leave: the record's length, its 1 and its 0, its zero, and the bytes past it
module _ {s : Sheet} {old new : List ℕ} {N P : ℕ} (h : SaysHolds s old new N P) where
  head_fixed : take 4 new ≡ bytes_of 2 P ++ (1 ∷ 0 ∷ [])
  unfolding holds_record bytes_of
  head_fixed = ap (take 4) h.room-is ∙ ap (λ (n : ℕ). bytes_of 2 n ++ (1 ∷ 0 ∷ [])) (sym (h.place_is ∙ holds-length h.D (listed s h.n)))

  zero-fixed : take 2 (drop 6 new) ≡ bytes_of 2 0
  unfolding holds_record bytes_of
  zero-fixed = ap (λ (b : List ℕ). take 2 (drop 6 b)) h.room-is

  past-fixed : drop P new ≡ drop P old
  past-fixed = rw (h.place_is, h.room-is) (drop-append_seam (holds_record h.D (listed s h.n)) _)

same-room : {N P N' P' : ℕ} {new new' : List ℕ} → N ≡ N' → P ≡ P' → new ≡ new' → OneReply N P new N' P' new'
same-room {P = P} n p e = record {
  number = n;
  place = p;
  room = λ h. e;
  values = λ h. record { head = ap (take 4) e; zero = ap (λ (b : List ℕ). take 2 (drop 6 b)) e; past = ap (drop P) e };
}

decided-unique : {s : Sheet} {old new new' : List ℕ} {N P N' P' : ℕ} → Decided s old new N P → Decided s old new' N' P' → OneReply N P new N' P' new'
decided-unique (inl h) (inl h') =
    let p = holds-place h ∙ sym (holds-place h') in
    record {
      number = h.number_is ∙ sym h'.number_is;
      place = p;
      room = λ n. absurd (n h.number_is);
      values = λ n. record { head = cc (head_fixed h, head_fixed h'); zero = zero-fixed h ∙ sym (zero-fixed h'); past = cc (past-fixed h, past-fixed h') };
    }
decided-unique (inl h) (inr c) = absurd (exclusive h c)
decided-unique (inr c) (inl h) = absurd (exclusive h c)
decided-unique (inr c) (inr c') = let e = one_list c c' in same-room (cc) (cc) (cc)

module _ {sheet old new : List ℕ} {N P : ℕ} (a : Answered sheet old new N P) where
  pub reply-unique : {new' : List ℕ} {N' P' : ℕ} → Answered sheet old new' N' P' → OneReply N P new N' P' new'
  reply-unique {new'} {N'} {P'} b = go (refusal sheet (length old)) refl
    where
      go : (r : Reply) → refusal sheet (length old) ≡ r → OneReply N P new N' P' new'
      go fine e = decided-unique (a.judged e) (b.judged e)
      go (refused Q R) e = let p = a.sent_back Q R e in let q = b.sent_back Q R e in same-room (cc) (cc) (cc)

  -- sent back exactly when the table says so
  pub refused-exactly : (10 ≤ N → refusal sheet (length old) ≡ refused N P) × ((Q R : ℕ) → refusal sheet (length old) ≡ refused Q R → 10 ≤ N)
  refused-exactly = go (refusal sheet (length old)) refl
    where
      small : Decided (sheet_of sheet) old new N P → 10 ≤ N → ⊥
      small (inl h) l = omega (arith, h.number_is)
      small (inr c) l = omega (arith, c.number_is)

      go : (r : Reply) → refusal sheet (length old) ≡ r →
          (10 ≤ N → refusal sheet (length old) ≡ refused N P) × ((Q R : ℕ) → refusal sheet (length old) ≡ refused Q R → 10 ≤ N)
      go fine e = (λ l. absurd (small (a.judged e) l), λ Q R q. absurd (fine-refused e q))
      go (refused Q R) e =
          let p = a.sent_back Q R e in
          (λ l. cc, λ Q' R' q. let l = refused-ten sheet (length old) Q R e in omega (arith, p.number_is))

  -- a sheet with no entries is never said to clash
  pub no-entries-holds : refusal sheet (length old) ≡ fine → count_entries (sheet_of sheet) ≡ 0 → N ≡ 0
  no-entries-holds e none = go (a.judged e)
    where
      go : Decided (sheet_of sheet) old new N P → N ≡ 0
      go (inl h) = h.number_is
      go (inr c) = absurd (omega (arith, c.within.some, list-short c))

  -- a verdict's record has answer form and stands in the room, which a head of eight bytes begins
  pub answer-form : N ≤ 1 → AnswerForm (take P new) × (8 ≤ P) × (P ≤ length old)
  answer-form small = go (refusal sheet (length old)) refl
    where
      stands : refusal sheet (length old) ≡ fine → Decided (sheet_of sheet) old new N P → AnswerForm (take P new) × (8 ≤ P) × (P ≤ length old)
      stands e (inl h) =
          let (formed, room) = fine-sheet sheet (length old) e in
          let wf = (fine-formed sheet formed).1 in
          let T = length-each (count_terms (sheet_of sheet)) h.n in (
            rw (h.place_is, h.room-is, take-append_seam (holds_record h.D (listed (sheet_of sheet) h.n)) _)
                (form-holds {ns = listed (sheet_of sheet) h.n} (omega (arith, wf.some)) (omega (arith, wf.terms)) h.within),
            omega (arith, holds-place h),
            omega (arith, holds-place h, wf.terms),
          )
      stands e (inr c) =
          let (formed, room) = fine-sheet sheet (length old) e in
          let wf = (fine-formed sheet formed).1 in (
            rw (c.place_is, c.room-is, take-append_seam (clashes_record c.list) _) (form-clashes wf.entries c.within),
            omega (arith, clashes-place c),
            omega (arith, clashes-place c, list-short c, wf.entries),
          )

      go : (r : Reply) → refusal sheet (length old) ≡ r → AnswerForm (take P new) × (8 ≤ P) × (P ≤ length old)
      go fine e = stands e (a.judged e)
      go (refused Q R) e = absurd (omega (arith, refused-ten sheet (length old) Q R e, (a.sent_back Q R e).number_is))

  -- the room is as long as it was lent
  pub room-length : length new ≡ length old
  room-length = go (refusal sheet (length old)) refl
    where
      fits : (answer : List ℕ) → length answer ≤ length old → length (over answer old) ≡ length old
      fits answer h = simp (length-append, length-drop) (omega arith)

      stands : refusal sheet (length old) ≡ fine → Decided (sheet_of sheet) old new N P → length new ≡ length old
      stands e (inl h) = rw h.room-is (fits (holds_record h.D (listed (sheet_of sheet) h.n)) (omega (arith, h.place_is, (answer-form (omega (arith, h.number_is))).2)))
      stands e (inr c) = rw c.room-is (fits (clashes_record c.list) (omega (arith, c.place_is, (answer-form (omega (arith, c.number_is))).2)))

      go : (r : Reply) → refusal sheet (length old) ≡ r → length new ≡ length old
      go fine e = stands e (a.judged e)
      go (refused Q R) e = ap length (a.sent_back Q R e).room-is
