-- What the line reader comes to says of the text.
-- Assumes nothing.
use Prim.Native.Nat.{ℕ, suc, ◌+◌, ◌*◌, ◌≤◌, ◌<◌}
use mathlib.Core.Path.{◌≡◌, refl, sym, ap, ◌∙◌, subst}
use mathlib.Core.Bool.{Bool, true, false, cond}
use mathlib.Core.List.{List, [], ◌∷◌, ◌++◌, map, append_assoc, map-append}
use lib.Dec.{eqb}
use lib.ListN.{length, get_or, take, drop, set, length-append, length-drop, length-set}
use lib.Seq.{get_or-set_other, take-set-le, take-suc-set, drop-set-add}
use native.Mathlib.Omega.{arith}
use borrow.Author.Tests.{eqb-true}
use Rattle.sheet.specs.Limits.{max_terms, max_entries}
use Rattle.sheet.specs.Sheet.{Relation, Entry}
use Rattle.sheet.specs.Sheet.Relation.{equal, unequal, at_most, less}
use Rattle.text.specs.Text.{Term, Line}
use Rattle.text.specs.Typed.{State, Alive}
use Rattle.text.specs.Typed.Context.{on_left, on_right}
use Rattle.text.specs.Typed.State.{stopped, wants, bang, under}
use Rattle.text.specs.Machine.{after, pick, is_digit, step}
use Rattle.text.specs.Reach.{at}
use Rattle.text.proofs.Through.{like-wants, like-under, bang-step, under-step}
use Rattle.text.proofs.Place.{at_next, IsWhole, is_whole, fault-at}
use Rattle.written.specs.Written.{kind_of}
use Rattle.numbered.specs.Numbered.{Key, enter_term, enter_line, enter_lines}
use Rattle.numbered.specs.Completed.{completed}
use Rattle.numbered.specs.Within.{TermIn, LinesIn}
use Rattle.slips.specs.Slips.{max_depth, depth, begun, digit_at, FirstSlip}
use Rattle.slips.specs.Outcome.{Outcome}
use Rattle.slips.specs.Outcome.Outcome.{read, refused}
use Rattle.slips.proofs.Clean.{Clean, InRange, Fine, clean-next, first-form}
use Rattle.met.specs.Keys.{kind_one, a_one, b_one, entry_code, Table}
use Rattle.terms.specs.Model.{Held, sent_back, term}
use Rattle.terms.proofs.Told.{TermDue, TermEnd, TermTold, ended-alive, ended-short, wants-due, there, reads-term}
use Rattle.terms.proofs.Kept.{term-kept}
use Rattle.lines.specs.Model.{relation_at, end_at, right_at, left_at, line_at}
use Rattle.lines.specs.Reading.{Holds}

-- where a side's text goes on, none of it too many
fine : {bs : List ℕ} (q : ℕ) {s : State} → q < length bs → at bs (suc q) ≡ s → Alive s → depth s ≤ max_depth → InRange s → length (completed (digit_at bs (suc q)) s) ≤ max_terms → begun s ≤ max_entries → Fine bs q
fine q l e a d r t b = record { sound = record { within = l; alive = rw e a; shallow = rw e d; in_range = rw e r }; terms = rw e t; lines = rw e b }

bang-none : (ls : List Line) (t : Term) (b : ℕ) → eqb b 61 ≡ false → step (bang ls t) b ≡ stopped
unfolding step
bang-none ls t b h = go (is_digit b)
  where
    go : (d : Bool) → cond d stopped (cond (eqb b 61) (wants (on_right ls t unequal)) stopped) ≡ stopped
    go true = refl
    go false = rw h refl

under_none : (ls : List Line) (t : Term) (b : ℕ) → eqb b 61 ≡ false → is_digit b ≡ false → eqb b 45 ≡ false → eqb b 102 ≡ false → eqb b 120 ≡ false → step (under ls t) b ≡ stopped
unfolding step
under_none ls t b e d n f x = rw (d, e, n, f, x) refl

module _ (bs : List ℕ) (ls : List Line) (few : suc (length ls) ≤ max_entries) where
  -- behind a relation the right side is due
  pub record Related (t : Term) (m : List ℕ) (e g kind : ℕ) : Type 0 where
    pub relation : Relation
    pub kind-is : kind_of relation ≡ kind
    pub begins : e < g
    pub due : TermDue bs g (on_right ls t relation) 16 m

  abbrev RelationTold : Term → List ℕ → ℕ → Outcome → Type 0
  RelationTold t m e (read g kind) = Related t m e g kind
  RelationTold t m e (refused N p) = FirstSlip bs N p

  relation-told : {i e a : ℕ} {m : List ℕ} (E : TermEnd bs i (on_left ls) m e a) → RelationTold E.term m e (relation_at bs e)
  unfolding relation_at
  relation-told {e = e} {m = m} E = go (eqb b 61) (eqb b 33) (eqb b 60) refl refl refl
    where
      b : ℕ
      b = get_or bs e 0

      c : ℕ
      c = get_or bs (suc e) 0

      t : Term
      t = E.term

      -- the state behind the first byte
      behind : (k : ℕ) → eqb b (suc k) ≡ true → (e < length bs) × (at bs (suc e) ≡ pick (after (on_left ls) t) (suc k))
      behind k h = let l = there bs e k (eqb-true b (suc k) h) in (l, at_next bs e l ∙ E.next ∙ ap (pick (after (on_left ls) t)) (eqb-true b (suc k) h))

      -- behind two bytes
      two : (r : Relation) (s : State) → at bs (suc e) ≡ s → Alive s → step s 61 ≡ wants (on_right ls t r) → Clean bs (suc e) → eqb c 61 ≡ true → Related t m e (suc (suc e)) (kind_of r)
      two r s q a p clean h =
          let l = there bs (suc e) 60 (eqb-true c 61 h) in
          let w : at bs (suc (suc e)) ≡ wants (on_right ls t r) = at_next bs (suc e) l ∙ rw (q, eqb-true c 61 h) p in
          record {
            relation = r;
            kind-is = refl;
            begins = omega arith;
            due = wants-due (suc e) l w (λ x. x) (clean-next clean (fine (suc e) l w tt (omega arith) tt E.table.few few)) refl few E.table;
          }

      go : (x n l : Bool) → eqb b 61 ≡ x → eqb b 33 ≡ n → eqb b 60 ≡ l →
          RelationTold E.term m e (cond x (read (suc e) 0) (cond n (cond (eqb c 61) (read (suc (suc e)) 1) (refused 20 (suc e))) (cond l (cond (eqb c 61) (read (suc (suc e)) 2) (read (suc e) 3)) (refused 20 e))))
      go true n l x y z =
          let q = behind 60 x in
          record {
            relation = equal;
            kind-is = refl;
            begins = omega arith;
            due = wants-due e q.0 q.1 (λ x. x) (clean-next E.clean (fine e q.0 q.1 tt (omega arith) tt E.table.few few)) refl few E.table;
          }
      go false true l x y z = on (eqb c 61) refl
        where
          q : (e < length bs) × (at bs (suc e) ≡ bang ls t)
          q = behind 32 y

          clean : Clean bs (suc e)
          clean = clean-next E.clean (fine e q.0 q.1 tt (omega arith) tt E.table.few few)

          on : (u : Bool) → eqb c 61 ≡ u → RelationTold t m e (cond u (read (suc (suc e)) 1) (refused 20 (suc e)))
          on true h = two unequal (bang ls t) q.1 tt (bang-step ls t) clean h
          on false h = first-form clean (fault-at bs (suc e) q.0 (rw q.1 tt) (λ k. rw q.1 (bang-none ls t c h)) (λ k w. subst IsWhole q.1 (is_whole w)))
      go false false true x y z = on (eqb c 61) refl
        where
          q : (e < length bs) × (at bs (suc e) ≡ under ls t)
          q = behind 59 z

          clean : Clean bs (suc e)
          clean = clean-next E.clean (fine e q.0 q.1 tt (omega arith) tt E.table.few few)

          on : (u : Bool) → eqb c 61 ≡ u → RelationTold t m e (cond u (read (suc (suc e)) 2) (read (suc e) 3))
          on true h = two at_most (under ls t) q.1 tt (under-step ls t) clean h
          on false h = record {
            relation = less;
            kind-is = refl;
            begins = omega arith;
            due = record {
              within = q.0;
              alive = rw q.1 tt;
              short = λ k w. subst IsWhole q.1 (is_whole w);
              like = rw q.1 (like-under ls t);
              other = λ k g u v w. rw q.1 (under_none ls t c h g u v w);
              clean = clean;
              room = refl;
              lines = few;
              table = E.table;
            };
          }
      go false false false x y z =
          first-form E.clean (fault-at bs e E.within (rw E.same (ended-alive (on_left ls) E.term)) (λ k. E.next ∙ rw (y, z, x) refl)
          (λ k w. ended-short (on_left ls) E.term (subst IsWhole E.same (is_whole w))))

lines-keys : (ls : List Line) (l : Line) (xs : List Key) → (enter_lines (ls ++ l ∷ []) xs).keys ≡ (enter_line l (enter_lines ls xs).keys).keys
lines-keys [] l xs = refl
lines-keys (m ∷ ls) l xs = lines-keys ls l (enter_line m xs).keys

lines-entries : (ls : List Line) (l : Line) (xs : List Key) → (enter_lines (ls ++ l ∷ []) xs).entries ≡ (enter_lines ls xs).entries ++ (enter_line l (enter_lines ls xs).keys).entries
lines-entries [] l xs = refl
lines-entries (m ∷ ls) l xs = ap (λ (es : List Entry). (enter_line m xs).entries ++ es) (lines-entries ls l (enter_line m xs).keys) ∙ sym (append_assoc (enter_line m xs).entries (enter_lines ls (enter_line m xs).keys).entries (enter_line l (enter_lines ls (enter_line m xs).keys).keys).entries)

lines-in : (ls : List Line) (l : Line) → LinesIn ls → TermIn l.left → TermIn l.right → LinesIn (ls ++ l ∷ [])
lines-in [] l h a b = (a, b, tt)
lines-in (m ∷ ls) l h a b = (h.0, h.1, lines-in ls l h.2 a b)

-- lines read up to i, and what the memory holds of them
pub record Reading (bs : List ℕ) (ls : List Line) (i : ℕ) (m : List ℕ) : Type 0 where
  pub within : i ≤ length bs
  pub same : at bs i ≡ wants (on_left ls)
  pub clean : Clean bs i
  pub few : length ls ≤ max_entries
  pub in_limits : LinesIn ls
  pub holds : Holds ls m

-- one line more
pub record LineEnd (bs : List ℕ) (ls : List Line) (i : ℕ) (m : List ℕ) (e n : ℕ) : Type 0 where
  pub line : Line
  pub begins : i < e
  pub count : n ≡ suc (length ls)
  pub reading : Reading bs (ls ++ line ∷ []) e m

abbrev pub LineTold : List ℕ → List Line → ℕ → List ℕ → Outcome → Type 0
LineTold bs ls i m (read e n) = LineEnd bs ls i m e n
LineTold bs ls i m (refused N p) = FirstSlip bs N p

-- what is written behind the terms leaves them alone
table-set : {m : List ℕ} {xs : List Key} → Table m xs → (j v : ℕ) → max_terms < j → Table (set m j v) xs
table-set {m} {xs} T j v h = record {
  cells = simp length-set T.cells;
  count = rw (get_or-set_other m j max_terms v 0 (λ e. omega arith)) T.count;
  few = T.few;
  held = let f = T.few in rw (take-set-le (length xs) m j v (omega arith)) T.held;
  keys = T.keys;
}

module _ (bs : List ℕ) (ls : List Line) (i : ℕ) (m : List ℕ) (R : Reading bs ls i m) (l : i < length bs) (few : suc (length ls) ≤ max_entries) where
  held : Held m
  held = (R.holds.table.cells, let f = R.holds.table.few in let c = R.holds.table.count in omega arith)

  due : TermDue bs i (on_left ls) 16 m
  unfolding step
  due = record {
    within = R.within;
    alive = rw R.same tt;
    short = λ k w. absurd (omega arith);
    like = rw R.same (like-wants (on_left ls));
    other = λ k d n f x. rw (R.same, d, n, f, x) refl;
    clean = R.clean;
    room = refl;
    lines = few;
    table = R.holds.table;
  }

  -- behind the right side
  end-told : (t : Term) (r : Relation) (g a : ℕ) (m₂ : List ℕ) (o : Outcome) → TermIn t → a ≡ (enter_term t (enter_lines ls []).keys).last → i < g →
      Held m₂ → drop (max_terms + 1) m₂ ≡ drop (max_terms + 1) m → TermTold bs g (on_right ls t r) m₂ o →
      let u = end_at bs m₂ (length ls) (kind_of r) a o in LineTold bs ls i u.memory u.outcome
  end-told t r g a m₂ (refused N p) I n b h k F = F
  end-told t r g a m₂ (read e c) I n b h k E = go (eqb (get_or bs e 0) 10) refl
    where
      new : Line
      new = record { left = t; relation = r; right = E.term }

      cell : ℕ
      cell = kind_of r * kind_one + a * a_one + c * b_one

      m₃ : List ℕ
      m₃ = set m₂ (max_terms + 1 + length ls) cell

      go : (x : Bool) → eqb (get_or bs e 0) 10 ≡ x →
          let u = cond x (record { memory = m₃; outcome = read (suc e) (suc (length ls)) }) (sent_back m₂ 20 e) in LineTold bs ls i u.memory u.outcome
      go false x =
          first-form E.clean (fault-at bs e E.within (rw E.same (ended-alive (on_right ls t r) E.term)) (λ y. E.next ∙ rw x refl)
          (λ y w. ended-short (on_right ls t r) E.term (subst IsWhole E.same (is_whole w))))
      go true x = record {
        line = new;
        begins = let f = E.begins in omega arith;
        count = refl;
        reading = record {
          within = inside;
          same = state;
          clean = clean-next E.clean (fine e inside state tt (omega arith) tt table.few (rw longer few));
          few = rw longer few;
          in_limits = lines-in ls new R.in_limits I E.in_limits;
          holds = record { table = table; entries = entries };
        };
      }
        where
          inside : e < length bs
          inside = there bs e 9 (eqb-true (get_or bs e 0) 10 x)

          state : at bs (suc e) ≡ wants (on_left (ls ++ new ∷ []))
          state = at_next bs e inside ∙ E.next ∙ rw x refl

          longer : length (ls ++ new ∷ []) ≡ suc (length ls)
          longer = length-append ls (new ∷ []) ∙ omega arith

          table : Table m₃ (enter_lines (ls ++ new ∷ []) []).keys
          table = subst (Table m₃) (sym (lines-keys ls new [])) (table-set E.table (max_terms + 1 + length ls) cell (omega arith))

          entries : take (length (ls ++ new ∷ [])) (drop (max_terms + 1) m₃) ≡ map entry_code (enter_lines (ls ++ new ∷ []) []).entries
          entries =
              let short : length ls < length (drop (max_terms + 1) m) = let z = R.holds.table.cells in rw (length-drop (max_terms + 1) m) (omega arith) in
              ap (λ (j : ℕ). take j (drop (max_terms + 1) m₃)) longer
              ∙ ap (take (suc (length ls))) (drop-set-add (max_terms + 1) m₂ (length ls) cell ∙ ap (λ (d : List ℕ). set d (length ls) cell) k)
              ∙ take-suc-set (drop (max_terms + 1) m) (length ls) cell short
              ∙ rw (R.holds.entries, lines-entries ls new [], map-append, n, E.number_is) refl

  right-told : (t : Term) (a e : ℕ) (m₁ : List ℕ) (o : Outcome) → TermIn t → a ≡ (enter_term t (enter_lines ls []).keys).last → i < e →
      Held m₁ → drop (max_terms + 1) m₁ ≡ drop (max_terms + 1) m → RelationTold bs ls few t m₁ e o →
      let u = right_at bs m₁ (length ls) a o in LineTold bs ls i u.memory u.outcome
  right-told t a e m₁ (refused N p) I n b h k F = F
  right-told t a e m₁ (read g kind) I n b h k S =
      let u = term 16 bs g m₁ in
      let K = term-kept bs 16 g m₁ h in
      let c = S.begins in
      subst (λ (x : ℕ). let v = end_at bs u.memory (length ls) x a u.outcome in LineTold bs ls i v.memory v.outcome) S.kind-is
      (end-told t S.relation g a u.memory u.outcome I n (omega arith) K.held (K.same ∙ k) (reads-term S.due))

  left-told : (m₁ : List ℕ) (o : Outcome) → Held m₁ → drop (max_terms + 1) m₁ ≡ drop (max_terms + 1) m → TermTold bs i (on_left ls) m₁ o →
      let u = left_at bs m₁ (length ls) o in LineTold bs ls i u.memory u.outcome
  left-told m₁ (refused N p) h k F = F
  left-told m₁ (read e a) h k E = right-told E.term a e m₁ (relation_at bs e) E.in_limits E.number_is E.begins h k (relation-told bs ls few E)

  -- a line
  pub line-told : let u = line_at bs i m (length ls) in LineTold bs ls i u.memory u.outcome
  line-told =
      let u = term 16 bs i m in
      let K = term-kept bs 16 i m held in
      left-told u.memory u.outcome K.held K.same (reads-term due)
