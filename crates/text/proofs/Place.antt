-- Bytes that aren't a text of the form have one place where they stop being one, and the machine finds it.
-- Assumes nothing.
use Prim.Native.Nat.{ℕ, zero, suc, ◌≤◌, ◌<◌}
use mathlib.Core.Path.{◌≡◌, refl, sym, ap, ◌∙◌, subst}
use mathlib.Core.Logic.{◌⊎◌, inl, inr}
use mathlib.Core.List.{List, [], ◌∷◌, ◌++◌}
use lib.ListN.{length, get_or, take, drop, take-append-drop}
use lib.Seq.{take-take, take-suc, take-length}
use native.Mathlib.Omega.{arith}
use native.Mathlib.Decide.{dec_lt}
use Rattle.text.specs.Print.{Printed, Begins, Fault}
use Rattle.text.specs.Print.Fault.{byte, early}
use Rattle.text.specs.Typed.{State, Alive}
use Rattle.text.specs.Machine.{step, run, start}
use Rattle.text.specs.Typed.Context.{on_left, on_right, argument, second}
use Rattle.text.specs.Typed.State.{stopped, wants, due, digits, closed, bang, under}
use Rattle.text.specs.Reach.{at, Whole}
use Rattle.text.proofs.Shown.{alive-before}
use Rattle.text.proofs.Through.{run-append}
use Rattle.text.proofs.Text.{whole-printed, printed-whole, alive-begins, begins-alive}

pub at-start : (bs : List ℕ) → at bs 0 ≡ start
unfolding run
at-start bs = refl

pub at_next : (bs : List ℕ) (p : ℕ) → p < length bs → at bs (suc p) ≡ step (at bs p) (get_or bs p 0)
unfolding run
at_next bs p h = ap (run start) (take-suc bs p 0 h) ∙ run-append start (take p bs) (get_or bs p 0 ∷ [])

pub alive-upto : (bs : List ℕ) (p q : ℕ) → p ≤ q → Alive (at bs q) → Alive (at bs p)
alive-upto bs p q h a =
    let e : take q bs ≡ take p bs ++ drop p (take q bs) = sym (take-append-drop p (take q bs)) ∙ ap (λ (x : List ℕ). x ++ drop p (take q bs)) (take-take p q bs h) in
    alive-before (at bs p) (drop p (take q bs)) (subst Alive (ap (run start) e ∙ run-append start (take p bs) _) a)

pub begins-upto : (bs : List ℕ) (p q : ℕ) → p ≤ q → Begins (take q bs) → Begins (take p bs)
begins-upto bs p q h b = alive-begins _ (alive-upto bs p q h (begins-alive _ b))

-- a place is one only
pub fault-unique : (bs : List ℕ) {p q : ℕ} → Fault bs p → Fault bs q → p ≡ q
fault-unique bs (byte {p} h b n) (byte {p = q} l c m) = go (dec_lt p q) (dec_lt q p)
  where
    go : Dec (p < q) → Dec (q < p) → p ≡ q
    go (yes u) v = absurd (n (begins-upto bs (suc p) q u c))
    go (no u) (yes v) = absurd (m (begins-upto bs (suc q) p v b))
    go (no u) (no v) = omega arith
fault-unique bs (byte {p} h b n) (early c m) = absurd (n (begins-upto bs (suc p) (length bs) h (rw take-length c)))
fault-unique bs (early b n) (byte {p} l c m) = absurd (m (begins-upto bs (suc p) (length bs) l (rw take-length b)))
fault-unique bs (early b n) (early c m) = refl

pub alive? : (s : State) → Dec (Alive s)
alive? stopped = no (λ a. a)
alive? (wants C) = yes tt
alive? (due C L) = yes tt
alive? (digits C K n) = yes tt
alive? (closed C f ts) = yes tt
alive? (bang ls t) = yes tt
alive? (under ls t) = yes tt

pub record Found (bs : List ℕ) : Type 0 where
  pub place : ℕ
  pub fault : Fault bs place

upto : (bs : List ℕ) (k : ℕ) → k ≤ length bs → Alive (at bs k) ⊎ Found bs
upto bs zero h = inl (rw at-start tt)
upto bs (suc k) h = go (upto bs k (omega arith)) (alive? (at bs (suc k)))
  where
    go : Alive (at bs k) ⊎ Found bs → Dec (Alive (at bs (suc k))) → Alive (at bs (suc k)) ⊎ Found bs
    go (inr f) d = inr f
    go (inl a) (yes d) = inl d
    go (inl a) (no d) = inr (record { place = k; fault = byte h (alive-begins _ a) (λ b. d (begins-alive _ b)) })

abbrev pub IsWhole : State → Type 0
IsWhole stopped = ⊥
IsWhole (wants (on_left [])) = ⊥
IsWhole (wants (on_left (l ∷ ls))) = Unit {0}
IsWhole (wants (on_right ls t r)) = ⊥
IsWhole (wants (argument f C)) = ⊥
IsWhole (wants (second f t C)) = ⊥
IsWhole (due C L) = ⊥
IsWhole (digits C K n) = ⊥
IsWhole (closed C f ts) = ⊥
IsWhole (bang ls t) = ⊥
IsWhole (under ls t) = ⊥

pub is_whole : {s : State} → Whole s → IsWhole s
is_whole w = subst IsWhole (sym w.same) tt

pub whole? : (s : State) → Dec (Whole s)
whole? stopped = no is_whole
whole? (wants (on_left [])) = no is_whole
whole? (wants (on_left (l ∷ ls))) = yes (record { first = l; others = ls; same = refl })
whole? (wants (on_right ls t r)) = no is_whole
whole? (wants (argument f C)) = no is_whole
whole? (wants (second f t C)) = no is_whole
whole? (due C L) = no is_whole
whole? (digits C K n) = no is_whole
whole? (closed C f ts) = no is_whole
whole? (bang ls t) = no is_whole
whole? (under ls t) = no is_whole

-- bytes are a text of the form, or have a place where they stop being one
pub decides : (bs : List ℕ) → Printed bs ⊎ Found bs
decides bs = go (upto bs (length bs) (omega arith)) (whole? (run start bs))
  where
    go : Alive (at bs (length bs)) ⊎ Found bs → Dec (Whole (run start bs)) → Printed bs ⊎ Found bs
    go (inr f) d = inr f
    go (inl a) (yes w) = inl (whole-printed bs w)
    go (inl a) (no n) = inr (record { place = length bs; fault = early (alive-begins bs (rw take-length at a)) (λ p. n (printed-whole bs p)) })

-- where the machine stops, or the text ends with lines that aren't whole
pub fault-at : (bs : List ℕ) (p : ℕ) → p ≤ length bs → Alive (at bs p) → (p < length bs → step (at bs p) (get_or bs p 0) ≡ stopped) →
    (length bs ≤ p → Whole (at bs p) → ⊥) → Fault bs p
fault-at bs p l a n w = go (dec_lt p (length bs))
  where
    go : Dec (p < length bs) → Fault bs p
    go (yes h) = byte h (alive-begins _ a) (λ b. subst Alive (at_next bs p h ∙ n h) (begins-alive _ b))
    go (no h) =
        let e : length bs ≡ p = omega arith in
        let f : at bs p ≡ run start bs = ap (λ (k : ℕ). at bs k) (sym e) ∙ ap (run start) (take-length bs) in
        subst (Fault bs) e (early (alive-begins bs (subst Alive f a)) (λ q. w (omega arith) (subst Whole (sym f) (printed-whole bs q))))
