-- What the check of the readers cites: a memory of terms met stays one, and an argument list goes within one bracket more.
-- Assumes nothing.
use Prim.Native.Nat.{ℕ, zero, suc, ◌+◌, ◌-◌, ◌≤◌, ◌<◌}
use mathlib.Core.Path.{◌≡◌, refl, ◌∙◌}
use mathlib.Core.Bool.{Bool, true, false, cond}
use mathlib.Core.List.{List}
use lib.Dec.{ltb, leb, eqb}
use lib.ListN.{get_or, take, set, length-set}
use lib.Seq.{get_or-set_same}
use native.Mathlib.Omega.{arith}
use borrow.Author.Tests.{leb-false}
use Rattle.sheet.specs.Limits.{max_terms}
use Rattle.slips.specs.Outcome.Outcome.{read, refused}
use Rattle.met.specs.Model.{count_in, place_in, Told, entered}
use Rattle.met.proofs.Entered.{entered-length}
use Rattle.terms.specs.Model.{Held, sent_back, list_at, term_at, arguments}

pub entered_held : (m : List ℕ) (key e : ℕ) → Held m → Held (entered m key e).memory
unfolding entered
entered_held m key e h = (entered-length m key e ∙ h.0, go (ltb (place_in (take (count_in m) m) key) (count_in m)) (leb max_terms (count_in m)) refl)
  where
    told : Bool → Bool → Told
    told t u =
        cond t (record { memory = m; outcome = read e (place_in (take (count_in m) m) key) })
        (cond u (record { memory = m; outcome = refused 23 (e - 1) }) (record { memory = set (set m (count_in m) key) max_terms (count_in m + 1); outcome = read e (count_in m) }))

    go : (t u : Bool) → leb max_terms (count_in m) ≡ u → count_in (told t u).memory ≤ max_terms
    go true u q = h.1
    go false true q = h.1
    go false false q =
        let l = h.0 in
        let k = leb-false max_terms (count_in m) q in
        let c = get_or-set_same (set m (count_in m) key) max_terms (count_in m + 1) 0 (simp length-set (omega arith)) in
        omega arith

-- within one bracket more
pub deeper : (depth : ℕ) (bs : List ℕ) (i f : ℕ) (m : List ℕ) → 0 < depth →
    arguments depth bs i f m ≡ cond (eqb (get_or bs i 0) 40) (list_at (term_at (arguments (depth - 1) bs) bs) bs i f m) (sent_back m 20 i)
unfolding arguments
deeper zero bs i f m h = absurd (omega arith)
deeper (suc depth) bs i f m h = let e : suc depth - 1 ≡ depth = omega arith in rw e refl
