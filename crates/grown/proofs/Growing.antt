-- Ties of functions listed one after the other, and the table that has them in.
-- Assumes nothing.
use Prim.Native.Nat.{ℕ, ◌+◌, ◌*◌, ◌≤◌, ◌<◌}
use mathlib.Core.Path.{◌≡◌, sym, ap, ◌∙◌}
use mathlib.Core.List.{List}
use lib.IntN.{pos}
use lib.ListN.{length, get_or}
use native.Mathlib.Omega.{arith}
use borrow.Author.Count.{below_more}
use Rattle.kind.specs.Code.{base}
use Rattle.kind.specs.Kind.{zero_gap, kind_of}
use Rattle.kind.proofs.Kind.{kind-three}
use Rattle.closure.specs.Table.{Held}
use Rattle.closure.proofs.Order.{code-tight}
use Rattle.cells.specs.Cells.{cell}
use Rattle.sheet.specs.Limits.{max_terms, max_entries}
use Rattle.sheet.specs.Sheet.{Sheet, count_terms}
use Rattle.settled.specs.Settled.{points}
use Rattle.walked.specs.Borne.{Exact}
use Rattle.layers.specs.Bounds.{nowhere, bounds, from_at, to_at, code_at, Sound, Listed}
use Rattle.layers.specs.declared.Bound.{Bound}
use Rattle.layers.proofs.Same.{same-from, same-to, same-code}
use Rattle.rests.specs.Rested.{Rested}
use Rattle.jotted.specs.Jotted.{most, Both}
use Rattle.grown.specs.Grown.{FunctionTie, FunctionTies, Grew, Front}
use Rattle.grown.proofs.Fronts.{front-both, front_less, front-on, exact-front, tie-front}
use Rattle.grown.proofs.Back.{Pair}
use Rattle.grown.proofs.Groups.{Groups, alone, few, together}

-- the table has all that is listed, and each tie of a function made one group of two
pub record Growing (s : Sheet) (m : ℕ) (list : List Bound) (d : List ℕ) (listed : ℕ) : Type 0 where
  pub all-room : length list ≡ most
  pub ties : FunctionTies s list m listed
  pub sound : Sound (points s) (bounds listed list)
  pub exact : Exact (points s) (Listed (bounds listed list)) (cell d)
  pub groups : Groups (cell d) (count_terms s) ties.count

-- the table has all of them
pub all_in : {n m from r : ℕ} {list : List Bound} {old new : List ℕ} → Rested n m list from old new r → m ≤ r
    → Exact n (Listed (bounds m list)) (cell new)
all_in {m = m} {r = r} R l = let e : r ≡ m = omega (arith, R.at-most) in rw e at R.exact

-- no ties yet
no-ties : {s : Sheet} {m : ℕ} {list : List Bound} → FunctionTies s list m m
no-ties = record { count = 0; few = omega arith; listed-is = omega arith; tie = λ k l. absurd (omega arith) }

pub begun : {s : Sheet} {m : ℕ} {list : List Bound} {d : List ℕ} → (length list ≡ most)
    → Sound (points s) (bounds m list) → Exact (points s) (Listed (bounds m list)) (cell d) → Growing s m list d m
unfolding no-ties
begun L S X =
    record {
      all-room = L;
      ties = no-ties;
      sound = S;
      exact = X;
      groups = alone (omega arith) X.table.closed;
    }

two-more : {P : ℕ → Type 0} (k : ℕ) → ((e : ℕ) → e < k → P e) → P k → P (k + 1) → (e : ℕ) → e < k + 2 → P e
two-more k all p q e l = below_more _ (k + 1) (below_more _ k all p) q e (omega arith)

-- there is room for the tie of one more pair
pub room : {s : Sheet} {m listed a b : ℕ} {list : List Bound} {d : List ℕ} → count_terms s ≤ max_terms → m ≤ 2 * max_terms + 2 * max_entries
    → Growing s m list d listed → Pair s (cell d) a b → listed + 2 ≤ most
room h l G P = omega (arith, few G.groups P.left<, G.ties.listed-is)

-- the tie of such a pair a and b is listed behind the others, in a list that has room
pub record Listing (s : Sheet) (m : ℕ) (list : List Bound) (d : List ℕ) (listed a b : ℕ) (list' : List Bound) : Type 0 where
  pub growing : Growing s m list d listed
  pub pair : Pair s (cell d) a b
  pub both : Both list list' listed a b (pos 0)
  pub fits : listed + 2 ≤ most
  pub all-room : length list' ≡ length list

pub listing : {s : Sheet} {m listed a b : ℕ} {list : List Bound} {d : List ℕ} {list' : List Bound} → count_terms s ≤ max_terms → m ≤ 2 * max_terms + 2 * max_entries
    → Growing s m list d listed → Pair s (cell d) a b → Both list list' listed a b (pos 0)
    → length list' ≡ length list → Listing s m list d listed a b list'
listing h l G P B E =
    record { growing = G; pair = P; both = B; fits = room h l G P; all-room = E }

module _ {s : Sheet} {m listed a b : ℕ} {list : List Bound} {d : List ℕ} {list' : List Bound}
    (L : Listing s m list d listed a b list') where
  kept : get_or list' listed nowhere ≡ get_or L.both.between listed nowhere
  kept = L.both.back.bounds-kept listed (λ e. omega arith)

  from_is : from_at list' listed ≡ a
  from_is = same-from kept ∙ L.both.there.from_is

  to_is : to_at list' listed ≡ b
  to_is = same-to kept ∙ L.both.there.to_is

  code_is : code_at list' listed ≡ code_at L.both.between listed
  code_is = same-code kept

  gap_is : kind_of (code_at list' listed) ≡ zero_gap
  gap_is = ap kind_of code_is ∙ L.both.there.gap_is

  front : Front listed list list'
  front = front-both L.both

  pub rests : Exact (points s) (Listed (bounds listed list')) (cell d)
  rests = exact-front front L.growing.exact

  new-tie : FunctionTie s list' listed
  new-tie =
      record {
        d = cell d;
        exact = rests;
        left< = rw from_is L.pair.left<;
        right< = rw to_is L.pair.right<;
        joined = rw (from_is, to_is) L.pair.joined;
        untied = rw (from_is, to_is) L.pair.untied;
        gap = gap_is;
        back_from = L.both.back.from_is ∙ sym to_is;
        back_to = L.both.back.to_is ∙ sym from_is;
        back-gap = L.both.back.gap_is;
      }

  new-ties : FunctionTies s list' m (listed + 2)
  new-ties =
      let T = L.growing.ties in
      let e = T.listed-is in
      record {
        count = T.count + 1;
        few = omega (arith, few L.growing.groups L.pair.left<);
        listed-is = omega arith;
        tie = below_more _ T.count (λ k l. tie-front (front_less front (omega arith)) (T.tie k l)) (rw e at new-tie);
      }

  pub sound : Sound (points s) (bounds (listed + 2) list')
  sound =
      let S = L.growing.sound in
      let B = L.both in
      record {
        few = omega (arith, L.fits);
        all_bounds = omega (arith, L.fits, L.all-room, L.growing.all-room);
        from< = two-more listed (λ e h. rw (same-from (front.bounds-kept e h)) (S.from< e h)) (rw from_is (omega (arith, L.pair.left<)))
            (rw B.back.from_is (omega (arith, L.pair.right<)));
        to< = two-more listed (λ e h. rw (same-to (front.bounds-kept e h)) (S.to< e h)) (rw to_is (omega (arith, L.pair.right<)))
            (rw B.back.to_is (omega (arith, L.pair.left<)));
        there = two-more listed (λ e h. rw (same-code (front.bounds-kept e h)) (S.there e h)) (rw code_is B.there.there) B.back.there;
        near = two-more listed (λ e h. rw (same-code (front.bounds-kept e h)) (S.near e h)) (rw code_is B.there.near) B.back.near;
      }

  pub front-still : {first : List Bound} → Front m first list → Front m first list'
  front-still F = front-on F (front_less front (omega (arith, L.growing.ties.listed-is)))

  -- and the table has r bounds
  module _ {r : ℕ} {new : List ℕ} (R : Rested (points s) (listed + 2) list' listed d new r) where
    pub shut : r < listed + 2 → Grew s list' m (cell new) (listed + 2) r
    shut h =
        record {
          ties = new-ties;
          sound = sound;
          at-most = R.at-most;
          exact = R.exact;
          shut = R.shut;
          saturated = λ e. absurd (omega arith);
        }

    level : {i j : ℕ} → Held (points s) (cell new) i j zero_gap → cell new i j ≤ base
    level {i} {j} H = code-tight _ base (R.exact.table.closed.range i j H.from H.to).top (rw kind-three.1 H.held)

    pub grown : listed + 2 ≤ r → Growing s m list' new (listed + 2)
    unfolding new-ties
    grown h =
        let B = L.both in
        let X = all_in R h in
        record {
          all-room = L.all-room ∙ L.growing.all-room;
          ties = new-ties;
          sound = sound;
          exact = X;
          groups = together L.growing.groups L.pair.left< X.table.closed (omega arith) R.tighter L.pair.right< L.pair.untied
              (level (X.held.more (record { number = listed; there = omega arith; starts = from_is; ends = to_is; gap = gap_is })))
              (level (X.held.more
              (record { number = listed + 1; there = omega arith; starts = B.back.from_is; ends = B.back.to_is; gap = B.back.gap_is })));
        }
