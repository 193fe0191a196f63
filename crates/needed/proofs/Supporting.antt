-- What a tie rests on is found and marked: its arguments' paths, or its walks there and back.
-- Assumes nothing.
use Prim.Native.Nat.{ℕ, suc, ◌+◌, ◌*◌, ◌≤◌, ◌<◌}
use mathlib.Core.Path.{◌≡◌, refl, ◌∙◌}
use mathlib.Core.Bool.{Bool, true}
use mathlib.Core.List.{List}
use mathlib.Core.Logic.{◌⊎◌, inl, inr, ⊎_elim}
use lib.IntN.{pos}
use lib.ListN.{length, get_or, drop}
use native.Mathlib.Omega.{arith}
use Rattle.kind.specs.Kind.{Kind}
use Rattle.cells.specs.Cells.{stride}
use Rattle.order.specs.First.{marked}
use Rattle.sheet.specs.Sheet.{Sheet, term_at}
use Rattle.settled.specs.Settled.{points}
use Rattle.layers.specs.Bounds.{Bounds, bounds, Sound, Goes, Reachable, Least}
use Rattle.layers.specs.declared.Bound.{Bound}
use Rattle.layers.proofs.Rests.{reachable, tie-to, tie-back}
use Rattle.sketch.specs.Sketch.{place, numbers_at, how_of, left, right}
use Rattle.needed.specs.Needed.{NamedIn, Found, FoundBoth, WalkOn, Leads}
use Rattle.needed.specs.Needed.Leads.{there as leads-there, back as leads-back, arguments as leads-between}
use Rattle.needed.specs.Support.{Walkable, Grounds, Argued, Supported}
use Rattle.needed.proofs.Copying.{numbers-kept, goes-below}

-- a walk that is found is the least
least : {n : ℕ} {B : Bounds} {a b : ℕ} {names : List ℕ} {at : ℕ} {walks walks' : List ℕ} {need need' : List Bool}
    → Found n B a b names at walks walks' need need'
    → Least n B a b (drop (at * place + 1) walks') (drop (at * place + 1) walks') (get_or walks' (at * place) 0)
least F = record { few = F.few; total = F.total; goes = F.goes; least = F.least; kept = λ k l. refl }

module _ {s : Sheet} {list : List Bound} {names ties : List ℕ} {t e : ℕ} (a< : left ties t < points s) (b< : right ties t < points s)
    (W : Walkable s list names ties t e) where
  reach-there : Reachable (points s) (bounds e list) (left ties t) (right ties t)
  reach-there = reachable _ _ W.d W.exact _ _ a< b< W.tied.to.there

  reach-back : Reachable (points s) (bounds e list) (right ties t) (left ties t)
  reach-back = reachable _ _ W.d W.exact _ _ b< a< W.tied.back.there

  -- a walk over these bounds names earlier ties
  earlier : {i j x : ℕ} {g : Kind} {es : List ℕ} → Goes (bounds e list) i j g es → NamedIn names es x → x < t
  earlier G N = let l = W.earlier N.bound (goes-below G _ N.there) N.a-tie in omega (arith, N.is)

  module _ {walks walks' : List ℕ} {need need' : List Bool} (small : points s ≤ stride) (room : (2 * t + 2) * place ≤ length walks)
      (how : how_of (get_or ties t 0) ≡ suc e)
      (F : FoundBoth (points s) (bounds e list) (left ties t) (right ties t) names (2 * t) walks walks' need need') where
    numbers-there : numbers_at walks' (2 * t) ≡ numbers_at F.walks-between (2 * t)
    numbers-there =
        numbers-kept (2 * t) F.walks-between walks' F.back.as_long (omega (arith, F.there.as_long))
        (omega (arith, F.there.few)) (λ k p q. F.back.before k (omega arith))

    on-there : WalkOn (points s) list names walks' need' e (left ties t) (right ties t) (2 * t)
    on-there =
        record {
          few = omega (arith, F.back.before (2 * t * place) (omega arith), F.there.few);
          goes = rw numbers-there (tie-to _ _ W.d W.exact _ _ (pos 0) a< b< W.tied _ _ _ (least F.there));
          on = λ x N. F.back.marks.stays x (F.there.marks.on x (rw numbers-there at N));
        }

    on-back : WalkOn (points s) list names walks' need' e (right ties t) (left ties t) (2 * t + 1)
    on-back =
        record {
          few = F.back.few;
          goes = tie-back _ _ W.d W.exact _ _ (pos 0) a< b< W.tied _ _ _ (least F.back);
          on = F.back.marks.on;
        }

    only : (x : ℕ) → marked need' x ≡ true → (marked need x ≡ true) ⊎ ((x < t) × Leads s names ties walks' t x)
    only x m =
        ⊎_elim (λ o. ⊎_elim inl (λ N. inr (earlier F.there.goes N, leads-there how (rw numbers-there N))) (F.there.marks.only x o))
        (λ N. inr (earlier F.back.goes N, leads-back how N)) (F.back.marks.only x m)

    supported-walks : Supported s list names ties t walks walks' need need'
    supported-walks =
        record {
          functions = λ z. absurd (omega arith);
          there = λ k h. let same : k ≡ e = omega arith in rw same on-there;
          back = λ k h. let same : k ≡ e = omega arith in rw same on-back;
          stays = λ x m. F.back.marks.stays x (F.there.marks.stays x m);
          only = only;
          after = λ k l. F.back.after k (omega arith) ∙ F.there.after k (omega arith);
        }

-- the points and their number as the code has them
module _ {s : Sheet} {ties : List ℕ} {t a b : ℕ} (a-is : a ≡ left ties t) (b-is : b ≡ right ties t) where
  pub supported-arguments : {list : List Bound} {names walks : List ℕ} {need need' : List Bool} → how_of (get_or ties t 0) ≡ 0
      → Argued ties t (term_at s a) (term_at s b) need need' → Supported s list names ties t walks walks need need'
  supported-arguments how A =
      let A' = rw (a-is, b-is) at A in
      record {
        functions = λ z. A'.input;
        there = λ e h. absurd (omega arith);
        back = λ e h. absurd (omega arith);
        stays = A'.stays;
        only = λ x m. ⊎_elim inl (λ B. inr (B.earlier, leads-between how B.facing B.tied B.on)) (A'.only x m);
        after = λ k l. refl;
      }

  module _ {list : List Bound} {names labels : List ℕ} {n e : ℕ} (n-is : n ≡ points s)
      (G : Grounds s list names ties labels t) (how : how_of (get_or ties t 0) ≡ suc e) where
    pub asked-walks : Sound n (bounds e list) × Reachable n (bounds e list) a b × Reachable n (bounds e list) b a
    asked-walks =
        let W = G.walks e how in
        rw (n-is, a-is, b-is) (W.sound, reach-there G.left< G.right< W, reach-back G.left< G.right< W)

    pub supported-both : {walks walks' : List ℕ} {need need' : List Bool} → n ≤ stride → (2 * t + 2) * place ≤ length walks
        → FoundBoth n (bounds e list) a b names (2 * t) walks walks' need need'
        → Supported s list names ties t walks walks' need need'
    supported-both small room F = supported-walks G.left< G.right< (G.walks e how) (omega arith) room how (rw (n-is, a-is, b-is) at F)
