-- Steps without those that aren't kept: what is tied along kept ties stays tied and nothing else is, so what obeys the rules still does, and
-- what the last step rests on it still rests on.
-- Assumes nothing.
use Prim.Native.Nat.{ℕ, zero, suc, ◌+◌, ◌≤◌, ◌<◌}
use mathlib.Core.Path.{◌≡◌, refl, sym, ap}
use mathlib.Core.Bool.{Bool, true, false}
use mathlib.Core.List.Memᴰ.{append_left as in_left}
use mathlib.Core.List.Memᴰ.{append_right as in_right}
use mathlib.Core.List.Memᴰ.{head as here}
use mathlib.Core.List.Memᴰ.{map as in_map}
use mathlib.Core.List.Memᴰ.{tail as later}
use mathlib.Core.List.{List, [], ◌∷◌, ◌++◌, map, Memᴰ as In, map-append}
use lib.ListN.{length}
use lib.IntN.{ℤ}
use native.Mathlib.Omega.{arith}
use Rattle.order.specs.First.{Set}
use Rattle.sheet.specs.Sheet.{Term, Sheet}
use Rattle.meaning.specs.Meaning.{SameInput, one, two}
use Rattle.kind.specs.Kind.{Kind}
use Rattle.reasons.specs.Step.{Bound, tie, tie_back, Step, by_walks, by_functions, closing_walk, closing_entry, step_at, walks_of}
use Rattle.reasons.specs.Rules.{Ties, Tied, Apart, Level, Over, Chain, Walk, TieRight, Closing}
use Rattle.reasons.specs.Rules.Ties.{walks, functions}
use Rattle.reasons.specs.Rules.Tied.{itself, before, forth, back}
use Rattle.reasons.specs.Rules.Over.{an-entry, entry-back, a-number, number-back, a-shift, shift_back, a-tie, tie-back}
use Rattle.reasons.specs.Rules.Chain.{stop, step}
use Rattle.reasons.specs.Rules.TieRight.{by-walks, by-functions}
use Rattle.reasons.specs.Rules.Closing.{by-walk, by-entry}
use Rattle.reasons.specs.Reason.{Between, Rests, Gathered, Closes, NothingSpare}
use Rattle.reasons.specs.Reason.Between.{one as only, first, second}
use Rattle.reasons.specs.Reason.Rests.{over, over-back, arguments, terms}
use Rattle.reasons.specs.Reason.Gathered.{own, further}
use Rattle.reasons.specs.Pruned.{rank, renamed_bound, renamed_walk, renamed, pruned, Prunable}
use Rattle.reasons.proofs.Bounds.{step-proper, rests-earlier}
use Rattle.reasons.proofs.Rank.{rank-kept, rank_left, rank-zero, rank-before, old, pruned-length, at-rank}

-- bounds, walks and ties of a renamed step
module _ (keep : Set) where
  in-renamed : {b : Bound} {walk : List Bound} → In b walk → In (renamed_bound keep b) (renamed_walk keep walk)
  unfolding renamed_walk
  in-renamed (here e) = here (ap (renamed_bound keep) e)
  in-renamed (later m) = later (in-renamed m)

  renamed-append : (p q : List Bound) → renamed_walk keep (p ++ q) ≡ renamed_walk keep p ++ renamed_walk keep q
  unfolding renamed_walk
  renamed-append [] q = refl
  renamed-append (b ∷ p) q = rw (renamed-append p q)

  renamed-length : (p : List Bound) → length (renamed_walk keep p) ≡ length p
  unfolding renamed_walk
  renamed-length [] = refl
  renamed-length (b ∷ p) = ap suc (renamed-length p)

  renamed-walks : (k : Step) → walks_of (renamed keep k) ≡ renamed_walk keep (walks_of k)
  unfolding renamed_walk
  renamed-walks (by_walks a b c p q) = sym (renamed-append p q)
  renamed-walks (by_functions a b) = refl
  renamed-walks (closing_walk a round) = refl
  renamed-walks (closing_entry e) = refl

  ties-new : {k : Step} {a b : ℕ} {c : ℤ} → Ties k a b c → Ties (renamed keep k) a b c
  ties-new walks = walks
  ties-new functions = functions

  ties-old : (k : Step) {a b : ℕ} {c : ℤ} → Ties (renamed keep k) a b c → Ties k a b c
  ties-old (by_walks a b c p q) walks = walks
  ties-old (by_functions a b) functions = functions
  ties-old (closing_walk a round) h = elim h [ ]
  ties-old (closing_entry e) h = elim h [ ]

-- some path ties i to j with the gap c
record Joined (steps : List Step) (n i j : ℕ) (c : ℤ) : Type 0 where
  path : List ℕ
  tied : Tied steps n i j c path

module _ (keep : Set) (steps : List Step) where
  abbrev new : List Step
  new = pruned keep steps

  ties-at : {n a b : ℕ} {c : ℤ} → n < length steps → keep n ≡ true → Ties (step_at steps n) a b c → Ties (step_at new (rank keep n)) a b c
  ties-at {n} l e h = rw (at-rank keep steps n l e) (ties-new keep h)

  abbrev Kept : List ℕ → Type 0
  Kept path = (t : ℕ) → In t path → keep t ≡ true

  module _ (p q : List ℕ) (n : ℕ) (f : Kept (p ++ n ∷ q)) where
    kept-before : Kept p
    kept-before t m = f t (in_left (n ∷ q) m)

    kept_there : keep n ≡ true
    kept_there = f n (in_right p (here refl))

    kept-after : Kept q
    kept-after t m = f t (in_right p (later m))

  -- what is tied along kept ties stays so
  skipped : (n : ℕ) {i j : ℕ} {c : ℤ} {path : List ℕ} → Tied new (rank keep n) i j c path → Tied new (rank keep (suc n)) i j c path
  skipped n {i} {j} {c} {path} h = go (keep n) refl
    where
      go : (t : Bool) → keep n ≡ t → Tied new (rank keep (suc n)) i j c path
      go true e = rw (rank-kept keep n e) (before h)
      go false e = rw (rank_left keep n e) h

  tied-new : {n i j : ℕ} {c : ℤ} {path : List ℕ} → n ≤ length steps → Kept path → Tied steps n i j c path →
      Tied new (rank keep n) i j c (map (rank keep) path)
  tied-new l f itself = rw (rank-zero keep) itself
  tied-new l f (before {n} h) = skipped n (tied-new (omega arith) f h)
  tied-new l f (forth {n} {p} {q} h t k) =
      let e : keep n ≡ true = kept_there p q n f in
      rw (rank-kept keep n e, map-append (rank keep) p (n ∷ q))
      (forth (tied-new (omega arith) (kept-before p q n f) h) (ties-at l e t) (tied-new (omega arith) (kept-after p q n f) k))
  tied-new l f (back {n} {p} {q} h t k) =
      let e : keep n ≡ true = kept_there p q n f in
      rw (rank-kept keep n e, map-append (rank keep) p (n ∷ q))
      (back (tied-new (omega arith) (kept-before p q n f) h) (ties-at l e t) (tied-new (omega arith) (kept-after p q n f) k))

  -- and nothing else is tied
  later-tied : {n i j : ℕ} {c : ℤ} → Joined steps n i j c → Joined steps (suc n) i j c
  later-tied h = record { path = h.path; tied = before h.tied }

  last-tied : (n : ℕ) {r i j : ℕ} {c : ℤ} {path : List ℕ} → ((i j : ℕ) (c : ℤ) (path : List ℕ) → Tied new r i j c path → Joined steps n i j c) →
      ((a b : ℕ) (c : ℤ) → Ties (step_at new r) a b c → Ties (step_at steps n) a b c) → Tied new (suc r) i j c path → Joined steps (suc n) i j c
  last-tied n f g (before h) = later-tied (f _ _ _ _ h)
  last-tied n f g (forth h t k) = record { path = _; tied = forth (f _ _ _ _ h).tied (g _ _ _ t) (f _ _ _ _ k).tied }
  last-tied n f g (back h t k) = record { path = _; tied = back (f _ _ _ _ h).tied (g _ _ _ t) (f _ _ _ _ k).tied }

  none-tied : {i j : ℕ} {c : ℤ} {path : List ℕ} → Tied new 0 i j c path → Joined steps 0 i j c
  none-tied itself = record { path = []; tied = itself }

  tied-old : (n : ℕ) → n ≤ length steps → (i j : ℕ) (c : ℤ) (path : List ℕ) → Tied new (rank keep n) i j c path → Joined steps n i j c
  tied-old zero l i j c path h = none-tied (rw (rank-zero keep) at h)
  tied-old (suc n) l i j c path h = go (keep n) refl (tied-old n (omega arith))
    where
      go : (t : Bool) → keep n ≡ t → ((i j : ℕ) (c : ℤ) (path : List ℕ) → Tied new (rank keep n) i j c path → Joined steps n i j c) →
          Joined steps (suc n) i j c
      go true e f = last-tied n f (λ a b c t. ties-old keep (step_at steps n) (rw (at-rank keep steps n l e) at t)) (rw (rank-kept keep n e) at h)
      go false e f = later-tied (f i j c path (rw (rank_left keep n e) at h))

  module _ (n : ℕ) (l : n ≤ length steps) where
    apart-new : {a b : ℕ} → Apart steps n a b → Apart new (rank keep n) a b
    apart-new f c path h = let o = tied-old n l _ _ c path h in f c o.path o.tied

    level-new : {a b : ℕ} (h : Level steps n a b) → Kept h.path → Level new (rank keep n) a b
    level-new h f = record { path = map (rank keep) h.path; tied = tied-new l f h.tied }

    same_new : {t u : Term} → ((path : List ℕ) → Between steps n t u path → Kept path) → SameInput (Level steps n) t u →
        SameInput (Level new (rank keep n)) t u
    same_new f (one h) = one (level-new h (f _ (only h.tied)))
    same_new f (two h k) = two (level-new h (f _ (first h.tied))) (level-new k (f _ (second k.tied)))

    between-new : {t u : Term} {path : List ℕ} → Kept path → Between steps n t u path → Between new (rank keep n) t u (map (rank keep) path)
    between-new f (only h) = only (tied-new l f h)
    between-new f (first h) = first (tied-new l f h)
    between-new f (second h) = second (tied-new l f h)

    module _ (s : Sheet) where
      rests-new : {k : Step} {t : ℕ} → ((u : ℕ) → Rests s steps n k u → keep u ≡ true) → Rests s steps n k t →
          Rests s new (rank keep n) (renamed keep k) (rank keep t)
      rests-new {k} {t} f (over m) = over {step = renamed keep k} {t = rank keep t} (rw (renamed-walks keep k) (in-renamed keep m))
      rests-new {k} {t} f (over-back m) = over-back {step = renamed keep k} {t = rank keep t} (rw (renamed-walks keep k) (in-renamed keep m))
      rests-new f (arguments b m) = arguments (between-new (λ u i. f u (arguments b i)) b) (in_map (rank keep) m)
      rests-new f (terms h m) = terms (tied-new l (λ u i. f u (terms h i)) h) (in_map (rank keep) m)

-- the ties of a walk are kept
record WalkKept (keep : Set) (walk : List Bound) : Type 0 where
  forwards : (t : ℕ) → In (tie t) walk → keep t ≡ true
  backwards : (t : ℕ) → In (tie_back t) walk → keep t ≡ true

module _ {keep : Set} {b : Bound} where
  first-kept : (rest : List Bound) → WalkKept keep (b ∷ rest) → WalkKept keep (b ∷ [])
  first-kept rest K = record { forwards = λ t m. K.forwards t (in_left rest m); backwards = λ t m. K.backwards t (in_left rest m) }

  rest-kept : {rest : List Bound} → WalkKept keep (b ∷ rest) → WalkKept keep rest
  rest-kept K = record { forwards = λ t m. K.forwards t (later m); backwards = λ t m. K.backwards t (later m) }

-- where all that a step rests on is kept, so are the ties of each of its walks
walks-kept : {s : Sheet} {steps : List Step} {n : ℕ} {keep : Set} {k : Step} {p : List Bound} → ((t : ℕ) → Rests s steps n k t → keep t ≡ true) →
    ((b : Bound) → In b p → In b (walks_of k)) → WalkKept keep p
walks-kept f h = record { forwards = λ t m. f t (over (h _ m)); backwards = λ t m. f t (over-back (h _ m)) }

module _ (s : Sheet) (S keep : Set) (steps : List Step) (n : ℕ) (l : n ≤ length steps) where
  over-new : {bound : Bound} {i j : ℕ} {g : Kind} → WalkKept keep (bound ∷ []) → Over s S steps n bound i j g →
      Over s S (pruned keep steps) (rank keep n) (renamed_bound keep bound) i j g
  over-new K (an-entry u g) = an-entry u g
  over-new K (entry-back u r) = entry-back u r
  over-new K (a-number k e) = a-number k e
  over-new K (number-back k e) = number-back k e
  over-new K (a-shift k e) = a-shift k e
  over-new K (shift_back k e) = shift_back k e
  over-new K (a-tie {t} k h) =
      let e : keep t ≡ true = K.forwards t (here refl) in
      a-tie (rank-before keep t n k e) (ties-at keep steps (omega arith) e h)
  over-new K (tie-back {t} k h) =
      let e : keep t ≡ true = K.backwards t (here refl) in
      tie-back (rank-before keep t n k e) (ties-at keep steps (omega arith) e h)

  chain-new : {walk : List Bound} {i k : ℕ} {total : Kind} → WalkKept keep walk → Chain s S steps n walk i k total →
      Chain s S (pruned keep steps) (rank keep n) (renamed_walk keep walk) i k total
  unfolding renamed_walk
  chain-new K stop = stop
  chain-new K (step {rest} h w) = step (over-new (first-kept rest K) h) (chain-new (rest-kept K) w)

  walk-new : {walk : List Bound} {i k : ℕ} {total : Kind} → WalkKept keep walk → Walk s S steps n walk i k total →
      Walk s S (pruned keep steps) (rank keep n) (renamed_walk keep walk) i k total
  walk-new {walk} K w = record { chain = chain-new K w.chain; few = omega (arith, renamed-length keep walk, w.few) }

  tie-right-new : {k : Step} → ((t : ℕ) → Rests s steps n k t → keep t ≡ true) → TieRight s S steps n k →
      TieRight s S (pruned keep steps) (rank keep n) (renamed keep k)
  tie-right-new f (by-walks {there} {back = home} a b h w p q) =
      by-walks a b (apart-new keep steps n l h) w
      (walk-new (walks-kept f (λ b m. in_left home m)) p)
      (walk-new (walks-kept f (λ b m. in_right there m)) q)
  tie-right-new f (by-functions a b h same) =
      by-functions a b (apart-new keep steps n l h) (same_new keep steps n l (λ path b t m. f t (arguments b m)) same)

  closing-new : {k : Step} → ((t : ℕ) → Rests s steps n k t → keep t ≡ true) → Closing s S steps n k →
      Closing s S (pruned keep steps) (rank keep n) (renamed keep k)
  closing-new f (by-walk a w u) = by-walk a (walk-new (walks-kept f (λ b m. m)) w) u
  closing-new f (by-entry u r h) = by-entry u r (tied-new keep steps l (λ t m. f t (terms h m)) h)

module _ {s : Sheet} {S : Set} {steps : List Step} {last : ℕ} {keep : Set} (P : Prunable s S steps last keep) where
  there : {n : ℕ} → n ≤ last → n < length steps
  there l = omega (arith, P.count)

  -- what the last step rests on is kept, and not behind it
  gathered-kept : {n : ℕ} → Gathered s steps last n → (n ≤ last) × (keep n ≡ true)
  gathered-kept own = (omega arith, P.last-kept)
  gathered-kept (further {t} {u} g r) =
      let (l, e) = gathered-kept g in
      let k : u < t = rests-earlier (step-proper t l (λ k. P.ties t k e) P.closing) r in
      (omega arith, P.rests-kept t u l e r)

  rests-at : (n t : ℕ) → n ≤ last → keep n ≡ true → Rests s steps n (step_at steps n) t →
      Rests s (pruned keep steps) (rank keep n) (step_at (pruned keep steps) (rank keep n)) (rank keep t)
  rests-at n t l e r =
      rw (at-rank keep steps n (there l) e) (rests-new keep steps n (omega (arith, there l)) s (λ u. P.rests-kept n u l e) r)

  gathered-new : {n : ℕ} → Gathered s steps last n → Gathered s (pruned keep steps) (rank keep last) (rank keep n)
  gathered-new own = own
  gathered-new (further {t} {u} g r) = let (l, e) = gathered-kept g in further (gathered-new g) (rests-at t u l e r)

  pruned-count : length (pruned keep steps) ≡ suc (rank keep last)
  pruned-count =
      let e : 0 + length steps ≡ suc last = omega (arith, P.count) in
      omega (arith, pruned-length keep steps 0, rank-zero keep, ap (rank keep) e, rank-kept keep last P.last-kept)

  tie-right-at : (n : ℕ) → n < last → keep n ≡ true → TieRight s S (pruned keep steps) (rank keep n) (step_at (pruned keep steps) (rank keep n))
  tie-right-at n l e =
      rw (at-rank keep steps n (there (omega arith)) e)
      (tie-right-new s S keep steps n (omega (arith, P.count)) (λ t. P.rests-kept n t (omega arith) e) (P.ties n l e))

  closing_at : Closing s S (pruned keep steps) (rank keep last) (step_at (pruned keep steps) (rank keep last))
  closing_at =
      rw (at-rank keep steps last (there (omega arith)) P.last-kept)
      (closing-new s S keep steps last (omega (arith, P.count)) (λ t. P.rests-kept last t (omega arith) P.last-kept) P.closing)

  pub pruned-closes : Closes s S (pruned keep steps) (rank keep last)
  pruned-closes = record {
    count = pruned-count;
    ties = λ k l. let o = old keep last k l in rw (sym o.is) (tie-right-at o.step o.below o.kept);
    closing = closing_at;
  }

  pub pruned-spare : NothingSpare s (pruned keep steps) (rank keep last)
  pruned-spare = record {
    needed = λ k l. let o = old keep last k l in rw (sym o.is) (gathered-new (P.needed o.step o.below o.kept));
  }
