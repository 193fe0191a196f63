-- One turn: ties by walks of the arguments at bound e, then the tie of functions itself, which joins different groups.
-- Assumes nothing.
use Prim.Native.Nat.{ℕ, suc, ◌+◌, ◌-◌, ◌*◌, ◌≤◌, ◌<◌}
use mathlib.Core.Path.{◌≡◌, refl, sym, ap, ◌∙◌, subst}
use mathlib.Core.List.{List}
use lib.IntN.{pos}
use lib.ListN.{length, get_or}
use native.Mathlib.Omega.{arith}
use borrow.Author.Count.{below_more}
use Rattle.closure.specs.Closed.{TiedAt}
use Rattle.cells.specs.Cells.{stride, cell}
use Rattle.sheet.specs.Sheet.{Sheet, count_terms, term_at, WellFormed}
use Rattle.sheet.proofs.Below.{arguments-wider}
use Rattle.meaning.specs.Meaning.{SameInput}
use Rattle.meaning.proofs.Meaning.{same-input-below}
use Rattle.settled.specs.Settled.{points}
use Rattle.walked.specs.Borne.{Exact}
use Rattle.layers.specs.Bounds.{bounds, from_at, to_at, Listed}
use Rattle.layers.specs.declared.Bound.{Bound}
use Rattle.sketch.specs.Sketch.{how_of, left_of, right_of, left, right}
use Rattle.forest.proofs.Few.{few-more}
use Rattle.grown.specs.Grown.{FunctionTie, FunctionTies}
use Rattle.laid.specs.Laid.{OfFunctions, ByWalks, IsTie}
use Rattle.laid.specs.Longer.{Pushed, Longer, Are, ArgumentsTied}
use Rattle.laid.proofs.Longer.{parts, longer-one}
use Rattle.laid.proofs.Tables.{listed_more, tied-more, tied-zero, group-tied}
use Rattle.laid.proofs.Laying.{Laying, Named, function-tie}

-- a tie of functions, by the row of labels as it was before
functions-by : {s : Sheet} {ties labels : List ℕ} {u a b : ℕ} (row : ℕ → ℕ) → WellFormed s → Are a b (left ties u) (right ties u)
    → a < count_terms s → b < count_terms s → ((i : ℕ) → i < points s → cell labels u i ≡ row i)
    → SameInput (λ i j. row i ≡ row j) (term_at s a) (term_at s b) → OfFunctions s ties labels u
functions-by {s} {a = a} {b} row wf R a< b< g I =
    record {
      left< = rw R.left_is a<;
      right< = rw R.right_is b<;
      arguments = rw (R.left_is, R.right_is)
          (same-input-below (points s) (points s) _ _ (arguments-wider (omega arith) (wf.arguments a a<))
          (arguments-wider (omega arith) (wf.arguments b b<))
          (λ i j l m p. g i l ∙ p ∙ sym (g j m)) I);
    }

-- the arguments are tied
module _ {s : Sheet} {list : List Bound} {old names ties labels : List ℕ} {m e t : ℕ} (L : Laying s list old names ties labels m e t)
    (F : FunctionTie s list e) {ties' labels' : List ℕ} {t' : ℕ}
    (A : ArgumentsTied s (points s) (from_at list e) (to_at list e) e t ties labels ties' labels' t') where
  from< : from_at list e < points s
  from< = omega (arith, F.left<)

  to< : to_at list e < points s
  to< = omega (arith, F.right<)

  -- all ties so far are ties of the table over the first e bounds, so the next one isn't needless
  tied_then : (u : ℕ) → u < t' → TiedAt F.d (left ties' u) (right ties' u) (pos 0)
  tied_then =
      parts (λ u. TiedAt F.d (left ties' u) (right ties' u) (pos 0)) t (λ u l. rw (A.longer.ties-kept u l) (L.tied u l F.d F.exact))
      (λ u l m. (A.longer.of u l m).tied F.d F.joined)

  apart : cell labels' t' (from_at list e) ≡ cell labels' t' (to_at list e) → ⊥
  apart h = F.untied (group-tied F.exact.table.closed t' A.longer.labelled tied_then _ _ from< to< h)

  -- the tie of functions, behind
  module _ {names' ties'' labels'' : List ℕ} {r : ℕ} (wf : WellFormed s) (N : Named names names' e t') (one : r ≡ t' + 1)
      (B : Longer (points s) 0 (Are (from_at list e) (to_at list e)) t' ties' labels' ties'' labels'' r) where
    number : ℕ → ℕ
    number k = get_or names' (m + 2 * k) 0 - 1024

    same_number : (k : ℕ) → m + 2 * k < e → number k ≡ L.laid.number k
    unfolding number
    same_number k l = omega (arith, N.kept (m + 2 * k) l, (L.laid.is-tie k l).there)

    own-number : number L.before ≡ t'
    unfolding number
    own-number = rw (sym L.e-is) (omega (arith, N.there))

    kept : (u : ℕ) → u < t → get_or ties'' u 0 ≡ get_or ties u 0
    kept u l = B.ties-kept u (omega (arith, A.longer.at_least)) ∙ A.longer.ties-kept u l

    rows-kept : (u i : ℕ) → u ≤ t → i < points s → cell labels'' u i ≡ cell labels u i
    rows-kept u i l i< = B.labels-kept u i (omega (arith, A.longer.at_least)) i< ∙ A.longer.labels-kept u i l i<

    how-is : how_of (get_or ties'' t' 0) ≡ 0
    how-is = B.how-is t' (omega arith) (omega arith)

    are : Are (from_at list e) (to_at list e) (left ties'' t') (right ties'' t')
    are = B.of t' (omega arith) (omega arith)

    -- what holds of the ties of functions laid before and of this one holds of all up to it
    each : (P : ℕ → Type 0) → ((k : ℕ) → m + 2 * k < e → P k) → P L.before → (k : ℕ) → m + 2 * k < e + 2 → P k
    each P f p k l = below_more P L.before (λ k l. f k (omega (arith, L.e-is))) p k (omega (arith, L.e-is))

    -- and so for ties: the old ones, those by walks, and the one of functions
    all : (P : ℕ → Type 0) → ((u : ℕ) → u < t → P u) → ((u : ℕ) → t ≤ u → u < t' → P u) → P t' → (u : ℕ) → u < r → P u
    all P f g p u l = below_more P t' (parts P t f g) p u (omega arith)

    is-tie : (k : ℕ) → m + 2 * k < e + 2 → IsTie list names' ties'' (m + 2 * k) (number k)
    is-tie = each (λ k. IsTie list names' ties'' (m + 2 * k) (number k)) old-tie new-tie
      where
        old-tie : (k : ℕ) → m + 2 * k < e → IsTie list names' ties'' (m + 2 * k) (number k)
        old-tie k l =
            let I = L.laid.is-tie k l in
            let k< = kept (L.laid.number k) (L.laid.number< k l) in
            rw (same_number k l)
            (record {
              there = N.kept (m + 2 * k) l ∙ I.there;
              back = N.kept (m + 2 * k + 1) (omega (arith, L.e-is)) ∙ I.back;
              functions = ap how_of k< ∙ I.functions;
              left_is = ap left_of k< ∙ I.left_is;
              right_is = ap right_of k< ∙ I.right_is;
            })

        new-tie : IsTie list names' ties'' (m + 2 * L.before) (number L.before)
        new-tie =
            rw (own-number, sym L.e-is)
            (record { there = N.there; back = N.back; functions = how-is; left_is = are.left_is; right_is = are.right_is })

    of-functions : (u : ℕ) → u < r → how_of (get_or ties'' u 0) ≡ 0 → OfFunctions s ties'' labels'' u
    of-functions =
        all (λ u. how_of (get_or ties'' u 0) ≡ 0 → OfFunctions s ties'' labels'' u) old-one
        (λ u l m h. absurd (omega (arith, A.longer.how-is u l m, ap how_of (B.ties-kept u m))))
        (λ h. functions-by (cell labels' t') wf are F.left< F.right< (λ i. B.labels-kept t' i (omega arith)) A.input)
      where
        old-one : (u : ℕ) → u < t → how_of (get_or ties'' u 0) ≡ 0 → OfFunctions s ties'' labels'' u
        old-one u l h =
            let O = L.laid.of-functions u l (sym (ap how_of (kept u l)) ∙ h) in
            functions-by (cell labels u) wf (record { left_is = ap left_of (kept u l); right_is = ap right_of (kept u l) }) O.left< O.right<
            (λ i. rows-kept u i (omega arith)) O.arguments

    abbrev Walks : ℕ → ℕ → Type 0
    Walks u f = (f < e + 2) × ByWalks s list ties'' number m u f

    by-walks : (u f : ℕ) → u < r → how_of (get_or ties'' u 0) ≡ suc f → Walks u f
    by-walks u f l = all (λ u. how_of (get_or ties'' u 0) ≡ suc f → Walks u f) old-one new-one (λ h. absurd (omega (arith, how-is))) u l
      where
        carried : (u : ℕ) → get_or ties'' u 0 ≡ get_or ties u 0 → f < e → ByWalks s list ties L.laid.number m u f → Walks u f
        carried u k l W = (
          omega arith,
          record {
            before = W.before;
            bounds-are = W.bounds-are;
            earlier = λ k k<. rw (same_number k (omega (arith, W.bounds-are))) (W.earlier k k<);
            d = W.d;
            exact = W.exact;
            tied = rw k W.tied;
          },
        )

        old-one : (u : ℕ) → u < t → how_of (get_or ties'' u 0) ≡ suc f → Walks u f
        old-one u l h = let w = L.laid.by-walks u f l (sym (ap how_of (kept u l)) ∙ h) in carried u (kept u l) w.0 w.1

        new-one : (u : ℕ) → t ≤ u → u < t' → how_of (get_or ties'' u 0) ≡ suc f → Walks u f
        new-one u l k h =
            let same : e ≡ f = omega (arith, A.longer.how-is u l k, ap how_of (B.ties-kept u k)) in
            subst (Walks u) same (
              omega arith,
              record {
                before = L.before;
                bounds-are = L.e-is;
                earlier = λ v v<.
                    let v<e : m + 2 * v < e = omega (arith, L.e-is) in
                    rw (same_number v v<e) (omega (arith, L.laid.number< v v<e));
                d = F.d;
                exact = F.exact;
                tied = rw (B.ties-kept u k) (tied_then u k);
              },
            )

    abbrev TiedIn : (ℕ → ℕ → ℕ) → ℕ → Type 0
    TiedIn d u = TiedAt d (left ties'' u) (right ties'' u) (pos 0)

    tied : (u : ℕ) → u < r → (d : ℕ → ℕ → ℕ) → Exact (points s) (Listed (bounds (e + 2) list)) d → TiedIn d u
    tied u l d X = below_more (TiedIn d) t' old-one new-one u (omega arith)
      where
        old-one : (u : ℕ) → u < t' → TiedIn d u
        old-one u l =
            rw (B.ties-kept u l)
            (tied-more (listed_more (omega arith)) F.exact X (A.longer.labelled.left< u l) (A.longer.labelled.right< u l) (tied_then u l))

        new-one : TiedIn d t'
        new-one =
            rw (are.left_is, are.right_is)
            (tied-zero X (record { number = e; there = omega arith; starts = refl; ends = refl; gap = F.gap })
            (record { number = e + 1; there = omega arith; starts = F.back_from; ends = F.back_to; gap = F.back-gap }))

    one_more : Laying s list old names' ties'' labels'' m (e + 2) r
    one_more =
        record {
          before = L.before + 1;
          e-is = omega (arith, L.e-is);
          laid =
              record {
                labelled = B.labelled;
                number = number;
                number< = each (λ k. number k < r)
                    (λ k l. rw (same_number k l) (omega (arith, L.laid.number< k l, A.longer.at_least))) (rw own-number (omega arith));
                is-tie = is-tie;
                of-functions = of-functions;
                by-walks = by-walks;
                names-kept = λ k l. N.kept k (omega (arith, L.e-is)) ∙ L.laid.names-kept k l;
              };
          tied = tied;
        }

-- one turn, over n points, where bound e goes from i to j
module _ {n i j : ℕ} {s : Sheet} {list : List Bound} {old names ties labels : List ℕ} {m e t listed : ℕ} (wf : WellFormed s) (same : n ≡ points s)
    (L : Laying s list old names ties labels m e t) (T : FunctionTies s list m listed) (l : e < listed)
    (i-is : i ≡ from_at list e) (j-is : j ≡ to_at list e) {ties' labels' : List ℕ} {t' : ℕ}
    (A : ArgumentsTied s n i j e t ties labels ties' labels' t') where
  F : FunctionTie s list e
  F = function-tie L T l

  A' : ArgumentsTied s (points s) (from_at list e) (to_at list e) e t ties labels ties' labels' t'
  A' = rw (same, i-is, j-is) at A

  pub room : t' + 1 < stride
  room = omega (arith, wf.terms, few-more A'.longer.labelled (from< L F A') (to< L F A') (apart L F A'))

  pub turned : {names' ties'' labels'' : List ℕ} {r : ℕ} → length ties' ≡ stride → Named names names' e t'
      → Pushed n t' i j 0 ties' labels' ties'' labels'' r → Laying s list old names' ties'' labels'' m (e + 2) r
  turned long N P =
      one_more L F A' wf N P.count
      (longer-one (omega (arith, wf.terms)) (omega (arith, room)) (from< L F A') (to< L F A') A'.longer.labelled (apart L F A')
      (rw (same, i-is, j-is) at P))
