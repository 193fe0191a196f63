-- Ties laid behind others: none, one between different groups, and some behind some.
-- Assumes nothing.
use Prim.Native.Nat.{ℕ, ◌+◌, ◌*◌, ◌≤◌, ◌<◌}
use mathlib.Core.Path.{◌≡◌, refl, sym, ap, ◌∙◌, subst}
use mathlib.Core.List.{List}
use lib.ListN.{length, get_or}
use lib.Seq.{get_or-set_same, get_or-set_other}
use native.Mathlib.Decide.{dec_le}
use native.Mathlib.Omega.{arith}
use Rattle.cells.specs.Cells.{stride, cell}
use Rattle.sketch.specs.Sketch.{how_of, left_of, right_of, left, right}
use Rattle.forest.specs.Labels.{Labelled}
use Rattle.forest.proofs.Rows.{relabelled-same, relabelled-joins, labelled-more}
use Rattle.laid.specs.Longer.{Pushed, Longer, Are, TiedUp}

-- what holds below t, and from there up to r, holds below r
pub parts : (P : ℕ → Type 0) (t : ℕ) {r : ℕ} → ((u : ℕ) → u < t → P u) → ((u : ℕ) → t ≤ u → u < r → P u) → (u : ℕ) → u < r → P u
parts P t first second u l = go (dec_le t u)
  where
    go : Dec (t ≤ u) → P u
    go (yes h) = second u h l
    go (no h) = first u (omega arith)

-- a and b were in one group
pub tied-already : {n e t a b : ℕ} {ties labels : List ℕ} → Labelled n ties labels t → cell labels t a ≡ cell labels t b
    → TiedUp n e t a b ties labels ties labels t
tied-already L h =
    record {
      longer =
          record {
            labelled = L;
            at_least = omega arith;
            ties-kept = λ u l. refl;
            labels-kept = λ u i l m. refl;
            stays = λ i j l m k. k;
            how-is = λ u l m. absurd (omega arith);
            of = λ u l m. absurd (omega arith);
          };
      one-group = h;
    }

-- one tie more, of points in different groups
module _ {n t a b how r : ℕ} {ties labels ties' labels' : List ℕ} (small : n ≤ stride) (room : t < length ties) (a< : a < n) (b< : b < n)
    (L : Labelled n ties labels t) (apart : cell labels t a ≡ cell labels t b → ⊥) (P : Pushed n t a b how ties labels ties' labels' r) where
  abbrev x : ℕ
  x = a + 256 * b + 65536 * how

  own : get_or ties' t 0 ≡ x
  own = ap (λ (k : List ℕ). get_or k t 0) P.ties-are ∙ get_or-set_same ties t x 0 room

  -- the only new tie
  only : (Q : ℕ → Type 0) → Q t → (u : ℕ) → t ≤ u → u < r → Q u
  only Q q u l m = let e : t ≡ u = omega (arith, P.count) in subst Q e q

  joined : (i j : ℕ) → i < n → j < n → cell labels' (t + 1) i ≡ cell labels' (t + 1) j → cell labels' r i ≡ cell labels' r j
  joined i j l m e = rw P.count e

  pub longer-one : Longer n how (Are a b) t ties labels ties' labels' r
  longer-one =
      record {
        labelled = rw P.count
            (labelled-more x L small room P.ties-are (omega arith) (omega arith) a< b< apart P.joined);
        at_least = omega (arith, P.count);
        ties-kept = λ u l. ap (λ (k : List ℕ). get_or k u 0) P.ties-are ∙ get_or-set_other ties t u x 0 (omega arith);
        labels-kept = λ u i l m. P.joined.before (u * stride + i) (omega arith);
        stays = λ i j l m e. joined i j l m (P.joined.row i l ∙ relabelled-same (cell labels t) a b e ∙ sym (P.joined.row j m));
        how-is = only (λ u. how_of (get_or ties' u 0) ≡ how) (ap how_of own ∙ omega arith);
        of = only (λ u. Are a b (left ties' u) (right ties' u))
            (record { left_is = ap left_of own ∙ omega arith; right_is = ap right_of own ∙ omega arith });
      }

  one-group : cell labels' r a ≡ cell labels' r b
  one-group =
      joined a b a< b< (P.joined.row a a< ∙ relabelled-joins (cell labels t) a b refl refl ∙ sym (P.joined.row b b<))

-- so where a and b are tied by walks
pub tied-now : {n e t a b r : ℕ} {ties labels ties' labels' : List ℕ} → n ≤ stride → t < length ties → a < n → b < n → Labelled n ties labels t
    → (cell labels t a ≡ cell labels t b → ⊥) → Pushed n t a b (e + 1) ties labels ties' labels' r → TiedUp n e t a b ties labels ties' labels' r
tied-now small room a< b< L apart P =
    record { longer = longer-one small room a< b< L apart P; one-group = one-group small room a< b< L apart P }

module _ {n how t r : ℕ} {P Q : ℕ → ℕ → Type 0} {ties labels ties' labels' : List ℕ} where
  -- what the new ties' points are may be said otherwise
  pub longer-as : ((a b : ℕ) → P a b → Q a b) → Longer n how P t ties labels ties' labels' r → Longer n how Q t ties labels ties' labels' r
  longer-as f A =
      record {
        labelled = A.labelled;
        at_least = A.at_least;
        ties-kept = A.ties-kept;
        labels-kept = A.labels-kept;
        stays = A.stays;
        how-is = A.how-is;
        of = λ u l m. f _ _ (A.of u l m);
      }

-- ties, and more behind them
pub longer-on : {n how t u r : ℕ} {P : ℕ → ℕ → Type 0} {ties labels ties' labels' ties'' labels'' : List ℕ}
    → Longer n how P t ties labels ties' labels' u → Longer n how P u ties' labels' ties'' labels'' r → Longer n how P t ties labels ties'' labels'' r
longer-on {how = how} {t} {u} {P = P} {ties'' = ties''} A B =
    record {
      labelled = B.labelled;
      at_least = omega (arith, A.at_least, B.at_least);
      ties-kept = λ v l. B.ties-kept v (omega (arith, A.at_least)) ∙ A.ties-kept v l;
      labels-kept = λ v i l m. B.labels-kept v i (omega (arith, A.at_least)) m ∙ A.labels-kept v i l m;
      stays = λ i j l m e. B.stays i j l m (A.stays i j l m e);
      how-is = λ v l m. parts (λ v. t ≤ v → how_of (get_or ties'' v 0) ≡ how) u
          (λ v k l. ap how_of (B.ties-kept v k) ∙ A.how-is v l k) (λ v k m l. B.how-is v k m) v m l;
      of = λ v l m. parts (λ v. t ≤ v → P (left ties'' v) (right ties'' v)) u
          (λ v k l. rw (B.ties-kept v k) (A.of v l k)) (λ v k m l. B.of v k m) v m l;
    }
