-- Ties of points that the table didn't tie are fewer than the points: each takes a label of a group away for good, and one is left.
-- Assumes nothing.
use Prim.Native.Nat.{ℕ, ◌+◌, ◌≤◌, ◌<◌}
use mathlib.Core.Path.{◌≡◌, refl, sym}
use mathlib.Core.List.Memᴰ.{head as here}
use mathlib.Core.List.Memᴰ.{not-nil}
use mathlib.Core.List.Memᴰ.{tail as later}
use mathlib.Core.List.{List, [], ◌∷◌, Memᴰ as In}
use mathlib.Core.Logic.{⊎_elim}
use lib.IntN.{pos}
use lib.ListN.{length}
use native.Mathlib.Decide.{ℕ_discrete}
use native.Mathlib.Omega.{arith}
use Rattle.kind.specs.Code.{base}
use Rattle.kind.proofs.Codes.{sum-finite}
use Rattle.closure.specs.Closed.{Closed, TiedAt}
use Rattle.whole.proofs.Pigeon.{Distinct, end, more, pigeon}
use Rattle.forest.specs.Labels.{relabelled}
use Rattle.forest.proofs.Rows.{relabelled-keeps, relabelled-drops, relabelled-joined}

-- n points by groups: two of one label are level in the table d, from either side; and `count` labels that no point has any more
pub record Groups (d : ℕ → ℕ → ℕ) (n count : ℕ) : Type 0 where
  pub label : ℕ → ℕ
  pub label< : (i : ℕ) → i < n → label i < n
  pub level : (i j : ℕ) → i < n → j < n → label i ≡ label j → d i j ≤ base
  pub lost : List ℕ
  pub all : length lost ≡ count
  pub distinct : Distinct lost
  pub lost< : (x : ℕ) → In x lost → x < n
  pub gone : (x : ℕ) → In x lost → (i : ℕ) → i < n → label i ≡ x → ⊥

pub alone : {n N R : ℕ} {d : ℕ → ℕ → ℕ} → n ≤ N → Closed N R d → Groups d n 0
alone {n} {N} {R} {d} h C =
    record {
      label = λ i. i;
      label< = λ i l. l;
      level = λ i j i< j< e. rw e (omega (arith, C.same j (omega arith)));
      lost = [];
      all = refl;
      distinct = end;
      lost< = λ x m. absurd (not-nil m);
      gone = λ x m. absurd (not-nil m);
    }

-- level, one behind the other
level-on : {N R : ℕ} {d : ℕ → ℕ → ℕ} → Closed N R d → (i j k : ℕ) → i < N → j < N → k < N → d i k ≤ base → d k j ≤ base → d i j ≤ base
level-on {d = d} C i j k i< j< k< p q = omega (arith, C.tri i j k i< j< k<, sum-finite (d i k) (d k j) (omega arith) (omega arith))

module _ {n count : ℕ} {d : ℕ → ℕ → ℕ} (G : Groups d n count) {a : ℕ} (a< : a < n) where
  -- a label that is left, with those lost
  pub few : count < n
  few = omega (arith, pigeon n (more (λ m. G.gone _ m a a< refl) G.distinct) below, G.all)
    where
      below : (x : ℕ) → In x (G.label a ∷ G.lost) → x < n
      below x (here e) = rw e (G.label< a a<)
      below x (later m) = G.lost< x m

  -- a and b weren't tied, and are level in the tighter table e: their groups become one
  module _ {N R : ℕ} {e : ℕ → ℕ → ℕ} (C : Closed N R e) (h : n ≤ N) (tighter : (i j : ℕ) → i < N → j < N → e i j ≤ d i j)
      {b : ℕ} (b< : b < n) (untied : TiedAt d a b (pos 0) → ⊥) (to : e a b ≤ base) (back : e b a ≤ base) where
    apart : G.label a ≡ G.label b → ⊥
    apart f =
        let p = G.level a b a< b< f in
        let q = G.level b a b< a< (sym f) in
        untied (record { to = record { there = omega arith; bound = omega arith }; back = record { there = omega arith; bound = omega arith } })

    still : (i j : ℕ) → i < n → j < n → G.label i ≡ G.label j → e i j ≤ base
    still i j i< j< f = omega (arith, G.level i j i< j< f, tighter i j (omega arith) (omega arith))

    over : (i j : ℕ) {x y : ℕ} → i < n → j < n → x < n → y < n → e x y ≤ base → (G.label i ≡ G.label x) × (G.label y ≡ G.label j) → e i j ≤ base
    over i j {x} {y} i< j< x< y< m f =
        level-on C i j y (omega arith) (omega arith) (omega arith)
        (level-on C i y x (omega arith) (omega arith) (omega arith) (still i x i< x< f.0) m) (still y j y< j< f.1)

    level : (i j : ℕ) → i < n → j < n → relabelled G.label a b i ≡ relabelled G.label a b j → e i j ≤ base
    level i j i< j< f = go (ℕ_discrete (G.label i) (G.label j))
      where
        go : Dec (G.label i ≡ G.label j) → e i j ≤ base
        go (yes s) = still i j i< j< s
        go (no s) = ⊎_elim (over i j i< j< a< b< to) (over i j i< j< b< a< back) (relabelled-joined G.label a b i j s f)

    lost< : (x : ℕ) → In x (G.label b ∷ G.lost) → x < n
    lost< x (here f) = rw f (G.label< b b<)
    lost< x (later m) = G.lost< x m

    gone : (x : ℕ) → In x (G.label b ∷ G.lost) → (i : ℕ) → i < n → relabelled G.label a b i ≡ x → ⊥
    gone x (here f) i l g = relabelled-drops G.label a b i apart (rw f at g)
    gone x (later m) i l g = relabelled-keeps G.label a b (λ y. y ≡ x → ⊥) i (G.gone x m a a<) (G.gone x m i l) g

    pub together : Groups e n (count + 1)
    together =
        record {
          label = relabelled G.label a b;
          label< = λ i l. relabelled-keeps G.label a b (λ x. x < n) i (G.label< a a<) (G.label< i l);
          level = level;
          lost = G.label b ∷ G.lost;
          all = omega (arith, G.all);
          distinct = more (λ m. G.gone _ m b b< refl) G.distinct;
          lost< = lost<;
          gone = gone;
        }
