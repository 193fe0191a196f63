-- Bytes behind bytes: nothing, a byte, a number, and two pieces one behind the other.
-- Assumes nothing.
use Prim.Native.Nat.{ℕ, ◌+◌, ◌≤◌, ◌<◌}
use mathlib.Core.Path.{◌≡◌, refl, ap, ◌∙◌}
use mathlib.Core.List.{List, [], ◌∷◌, ◌++◌}
use lib.ListN.{length, get_or, set, take, drop, length-set, length-append, length-take, length-drop}
use lib.Seq.{drop-cons, take-add, drop-drop, get_or-take, get_or-drop, get_or-set_same, get_or-set_other, ext_get_or}
use native.Mathlib.Omega.{arith}
use Rattle.big.specs.Big.{Bytes, big_of, bytes_of, Kept}
use Rattle.big.proofs.Bytes.{bytes-length, written_read}
use Rattle.paper.specs.Written.{Appended}

pub nothing : (b : List ℕ) (at end : ℕ) → end ≡ at → Appended b b at end []
nothing b at end e = record { end_is = omega arith; bytes-are = refl; before = λ k l. refl; after = λ k l. refl; size = refl }

pub byte : (b : List ℕ) (at end x : ℕ) → at < length b → end ≡ at + 1 → Appended b (set b at x) at end (x ∷ [])
byte b at end x l e = record {
  end_is = e;
  bytes-are = ap (take 1) (drop-cons (set b at x) at 0 (simp length-set l)) ∙ ap (λ (y : ℕ). y ∷ []) (get_or-set_same b at x 0 l);
  before = λ k h. get_or-set_other b at k x 0 (omega arith);
  after = λ k h. get_or-set_other b at k x 0 (omega arith);
  size = length-set b at x;
}

-- what `big::write` leaves
pub number : {old new : List ℕ} {at w v : ℕ} (end : ℕ) → end ≡ at + w → at + w ≤ length old → Bytes new → length new ≡ length old →
    (big_of new at w ≡ v) × Kept old new at w → Appended old new at end (bytes_of w v)
number {old} {new} {at} {w} {v} end q l B s (e, K) = record {
  end_is = omega (arith, bytes-length w v);
  bytes-are = ap (λ (n : ℕ). take n (drop at new)) (bytes-length w v) ∙ written_read new B at w (omega arith) ∙ ap (bytes_of w) e;
  before = K.before;
  after = λ k h. K.after k (omega arith);
  size = s;
}

-- bytes below those that are changed stay
stay : (b new : List ℕ) (at : ℕ) (xs : List ℕ) → length new ≡ length b → ((k : ℕ) → k < at + length xs → get_or new k 0 ≡ get_or b k 0) →
    take (length xs) (drop at b) ≡ xs → take (length xs) (drop at new) ≡ xs
stay b new at xs s same e =
    ext_get_or 0 _ _ (simp (length-take, length-drop) (omega arith)) (λ i h. one i (omega (arith, simp (length-take, length-drop) at h))) ∙ e
  where
    one : (i : ℕ) → i < length xs → get_or (take (length xs) (drop at new)) i 0 ≡ get_or (take (length xs) (drop at b)) i 0
    one i h = simp (get_or-take (length xs) (drop at new) i 0 h, get_or-take (length xs) (drop at b) i 0 h, get_or-drop) (same (at + i) (omega arith))

pub then : {old mid new : List ℕ} {at p end : ℕ} {xs ys : List ℕ} → Appended old mid at p xs → Appended mid new p end ys →
    Appended old new at end (xs ++ ys)
then {mid} {new} {at} {p} {xs} {ys} A B = record {
  end_is = omega (arith, A.end_is, B.end_is, length-append xs ys);
  bytes-are =
      let a : take (length xs) (drop at new) ≡ xs = stay mid new at xs B.size (λ k h. B.before k (omega (arith, A.end_is))) A.bytes-are in
      let b : take (length ys) (drop (at + length xs) new) ≡ ys = rw (← A.end_is) B.bytes-are in
      rw (length-append, take-add, drop-drop, a, b);
  before = λ k h. B.before k (omega (arith, A.end_is)) ∙ A.before k h;
  after = λ k h. B.after k h ∙ A.after k (omega (arith, B.end_is));
  size = B.size ∙ A.size;
}

pub two_bytes : (b : List ℕ) (at next end x y : ℕ) {bytes : List ℕ} → next ≡ at + 1 → end ≡ at + 2 → end ≤ length b → bytes ≡ x ∷ y ∷ [] →
    Appended b (set (set b at x) next y) at end bytes
two_bytes b at next end x y p q l e =
    rw e (then (byte b at next x (omega arith) p) (byte (set b at x) next end y (simp length-set (omega arith)) (omega arith)))
