-- A record written to the first bytes of a room, and past it the bytes as they were: the whole room.
-- Assumes nothing.
use Prim.Native.Nat.{ℕ, ◌≤◌}
use mathlib.Core.Path.{◌≡◌, sym, ap, ◌∙◌}
use mathlib.Core.List.{List, ◌++◌}
use lib.ListN.{length, get_or, take, drop, length-drop, take-append-drop}
use lib.Seq.{get_or-drop, ext_get_or}
use native.Mathlib.Omega.{arith}
use Rattle.promise.specs.Answered.{over}

pub recorded : (answer old new : List ℕ) → length new ≡ length old → (size : ℕ) → size ≡ length answer → take size new ≡ answer →
    ((k : ℕ) → size ≤ k → get_or new k 0 ≡ get_or old k 0) → new ≡ over answer old
recorded answer old new l size e bytes kept =
    sym (take-append-drop size new) ∙ ap (λ (b : List ℕ). b ++ drop size new) bytes ∙ ap (λ (b : List ℕ). answer ++ b) (past ∙ ap (λ (n : ℕ). drop n old) e)
  where
    past : drop size new ≡ drop size old
    past = ext_get_or 0 _ _ (simp length-drop (omega arith)) (λ i h. get_or-drop size new i 0 ∙ kept _ (omega arith) ∙ sym (get_or-drop size old i 0))
