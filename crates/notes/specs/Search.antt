-- What the search leaves in the memory that it works in.
-- Assumes nothing.
use Rattle.std.specs.Prelude.{◌≡◌, List, length}

-- as many places as before. What they hold is free: nothing rests on it but how often a guess is right (docs/FREEDOM.md)
abbrev pub Worked : {A : Type 0} → List A → List A → Type 0
Worked old new = length new ≡ length old
