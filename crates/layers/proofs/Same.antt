-- Of two bounds that are the same, as where a list is kept, each part is the same.
-- Assumes nothing.
use mathlib.Core.Path.{◌≡◌, ap}
use Rattle.layers.specs.declared.Bound.{Bound}

pub same-from : {b c : Bound} → b ≡ c → b.from ≡ c.from
same-from e = ap (λ (x : Bound). x.from) e

pub same-to : {b c : Bound} → b ≡ c → b.to ≡ c.to
same-to e = ap (λ (x : Bound). x.to) e

pub same-code : {b c : Bound} → b ≡ c → b.gap.0 ≡ c.gap.0
same-code e = ap (λ (x : Bound). x.gap.0) e
