-- The widths of stores with places.
use Rattle.std.proofs.Common.{◌≡◌, ℕ, ◌≤◌, true, leb}
use Rattle.std.proofs.lemmas.Bool.{and_parts, leb-true}
use Rattle.store.specs.Store.{good_width}

pub width_within : (w : ℕ) → good_width w ≡ true → (1 ≤ w) × (w ≤ 88)
width_within w t = let p = and_parts (leb 1 w) (leb w 88) t in (leb-true 1 w p.0, leb-true w 88 p.1)
