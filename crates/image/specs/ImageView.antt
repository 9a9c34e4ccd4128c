-- An image, as its callers see it.
use Rattle.std.specs.Prelude.{ℕ, List}

-- the width of a block, and all bytes of the memory
pub record ImageView : Type 0 where
  pub width : ℕ
  pub memory : List ℕ
