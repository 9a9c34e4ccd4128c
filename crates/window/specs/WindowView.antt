-- A window, as its callers see it.
use Rattle.std.specs.Prelude.{ℕ}

-- the store below, the first of its places that the window shows, and how many
pub record WindowView (S : Type 0) : Type 0 where
  pub inner : S
  pub first : ℕ
  pub count : ℕ
