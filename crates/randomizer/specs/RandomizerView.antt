-- A randomizer, as its callers see it.
use Rattle.std.specs.Prelude.{ℕ}

-- the store below, and the preset of the sequence
pub record RandomizerView (S : Type 0) : Type 0 where
  pub inner : S
  pub preset : ℕ
