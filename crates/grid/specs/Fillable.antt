-- Which lists of symbols can be filled.
use Rattle.std.specs.Prelude.{ℕ, Bool, List}
use Rattle.field.specs.Systems.{System}
use Rattle.code.specs.Codewords.{Symbols, symbols}
use Rattle.code.specs.Filling.{Completes, Filled}

module _ (s : System) where
  -- the unknown symbols can be filled to give a codeword of c checks
  abbrev pub Fillable : ℕ → List Bool → List ℕ → Type 0
  Fillable c unknown known = (w : Symbols s) × Completes s c unknown (symbols s known) w

  -- where they can be filled, they are
  abbrev pub FilledIf : ℕ → List Bool → List ℕ → List ℕ → Type 0
  FilledIf c unknown old new = Fillable c unknown old → Filled s c unknown old new
