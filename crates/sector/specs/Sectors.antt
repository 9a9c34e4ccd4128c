-- Sectors, as their callers see them.
use Rattle.std.specs.Prelude.{Bool, List}
use Rattle.sector.specs.declared.terms.Terms.{Terms}

-- an open sector, and which of its rows were written
pub record OpenView (F S : Type 0) : Type 0 where
  pub terms : Terms
  pub field : F
  pub store : S
  pub marks : List Bool

-- a closed sector
pub record ClosedView (F S : Type 0) : Type 0 where
  pub terms : Terms
  pub field : F
  pub store : S
