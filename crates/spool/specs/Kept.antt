-- What is true of every spool.
use Rattle.std.specs.Prelude.{◌<◌, ◌≤◌, vec_capacity, nat_eq}
use Rattle.std.specs.List.{All, IsDistinct}
use Rattle.spool.specs.Table.{places_of}
use Rattle.spool.specs.declared.Spool.TheInside.{Inside}

pub record Kept (s : Inside) : Type 0 where
  pub distinct : IsDistinct nat_eq (places_of s.table.items)
  pub below : All (λ p. p < s.places) (places_of s.table.items)
  pub room : s.places ≤ vec_capacity s.table
  pub narrow : 0 < s.places → (1 ≤ s.width) × (s.width ≤ 88)
