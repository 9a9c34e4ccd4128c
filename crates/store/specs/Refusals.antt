-- The numbers of the refusals.
use Rattle.std.specs.Prelude.{ℕ}
use Rattle.store.specs.declared.StoreRefusal.{StoreRefusal}
use Rattle.store.specs.declared.StoreRefusal.TheVariants.{Place, Length}

abbrev pub number_of : StoreRefusal → ℕ
number_of Place = 1
number_of Length = 2
