-- A spool, as its callers see it.
use Rattle.std.specs.Prelude.{◌≡◌, ℕ, true, ◌||◌, List, ◌==◌}
use Rattle.store.specs.Store.{Store, good_width}
use Rattle.spool.specs.Order.{apart}

-- the store, and its places in the order in which they first came; whoever holds a spool, in a layer too, knows that they are places
-- of the store, that none stands twice, and that a spool with places has a width of 1 to 88
pub record SpoolView : Type 0 where
  pub store : Store
  pub order : List ℕ
  pub distinct : apart store.places order ≡ true
  pub narrow : (store.places == 0 || good_width store.width) ≡ true
