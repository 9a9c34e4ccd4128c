-- Some places in a row of a store, as a store of their own.
use Rattle.std.specs.Prelude.{◌≡◌, ℕ, ◌+◌, ◌<◌, cond, take, drop, nat_le}
use Rattle.store.specs.Store.{Store}

-- all the places asked for, or none where they reach past the end
abbrev pub window_places : ℕ → ℕ → ℕ → ℕ
window_places first count places = cond (nat_le (first + count) places) count 0

abbrev pub windowed : ℕ → ℕ → Store → Store
windowed first count s =
    let places = window_places first count s.places in
    record { places = places; width = s.width; contents = take places (drop first s.contents) }

-- the place below of a place of the window
pub record Below (first count places place below : ℕ) : Type 0 where
  pub within : place < window_places first count places
  pub shifted : below ≡ first + place
  pub there : below < places
