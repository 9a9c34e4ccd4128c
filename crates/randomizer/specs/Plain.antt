-- The store of the plain blocks, over one that holds them randomized.
use Rattle.std.specs.Prelude.{ℕ, Bool, cond, ◌&&◌, List, [], map, nat_le}
use Rattle.std.specs.Option.{option_map}
use Rattle.store.specs.Store.{Store}
use Rattle.randomizer.specs.Sequence.{mixed}

abbrev pub good_preset : ℕ → Bool
good_preset preset = nat_le 1 preset && nat_le preset 127

-- the blocks out from under a sequence; where the preset is not good there are no places
abbrev pub plain_store : Bool → List ℕ → Store → Store
plain_store good sequence s =
    record
    { places = cond good s.places 0; width = s.width; contents = cond good (map (option_map (mixed sequence)) s.contents) [] }
