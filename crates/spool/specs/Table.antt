-- A table of entries, none of two for one place, and the store that it is.
use Rattle.std.specs.Prelude.{ℕ, Bool, cond, ◌&&◌, List, [], ◌∷◌, ◌++◌, map, length, take, replicate, None, Option, ◌==◌, nat_le, nat_lt}
use Rattle.std.specs.List.{find, list_any}
use Rattle.std.specs.Option.{option_map, option_and_then}
use Rattle.store.specs.Store.{Store, listed, good_width}
use Rattle.spool.specs.declared.entry.Entry.{Entry}

abbrev pub places_of : List Entry → List ℕ
places_of xs = map (λ x. x.place) xs

abbrev pub is_of : ℕ → Entry → Bool
is_of k x = x.place == k

-- the block of an entry, at a width
abbrev pub held : ℕ → Entry → Option (List ℕ)
held w x = option_map (take w) x.block

-- what the table has for a place
abbrev pub lookup : ℕ → List Entry → ℕ → Option (List ℕ)
lookup w xs k = option_and_then (held w) (find (is_of k) xs)

abbrev pub spool_store : ℕ → ℕ → List Entry → Store
spool_store n w xs = record { places = n; width = w; contents = listed n (lookup w xs) }

-- the places in the order in which they first came, once a place has come
abbrev pub arrived : List ℕ → ℕ → List ℕ
arrived ps p = cond (list_any (λ q. p == q) ps) ps (ps ++ p ∷ [])

-- the order after a put
abbrev pub order_put : Store → List ℕ → ℕ → List ℕ → List ℕ
order_put s order p b = cond (nat_lt p s.places) (cond (length b == s.width) (arrived order p) order) order

-- the places of a spool that was asked for
abbrev pub spool_places : ℕ → ℕ → ℕ
spool_places n w = cond (nat_le n 169 && good_width w) n 0

-- a store with a block at no place
abbrev pub blank : ℕ → ℕ → Store
blank n w = record { places = n; width = w; contents = replicate n None }
