-- A store of blocks, and what each call answers and leaves.
use Rattle.std.specs.Prelude.{◌≡◌, ℕ, ◌<◌, ◌≤◌, Bool, cond, ◌&&◌, List, map, length, is_some, Some, None, Ok, Err, Option, Result, ◌==◌, nat_le, nat_lt, slice_index_or, slice_set}
use Rattle.std.specs.List.{range_with_len}
use Rattle.std.specs.Option.{unwrap_or}
use Rattle.byte_string.specs.Bytes.{Bytes}
use Rattle.store.specs.declared.StoreRefusal.{StoreRefusal}
use Rattle.store.specs.declared.StoreRefusal.TheVariants.{Place, Length}

-- at each place a block, or nothing
pub record Store : Type 0 where
  pub places : ℕ
  pub width : ℕ
  pub contents : List (Option (List ℕ))

-- what stands at a place
abbrev pub at : Store → ℕ → Option (List ℕ)
at s k = slice_index_or s.contents k None

-- contents that are given place by place
unfoldable pub listed : ℕ → (ℕ → Option (List ℕ)) → List (Option (List ℕ))
listed places f = map f (range_with_len 0 places)

-- the store with another content at one place
abbrev pub with_at : Store → ℕ → Option (List ℕ) → Store
with_at s k o = record { places = s.places; width = s.width; contents = slice_set s.contents k o }

-- the widths of stores with places
abbrev pub good_width : ℕ → Bool
good_width w = nat_le 1 w && nat_le w 88

-- what is true of every store
pub record Sound (s : Store) : Type 0 where
  pub sized : length s.contents ≡ s.places
  pub wide : (k : ℕ) (b : List ℕ) → at s k ≡ Some b → length b ≡ s.width
  pub bytes : (k : ℕ) (b : List ℕ) → at s k ≡ Some b → Bytes b
  pub narrow : 0 < s.places → (1 ≤ s.width) × (s.width ≤ 88)

-- a place that is not there is refused first, then a length that is not the width
abbrev pub checked : {A : Type 0} → Store → ℕ → List ℕ → A → Result A StoreRefusal
checked s k b v = cond (nat_lt k s.places) (cond (length b == s.width) (Ok v) (Err Length)) (Err Place)

abbrev pub put_reply : Store → ℕ → List ℕ → Result (Unit {0}) StoreRefusal
put_reply s k b = checked s k b tt

abbrev pub put_after : Store → ℕ → List ℕ → Store
put_after s k b = cond (nat_lt k s.places) (cond (length b == s.width) (with_at s k (Some b)) s) s

abbrev pub clear_reply : Store → ℕ → Result (Unit {0}) StoreRefusal
clear_reply s k = cond (nat_lt k s.places) (Ok tt) (Err Place)

abbrev pub clear_after : Store → ℕ → Store
clear_after s k = cond (nat_lt k s.places) (with_at s k None) s

abbrev pub get_reply : Store → ℕ → List ℕ → Result Bool StoreRefusal
get_reply s k b = checked s k b (is_some (at s k))

-- the buffer holds the block that was there, or what it held before
abbrev pub get_after : Store → ℕ → List ℕ → List ℕ
get_after s k b = cond (nat_lt k s.places) (cond (length b == s.width) (unwrap_or (at s k) b) b) b
