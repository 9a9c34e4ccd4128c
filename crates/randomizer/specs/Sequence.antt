-- The bits of a register of seven bits that moves, the bytes that they make, and blocks under such bytes.
use Rattle.std.specs.Prelude.{ℕ, zero, suc, ◌+◌, ◌*◌, ◌/◌, ◌%◌, List, map, length, bit_xor, slice_index}
use Rattle.std.specs.List.{range_with_len}

-- one move: the bits go up by one, and the sum of the bits 3 and 6 comes in below
abbrev pub moved : ℕ → ℕ
moved x = (x % 64) * 2 + (x / 8 + x / 64) % 2

unfoldable pub after : ℕ → ℕ → ℕ
after x zero = x
after x (suc t) = moved (after x t)

-- the number of the first n bits of s, the first on top
unfoldable pub packed : (ℕ → ℕ) → ℕ → ℕ
packed s zero = 0
packed s (suc n) = packed s n * 2 + s n

-- bit t of the sequence is the top bit after t moves
abbrev pub bit_at : ℕ → ℕ → ℕ
bit_at preset t = after (preset % 128) t / 64

abbrev pub byte_at : ℕ → ℕ → ℕ
byte_at preset j = packed (λ i. bit_at preset (8 * j + i)) 8

-- as many bytes as the widest block has
unfoldable pub sequence_of : ℕ → List ℕ
sequence_of preset = map (byte_at preset) (range_with_len 0 88)

-- each byte of a block under its byte of the sequence
unfoldable pub mixed : List ℕ → List ℕ → List ℕ
mixed sequence block = map (λ j. bit_xor (slice_index block j) (slice_index sequence j)) (range_with_len 0 (length block))
