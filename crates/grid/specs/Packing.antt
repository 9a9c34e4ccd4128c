-- The symbols of a byte string: in byte order, the upper part of a byte first.
use Rattle.std.specs.Prelude.{◌≡◌, ℕ, ◌-◌, ◌*◌, ◌/◌, ◌%◌, ◌^◌, cond, List, map, length, Ok, Err, Result, ◌==◌, slice_index}
use Rattle.std.specs.List.{range_with_len}
use Rattle.byte_string.specs.Bytes.{Bytes}
use Rattle.field.specs.Systems.{System}
use Rattle.code.specs.declared.error.CodeError.{CodeError}
use Rattle.code.specs.declared.error.CodeError.TheVariants.{UnequalLengths}

module _ (s : System) where
  -- part k of a byte, of its m parts, the upper first
  abbrev pub part : ℕ → ℕ → ℕ
  part b k = b / s.order ^ (s.per - 1 - k) % s.order

  -- symbol p of a byte string
  unfoldable pub symbol_at : List ℕ → ℕ → ℕ
  symbol_at bytes p = part (slice_index bytes (p / s.per)) (p % s.per)

  -- the symbols of a byte string
  unfoldable pub unpacked : List ℕ → List ℕ
  unpacked bytes = map (symbol_at bytes) (range_with_len 0 (length bytes * s.per))

  -- two slices go together where one has m times the length of the other
  abbrev pub length_reply : ℕ → ℕ → Result (Unit {0}) CodeError
  length_reply symbols bytes = cond (symbols == bytes * s.per) (Ok tt) (Err UnequalLengths)

  -- byte strings with the same symbols are equal
  abbrev pub SymbolsTellBytes : Type 0
  SymbolsTellBytes = (a b : List ℕ) → Bytes a → Bytes b → unpacked a ≡ unpacked b → a ≡ b
