-- Lines of a byte string's symbols: what is written to one, and what stays.
use Rattle.std.specs.Prelude.{◌≡◌, ℕ, ◌+◌, ◌*◌, ◌%◌, ◌<◌, List, ◌≢◌, slice_index}
use Rattle.field.specs.Systems.{System}
use Rattle.grid.specs.Packing.{symbol_at}
use Rattle.grid.specs.Grids.{line}
use Rattle.grid.specs.declared.lines.Line.{Line}

module _ (s : System) where
  -- the symbols of a line
  abbrev pub on : Line → List ℕ → List ℕ
  on l bytes = line s bytes l.start l.step l.len

  -- the line is short enough for the field, and lies within so many bytes
  pub record Within (l : Line) (bytes : ℕ) : Type 0 where
    pub few : l.len < s.order
    pub inside : (i : ℕ) → i < l.len → i * l.step + l.start < bytes * s.per

  -- all symbols off a line's first n are as they were
  abbrev pub OthersKept : Line → ℕ → List ℕ → List ℕ → Type 0
  OthersKept l n old new = (p : ℕ) → ((i : ℕ) → i < n → p ≢ i * l.step + l.start) → symbol_at s new p ≡ symbol_at s old p

  -- the first n symbols of a line are those of a list, and the others are as they were
  pub record Written (l : Line) (n : ℕ) (word old new : List ℕ) : Type 0 where
    pub online : (i : ℕ) → i < n → symbol_at s new (i * l.step + l.start) ≡ slice_index word i % s.order
    pub offline : OthersKept l n old new

  -- a line went from one list of symbols to another, and all symbols off the line are as they were
  pub record Redone (l : Line) (P : List ℕ → List ℕ → Type 0) (old new : List ℕ) : Type 0 where
    pub done : P (on l old) (on l new)
    pub offline : OthersKept l l.len old new
