-- What the calls on a closed sector answer and leave, whatever its store holds.
use Rattle.std.specs.Prelude.{◌≡◌, ℕ, ◌<◌, ◌≤◌, true, false, cond, ◌⊎◌, List, [], ◌∷◌, length, take, Some, MatchBool, Option, slice_index_or}
use Rattle.byte_string.specs.Bytes.{Bytes}
use Rattle.field.specs.Systems.{System}
use Rattle.code.specs.Codewords.{Symbols}
use Rattle.grid.specs.Grids.{data_symbols}
use Rattle.store.specs.Store.{Store, at, with_at}
use Rattle.block.specs.Layouts.{shape_of, row_count, check_rows, data_bytes}
use Rattle.block.specs.Conditions.{condition_values, word_of, is_clean, symbols_in}
use Rattle.sector.specs.Answers.{Answer, taken, refused, is_taken}
use Rattle.sector.specs.Terms.{fits, fitted, data_guards, row_guards}
use Rattle.sector.specs.Bodies.{Body, block_of}
use Rattle.sector.specs.Opening.{SameFrom}
use Rattle.sector.specs.Fillings.{condition_at, lost_at, lost_count, broken_count, Filling, NoFilling}
use Rattle.sector.specs.declared.terms.Terms.{Terms}

module _ (s : System) (t : Terms) where
  -- the store with another content at a row's place, if the call is taken
  abbrev pub stored : Answer → Store → ℕ → Option (List ℕ) → Store
  stored a st row o = cond (is_taken a) (with_at st row o) st

  -- what a check answers
  abbrev pub check_answer : Store → ℕ → Answer
  check_answer st row = row_guards s t st row (taken (condition_values (condition_at s t (at st) row)))

  -- a buffer holds the data bytes with these symbols
  pub record Holds (xs : Symbols s) (buffer : List ℕ) : Type 0 where
    pub long : length buffer ≡ data_bytes t.layout
    pub bytes : Bytes buffer
    pub are : symbols_in s buffer ≡ xs

  -- what a read of a data row into a fitting buffer answers, and leaves of the old bytes in it
  pub record Reads (st : Store) (row : ℕ) (old new : List ℕ) (a : Answer) : Type 0 where
    -- a row that is not lost gives its data
    pub direct : lost_at s t (at st) row ≡ false
        → (a ≡ taken []) × Holds (take (data_symbols s (shape_of t.layout)) (word_of s t.layout (at st row))) new
    -- more rows are lost than there are check rows
    pub over : lost_at s t (at st) row ≡ true → check_rows t.layout < lost_count s t (at st)
        → (a ≡ refused 9 (lost_count s t (at st) ∷ [])) × (new ≡ old)
    -- a lost row gives its part of the contents that make every column a codeword, if there are any
    pub filled : lost_at s t (at st) row ≡ true → lost_count s t (at st) ≤ check_rows t.layout
        → ((rows : List (Symbols s)) × Filling s t (at st) rows × (a ≡ taken []) × Holds (slice_index_or rows row []) new)
        ⊎ (NoFilling s t (at st) × (a ≡ refused 10 []) × (new ≡ old))

  abbrev pub Reading : Store → ℕ → List ℕ → List ℕ → Answer → Type 0
  Reading st row old new a =
      MatchBool (is_taken (data_guards s t st row old)) (Reads st row old new a) ((a ≡ data_guards s t st row old) × (new ≡ old))

  -- a row's place holds the body with these data symbols, as it is written
  pub record Remade (row : ℕ) (xs : Symbols s) (o : Option (List ℕ)) : Type 0 where
    pub body : List ℕ
    pub is : Body s t.layout body
    pub front : take (data_symbols s (shape_of t.layout)) (symbols_in s body) ≡ xs
    pub block : o ≡ Some (block_of t.layout t.pair row body)

  -- every row that is not whole is written anew, from such data symbols, and no other place changed
  pub record Rewritten (rows : List (Symbols s)) (old new : Store) : Type 0 where
    pub kept : (r : ℕ) → r < row_count t.layout → is_clean (condition_at s t (at old) r) ≡ true → at new r ≡ at old r
    pub made : (r : ℕ) → r < row_count t.layout → is_clean (condition_at s t (at old) r) ≡ false → Remade r (slice_index_or rows r []) (at new r)
    pub same : SameFrom (row_count t.layout) old new

  -- what a repair answers, and leaves of the old store
  pub record Repairs (old new : Store) (a : Answer) : Type 0 where
    pub over : check_rows t.layout < lost_count s t (at old) → (a ≡ refused 9 (lost_count s t (at old) ∷ [])) × (new ≡ old)
    pub filled : lost_count s t (at old) ≤ check_rows t.layout
        → ((rows : List (Symbols s)) × Filling s t (at old) rows × (a ≡ taken (broken_count s t (at old) ∷ [])) × Rewritten rows old new)
        ⊎ (NoFilling s t (at old) × (a ≡ refused 10 []) × (new ≡ old))

  abbrev pub Repairing : Store → Store → Answer → Type 0
  Repairing old new a = MatchBool (fits s t old) (Repairs old new a) ((a ≡ fitted s t old (taken [])) × (new ≡ old))
