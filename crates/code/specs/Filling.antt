-- Erasures: places whose symbols are unknown, and the contents of these places that make a codeword.
use Rattle.std.specs.Prelude.{◌≡◌, ℕ, ◌+◌, ◌<◌, ◌≤◌, Bool, true, false, ◌≢◌, List, length, Ok, Err, Result, slice_index, slice_index_or}
use Rattle.field.specs.Systems.{System}
use Rattle.code.specs.Codewords.{Symbols, Codeword, symbols, count}
use Rattle.code.specs.declared.error.CodeError.{CodeError}
use Rattle.code.specs.declared.error.CodeError.TheVariants.{UnequalLengths, TooLong, TooFewChecks, TooManyChecks, TooManyUnknown, NoCodeword}

module _ (s : System) where
  -- w is a codeword of c checks, and has every known symbol of the list
  pub record Completes (c : ℕ) (unknown : List Bool) (known w : Symbols s) : Type 0 where
    pub long : length w ≡ length known
    pub codeword : Codeword s c w
    pub keeps : (p : ℕ) → p < length known → slice_index_or unknown p false ≡ false → slice_index_or w p s.on.nil ≡ slice_index_or known p s.on.nil

  -- the unknown places were filled with the only symbols that make a codeword, and nothing else was written
  pub record Filled (c : ℕ) (unknown : List Bool) (old new : List ℕ) : Type 0 where
    pub completes : Completes c unknown (symbols s old) (symbols s new)
    pub only : (w : Symbols s) → Completes c unknown (symbols s old) w → w ≡ symbols s new
    pub same : (p : ℕ) → slice_index_or unknown p false ≡ false → slice_index new p ≡ slice_index old p
    pub small : (p : ℕ) → p < length new → slice_index_or unknown p false ≡ true → slice_index new p < s.order

  -- what filling answers: the places are filled, or why not, and then nothing is written
  abbrev pub Filling : ℕ → List Bool → List ℕ → List ℕ → Result (Unit {0}) CodeError → Type 0
  Filling c unknown old new (Ok u) =
      (length unknown ≡ length old) × (length old < s.order) × (c ≤ length old) × (count unknown ≤ c) × Filled c unknown old new
  Filling c unknown old new (Err UnequalLengths) = (length unknown ≢ length old) × (new ≡ old)
  Filling c unknown old new (Err TooLong) = (length unknown ≡ length old) × (s.order ≤ length old) × (new ≡ old)
  Filling c unknown old new (Err TooManyChecks) =
      (length unknown ≡ length old) × (length old < s.order) × (length old < c) × (new ≡ old)
  Filling c unknown old new (Err TooManyUnknown) =
      (length unknown ≡ length old) × (length old < s.order) × (c ≤ length old) × (c < count unknown) × (new ≡ old)
  Filling c unknown old new (Err NoCodeword) =
      (length unknown ≡ length old) × (length old < s.order) × (c ≤ length old) × (count unknown ≤ c)
      × ((w : Symbols s) → Completes c unknown (symbols s old) w → ⊥) × (new ≡ old)
  Filling c unknown old new (Err TooFewChecks) = ⊥

  -- the last c symbols were written so that the list is a codeword of c checks, and are the only ones that do it
  pub record Encoded (c : ℕ) (old new : List ℕ) : Type 0 where
    pub long : length new ≡ length old
    pub codeword : Codeword s c (symbols s new)
    pub same : (p : ℕ) → p + c < length old → slice_index new p ≡ slice_index old p
    pub only : (w : Symbols s) → length w ≡ length old → Codeword s c w
        → ((p : ℕ) → p + c < length old → slice_index_or w p s.on.nil ≡ slice_index_or (symbols s old) p s.on.nil) → w ≡ symbols s new
    pub small : (p : ℕ) → p < length new → length old ≤ p + c → slice_index new p < s.order

  -- what encoding answers: the check symbols are written, or why not, and then nothing is written
  abbrev pub Encoding : ℕ → List ℕ → List ℕ → Result (Unit {0}) CodeError → Type 0
  Encoding c old new (Ok u) = (length old < s.order) × (c ≤ length old) × Encoded c old new
  Encoding c old new (Err TooLong) = (s.order ≤ length old) × (new ≡ old)
  Encoding c old new (Err TooManyChecks) = (length old < s.order) × (length old < c) × (new ≡ old)
  Encoding c old new (Err UnequalLengths) = ⊥
  Encoding c old new (Err TooFewChecks) = ⊥
  Encoding c old new (Err TooManyUnknown) = ⊥
  Encoding c old new (Err NoCodeword) = ⊥
