-- Codewords within a reach of what was received.
use Rattle.std.specs.Prelude.{◌≡◌, ℕ, ◌+◌, ◌-◌, ◌<◌, ◌≤◌, ◌≢◌, List, length, Some, None, Ok, Err, Option, Result, slice_index, slice_set}
use Rattle.field.specs.Systems.{System, symbol, product_of}
use Rattle.code.specs.Codewords.{Symbols, Codeword, locator, symbols, distance}
use Rattle.code.specs.declared.correct.Verdict.{Verdict}
use Rattle.code.specs.declared.correct.Verdict.TheVariants.{Clean, Corrected, OutOfReach}
use Rattle.code.specs.declared.error.CodeError.{CodeError}
use Rattle.code.specs.declared.error.CodeError.TheVariants.{UnequalLengths, TooLong, TooFewChecks, TooManyChecks, TooManyUnknown, NoCodeword}

module _ (s : System) where
  -- w is a codeword of c checks that differs from what was received in at most t symbols
  pub record Near (t c : ℕ) (received w : Symbols s) : Type 0 where
    pub long : length w ≡ length received
    pub codeword : Codeword s c w
    pub near : distance received w ≤ t

  -- what is accepted within reach t: the only codeword there is, or nothing where there is none
  abbrev pub Accepted : ℕ → ℕ → Symbols s → Option (Symbols s) → Type 0
  Accepted t c received (Some w) = Near t c received w × ((v : Symbols s) → Near t c received v → v ≡ w)
  Accepted t c received None = (v : Symbols s) → Near t c received v → ⊥

  -- two codewords of c checks that differ in at most c symbols are equal
  abbrev pub CodewordsAreApart : Type 0
  CodewordsAreApart =
      (c : ℕ) (xs ys : Symbols s) → length xs ≡ length ys → length xs ≤ s.order - 1
      → Codeword s c xs → Codeword s c ys → distance xs ys ≤ c → xs ≡ ys

  -- where twice the reach is at most c, what is accepted is one answer
  abbrev pub AcceptanceIsOne : Type 0
  AcceptanceIsOne =
      (t c : ℕ) (received : Symbols s) → length received ≤ s.order - 1 → t + t ≤ c
      → (v w : Symbols s) → Near t c received v → Near t c received w → v ≡ w

  -- of every list exactly one answer is accepted: a codeword, or that there is none
  abbrev pub AcceptanceHasOneAnswer : Type 0
  AcceptanceHasOneAnswer =
      (t c : ℕ) (received : Symbols s) → length received ≤ s.order - 1 → t + t ≤ c
      → (a : Option (Symbols s)) × Accepted t c received a × ((b : Option (Symbols s)) → Accepted t c received b → b ≡ a)

  -- what was received differs from a codeword in at most c - t symbols: any codeword within reach t of it is that one
  abbrev pub AcceptedIsSent : Type 0
  AcceptedIsSent =
      (t c : ℕ) (received sent w : Symbols s) → length received ≤ s.order - 1 → t ≤ c
      → Near (c - t) c received sent → Near t c received w → w ≡ sent

  -- each syndrome is the one before times x: what one wrong symbol with the locator x leaves
  abbrev pub Geometric : ℕ → List ℕ → Type 0
  Geometric x syndromes =
      (i : ℕ) → i + 1 < length syndromes → slice_index syndromes (i + 1) ≡ product_of s (slice_index syndromes i) x

  -- the place of n whose locator has the code x, if there is one
  abbrev pub Position : ℕ → ℕ → Option ℕ → Type 0
  Position n x (Some p) = (p < n) × (x ≡ (locator s (n - 1 - p)).code)
  Position n x None = (p : ℕ) → p < n → x ≢ (locator s (n - 1 - p)).code

  -- the place of n whose locator takes each syndrome to the next, if there is one
  abbrev pub Located : ℕ → List ℕ → Option ℕ → Type 0
  Located n syndromes (Some p) = (p < n) × Geometric (locator s (n - 1 - p)).code syndromes
  Located n syndromes None = (p : ℕ) → p < n → Geometric (locator s (n - 1 - p)).code syndromes → ⊥

  -- what correction within one symbol says, and leaves of the old symbols
  abbrev pub Judged : ℕ → List ℕ → List ℕ → Verdict → Type 0
  Judged c old new Clean = (new ≡ old) × Accepted 1 c (symbols s old) (Some (symbols s old)) × Codeword s c (symbols s old)
  Judged c old new (Corrected p) =
      (p < length old) × (new ≡ slice_set old p (slice_index new p)) × (symbol s (slice_index new p) ≢ symbol s (slice_index old p))
      × (slice_index new p < s.order) × Accepted 1 c (symbols s old) (Some (symbols s new))
  Judged c old new OutOfReach = (new ≡ old) × Accepted 1 c (symbols s old) None

  -- what correction answers: a verdict, or why it was refused, and then nothing is written
  abbrev pub Correction : ℕ → List ℕ → List ℕ → Result Verdict CodeError → Type 0
  Correction c old new (Ok v) = (length old < s.order) × (2 ≤ c) × (c ≤ length old) × Judged c old new v
  Correction c old new (Err TooLong) = (s.order ≤ length old) × (new ≡ old)
  Correction c old new (Err TooFewChecks) = (length old < s.order) × (c < 2) × (new ≡ old)
  Correction c old new (Err TooManyChecks) = (length old < s.order) × (2 ≤ c) × (length old < c) × (new ≡ old)
  Correction c old new (Err UnequalLengths) = ⊥
  Correction c old new (Err TooManyUnknown) = ⊥
  Correction c old new (Err NoCodeword) = ⊥
