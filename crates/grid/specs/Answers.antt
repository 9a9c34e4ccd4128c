-- What the calls on many rows answer.
use Rattle.std.specs.Prelude.{◌≡◌, ℕ, ◌*◌, ◌<◌, Bool, true, false, cond, List, length, Ok, Err, MatchBool, Result, ◌==◌, nat_le, nat_lt}
use Rattle.field.specs.Systems.{System}
use Rattle.code.specs.Codewords.{count}
use Rattle.code.specs.Acceptance.{Correction}
use Rattle.code.specs.declared.correct.Verdict.{Verdict}
use Rattle.code.specs.declared.correct.Verdict.TheVariants.{Clean, Corrected, OutOfReach}
use Rattle.code.specs.declared.error.CodeError.{CodeError}
use Rattle.code.specs.declared.error.CodeError.TheVariants.{UnequalLengths, TooLong, TooFewChecks, TooManyChecks, TooManyUnknown, NoCodeword}
use Rattle.grid.specs.Packing.{unpacked}
use Rattle.grid.specs.Grids.{rows_of, data_symbols, column, fitting, RowsFilled}
use Rattle.grid.specs.Fillable.{Fillable}
use Rattle.grid.specs.declared.shape.Shape.{Shape}

-- a second test, after a first that passed
abbrev pub and_then : Result (Unit {0}) CodeError → Bool → CodeError → Result (Unit {0}) CodeError
and_then (Ok u) b e = cond b (Ok tt) (Err e)
and_then (Err x) b e = Err x

-- whether a symbol was corrected
abbrev pub is_corrected : Result Verdict CodeError → Bool
is_corrected (Ok Clean) = false
is_corrected (Ok (Corrected p)) = true
is_corrected (Ok OutOfReach) = false
is_corrected (Err e) = false

module _ (s : System) where
  -- the grid fits, and there is a flag for each row
  abbrev pub flags_reply : Shape → ℕ → ℕ → Result (Unit {0}) CodeError
  flags_reply sh bytes flags = and_then (fitting s sh bytes) (flags == rows_of sh) UnequalLengths

  -- the grid fits, and there is a byte of syndromes for each data byte of a row and each check row
  abbrev pub syndromes_reply : Shape → ℕ → ℕ → Result (Unit {0}) CodeError
  syndromes_reply sh bytes syndromes = and_then (fitting s sh bytes) (syndromes == sh.check_rows * sh.data_bytes) UnequalLengths

  -- the grid fits, there is a flag for each row, and no more rows are lost than there are check rows
  abbrev pub loss_reply : Shape → ℕ → List Bool → Result (Unit {0}) CodeError
  loss_reply sh bytes lost = and_then (flags_reply sh bytes (length lost)) (nat_le (count lost) sh.check_rows) TooManyUnknown

  -- the lost rows are filled, or no contents of them make every column a codeword, and then nothing is written
  abbrev pub RowsFilling : Shape → List Bool → List ℕ → List ℕ → Result (Unit {0}) CodeError → Type 0
  RowsFilling sh lost old new (Ok u) = RowsFilled s sh lost old new
  RowsFilling sh lost old new (Err NoCodeword) =
      (new ≡ old) × ((j : ℕ) × (j < data_symbols s sh) × (Fillable s sh.check_rows lost (column s sh old j) → ⊥))
  RowsFilling sh lost old new (Err UnequalLengths) = ⊥
  RowsFilling sh lost old new (Err TooLong) = ⊥
  RowsFilling sh lost old new (Err TooFewChecks) = ⊥
  RowsFilling sh lost old new (Err TooManyChecks) = ⊥
  RowsFilling sh lost old new (Err TooManyUnknown) = ⊥

  -- what filling answers: the refusal, or the filling
  abbrev pub LossAnswer : Shape → List Bool → List ℕ → List ℕ → Result (Unit {0}) CodeError → Result (Unit {0}) CodeError → Type 0
  LossAnswer sh lost old new (Ok u) r = RowsFilling sh lost old new r
  LossAnswer sh lost old new (Err e) r = (r ≡ Err e) × (new ≡ old)

  -- correction of the symbols of a byte string, of which no byte is written unless a symbol was corrected
  pub record BytesCorrected (checks : ℕ) (old new : List ℕ) (r : Result Verdict CodeError) : Type 0 where
    pub symbols : Correction s checks (unpacked s old) (unpacked s new) r
    pub kept : is_corrected r ≡ false → new ≡ old

  -- what correcting one row answers: more check bytes than bytes are refused first
  abbrev pub RowCorrection : ℕ → List ℕ → List ℕ → Result Verdict CodeError → Type 0
  RowCorrection checks old new r =
      MatchBool (nat_lt (length old) checks) ((r ≡ Err TooManyChecks) × (new ≡ old)) (BytesCorrected (checks * s.per) old new r)
