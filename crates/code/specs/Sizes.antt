-- The sizes that a code can have.
use Rattle.std.specs.Prelude.{ℕ, ◌<◌, ◌≤◌, Ok, Err, Result}
use Rattle.field.specs.Systems.{System}
use Rattle.code.specs.declared.error.CodeError.{CodeError}
use Rattle.code.specs.declared.error.CodeError.TheVariants.{UnequalLengths, TooLong, TooFewChecks, TooManyChecks, TooManyUnknown, NoCodeword}

-- what the test of n symbols and c checks, of which there must be some least number, answers: that they serve, or the first that is wrong
abbrev pub Sized : System → ℕ → ℕ → ℕ → Result (Unit {0}) CodeError → Type 0
Sized s n least c (Ok u) = (n < s.order) × (least ≤ c) × (c ≤ n)
Sized s n least c (Err TooLong) = s.order ≤ n
Sized s n least c (Err TooFewChecks) = (n < s.order) × (c < least)
Sized s n least c (Err TooManyChecks) = (n < s.order) × (least ≤ c) × (n < c)
Sized s n least c (Err UnequalLengths) = ⊥
Sized s n least c (Err TooManyUnknown) = ⊥
Sized s n least c (Err NoCodeword) = ⊥
