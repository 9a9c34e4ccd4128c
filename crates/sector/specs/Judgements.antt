-- What judging a block leaves of it.
use Rattle.std.specs.Prelude.{◌≡◌, ℕ, false, List, Some, Ok, Err, Option, Result}
use Rattle.field.specs.Systems.{System}
use Rattle.grid.specs.Grids.{check_symbols}
use Rattle.block.specs.Layouts.{shape_of}
use Rattle.block.specs.Conditions.{condition, condition_of, body_condition, accepted_word, word_of, is_lost, symbols_in}
use Rattle.block.specs.declared.layout.Layout.{Layout}
use Rattle.block.specs.declared.condition.Condition.{Condition}
use Rattle.block.specs.declared.condition.Condition.TheVariants.{OutOfReach}
use Rattle.code.specs.declared.correct.Verdict.{Verdict}
use Rattle.code.specs.declared.error.CodeError.{CodeError}
use Rattle.sector.specs.declared.terms.Terms.{Terms}

-- the condition that correction says; it is never refused for a body of a sector whose terms fit
abbrev pub corrected : Result Verdict CodeError → Condition
corrected (Ok v) = condition_of v
corrected (Err e) = OutOfReach

-- the condition of a body, which has become the codeword that was accepted
pub record BodyJudged (s : System) (l : Layout) (old new : List ℕ) (c : Condition) : Type 0 where
  pub is : c ≡ body_condition s (check_symbols s (shape_of l)) old
  pub word : is_lost c ≡ false → Some (symbols_in s new) ≡ accepted_word s (check_symbols s (shape_of l)) old

-- the condition of a row by what its place holds; the codeword that a row which is not lost stands for is in `body`
pub record RowJudged (s : System) (t : Terms) (row : ℕ) (place : Option (List ℕ)) (body : List ℕ) (c : Condition) : Type 0 where
  pub is : c ≡ condition s t.layout t.pair row place
  pub word : is_lost c ≡ false → symbols_in s body ≡ word_of s t.layout place
