-- Replies, by numbers.
use Rattle.std.specs.Prelude.{ℕ, List, [], ◌∷◌, Result}
use Rattle.block.specs.Conditions.{condition_values}
use Rattle.sector.specs.Answers.{Answer, answered}
use Rattle.sector.specs.declared.refusal.Refusal.{Refusal}
use Rattle.replay.specs.declared.script.Outcome.{Outcome}
use Rattle.replay.specs.declared.script.Outcome.TheVariants.{Done, Found, Repaired}

-- what a call answers: what it tells, or why it is refused
abbrev pub Reply : Type 0
Reply = Result Outcome Refusal

-- the numbers that an outcome tells
abbrev pub outcome_values : Outcome → List ℕ
outcome_values Done = []
outcome_values (Found c) = condition_values c
outcome_values (Repaired n) = n ∷ []

abbrev pub answer_of : Reply → Answer
answer_of r = answered outcome_values r
