-- What a call on a sector answers, by numbers.
use Rattle.std.specs.Prelude.{ℕ, Bool, true, false, cond, List, [], ◌∷◌, ◌++◌, Ok, Err, Result, codes}
use Rattle.std.specs.Fmt.{decimal}
use Rattle.block.specs.Conditions.{condition_values}
use Rattle.block.specs.declared.condition.Condition.{Condition}
use Rattle.sector.specs.declared.refusal.Refusal.{Refusal}
use Rattle.sector.specs.declared.refusal.Refusal.TheVariants.{Pair, Places, Width, Symbols, Row, Length, Lost, NoContents}

-- a call is taken, and tells some numbers, or it is refused, by a number and what that carries
pub data Answer : Type 0 where
  taken : List ℕ → Answer
  refused : ℕ → List ℕ → Answer

-- the number of each refusal, and what it carries
abbrev pub refusal_of : Refusal → Answer
refusal_of Pair = refused 3 []
refusal_of Places = refused 4 []
refusal_of Width = refused 5 []
refusal_of Symbols = refused 6 []
refusal_of Row = refused 7 []
refusal_of Length = refused 8 []
refusal_of (Lost n) = refused 9 (n ∷ [])
refusal_of NoContents = refused 10 []

-- the number of an answer: 0 where the call is taken
abbrev pub answer_number : Answer → ℕ
answer_number (taken ns) = 0
answer_number (refused k ns) = k

-- an answer as it is printed: its number, and how many rows are lost
abbrev pub answer_text : Answer → List ℕ
answer_text (taken ns) = []
answer_text (refused k []) = codes "refused (" ++ decimal k ++ codes ")"
answer_text (refused k (n ∷ ns)) = codes "refused (" ++ decimal k ++ (codes "), rows lost: " ++ decimal n)

abbrev pub answered : {A : Type 0} → (A → List ℕ) → Result A Refusal → Answer
answered tells (Ok x) = taken (tells x)
answered tells (Err e) = refusal_of e

-- the answers of calls that tell nothing, a condition, or a count
abbrev pub answer_done : Result (Unit {0}) Refusal → Answer
answer_done r = answered (λ _. []) r

abbrev pub answer_condition : Result Condition Refusal → Answer
answer_condition r = answered condition_values r

abbrev pub answer_count : Result ℕ Refusal → Answer
answer_count r = answered (λ n. n ∷ []) r

-- a test before an answer: where it fails, its number is the answer
abbrev pub guarded : Bool → ℕ → Answer → Answer
guarded b k a = cond b a (refused k [])

abbrev pub is_taken : Answer → Bool
is_taken (taken ns) = true
is_taken (refused k ns) = false
