-- What a row's place is found to hold.
use Rattle.std.specs.Prelude.{◌≡◌, ℕ, suc, ◌-◌, ◌<◌, ◌≤◌, Bool, true, false, cond, List, [], ◌∷◌, ◌++◌, length, drop, Some, None, Option, slice_index, slice_set, codes, decimal}
use Rattle.std.specs.Option.{unwrap_or}
use Rattle.field.specs.Systems.{System, Symbol}
use Rattle.code.specs.Codewords.{Symbols, Codeword, symbols, differences}
use Rattle.code.specs.declared.correct.Verdict.{Verdict}
use Rattle.code.specs.declared.correct.Verdict.TheVariants.{Clean as Intact, Corrected as Changed, OutOfReach as Beyond}
use Rattle.code.proofs.Trying.{nearest}
use Rattle.grid.specs.Packing.{unpacked}
use Rattle.grid.specs.Grids.{check_symbols}
use Rattle.block.specs.Layouts.{shape_of}
use Rattle.block.specs.Identification.{right_id}
use Rattle.block.specs.declared.layout.Layout.{Layout}
use Rattle.block.specs.declared.condition.Condition.{Condition}
use Rattle.block.specs.declared.condition.Condition.TheVariants.{Blank, WrongId, Clean, Corrected, OutOfReach}

-- the number of each condition, and what it carries
abbrev pub condition_values : Condition → List ℕ
condition_values Blank = 1 ∷ []
condition_values WrongId = 2 ∷ []
condition_values Clean = 3 ∷ []
condition_values (Corrected p) = 4 ∷ p ∷ []
condition_values OutOfReach = 5 ∷ []

abbrev pub condition_number : Condition → ℕ
condition_number k = slice_index (condition_values k) 0

-- the condition that a verdict on a body says
abbrev pub condition_of : Verdict → Condition
condition_of Intact = Clean
condition_of (Changed p) = Corrected p
condition_of Beyond = OutOfReach

-- how each condition is printed
abbrev pub condition_text : Condition → List ℕ
condition_text Blank = codes "blank"
condition_text WrongId = codes "wrong ID"
condition_text Clean = codes "whole"
condition_text (Corrected p) = codes "mended at symbol " ++ decimal p
condition_text OutOfReach = codes "no word"

-- a row is lost when its place gives nothing to rely on
abbrev pub is_lost : Condition → Bool
is_lost Blank = true
is_lost WrongId = true
is_lost Clean = false
is_lost (Corrected p) = false
is_lost OutOfReach = true

abbrev pub is_clean : Condition → Bool
is_clean Blank = false
is_clean WrongId = false
is_clean Clean = true
is_clean (Corrected p) = false
is_clean OutOfReach = false

-- the place of the first true
abbrev pub first_true : List Bool → Option ℕ
first_true [] = None
first_true (true ∷ bs) = Some 0
first_true (false ∷ bs) = elim (first_true bs) [ Some p ↦ Some (suc p) | None ↦ None ]

module _ (s : System) where
  -- the symbols of a byte string
  abbrev pub symbols_in : List ℕ → Symbols s
  symbols_in bytes = symbols s (unpacked s bytes)

  -- what a list of symbols is, if w is the codeword accepted for it
  abbrev pub judgement : Symbols s → Option (Symbols s) → Condition
  judgement xs None = OutOfReach
  judgement xs (Some w) = elim (first_true (differences xs w)) [ Some p ↦ Corrected p | None ↦ Clean ]

  -- the codeword of c checks within one symbol of a body, if there is one
  abbrev pub accepted_word : ℕ → List ℕ → Option (Symbols s)
  accepted_word c body = nearest s 1 c (symbols_in body)

  abbrev pub body_condition : ℕ → List ℕ → Condition
  body_condition c body = judgement (symbols_in body) (accepted_word c body)

  -- the conditions of a body, in words of their own
  abbrev pub Says : ℕ → Symbols s → Condition → Type 0
  Says c xs Blank = ⊥
  Says c xs WrongId = ⊥
  Says c xs Clean = Codeword s c xs
  Says c xs (Corrected p) =
      (Codeword s c xs → ⊥) × (p < length xs) × ((v : Symbol s.order) × Codeword s c (slice_set xs p v))
  Says c xs OutOfReach =
      (Codeword s c xs → ⊥) × ((p : ℕ) (v : Symbol s.order) → p < length xs → Codeword s c (slice_set xs p v) → ⊥)

  -- of every body exactly one condition is said, if its symbols are at most q - 1
  abbrev pub ConditionsSay : Type 0
  ConditionsSay =
      (c : ℕ) (body : List ℕ) → 2 ≤ c → length (symbols_in body) ≤ s.order - 1
      → Says c (symbols_in body) (body_condition c body)
      × ((k : Condition) → Says c (symbols_in body) k → k ≡ body_condition c body)

  module _ (l : Layout) where
    -- the codeword that a row which is not lost stands for
    abbrev pub word_of : Option (List ℕ) → Symbols s
    word_of None = []
    word_of (Some b) = unwrap_or (accepted_word (check_symbols s (shape_of l)) (drop 3 b)) []

    -- the condition of a row, by what its place holds: the first that is true
    abbrev pub condition : ℕ → ℕ → Option (List ℕ) → Condition
    condition pair row None = Blank
    condition pair row (Some b) = cond (right_id l pair row b) (body_condition (check_symbols s (shape_of l)) (drop 3 b)) WrongId
