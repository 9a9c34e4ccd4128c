-- What one call of a run, and a list of calls, may answer and leave: each by the contract of the call that it makes.
use Rattle.std.specs.Prelude.{◌≡◌, ℕ, ◌<◌, Bool, List, [], ◌∷◌, length, replicate, Some, None, MatchBool}
use Rattle.byte_string.specs.Bytes.{Bytes}
use Rattle.field.specs.Systems.{System}
use Rattle.store.specs.Store.{Store, at}
use Rattle.block.specs.Layouts.{row_count, data_rows}
use Rattle.sector.specs.Answers.{Answer, taken}
use Rattle.sector.specs.Terms.{fits, fitted, row_guards, block_guards}
use Rattle.sector.specs.Opening.{open_data, SameFrom}
use Rattle.sector.specs.Closing.{stored, check_answer, Reading, Repairing}
use Rattle.sector.specs.declared.terms.Terms.{Terms}
use Rattle.replay.specs.Model.{part_of, with_part, write_answers, data_after}
use Rattle.replay.specs.declared.script.RowWrite.{RowWrite}
use Rattle.replay.specs.declared.script.Call.{Call}
use Rattle.replay.specs.declared.script.Call.TheVariants.{PutBlock, Erase, Check, Read, Repair}

module _ (s : System) (t : Terms) where
  -- a list of writes answers and leaves what the model says of the rows that were written before
  pub record WroteAll (writes : List RowWrite) (old new : Store) (marks marked : List Bool) (answers : List Answer) : Type 0 where
    pub replies : answers ≡ write_answers t writes
    pub rows : (r : ℕ) → r < data_rows t.layout
        → open_data t.layout marked (at new) r ≡ data_after t (open_data t.layout marks (at old)) writes r
    pub same : SameFrom (row_count t.layout) old new

  -- where the terms do not fit, every write is refused by one number
  abbrev pub WritingAll : List RowWrite → Store → Store → List Bool → List Bool → List Answer → Type 0
  WritingAll writes old new marks marked answers =
      MatchBool (fits s t old) (WroteAll writes old new marks marked answers)
      ((answers ≡ replicate (length writes) (fitted s t old (taken []))) × (new ≡ old))

  -- a read into a part of a memory answers a, and leaves such a memory
  abbrev pub ReadPart : Store → List ℕ → ℕ → ℕ → ℕ → Answer → List ℕ → Type 0
  ReadPart st memory row from to a memory' =
      (buffer : List ℕ) × Reading s t st row (part_of memory from to) buffer a × (memory' ≡ with_part memory from to buffer)

  -- a call on a store and a memory answers a, and leaves such a store and such a memory
  abbrev pub Applied : Store → List ℕ → Call → Answer → Store → List ℕ → Type 0
  Applied st memory (PutBlock row block) a st' memory' =
      Bytes block.now × (a ≡ block_guards s t st row block.now) × (st' ≡ stored s t a st row (Some block.now)) × (memory' ≡ memory)
  Applied st memory (Erase row) a st' memory' =
      (a ≡ row_guards s t st row (taken [])) × (st' ≡ stored s t a st row None) × (memory' ≡ memory)
  Applied st memory (Check row) a st' memory' = (a ≡ check_answer s t st row) × (st' ≡ st) × (memory' ≡ memory)
  Applied st memory (Read row from to) a st' memory' =
      (buffer : List ℕ) × Reading s t st row (part_of memory from to) buffer a × (st' ≡ st) × (memory' ≡ with_part memory from to buffer)
  Applied st memory Repair a st' memory' = Repairing s t st st' a × (memory' ≡ memory)

  abbrev pub Ran : Store → List ℕ → List Call → List Answer → Store → List ℕ → Type 0
  Ran st memory [] [] st' memory' = (st' ≡ st) × (memory' ≡ memory)
  Ran st memory [] (a ∷ answers) st' memory' = ⊥
  Ran st memory (c ∷ cs) [] st' memory' = ⊥
  Ran st memory (c ∷ cs) (a ∷ answers) st' memory' =
      (mid : Store) × (kept : List ℕ) × Applied st memory c a mid kept × Ran mid kept cs answers st' memory'
