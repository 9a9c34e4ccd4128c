-- The reference model of a sector: it is fed the arguments of the calls and nothing else.
use Rattle.std.specs.Prelude.{◌≡◌, ℕ, ◌<◌, Bool, cond, not, ◌&&◌, ◌||◌, List, [], ◌∷◌, ◌++◌, length, take, drop, Some, None, Option, ◌==◌, nat_le, nat_lt, slice_index_or, slice_range}
use Rattle.field.specs.Systems.{System}
use Rattle.code.specs.Codewords.{distance}
use Rattle.grid.specs.Grids.{check_symbols}
use Rattle.block.specs.Layouts.{shape_of, row_count, data_rows, check_rows, data_bytes, block_width}
use Rattle.block.specs.Conditions.{condition_values, is_clean, symbols_in}
use Rattle.sector.specs.Answers.{Answer, taken, refused, guarded, is_taken}
use Rattle.sector.specs.Bodies.{block_of}
use Rattle.sector.specs.Opening.{Contents, filler}
use Rattle.sector.specs.Fillings.{condition_at, lost_at, lost_count, broken_count}
use Rattle.sector.specs.declared.terms.Terms.{Terms}
use Rattle.replay.specs.declared.script.RowWrite.{RowWrite}
use Rattle.replay.specs.declared.script.Call.{Call}
use Rattle.replay.specs.declared.script.Call.TheVariants.{PutBlock, Erase, Check, Read, Repair}

-- a part of a memory, from one place up to another; nothing where there is no such part
abbrev pub part_of : List ℕ → ℕ → ℕ → List ℕ
part_of memory from to = cond (nat_le from to && nat_le to (length memory)) (slice_range memory from to) []

-- the memory with other bytes in that part
abbrev pub with_part : List ℕ → ℕ → ℕ → List ℕ → List ℕ
with_part memory from to bytes = cond (nat_le from to && nat_le to (length memory)) (take from memory ++ (bytes ++ drop to memory)) memory

-- the contents with another one at a row
abbrev pub replaced : Contents → ℕ → Option (List ℕ) → Contents
replaced P row o = λ r. cond (r == row) o (P r)

module _ (t : Terms) where
  -- writing: the row is a data row, and the data have its length
  abbrev pub write_answer : RowWrite → Answer
  write_answer x = guarded (nat_lt x.row (data_rows t.layout)) 7 (guarded (length x.bytes.now == data_bytes t.layout) 8 (taken []))

  -- the data bytes of every row: at first filler; each write that is taken sets its row's
  abbrev pub data_after_one : (ℕ → List ℕ) → RowWrite → ℕ → List ℕ
  data_after_one rows x = λ r. cond (is_taken (write_answer x) && r == x.row) x.bytes.now (rows r)

  abbrev pub data_after : (ℕ → List ℕ) → List RowWrite → ℕ → List ℕ
  data_after rows [] = rows
  data_after rows (x ∷ xs) = data_after (data_after_one rows x) xs

  abbrev pub write_answers : List RowWrite → List Answer
  write_answers [] = []
  write_answers (x ∷ xs) = write_answer x ∷ write_answers xs

  abbrev pub unwritten : ℕ → List ℕ
  unwritten r = filler t.layout

  -- a closed sector with these bodies
  module _ (s : System) (bodies : List (List ℕ)) where
    -- a row's block as close writes it
    abbrev pub closed_block : Contents
    closed_block r = Some (block_of t.layout t.pair r (slice_index_or bodies r []))

    -- a row can be had: it is not lost, or no more rows are lost than there are check rows
    abbrev pub recoverable : Contents → ℕ → Bool
    recoverable P r = not (lost_at s t P r) || nat_le (lost_count s t P) (check_rows t.layout)

    abbrev pub repairable : Contents → Bool
    repairable P = nat_le (lost_count s t P) (check_rows t.layout)

    abbrev pub call_answer : Contents → List ℕ → Call → Answer
    call_answer P memory (PutBlock row block) =
        guarded (nat_lt row (row_count t.layout)) 7 (guarded (length block.now == block_width t.layout) 8 (taken []))
    call_answer P memory (Erase row) = guarded (nat_lt row (row_count t.layout)) 7 (taken [])
    call_answer P memory (Check row) = guarded (nat_lt row (row_count t.layout)) 7 (taken (condition_values (condition_at s t P row)))
    call_answer P memory (Read row from to) =
        guarded (nat_lt row (data_rows t.layout)) 7
        (guarded (length (part_of memory from to) == data_bytes t.layout) 8
        (cond (recoverable P row) (taken []) (refused 9 (lost_count s t P ∷ []))))
    call_answer P memory Repair = cond (repairable P) (taken (broken_count s t P ∷ [])) (refused 9 (lost_count s t P ∷ []))

    -- what the rows' places hold after a call
    abbrev pub call_after : Contents → Call → Contents
    call_after P (PutBlock row block) =
        cond (nat_lt row (row_count t.layout) && length block.now == block_width t.layout) (replaced P row (Some block.now)) P
    call_after P (Erase row) = cond (nat_lt row (row_count t.layout)) (replaced P row None) P
    call_after P (Check row) = P
    call_after P (Read row from to) = P
    call_after P Repair = cond (repairable P) (λ r. cond (is_clean (condition_at s t P r)) (P r) (closed_block r)) P

    -- what the memory that reads write to holds after a call
    abbrev pub memory_after : Contents → List ℕ → Call → List ℕ
    memory_after P memory (PutBlock row block) = memory
    memory_after P memory (Erase row) = memory
    memory_after P memory (Check row) = memory
    memory_after P memory (Read row from to) =
        cond (is_taken (call_answer P memory (Read row from to))) (with_part memory from to (take (data_bytes t.layout) (slice_index_or bodies row []))) memory
    memory_after P memory Repair = memory

    abbrev pub call_answers : Contents → List ℕ → List Call → List Answer
    call_answers P memory [] = []
    call_answers P memory (c ∷ cs) = call_answer P memory c ∷ call_answers (call_after P c) (memory_after P memory c) cs

    abbrev pub contents_after : Contents → List Call → Contents
    contents_after P [] = P
    contents_after P (c ∷ cs) = contents_after (call_after P c) cs

    abbrev pub memory_at_end : Contents → List ℕ → List Call → List ℕ
    memory_at_end P memory [] = memory
    memory_at_end P memory (c ∷ cs) = memory_at_end (call_after P c) (memory_after P memory c) cs

    -- a put body that is taken differs from the row's closed one in fewer symbols than a row has check symbols
    abbrev pub Fair : Call → Type 0
    Fair (PutBlock row block) =
        row < row_count t.layout → length block.now ≡ block_width t.layout
        → distance (symbols_in s (drop 3 block.now)) (symbols_in s (slice_index_or bodies row [])) < check_symbols s (shape_of t.layout)
    Fair (Erase row) = Unit {0}
    Fair (Check row) = Unit {0}
    Fair (Read row from to) = Unit {0}
    Fair Repair = Unit {0}

    abbrev pub AllFair : List Call → Type 0
    AllFair [] = Unit {0}
    AllFair (c ∷ cs) = Fair c × AllFair cs
