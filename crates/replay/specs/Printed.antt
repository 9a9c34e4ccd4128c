-- What is printed of writes, calls and their outcomes.
use Rattle.std.specs.Prelude.{ℕ, List, ◌++◌, codes, decimal}
use Rattle.block.specs.Conditions.{condition_text}
use Rattle.replay.specs.declared.script.RowWrite.{RowWrite}
use Rattle.replay.specs.declared.script.Call.{Call}
use Rattle.replay.specs.declared.script.Call.TheVariants.{PutBlock, Erase, Check, Read, Repair}
use Rattle.replay.specs.declared.script.Outcome.{Outcome}
use Rattle.replay.specs.declared.script.Outcome.TheVariants.{Done, Found, Repaired}

abbrev pub write_text : RowWrite → List ℕ
write_text x = codes "write row " ++ decimal x.row

abbrev pub call_text : Call → List ℕ
call_text (PutBlock row block) = codes "put a block at row " ++ decimal row
call_text (Erase row) = codes "erase row " ++ decimal row
call_text (Check row) = codes "check row " ++ decimal row
call_text (Read row from to) = codes "read row " ++ decimal row
call_text Repair = codes "repair"

abbrev pub outcome_text : Outcome → List ℕ
outcome_text Done = codes "done"
outcome_text (Found c) = condition_text c
outcome_text (Repaired n) = codes "rows written: " ++ decimal n
