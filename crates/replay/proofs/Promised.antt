-- The promise of a whole run: writes, the close, and a list of calls.
use Rattle.std.proofs.Common.{◌≡◌, ℕ, ◌<◌, true, List, map}
use Rattle.field.specs.Systems.{System}
use Rattle.store.specs.Store.{Store, at}
use Rattle.block.specs.Layouts.{row_count}
use Rattle.sector.specs.Terms.{fits}
use Rattle.sector.specs.Bodies.{Closed}
use Rattle.sector.specs.Opening.{SameFrom}
use Rattle.sector.specs.declared.terms.Terms.{Terms}
use Rattle.sector.proofs.Uniqueness.{closed_is_one}
use Rattle.replay.specs.Answers.{Reply, answer_of}
use Rattle.replay.specs.Model.{data_after, unwritten, write_answers, closed_block}
use Rattle.replay.specs.Runs.{Ran}
use Rattle.replay.specs.Promise.{Promise}
use Rattle.replay.specs.declared.script.RowWrite.{RowWrite}
use Rattle.replay.specs.declared.script.Call.{Call}
use Rattle.replay.proofs.Fitting.{symbols_fit}
use Rattle.replay.proofs.Places.{same_then}
use Rattle.replay.proofs.Agreement.{run_same, run_agrees}
use Rattle.replay.proofs.Laws.{run_laws}

module _ (s : System) (t : Terms) where
  -- from the replies to the writes, a closed sector of the written rows, and a run over it
  pub promised : (writes : List RowWrite) (calls : List Call) (start st end : Store) (memory memory' : List ℕ) (write_replies replies : List Reply) (bodies : List (List ℕ))
      → fits s t start ≡ true → map answer_of write_replies ≡ write_answers t writes → Closed s t.layout (data_after t (unwritten t) writes) bodies
      → ((r : ℕ) → r < row_count t.layout → at st r ≡ closed_block t s bodies r) → SameFrom (row_count t.layout) start st
      → Ran s t st memory calls (map answer_of replies) end memory'
      → Promise s t writes calls start end memory memory' write_replies replies
  promised writes calls start st end memory memory' write_replies replies bodies fit marks closed blocks same run =
      let rows = data_after t (unwritten t) writes in
      let sizes = symbols_fit s t start fit in
      record {
        marks = marks;
        bodies = bodies;
        closed = closed;
        only = λ others h. closed_is_one s t.layout rows others bodies sizes.0 sizes.1 h closed;
        agrees = λ fair. run_agrees s t rows bodies closed start st fit same.places same.width blocks calls replies end memory memory' run fair;
        laws = λ fair. run_laws s t rows bodies closed start st fit same.places same.width blocks calls (map answer_of replies) end memory memory' run fair;
        same = same_then (row_count t.layout) start st end same (run_same s t st memory calls (map answer_of replies) end memory' run);
      }
