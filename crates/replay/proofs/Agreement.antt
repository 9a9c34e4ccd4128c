-- A fair run over a closed sector answers and leaves what the model does; no run changes a place that is no row's.
use Rattle.std.proofs.Common.{◌≡◌, ℕ, ◌<◌, ◌≤◌, true, List, [], ◌∷◌, map, length, get_or, refl, ◌∙◌, ap₂}
use Rattle.field.specs.Systems.{System}
use Rattle.store.specs.Store.{Store, at}
use Rattle.block.specs.Layouts.{row_count}
use Rattle.sector.specs.Answers.{Answer}
use Rattle.sector.specs.Terms.{fits}
use Rattle.sector.specs.Bodies.{block_of, Closed}
use Rattle.sector.specs.Opening.{Contents, SameFrom}
use Rattle.sector.specs.declared.terms.Terms.{Terms}
use Rattle.replay.specs.Answers.{Reply, answer_of}
use Rattle.replay.specs.Model.{closed_block, call_after, memory_after, call_answers, contents_after, memory_at_end, AllFair}
use Rattle.replay.specs.Runs.{Applied, Ran}
use Rattle.replay.specs.Promise.{Agrees}
use Rattle.replay.specs.declared.script.Call.{Call}
use Rattle.replay.specs.declared.script.Call.TheVariants.{PutBlock, Erase, Check, Read, Repair}
use Rattle.replay.proofs.Fitting.{symbols_fit, fits_alike}
use Rattle.replay.proofs.Places.{all_there, same_path, same_then}
use Rattle.replay.proofs.Rows.{Good}
use Rattle.replay.proofs.Modelled.{InBytes, Same, answer_same, memory_same, after_same, closed_good, after_good}
use Rattle.replay.proofs.Steps.{call_same, call_follows}

-- a run's answers, and what it leaves, by the model from such contents on, which stay within reach of the closed bodies
pub record Ended (s : System) (t : Terms) (bodies : List (List ℕ)) (P : Contents) (memory : List ℕ) (calls : List Call) (answers : List Answer) (end : Store) (memory' : List ℕ)
    : Type 0 where
  pub answers_are : answers ≡ call_answers t s bodies P memory calls
  pub memory_is : memory' ≡ memory_at_end t s bodies P memory calls
  pub places : (r : ℕ) → r < row_count t.layout → at end r ≡ contents_after t s bodies P calls r
  pub good : Good s t bodies (contents_after t s bodies P calls)

module _ (s : System) (t : Terms) where
  -- no run changes a place that is no row's, fair or not
  pub run_same : (st : Store) (memory : List ℕ) (calls : List Call) (answers : List Answer) (st' : Store) (memory' : List ℕ)
      → Ran s t st memory calls answers st' memory' → SameFrom (row_count t.layout) st st'
  run_same st memory [] [] st' memory' h = same_path (row_count t.layout) st st' h.0
  run_same st memory [] (a ∷ answers) st' memory' h = absurd h
  run_same st memory (c ∷ calls) [] st' memory' h = absurd h
  run_same st memory (c ∷ calls) (a ∷ answers) st' memory' h =
      same_then (row_count t.layout) st h.0 st' (call_same s t st memory c a h.0 h.1 h.2)
      (run_same h.0 h.1 calls answers st' memory' h.3)

  -- what a call put are bytes
  in_bytes : (st : Store) (memory : List ℕ) (c : Call) (a : Answer) (st' : Store) (memory' : List ℕ) → Applied s t st memory c a st' memory' → InBytes c
  in_bytes st memory (PutBlock row block) a st' memory' h = h.0
  in_bytes st memory (Erase row) a st' memory' h = tt
  in_bytes st memory (Check row) a st' memory' h = tt
  in_bytes st memory (Read row from to) a st' memory' h = tt
  in_bytes st memory Repair a st' memory' h = tt

  module _ (rows : ℕ → List ℕ) (bodies : List (List ℕ)) (closed : Closed s t.layout rows bodies) where
    -- from any contents within reach
    run_ends : (P : Contents) (st : Store) (memory : List ℕ) (calls : List Call) (answers : List Answer) (st' : Store) (memory' : List ℕ)
        → Good s t bodies P → Same s t (at st) P → fits s t st ≡ true → row_count t.layout ≤ length st.contents
        → AllFair t s bodies calls → Ran s t st memory calls answers st' memory' → Ended s t bodies P memory calls answers st' memory'
    run_ends P st memory [] [] st' memory' g same fit seats fair h =
        record { answers_are = refl; memory_is = h.1; places = λ r lr. rw h.0 (same r lr); good = g }
    run_ends P st memory [] (a ∷ answers) st' memory' g same fit seats fair h = absurd h
    run_ends P st memory (c ∷ calls) [] st' memory' g same fit seats fair h = absurd h
    run_ends P st memory (c ∷ calls) (a ∷ answers) st' memory' g same fit seats fair h =
        let mid = h.0 in
        let kept = h.1 in
        let here = h.2 in
        let sizes = symbols_fit s t st fit in
        let held : Good s t bodies (at st) = λ r lr. rw (same r lr) (g r lr) in
        let step = call_follows s t rows bodies closed sizes.0 sizes.1 st fit seats held memory c a mid kept here in
        let others = call_same s t st memory c a mid kept here in
        let Q = call_after t s bodies P c in
        let memory_now : kept ≡ memory_after t s bodies P memory c = step.memory_is ∙ memory_same s t (at st) P same bodies memory c in
        let rest =
        run_ends Q mid kept calls answers st' memory' (after_good s t rows bodies closed P c g fair.0 (in_bytes st memory c a mid kept here))
        (λ r lr. step.places r lr ∙ after_same s t (at st) P same bodies c r lr) (fits_alike s t st mid others.places others.width ∙ fit) step.seated
        fair.1 h.3
        in
        record {
          answers_are =
              ap₂ ◌∷◌ (step.answer_is ∙ answer_same s t (at st) P same bodies memory c)
              (rw (← memory_now) rest.answers_are);
          memory_is = rw (← memory_now) rest.memory_is;
          places = rest.places;
          good = rest.good;
        }

    -- from a closed sector
    module _ (start st : Store) (fit : fits s t start ≡ true) (same_places : st.places ≡ start.places) (same_width_lem : st.width ≡ start.width)
        (blocks : (r : ℕ) → r < row_count t.layout → at st r ≡ closed_block t s bodies r) where
      pub run_follows : (calls : List Call) (answers : List Answer) (st' : Store) (memory memory' : List ℕ) → Ran s t st memory calls answers st' memory'
          → AllFair t s bodies calls → Ended s t bodies (closed_block t s bodies) memory calls answers st' memory'
      run_follows calls answers st' memory memory' h fair =
          run_ends (closed_block t s bodies) st memory calls answers st' memory' (closed_good s t rows bodies closed) blocks
          (fits_alike s t start st same_places same_width_lem ∙ fit)
          (all_there st (row_count t.layout) (λ r lr. (block_of t.layout t.pair r (get_or bodies r []), blocks r lr))) fair h

      pub run_agrees : (calls : List Call) (replies : List Reply) (st' : Store) (memory memory' : List ℕ)
          → Ran s t st memory calls (map answer_of replies) st' memory' → AllFair t s bodies calls → Agrees s t bodies calls st' memory memory' replies
      run_agrees calls replies st' memory memory' h fair =
          let e = run_follows calls (map answer_of replies) st' memory memory' h fair in
          record { answers = e.answers_are; memory_is = e.memory_is; places = e.places }
