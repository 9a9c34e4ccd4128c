-- The model keeps the laws of reading and repairing.
use Rattle.std.proofs.Common.{◌≡◌, ℕ, ◌<◌, ◌≤◌, Bool, true, false, cond, ◌⊎◌, List, [], ◌∷◌, length, get_or, drop, Some, refl, ap, ◌∙◌, ap₂, arith}
use Rattle.std.proofs.lemmas.Bool.Decides.{nat_tests}
use Rattle.std.proofs.lemmas.Bool.{lt-ltb, eq-eqb, le-leb, lt-leb}
use Rattle.field.specs.Systems.{System}
use Rattle.grid.specs.Grids.{row_symbols}
use Rattle.store.specs.Store.{Store, at}
use Rattle.block.specs.Layouts.{shape_of, row_count, data_rows, check_rows, data_bytes}
use Rattle.block.specs.Identification.{right_id}
use Rattle.block.specs.Conditions.{is_clean}
use Rattle.block.proofs.Written.{written_is_right}
use Rattle.sector.specs.Answers.{Answer, taken, refused, guarded, is_taken}
use Rattle.sector.specs.Terms.{fits}
use Rattle.sector.specs.Bodies.{block_of, Closed}
use Rattle.sector.specs.Opening.{Contents}
use Rattle.sector.specs.Fillings.{condition_at, lost_at, lost_count, broken_count}
use Rattle.sector.specs.declared.terms.Terms.{Terms}
use Rattle.replay.specs.Model.{part_of, with_part, closed_block, recoverable, repairable, call_answer, call_after, memory_after, contents_after, AllFair}
use Rattle.replay.specs.Runs.{Ran}
use Rattle.replay.specs.Promise.{ReadLaw, RepairLaw, Laws}
use Rattle.replay.specs.declared.script.Call.{Call}
use Rattle.replay.specs.declared.script.Call.TheVariants.{Read, Repair}
use Rattle.replay.proofs.Fitting.{symbols_fit}
use Rattle.replay.proofs.Rows.{Good, clean_body}
use Rattle.replay.proofs.Agreement.{run_follows}

module _ (s : System) (t : Terms) (rows : ℕ → List ℕ) (bodies : List (List ℕ)) (closed : Closed s t.layout rows bodies) where
  -- whether a row can be had
  had_true : (P : Contents) (row : ℕ) → (lost_at s t P row ≡ false) ⊎ (lost_count s t P ≤ check_rows t.layout) → recoverable t s bodies P row ≡ true
  had_true P row h = grind (arith, nat_tests)

  had_false : (P : Contents) (row : ℕ) → lost_at s t P row ≡ true → check_rows t.layout < lost_count s t P → recoverable t s bodies P row ≡ false
  had_false P row e l = grind (arith, nat_tests)

  module _ (P : Contents) (row : ℕ) (memory : List ℕ) (from to : ℕ) (lr : row < data_rows t.layout)
      (long : length (part_of memory from to) ≡ data_bytes t.layout) where
    read_answer : call_answer t s bodies P memory (Read row from to)
        ≡ cond (recoverable t s bodies P row) (taken []) (refused 9 (lost_count s t P ∷ []))
    read_answer =
        ap₂ (λ (x y : Bool). guarded x 7 (guarded y 8 (cond (recoverable t s bodies P row) (taken []) (refused 9 (lost_count s t P ∷ [])))))
        (lt-ltb row (data_rows t.layout) lr) (eq-eqb (length (part_of memory from to)) (data_bytes t.layout) long)

    answer_at : (b : Bool) → recoverable t s bodies P row ≡ b → call_answer t s bodies P memory (Read row from to) ≡ cond b (taken []) (refused 9 (lost_count s t P ∷ []))
    answer_at b e = read_answer ∙ rw e

    memory_at : (a : Answer) → call_answer t s bodies P memory (Read row from to) ≡ a
        → memory_after t s bodies P memory (Read row from to) ≡ cond (is_taken a) (with_part memory from to (rows row)) memory
    memory_at a e = rw (e, closed.front row lr)

    pub read_law : ReadLaw s t rows P row memory from to (call_answer t s bodies P memory (Read row from to)) (memory_after t s bodies P memory (Read row from to))
    read_law = record {
      had = λ h. let e = answer_at true (had_true P row h) in (e, memory_at (taken []) e);
      not_had = λ e l. let f = answer_at false (had_false P row e l) in (f, memory_at (refused 9 (lost_count s t P ∷ [])) f);
    }

  module _ (short : row_symbols s (shape_of t.layout) < s.order) (P : Contents) (good : Good s t bodies P) where
    restored_row : (r : ℕ) → r < row_count t.layout → (b : Bool) → is_clean (condition_at s t P r) ≡ b
        → (block : List ℕ) × (cond b (P r) (closed_block t s bodies r) ≡ Some block) × (right_id t.layout t.pair r block ≡ true) × (drop 3 block ≡ get_or bodies r [])
    restored_row r lr true e = clean_body s t bodies rows closed short r lr (P r) (good r lr) e
    restored_row r lr false e =
        (block_of t.layout t.pair r (get_or bodies r []), refl, written_is_right t.layout t.pair r (get_or bodies r []), refl)

    abbrev restored : Contents
    restored r = cond (is_clean (condition_at s t P r)) (P r) (closed_block t s bodies r)

    repaired_at : (b : Bool) → repairable t s bodies P ≡ b → call_after t s bodies P Repair ≡ cond b restored P
    repaired_at b e = rw e

    repair_answer : (memory : List ℕ) (b : Bool) → repairable t s bodies P ≡ b
        → call_answer t s bodies P memory Repair ≡ cond b (taken (broken_count s t P ∷ [])) (refused 9 (lost_count s t P ∷ []))
    repair_answer memory b e = rw e

    pub repair_law : (memory : List ℕ) → RepairLaw s t bodies P (call_after t s bodies P Repair) (call_answer t s bodies P memory Repair)
    repair_law memory = record {
      restored = λ l r lr.
          let row = restored_row r lr (is_clean (condition_at s t P r)) refl in
          let e = repaired_at true (le-leb (lost_count s t P) (check_rows t.layout) l) in
          (row.0, ap (λ (Q : Contents). Q r) e ∙ row.1, row.2, row.3);
      counted = λ l. (broken_count s t P, repair_answer memory true (le-leb (lost_count s t P) (check_rows t.layout) l));
      refused_over = λ l.
          let e = lt-leb (lost_count s t P) (check_rows t.layout) l in
          (repair_answer memory false e, repaired_at false e);
    }

  module _ (start st : Store) (fit : fits s t start ≡ true) (same_places : st.places ≡ start.places) (same_width_lem : st.width ≡ start.width)
      (blocks : (r : ℕ) → r < row_count t.layout → at st r ≡ closed_block t s bodies r) where
    -- at whatever a fair run has led to
    pub run_laws : (calls : List Call) (answers : List Answer) (st' : Store) (memory memory' : List ℕ) → Ran s t st memory calls answers st' memory'
        → AllFair t s bodies calls → Laws s t rows bodies calls
    run_laws calls answers st' memory memory' h fair =
        let end = run_follows s t rows bodies closed start st fit same_places same_width_lem blocks calls answers st' memory memory' h fair in
        let P = contents_after t s bodies (closed_block t s bodies) calls in
        record {
          reads = λ row from to memory lr long. read_law P row memory from to lr long;
          repairs = λ memory. repair_law (symbols_fit s t start fit).1 P end.good memory;
        }
