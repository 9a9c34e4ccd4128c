-- The promise of a closed sector, as one of whole runs.
use Rattle.std.specs.Prelude.{◌≡◌, ℕ, ◌<◌, ◌≤◌, min, true, false, ◌⊎◌, List, [], ◌∷◌, map, length, drop, replicate, Some, slice_index_or}
use Rattle.field.specs.Systems.{System}
use Rattle.store.specs.Store.{Store, at}
use Rattle.block.specs.Layouts.{row_count, data_rows, check_rows, data_bytes}
use Rattle.block.specs.Identification.{right_id}
use Rattle.block.specs.declared.layout.Layout.{Layout}
use Rattle.sector.specs.Answers.{Answer, taken, refused}
use Rattle.sector.specs.Terms.{fitted}
use Rattle.sector.specs.Bodies.{Closed}
use Rattle.sector.specs.Opening.{Contents, SameFrom}
use Rattle.sector.specs.Fillings.{lost_at, lost_count}
use Rattle.sector.specs.declared.terms.Terms.{Terms}
use Rattle.replay.specs.Answers.{Reply, answer_of}
use Rattle.replay.specs.Model.{data_after, unwritten, write_answers, closed_block, call_answer, call_after, memory_after, call_answers, contents_after, memory_at_end, AllFair, part_of, with_part}
use Rattle.replay.specs.declared.script.RowWrite.{RowWrite}
use Rattle.replay.specs.declared.script.Call.{Call}
use Rattle.replay.specs.declared.script.Call.TheVariants.{Read, Repair}

-- the terms of a sector of this layout and track pair
abbrev pub terms_of : Layout → ℕ → Terms
terms_of l p = record { layout = l; pair = p }

-- how many entries two lists have in common
abbrev pub shared : {A B : Type 0} → List A → List B → ℕ
shared xs ys = min (length xs) (length ys)

module _ (s : System) (t : Terms) where
  -- The answers, the memory and the rows' places at the end of a run are those of the model with these bodies.
  pub record Agrees (bodies : List (List ℕ)) (calls : List Call) (end : Store) (memory memory' : List ℕ) (replies : List Reply) : Type 0 where
    pub answers : map answer_of replies ≡ call_answers t s bodies (closed_block t s bodies) memory calls
    pub memory_is : memory' ≡ memory_at_end t s bodies (closed_block t s bodies) memory calls
    pub places : (r : ℕ) → r < row_count t.layout → at end r ≡ contents_after t s bodies (closed_block t s bodies) calls r

  -- A data row is read exactly where it is not lost or the lost rows do not outnumber the check rows, and gives its written bytes, or
  -- filler; every other read is refused with the number of lost rows.
  pub record ReadLaw (rows : ℕ → List ℕ) (P : Contents) (row : ℕ) (memory : List ℕ) (from to : ℕ) (a : Answer) (memory' : List ℕ) : Type 0 where
    pub had : (lost_at s t P row ≡ false) ⊎ (lost_count s t P ≤ check_rows t.layout) → (a ≡ taken []) × (memory' ≡ with_part memory from to (rows row))
    pub not_had : lost_at s t P row ≡ true → check_rows t.layout < lost_count s t P → (a ≡ refused 9 (lost_count s t P ∷ [])) × (memory' ≡ memory)

  -- A repair is taken exactly where the lost rows do not outnumber the check rows, and then every row's place holds its closed body
  -- under a right identification; otherwise it is refused with the number of lost rows.
  pub record RepairLaw (bodies : List (List ℕ)) (P Q : Contents) (a : Answer) : Type 0 where
    pub restored : lost_count s t P ≤ check_rows t.layout → (r : ℕ) → r < row_count t.layout
        → (block : List ℕ) × (Q r ≡ Some block) × (right_id t.layout t.pair r block ≡ true) × (drop 3 block ≡ slice_index_or bodies r [])
    pub counted : lost_count s t P ≤ check_rows t.layout → (n : ℕ) × (a ≡ taken (n ∷ []))
    pub refused_over : check_rows t.layout < lost_count s t P → (a ≡ refused 9 (lost_count s t P ∷ [])) × (Q ≡ P)

  -- the laws of reading and repairing, at whatever a fair list of calls has led to
  pub record Laws (rows : ℕ → List ℕ) (bodies : List (List ℕ)) (calls : List Call) : Type 0 where
    pub reads : (row from to : ℕ) (memory : List ℕ) → row < data_rows t.layout → length (part_of memory from to) ≡ data_bytes t.layout
        → let P = contents_after t s bodies (closed_block t s bodies) calls in
        ReadLaw rows P row memory from to (call_answer t s bodies P memory (Read row from to)) (memory_after t s bodies P memory (Read row from to))
    pub repairs : (memory : List ℕ)
        → let P = contents_after t s bodies (closed_block t s bodies) calls in
        RepairLaw bodies P (call_after t s bodies P Repair) (call_answer t s bodies P memory Repair)

  -- The promise. The written rows have exactly one closed sector; every fair run over it agrees with the model that has its bodies, and
  -- the model keeps the laws of reading and repairing; no place but those of the rows has changed.
  pub record Promise (writes : List RowWrite) (calls : List Call) (start end : Store) (memory memory' : List ℕ) (write_replies replies : List Reply) : Type 0 where
    pub marks : map answer_of write_replies ≡ write_answers t writes
    pub bodies : List (List ℕ)
    pub closed : Closed s t.layout (data_after t (unwritten t) writes) bodies
    pub only : (others : List (List ℕ)) → Closed s t.layout (data_after t (unwritten t) writes) others → others ≡ bodies
    pub agrees : AllFair t s bodies calls → Agrees bodies calls end memory memory' replies
    pub laws : AllFair t s bodies calls → Laws (data_after t (unwritten t) writes) bodies calls
    pub same : SameFrom (row_count t.layout) start end

  -- Where the terms do not fit, every write and every call is refused by one number, and the store and the memory stay as they were.
  pub record Unfit (start end : Store) (memory memory' : List ℕ) (write_replies replies : List Reply) : Type 0 where
    pub writes_refused : map answer_of write_replies ≡ replicate (length write_replies) (fitted s t start (taken []))
    pub calls_refused : map answer_of replies ≡ replicate (length replies) (fitted s t start (taken []))
    pub store_is : end ≡ start
    pub memory_is : memory' ≡ memory
