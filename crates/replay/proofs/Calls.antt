-- Lists of calls: one more call, and calls where the terms do not fit.
use Rattle.std.proofs.Common.{◌≡◌, ℕ, ◌+◌, ◌-◌, ◌<◌, ◌≤◌, false, eqb, ltb, ◌⊎◌, List, [], ◌∷◌, ◌++◌, map, length, get_or, take, drop, set, replicate, Some, None, Option, sym, refl, ap, ◌∙◌, ap₂}
use borrow.Rule.Slice.PartMut.{put_mid}
use Rattle.std.proofs.lemmas.Bool.{cond-false}
use Rattle.std.proofs.lemmas.Bool.Decides.{when_false}
use Rattle.field.specs.Systems.{System}
use Rattle.store.specs.Store.{Store, at, with_at}
use Rattle.block.specs.Layouts.{row_count, data_rows, data_bytes, block_width}
use Rattle.block.specs.Conditions.{condition_values}
use Rattle.sector.specs.Answers.{Answer, taken, guarded, is_taken}
use Rattle.sector.specs.Terms.{fits, fitted, data_guards}
use Rattle.sector.specs.Fillings.{condition_at}
use Rattle.sector.specs.Closing.{stored, Reads, Reading, Repairs}
use Rattle.sector.specs.declared.terms.Terms.{Terms}
use Rattle.replay.specs.Answers.{Reply, answer_of}
use Rattle.replay.specs.Model.{part_of, with_part}
use Rattle.replay.specs.Runs.{ReadPart, Applied, Ran}
use Rattle.replay.specs.declared.script.Call.{Call}
use Rattle.replay.specs.declared.script.Call.TheVariants.{PutBlock, Erase, Check, Read, Repair}
use Rattle.replay.proofs.Fitting.{unfitted_is}
use Rattle.replay.proofs.Cuts.{one_more}
use Rattle.replay.proofs.Memory.{part_there, part_missing, part_is, no_part, part_written, none_written, part_kept}

module _ (s : System) (t : Terms) where
  -- a read into a part that is there
  pub read_there : (st : Store) (memory buffer : List ℕ) (row from to : ℕ) (a : Answer) → from ≤ to → to ≤ length memory
      → Reading s t st row (take (to - from) (drop from memory)) buffer a
      → ReadPart s t st memory row from to a (put_mid from (to - from) memory buffer)
  read_there st memory buffer row from to a h k read =
      (buffer, rw (part_is memory from to (part_there memory from to h k)) read, part_written memory from to buffer h k)

  -- a read where there is no such part
  pub read_none : (st : Store) (memory buffer : List ℕ) (row from to : ℕ) (a : Answer) → ((from ≤ to) × (length memory < to)) ⊎ (to < from)
      → Reading s t st row [] buffer a
      → ReadPart s t st memory row from to a memory
  read_none st memory buffer row from to a h read =
      let out = part_missing memory from to h in
      (buffer, rw (no_part memory from to out) read, sym (none_written memory from to buffer out))

  pub applied_read : (st : Store) (memory memory' : List ℕ) (call : Call) (row from to : ℕ) (a b : Answer) → call ≡ Read row from to → b ≡ a
      → ReadPart s t st memory row from to a memory' → Applied s t st memory call b st memory'
  applied_read st memory memory' call row from to a b e f h =
      rw (e, f) (h.0, h.1, refl, h.2)

  -- a run, and then one more call
  ran_push : (st mid st' : Store) (memory kept memory' : List ℕ) (calls : List Call) (answers : List Answer) (c : Call) (a : Answer)
      → Ran s t st memory calls answers mid kept → Applied s t mid kept c a st' memory'
      → Ran s t st memory (calls ++ (c ∷ [])) (answers ++ (a ∷ [])) st' memory'
  ran_push st mid st' memory kept memory' [] [] c a h one =
      (st', memory', rw (h.0, h.1) at one, (refl, refl))
  ran_push st mid st' memory kept memory' [] (b ∷ answers) c a h one = absurd h
  ran_push st mid st' memory kept memory' (d ∷ calls) [] c a h one = absurd h
  ran_push st mid st' memory kept memory' (d ∷ calls) (b ∷ answers) c a h one =
      (h.0, h.1, h.2, ran_push h.0 mid st' h.1 kept memory' calls answers c a h.3 one)

  -- the step of a loop over the calls
  pub ran_more : (st mid st' : Store) (memory kept memory' : List ℕ) (calls : List Call) (replies : List Reply) (i : ℕ) (d : Call) (r : Reply)
      (u : Terms) → u ≡ t → i < length calls → i < length replies
      → Ran s t st memory (take i calls) (map answer_of (take i replies)) mid kept
      → Applied s u mid kept (get_or calls i d) (answer_of r) st' memory'
      → Ran s t st memory (take (i + 1) calls) (map answer_of (take (i + 1) (set replies i r))) st' memory'
  ran_more st mid st' memory kept memory' calls replies i d r u eu lc lr inv one =
      one_more answer_of (λ cs xs. Ran s t st memory cs xs st' memory') calls replies i d r lc lr
      (ran_push st mid st' memory kept memory' (take i calls) (map answer_of (take i replies)) (get_or calls i d) (answer_of r) inv (rw eu at one))

  -- where the terms do not fit, a call is refused by one number and changes nothing
  refused_stored : (st st' : Store) (a : Answer) (row : ℕ) (o : Option (List ℕ)) → fits s t st ≡ false → a ≡ fitted s t st (taken [])
      → st' ≡ stored s t a st row o → st' ≡ st
  refused_stored st st' a row o unfit ea es = es ∙ cond-false (is_taken a) (with_at st row o) st (ap is_taken ea ∙ unfit)

  applied_unfit : (st st' : Store) (memory memory' : List ℕ) (c : Call) (a : Answer) → fits s t st ≡ false
      → Applied s t st memory c a st' memory' → (a ≡ fitted s t st (taken [])) × (st' ≡ st) × (memory' ≡ memory)
  applied_unfit st st' memory memory' (PutBlock row block) a unfit h =
      let ea = h.1 ∙ unfitted_is s t st (guarded (ltb row (row_count t.layout)) 7 (guarded (eqb (length block.now) (block_width t.layout)) 8 (taken []))) unfit in
      (ea, refused_stored st st' a row (Some block.now) unfit ea h.2, h.3)
  applied_unfit st st' memory memory' (Erase row) a unfit h =
      let ea = h.0 ∙ unfitted_is s t st (guarded (ltb row (row_count t.layout)) 7 (taken [])) unfit in
      (ea, refused_stored st st' a row None unfit ea h.1, h.2)
  applied_unfit st st' memory memory' (Check row) a unfit h =
      (h.0 ∙ unfitted_is s t st (guarded (ltb row (row_count t.layout)) 7 (taken (condition_values (condition_at s t (at st) row)))) unfit, h.1, h.2)
  applied_unfit st st' memory memory' (Read row from to) a unfit h =
      let old = part_of memory from to in
      let buffer = h.0 in
      let eg = unfitted_is s t st (guarded (ltb row (data_rows t.layout)) 7 (guarded (eqb (length old) (data_bytes t.layout)) 8 (taken []))) unfit in
      let w : (a ≡ data_guards s t st row old) × (buffer ≡ old)
      = when_false (Reads s t st row old buffer a) ((a ≡ data_guards s t st row old) × (buffer ≡ old)) (ap is_taken eg ∙ unfit) h.1 in
      (w.0 ∙ eg, h.2, h.3 ∙ ap (with_part memory from to) w.1 ∙ part_kept memory from to)
  applied_unfit st st' memory memory' Repair a unfit h =
      let w : (a ≡ fitted s t st (taken [])) × (st' ≡ st)
      = when_false (Repairs s t st st' a) ((a ≡ fitted s t st (taken [])) × (st' ≡ st)) unfit h.0 in
      (w.0, w.1, h.1)

  -- and so is a whole list of calls
  pub ran_unfit : (st st' : Store) (memory memory' : List ℕ) (calls : List Call) (answers : List Answer) → fits s t st ≡ false
      → Ran s t st memory calls answers st' memory'
      → (answers ≡ replicate (length calls) (fitted s t st (taken []))) × (st' ≡ st) × (memory' ≡ memory)
  ran_unfit st st' memory memory' [] [] unfit h = (refl, h.0, h.1)
  ran_unfit st st' memory memory' [] (b ∷ answers) unfit h = absurd h
  ran_unfit st st' memory memory' (c ∷ calls) [] unfit h = absurd h
  ran_unfit st st' memory memory' (c ∷ calls) (b ∷ answers) unfit h =
      let one = applied_unfit st h.0 memory h.1 c b unfit h.2 in
      let all = ran_unfit h.0 st' h.1 memory' calls answers (ap (fits s t) one.1 ∙ unfit) h.3 in (
        ap₂ ◌∷◌ one.0 (rw one.1 at all.0),
        all.1 ∙ one.1,
        all.2 ∙ one.2,
      )
