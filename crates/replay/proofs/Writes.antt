-- Lists of writes: one more write, where the terms fit and where they do not.
use Rattle.std.proofs.Common.{◌≡◌, ℕ, ◌+◌, ◌<◌, ◌≤◌, Bool, true, false, cond, ◌&&◌, eqb, ltb, List, [], ◌∷◌, ◌++◌, map, length, get_or, take, drop, set, replicate, Some, None, MatchBool, sym, refl, ap, ◌∙◌, subst, ⊎_elim, arith, lit≤}
use Rattle.std.proofs.lemmas.List.{length-set, get_or-set_same, get_or-set_other, replicate_more, length_push}
use Rattle.std.proofs.lemmas.Bool.{cases_Bool, ltb-true, eqb-true, eqb-false}
use Rattle.std.proofs.lemmas.Bool.Decides.{when_true, when_false}
use Rattle.field.specs.Systems.{System}
use Rattle.store.specs.Store.{Store, Sound, at, with_at}
use Rattle.block.specs.Layouts.{row_count, data_rows, data_bytes}
use Rattle.block.specs.declared.layout.Layout.{Layout}
use Rattle.block.specs.declared.layout.Layout.TheVariants.{Audio, Video, Subcode}
use Rattle.sector.specs.Answers.{Answer, taken, guarded, is_taken}
use Rattle.sector.specs.Terms.{fits, fitted, data_guards}
use Rattle.sector.specs.Bodies.{block_of}
use Rattle.sector.specs.Opening.{open_data, SameFrom, RowStored, Writing}
use Rattle.sector.specs.declared.terms.Terms.{Terms}
use Rattle.replay.specs.Answers.{Reply, answer_of}
use Rattle.replay.specs.Model.{write_answer, write_answers, data_after_one, data_after}
use Rattle.replay.specs.Runs.{WroteAll, WritingAll}
use Rattle.replay.specs.declared.script.RowWrite.{RowWrite}
use Rattle.replay.proofs.Cuts.{one_more}
use Rattle.replay.proofs.Places.{same_self, same_then, same_path, same_with_at}
use Rattle.replay.proofs.Fitting.{guard_passed, fitted_is, unfitted_is, fit_places, fits_alike}

-- a sector marks no more rows than it has marks for, and its data rows are rows
rows_marked : (l : Layout) → data_rows l ≤ 149
rows_marked Audio = lit≤ tt
rows_marked Video = lit≤ tt
rows_marked Subcode = lit≤ tt

data_are_rows : (l : Layout) → data_rows l ≤ row_count l
data_are_rows Audio = lit≤ tt
data_are_rows Video = lit≤ tt
data_are_rows Subcode = lit≤ tt

-- what the data of the rows are after a row is put and marked
data_set : (l : Layout) (marks : List Bool) (st : Store) (row : ℕ) (block bytes : List ℕ) → row < length marks → row < length st.contents
    → take (data_bytes l) (drop 3 block) ≡ bytes
    → (r : ℕ) → open_data l (set marks row true) (at (with_at st row (Some block))) r ≡ cond (eqb r row) bytes (open_data l marks (at st) r)
data_set l marks st row block bytes lm lc e r = go (eqb r row) refl
  where
    go : (b : Bool) → eqb r row ≡ b → open_data l (set marks row true) (at (with_at st row (Some block))) r ≡ cond b bytes (open_data l marks (at st) r)
    go true same =
        let here : r ≡ row = eqb-true r row same in
        rw (here, get_or-set_same marks row true false lm, get_or-set_same st.contents row (Some block) None lc) e
    go false other =
        let apart : r ≡ row → ⊥ = eqb-false r row other in
        rw (get_or-set_other marks row r true false apart, get_or-set_other st.contents row r (Some block) None apart)

when_from : (b : Bool) (P Q : Type 0) → (b ≡ true → P) → (b ≡ false → Q) → MatchBool b P Q
when_from true P Q f g = f refl
when_from false P Q f g = g refl

module _ (s : System) (t : Terms) where
  -- what one write leaves where the terms fit
  pub record WroteOne (x : RowWrite) (old new : Store) (marks marked : List Bool) (a : Answer) : Type 0 where
    pub reply : a ≡ write_answer t x
    pub rows : (r : ℕ) → open_data t.layout marked (at new) r ≡ data_after_one t (open_data t.layout marks (at old)) x r
    pub same : SameFrom (row_count t.layout) old new
    pub marks_many : length marked ≡ 149

  write_taken : (x : RowWrite) (old new : Store) (marks marked : List Bool) (a : Answer) → fits s t old ≡ true → Sound old → length marks ≡ 149
      → is_taken (write_answer t x) ≡ true → a ≡ write_answer t x
      → RowStored s t x.row x.bytes.now old new marks marked → WroteOne x old new marks marked a
  write_taken x old new marks marked a fit sound many was_taken ea h =
      let l = t.layout in
      let row = x.row in
      let block = block_of l t.pair row h.body in
      let lt : row < data_rows l
      = ltb-true row (data_rows l) (guard_passed (ltb row (data_rows l)) 7 (guarded (eqb (length x.bytes.now) (data_bytes l)) 8 (taken [])) was_taken) in
      let lm = rows_marked l in
      let ld = data_are_rows l in
      let lp = fit_places s t old fit in
      let lc : row < length old.contents = omega (arith, sound.sized) in
      record {
        reply = ea;
        rows = λ r. rw (h.after, h.mark, was_taken) (data_set l marks old row block x.bytes.now (omega arith) lc h.front r);
        same = subst (SameFrom (row_count l) old) (sym h.after) (same_with_at (row_count l) old row (Some block) (omega arith));
        marks_many = ap length h.mark ∙ length-set marks row true ∙ many;
      }

  write_refused : (x : RowWrite) (old new : Store) (marks marked : List Bool) (a : Answer) → length marks ≡ 149
      → is_taken (write_answer t x) ≡ false → a ≡ write_answer t x → (new ≡ old) × (marked ≡ marks) → WroteOne x old new marks marked a
  write_refused x old new marks marked a many not_taken ea h =
      record {
        reply = ea;
        rows = λ r. rw (h.0, h.1, not_taken);
        same = same_path (row_count t.layout) old new h.0;
        marks_many = ap length h.1 ∙ many;
      }

  write_one : (x : RowWrite) (old new : Store) (marks marked : List Bool) (a : Answer) → fits s t old ≡ true → Sound old → length marks ≡ 149
      → Writing s t x.row x.bytes.now old new marks marked a → WroteOne x old new marks marked a
  write_one x old new marks marked a fit sound many h =
      let row = x.row in
      let bytes = x.bytes.now in
      let eg : data_guards s t old row bytes ≡ write_answer t x = fitted_is s t old fit (write_answer t x) in
      ⊎_elim
      (λ (e : is_taken (write_answer t x) ≡ true).
      write_taken x old new marks marked a fit sound many e (h.0 ∙ eg)
      (when_true (RowStored s t row bytes old new marks marked) ((new ≡ old) × (marked ≡ marks)) (ap is_taken eg ∙ e) h.1))
      (λ (e : is_taken (write_answer t x) ≡ false).
      write_refused x old new marks marked a many e (h.0 ∙ eg)
      (when_false (RowStored s t row bytes old new marks marked) ((new ≡ old) × (marked ≡ marks)) (ap is_taken eg ∙ e) h.1))
      (cases_Bool (is_taken (write_answer t x)))

  -- one more write, in the model
  answers_push : (xs : List RowWrite) (x : RowWrite) → write_answers t (xs ++ (x ∷ [])) ≡ write_answers t xs ++ (write_answer t x ∷ [])
  answers_push [] x = refl
  answers_push (y ∷ xs) x = ap (λ xs'. write_answer t y ∷ xs') (answers_push xs x)

  rows_push : (rows : ℕ → List ℕ) (xs : List RowWrite) (x : RowWrite) (r : ℕ) → data_after t rows (xs ++ (x ∷ [])) r ≡ data_after_one t (data_after t rows xs) x r
  rows_push rows [] x r = refl
  rows_push rows (y ∷ xs) x r = rows_push (data_after_one t rows y) xs x r

  -- the rows after some writes depend on each row before them alone
  pub rows_alike : (rows others : ℕ → List ℕ) → ((r : ℕ) → rows r ≡ others r) → (xs : List RowWrite) (r : ℕ) → data_after t rows xs r ≡ data_after t others xs r
  rows_alike rows others e [] r = e r
  rows_alike rows others e (x ∷ xs) r =
      rows_alike (data_after_one t rows x) (data_after_one t others x)
      (λ k. ap (λ (b : List ℕ). cond (is_taken (write_answer t x) && eqb k x.row) x.bytes.now b) (e k)) xs r

  -- a list of writes so far: the marks are as many as they were
  pub record WritingOn (writes : List RowWrite) (old new : Store) (marks marked : List Bool) (answers : List Answer) : Type 0 where
    pub fit : fits s t old ≡ true → WroteAll s t writes old new marks marked answers × (length marked ≡ 149)
    pub unfit : fits s t old ≡ false → (answers ≡ replicate (length writes) (fitted s t old (taken []))) × (new ≡ old)

  writes_push : (xs : List RowWrite) (x : RowWrite) (old mid new : Store) (marks some marked : List Bool) (answers : List Answer) (a : Answer)
      → WritingOn xs old mid marks some answers → Sound mid → Writing s t x.row x.bytes.now mid new some marked a
      → WritingOn (xs ++ (x ∷ [])) old new marks marked (answers ++ (a ∷ []))
  writes_push xs x old mid new marks some marked answers a inv sound h =
      let l = t.layout in
      record {
        fit = λ e.
            let so = inv.fit e in
            let all = so.0 in
            let one = write_one x mid new some marked a (fits_alike s t old mid all.same.places all.same.width ∙ e) sound so.1 h in (
              record {
                replies = rw (all.replies, one.reply) (sym (answers_push xs x));
                rows = λ r lt. rw (one.rows r, all.rows r lt) (sym (rows_push (open_data l marks (at old)) xs x r));
                same = same_then (row_count l) old mid new all.same one.same;
              },
              one.marks_many,
            );
        unfit = λ e.
            let so = inv.unfit e in
            let z = fitted s t old (taken []) in
            let em : fits s t mid ≡ false = ap (fits s t) so.1 ∙ e in
            let eg = unfitted_is s t mid (write_answer t x) em in
            let ea : a ≡ z = h.0 ∙ eg ∙ ap (λ (st : Store). fitted s t st (taken [])) so.1 in
            let w = when_false (RowStored s t x.row x.bytes.now mid new some marked) ((new ≡ mid) × (marked ≡ some)) (ap is_taken eg ∙ em) h.1 in (
              rw (so.0, ea, length_push xs x) (replicate_more (length xs) z),
              w.0 ∙ so.1,
            );
      }

  -- the start of a loop over the writes
  pub writes_none : (st : Store) (marks : List Bool) → length marks ≡ 149 → WritingOn [] st st marks marks []
  writes_none st marks many =
      record {
        fit = λ e. (record { replies = refl; rows = λ r lt. refl; same = same_self (row_count t.layout) st }, many);
        unfit = λ e. (refl, refl);
      }

  -- its step
  pub writes_more : (old mid new : Store) (marks some marked : List Bool) (writes : List RowWrite) (replies : List Reply) (i : ℕ) (d : RowWrite) (r : Reply) (a : Answer)
      (u : Terms) → u ≡ t → i < length writes → i < length replies
      → WritingOn (take i writes) old mid marks some (map answer_of (take i replies)) → Sound mid
      → Writing s u (get_or writes i d).row (get_or writes i d).bytes.now mid new some marked a → answer_of r ≡ a
      → WritingOn (take (i + 1) writes) old new marks marked (map answer_of (take (i + 1) (set replies i r)))
  writes_more old mid new marks some marked writes replies i d r a u eu lw lr inv sound h ea =
      let x = get_or writes i d in
      one_more answer_of (λ ws xs. WritingOn ws old new marks marked xs) writes replies i d r lw lr
      (writes_push (take i writes) x old mid new marks some marked (map answer_of (take i replies)) (answer_of r) inv sound
      (rw (eu, ← ea) at h))

  -- and its end
  pub writes_all : (old new : Store) (marks marked : List Bool) (writes : List RowWrite) (answers : List Answer)
      → WritingOn writes old new marks marked answers → WritingAll s t writes old new marks marked answers
  writes_all old new marks marked writes answers h =
      when_from (fits s t old) (WroteAll s t writes old new marks marked answers)
      ((answers ≡ replicate (length writes) (fitted s t old (taken []))) × (new ≡ old)) (λ e. (h.fit e).0) h.unfit
