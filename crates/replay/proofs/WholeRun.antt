-- A whole run: what the writes, the close and the calls leave, put together.
use Rattle.std.proofs.Common.{◌≡◌, ℕ, zero, suc, ◌<◌, Bool, true, false, List, [], map, length, get_or, replicate, refl, ap, ◌∙◌}
use Rattle.std.proofs.lemmas.Bool.{cond-false}
use Rattle.std.proofs.lemmas.Bool.Decides.{when_true, when_false}
use Rattle.field.specs.Systems.{System}
use Rattle.store.specs.Store.{Store, at}
use Rattle.block.specs.Layouts.{row_count, data_rows}
use Rattle.block.specs.declared.layout.Layout.{Layout}
use Rattle.sector.specs.Answers.{taken}
use Rattle.sector.specs.Terms.{fits, fitted}
use Rattle.sector.specs.Bodies.{Closed}
use Rattle.sector.specs.Opening.{data_in, filler, open_data, Written, Closes}
use Rattle.sector.specs.declared.terms.Terms.{Terms}
use Rattle.replay.specs.Answers.{Reply, answer_of}
use Rattle.replay.specs.Model.{data_after, unwritten}
use Rattle.replay.specs.Runs.{Ran, WroteAll, WritingAll}
use Rattle.replay.specs.Promise.{Promise, Unfit, terms_of}
use Rattle.replay.specs.declared.script.RowWrite.{RowWrite}
use Rattle.replay.specs.declared.script.Call.{Call}
use Rattle.replay.proofs.Fitting.{fits_alike}
use Rattle.replay.proofs.Calls.{ran_unfit}
use Rattle.replay.proofs.Writes.{rows_alike}
use Rattle.replay.proofs.Places.{same_then}
use Rattle.replay.proofs.Promised.{promised}

-- marks that were never set
unmarked : (n r : ℕ) → get_or (replicate n false) r false ≡ false
unmarked zero r = refl
unmarked (suc n) zero = refl
unmarked (suc n) (suc r) = unmarked n r

module _ (s : System) (t : Terms) where
  -- the bodies of a closed sector depend on each data row alone
  closed_alike : (rows others : ℕ → List ℕ) (bodies : List (List ℕ)) → ((r : ℕ) → r < data_rows t.layout → rows r ≡ others r)
      → Closed s t.layout rows bodies → Closed s t.layout others bodies
  closed_alike rows others bodies e h =
      record { many = h.many; each = h.each; front = λ r lt. h.front r lt ∙ e r lt; columns = h.columns }

  whole_run : (writes : List RowWrite) (calls : List Call) (start set_out closed end : Store) (marks marked : List Bool)
      (memory memory' : List ℕ) (write_replies replies : List Reply) → fits s t start ≡ true → marks ≡ replicate 149 false
      → WritingAll s t writes start set_out marks marked (map answer_of write_replies) → Closes s t marked set_out closed
      → Ran s t closed memory calls (map answer_of replies) end memory'
      → Promise s t writes calls start end memory memory' write_replies replies
  whole_run writes calls start set_out closed end marks marked memory memory' write_replies replies fit em writing closes ran =
      let l = t.layout in
      let rows = data_after t (unwritten t) writes in
      let wrote : WroteAll s t writes start set_out marks marked (map answer_of write_replies)
      = when_true (WroteAll s t writes start set_out marks marked (map answer_of write_replies))
      ((map answer_of write_replies ≡ replicate (length writes) (fitted s t start (taken []))) × (set_out ≡ start)) fit writing in
      let fit' : fits s t set_out ≡ true = fits_alike s t start set_out wrote.same.places wrote.same.width ∙ fit in
      let written : Written s t (open_data l marked (at set_out)) set_out closed
      = when_true (Written s t (open_data l marked (at set_out)) set_out closed) (closed ≡ set_out) fit' closes in
      let at_first : (r : ℕ) → open_data l marks (at start) r ≡ unwritten t r
      = λ r. cond-false (get_or marks r false) (data_in l (at start r)) (filler l)
      (ap (λ (ms : List Bool). get_or ms r false) em ∙ unmarked 149 r) in
      let same_rows : (r : ℕ) → r < data_rows l → open_data l marked (at set_out) r ≡ rows r
      = λ r lt. wrote.rows r lt ∙ rows_alike s t (open_data l marks (at start)) (unwritten t) at_first writes r in
      let is_closed : Closed s l rows written.bodies = closed_alike (open_data l marked (at set_out)) rows written.bodies same_rows written.closed in
      let same = same_then (row_count l) start set_out closed wrote.same written.same in
      promised s t writes calls start closed end memory memory' write_replies replies written.bodies fit wrote.replies is_closed written.places same ran

  unfitting : (writes : List RowWrite) (calls : List Call) (start set_out closed end : Store) (marks marked : List Bool)
      (memory memory' : List ℕ) (write_replies replies : List Reply) → fits s t start ≡ false
      → length write_replies ≡ length writes → length replies ≡ length calls
      → WritingAll s t writes start set_out marks marked (map answer_of write_replies) → Closes s t marked set_out closed
      → Ran s t closed memory calls (map answer_of replies) end memory'
      → Unfit s t start end memory memory' write_replies replies
  unfitting writes calls start set_out closed end marks marked memory memory' write_replies replies unfit many_writes many_calls writing closes ran =
      let l = t.layout in
      let wrote = when_false (WroteAll s t writes start set_out marks marked (map answer_of write_replies))
      ((map answer_of write_replies ≡ replicate (length writes) (fitted s t start (taken []))) × (set_out ≡ start)) unfit writing in
      let same : closed ≡ start
      = when_false (Written s t (open_data l marked (at set_out)) set_out closed) (closed ≡ set_out) (ap (fits s t) wrote.1 ∙ unfit) closes ∙ wrote.1 in
      let so = ran_unfit s t closed end memory memory' calls (map answer_of replies) (ap (fits s t) same ∙ unfit) ran in
      record {
        writes_refused = rw many_writes wrote.0;
        calls_refused = rw (many_calls, ← same) so.0;
        store_is = so.1 ∙ same;
        memory_is = so.2;
      }

-- what a run comes to, whether the terms fit or not
pub record PromiseKept (s : System) (t : Terms) (writes : List RowWrite) (calls : List Call) (start end : Store) (memory memory' : List ℕ) (write_replies replies : List Reply)
    : Type 0 where
  pub fit : fits s t start ≡ true → Promise s t writes calls start end memory memory' write_replies replies
  pub unfit : fits s t start ≡ false → Unfit s t start end memory memory' write_replies replies

pub terms_are : (u : Terms) (l : Layout) (p : ℕ) → u.layout ≡ l → u.pair ≡ p → u ≡ terms_of l p
terms_are u l p el ep = ap (λ (x : Layout). terms_of x u.pair) el ∙ ap (terms_of l) ep

module _ (s : System) (t : Terms) where
  -- a whole run, over stores of any kind, with the terms at each step
  pub promise_kept : {X : Type 0} (St : X → Store) → (u v w : Terms) → u ≡ t → v ≡ u → w ≡ v
      → (writes : List RowWrite) (calls : List Call) (marks marked : List Bool) (memory memory' : List ℕ) (write_replies replies : List Reply)
      → marks ≡ replicate 149 false → length write_replies ≡ length writes → length replies ≡ length calls
      → (start opened wrote closed ran end : X) → opened ≡ start → end ≡ ran
      → WritingAll s u writes (St opened) (St wrote) marks marked (map answer_of write_replies)
      → Closes s v marked (St wrote) (St closed)
      → Ran s w (St closed) memory calls (map answer_of replies) (St ran) memory'
      → PromiseKept s t writes calls (St start) (St end) memory memory' write_replies replies
  promise_kept St u v w eu ev ew writes calls marks marked memory memory' write_replies replies em many_writes many_calls start opened wrote closed ran end eo ee
      writing closes runs =
      let writing' = rw (eu, eo) at writing in
      let closes' = rw (ev, eu) at closes in
      let runs' = rw (ew, ev, eu, ← ee) at runs in
      record {
        fit = λ e. whole_run s t writes calls (St start) (St wrote) (St closed) (St end) marks marked memory memory' write_replies replies e em writing' closes' runs';
        unfit = λ e.
            unfitting s t writes calls (St start) (St wrote) (St closed) (St end) marks marked memory memory' write_replies replies e many_writes many_calls
            writing' closes' runs';
      }
