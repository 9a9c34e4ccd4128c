-- One call: it answers and leaves what the model does, and changes no place that is no row's.
use Rattle.std.proofs.Common.{◌≡◌, ℕ, ◌*◌, ◌<◌, ◌≤◌, Bool, true, false, cond, not, ◌&&◌, ◌||◌, eqb, ltb, leb, ◌⊎◌, List, [], ◌∷◌, length, get_or, take, Some, None, MatchBool, Option, sym, refl, ap, ◌∙◌, inl, inr, arith}
use Rattle.std.proofs.lemmas.List.{length-set, length-take-le, get_or-take}
use Rattle.std.proofs.lemmas.Bool.{ltb-true, leb-true, leb-false}
use Rattle.field.specs.Systems.{System, Symbol}
use Rattle.code.specs.Codewords.{Symbols}
use Rattle.grid.specs.Grids.{row_symbols, data_symbols}
use Rattle.store.specs.Store.{Store, at, with_at}
use Rattle.byte_string.proofs.Bytes.{bytes_take}
use Rattle.block.specs.Layouts.{shape_of, row_count, data_rows, check_rows, data_bytes, block_width}
use Rattle.block.specs.Conditions.{is_clean, symbols_in}
use Rattle.sector.specs.Answers.{Answer, taken, refused, guarded, is_taken}
use Rattle.sector.specs.Terms.{fits}
use Rattle.sector.specs.Bodies.{block_of, Closed}
use Rattle.sector.specs.Opening.{SameFrom}
use Rattle.sector.specs.Fillings.{condition_at, lost_at, lost_count, broken_count, Filling, NoFilling}
use Rattle.sector.specs.Closing.{stored, Holds, Reads, Remade, Rewritten, Repairs}
use Rattle.sector.specs.declared.terms.Terms.{Terms}
use Rattle.sector.proofs.Strings.{length_symbols_in, same_bytes, symbols_in_take}
use Rattle.sector.proofs.Fronts.{same_row}
use Rattle.sector.proofs.Words.{length_word}
use Rattle.replay.specs.Model.{part_of, with_part, replaced, closed_block, recoverable, call_answer, call_after, memory_after}
use Rattle.replay.specs.Runs.{Applied}
use Rattle.replay.specs.declared.script.Call.{Call}
use Rattle.replay.specs.declared.script.Call.TheVariants.{PutBlock, Erase, Check, Read, Repair}
use Rattle.replay.proofs.Fitting.{guard_passed, fitted_is, fitted_under}
use Rattle.replay.proofs.Places.{at_with_at, all_there, same_self, same_path, same_with_at}
use Rattle.replay.proofs.Memory.{part_kept}
use Rattle.replay.proofs.Rows.{sent, Good, word_sent, clean_body}
use Rattle.replay.proofs.Fillings.{own, own_filling, filling_row}

-- what a call answers and leaves is what the model answers and leaves, of what the store held
pub record Follows (s : System) (t : Terms) (bodies : List (List ℕ)) (st : Store) (memory : List ℕ) (c : Call) (a : Answer) (st' : Store) (memory' : List ℕ) : Type 0 where
  pub answer_is : a ≡ call_answer t s bodies (at st) memory c
  pub memory_is : memory' ≡ memory_after t s bodies (at st) memory c
  pub places : (r : ℕ) → r < row_count t.layout → at st' r ≡ call_after t s bodies (at st) c r
  pub seated : row_count t.layout ≤ length st'.contents

module _ (s : System) (t : Terms) where
  same_stored : (st : Store) (row : ℕ) (o : Option (List ℕ)) (b : Bool) → (b ≡ true → row < row_count t.layout)
      → SameFrom (row_count t.layout) st (cond b (with_at st row o) st)
  same_stored st row o true l = same_with_at (row_count t.layout) st row o (l refl)
  same_stored st row o false l = same_self (row_count t.layout) st

  -- what is stored at a row stands at no other place
  same_guarded : (st st' : Store) (row : ℕ) (o : Option (List ℕ)) (a x : Answer) → a ≡ x → (is_taken x ≡ true → row < row_count t.layout)
      → st' ≡ stored s t a st row o → SameFrom (row_count t.layout) st st'
  same_guarded st st' row o a x e l h =
      rw (h, e) (same_stored st row o (is_taken x) l)

  same_repaired : (st st' : Store) (a : Answer) (few : Bool) → leb (lost_count s t (at st)) (check_rows t.layout) ≡ few → Repairs s t st st' a
      → SameFrom (row_count t.layout) st st'
  same_repaired st st' a true e h = go (h.filled (leb-true (lost_count s t (at st)) (check_rows t.layout) e))
    where
      go : ((rows : List (Symbols s)) × Filling s t (at st) rows × (a ≡ taken (broken_count s t (at st) ∷ [])) × Rewritten s t rows st st')
          ⊎ (NoFilling s t (at st) × (a ≡ refused 10 []) × (st' ≡ st)) → SameFrom (row_count t.layout) st st'
      go (inl f) = f.3.same
      go (inr f) = same_path (row_count t.layout) st st' f.2
  same_repaired st st' a false e h = same_path (row_count t.layout) st st' (h.over (leb-false (lost_count s t (at st)) (check_rows t.layout) e)).1

  same_repairing : (st st' : Store) (a x : Answer) (b : Bool) → MatchBool b (Repairs s t st st' a) ((a ≡ x) × (st' ≡ st)) → SameFrom (row_count t.layout) st st'
  same_repairing st st' a x true h = same_repaired st st' a (leb (lost_count s t (at st)) (check_rows t.layout)) refl h
  same_repairing st st' a x false h = same_path (row_count t.layout) st st' h.1

  -- no call changes a place that is no row's, fair or not
  pub call_same : (st : Store) (memory : List ℕ) (c : Call) (a : Answer) (st' : Store) (memory' : List ℕ) → Applied s t st memory c a st' memory'
      → SameFrom (row_count t.layout) st st'
  call_same st memory (PutBlock row block) a st' memory' h =
      let sized : Answer = guarded (eqb (length block.now) (block_width t.layout)) 8 (taken []) in
      let asked : Answer = guarded (ltb row (row_count t.layout)) 7 sized in
      same_guarded st st' row (Some block.now) a _ h.1
      (λ e. ltb-true row (row_count t.layout) (guard_passed (ltb row (row_count t.layout)) 7 sized (fitted_under s t st asked e))) h.2
  call_same st memory (Erase row) a st' memory' h =
      let asked : Answer = guarded (ltb row (row_count t.layout)) 7 (taken []) in
      same_guarded st st' row None a _ h.0
      (λ e. ltb-true row (row_count t.layout) (guard_passed (ltb row (row_count t.layout)) 7 (taken []) (fitted_under s t st asked e))) h.1
  call_same st memory (Check row) a st' memory' h = same_path (row_count t.layout) st st' h.1
  call_same st memory (Read row from to) a st' memory' h = same_path (row_count t.layout) st st' h.2
  call_same st memory Repair a st' memory' h = same_repairing st st' a _ (fits s t st) h.0

  module _ (rows : ℕ → List ℕ) (bodies : List (List ℕ)) (closed : Closed s t.layout rows bodies)
      (few : row_count t.layout < s.order) (short : row_symbols s (shape_of t.layout) < s.order) where
    abbrev n : ℕ
    n = row_count t.layout

    abbrev w : ℕ
    w = data_symbols s (shape_of t.layout)

    -- the data bytes of a row's closed body
    abbrev data_of : ℕ → List ℕ
    data_of r = take (data_bytes t.layout) (get_or bodies r [])

    -- a buffer with the data symbols of a closed body has its data bytes
    data_is : (r : ℕ) → r < n → (xs : Symbols s) (buffer : List ℕ) → Holds s t xs buffer → xs ≡ take w (sent s t bodies r) → buffer ≡ data_of r
    data_is r lr xs buffer h e =
        let body = closed.each r lr in
        let long = body.long in
        let fit : data_bytes t.layout ≤ length (get_or bodies r []) = omega arith in
        same_bytes s buffer (data_of r) h.bytes (bytes_take (data_bytes t.layout) (get_or bodies r []) body.bytes)
        (h.long ∙ sym (length-take-le (data_bytes t.layout) (get_or bodies r []) fit))
        (h.are ∙ e ∙ sym (symbols_in_take s (data_bytes t.layout) (get_or bodies r []) fit))

    -- a body with the data symbols of a closed body is that body
    body_is : (r : ℕ) → r < n → (xs : Symbols s) (o : Option (List ℕ)) → Remade s t r xs o → xs ≡ take w (sent s t bodies r) → o ≡ closed_block t s bodies r
    body_is r lr xs o h e =
        let new = h.body in
        let body = closed.each r lr in
        let nil : Symbol s.order = s.on.nil in
        let long : length new ≡ length (get_or bodies r []) = h.is.long ∙ sym body.long in
        let word : symbols_in s new ≡ sent s t bodies r =
        same_row s t.layout short (symbols_in s new) (sent s t bodies r)
        (length_symbols_in s new ∙ ap (λ m. m * s.per) h.is.long) (length_word s t.layout rows bodies closed r lr)
        h.is.codeword body.codeword
        (λ p lp.
        sym (get_or-take w (symbols_in s new) p nil lp) ∙ ap (λ (ys : Symbols s). get_or ys p nil) (h.front ∙ e)
        ∙ get_or-take w (sent s t bodies r) p nil lp)
        in
        h.block
        ∙ ap (λ (b : List ℕ). Some (block_of t.layout t.pair r b))
        (same_bytes s new (get_or bodies r []) h.is.bytes body.bytes long word)

    module _ (st : Store) (fit : fits s t st ≡ true) (seats : n ≤ length st.contents) (good : Good s t bodies (at st)) where
      long_stored : (row : ℕ) (o : Option (List ℕ)) (b : Bool) → n ≤ length (cond b (with_at st row o) st).contents
      long_stored row o true = let e = length-set st.contents row o in omega arith
      long_stored row o false = seats

      put_at : (row : ℕ) (o : Option (List ℕ)) (x y : Bool) → ltb row n ≡ x → (r : ℕ)
          → at (stored s t (guarded x 7 (guarded y 8 (taken []))) st row o) r ≡ cond (x && y) (replaced (at st) row o) (at st) r
      put_at row o true true e r = let l = ltb-true row n e in at_with_at st row o (omega arith) r
      put_at row o true false e r = refl
      put_at row o false y e r = refl

      erased_at : (row : ℕ) (o : Option (List ℕ)) (x : Bool) → ltb row n ≡ x → (r : ℕ)
          → at (stored s t (guarded x 7 (taken [])) st row o) r ≡ cond x (replaced (at st) row o) (at st) r
      erased_at row o true e r = let l = ltb-true row n e in at_with_at st row o (omega arith) r
      erased_at row o false e r = refl

      -- reading a data row into a fitting buffer
      reads_is : (row : ℕ) (old new : List ℕ) (a : Answer) → row < n → Reads s t st row old new a → (lost small : Bool)
          → lost_at s t (at st) row ≡ lost → leb (lost_count s t (at st)) (check_rows t.layout) ≡ small
          → (a ≡ cond (not lost || small) (taken []) (refused 9 (lost_count s t (at st) ∷ []))) × (new ≡ cond (not lost || small) (data_of row) old)
      reads_is row old new a lr h false small e f =
          let d = h.direct e in
          (d.0, data_is row lr (take w _) new d.1 (ap (take w) (word_sent s t bodies rows closed short row lr (at st row) (good row lr) e)))
      reads_is row old new a lr h true true e f = go (h.filled e some)
        where
          some : lost_count s t (at st) ≤ check_rows t.layout
          some = leb-true (lost_count s t (at st)) (check_rows t.layout) f

          go : ((D : List (Symbols s)) × Filling s t (at st) D × (a ≡ taken []) × Holds s t (get_or D row []) new)
              ⊎ (NoFilling s t (at st) × (a ≡ refused 10 []) × (new ≡ old)) → (a ≡ taken []) × (new ≡ data_of row)
          go (inl g) = (g.2, data_is row lr (get_or g.0 row []) new g.3 (filling_row s t few rows bodies closed short (at st) good g.0 g.1 some row lr))
          go (inr g) = absurd (g.0 (own s t few rows bodies closed short) (own_filling s t few rows bodies closed short (at st) good))
      reads_is row old new a lr h true false e f = h.over e (leb-false (lost_count s t (at st)) (check_rows t.layout) f)

      put_part : (memory : List ℕ) (from to : ℕ) (xs new : List ℕ) (k : ℕ) (ns : List ℕ) (b : Bool) → new ≡ cond b xs (part_of memory from to)
          → with_part memory from to new ≡ cond (is_taken (cond b (taken []) (refused k ns))) (with_part memory from to xs) memory
      put_part memory from to xs new k ns true e = ap (with_part memory from to) e
      put_part memory from to xs new k ns false e = ap (with_part memory from to) e ∙ part_kept memory from to

      reading_is : (memory : List ℕ) (row from to : ℕ) (new : List ℕ) (a : Answer) (x y : Bool) → ltb row (data_rows t.layout) ≡ x
          → MatchBool (is_taken (guarded x 7 (guarded y 8 (taken [])))) (Reads s t st row (part_of memory from to) new a)
          ((a ≡ guarded x 7 (guarded y 8 (taken []))) × (new ≡ part_of memory from to))
          → let answer : Answer = guarded x 7 (guarded y 8 (cond (recoverable t s bodies (at st) row) (taken []) (refused 9 (lost_count s t (at st) ∷ [])))) in
          (a ≡ answer) × (with_part memory from to new ≡ cond (is_taken answer) (with_part memory from to (data_of row)) memory)
      reading_is memory row from to new a true true e h =
          let l = ltb-true row (data_rows t.layout) e in
          let both = reads_is row (part_of memory from to) new a (omega arith) h (lost_at s t (at st) row) (leb (lost_count s t (at st)) (check_rows t.layout)) refl refl in
          (both.0, put_part memory from to (data_of row) new 9 (lost_count s t (at st) ∷ []) (recoverable t s bodies (at st) row) both.1)
      reading_is memory row from to new a true false e h = (h.0, ap (with_part memory from to) h.1 ∙ part_kept memory from to)
      reading_is memory row from to new a false y e h = (h.0, ap (with_part memory from to) h.1 ∙ part_kept memory from to)

      -- the places after a repair
      rewritten_at : (D : List (Symbols s)) (st' : Store) → Filling s t (at st) D → lost_count s t (at st) ≤ check_rows t.layout → Rewritten s t D st st'
          → (r : ℕ) → r < n → (b : Bool) → is_clean (condition_at s t (at st) r) ≡ b → at st' r ≡ cond b (at st r) (closed_block t s bodies r)
      rewritten_at D st' f some h r lr true e = h.kept r lr e
      rewritten_at D st' f some h r lr false e =
          body_is r lr (get_or D r []) (at st' r) (h.made r lr e) (filling_row s t few rows bodies closed short (at st) good D f some r lr)

      restored_some : (r : ℕ) → r < n → (b : Bool) → is_clean (condition_at s t (at st) r) ≡ b → (x : List ℕ) × (cond b (at st r) (closed_block t s bodies r) ≡ Some x)
      restored_some r lr true e = let h = clean_body s t bodies rows closed short r lr (at st r) (good r lr) e in (h.0, h.1)
      restored_some r lr false e = (block_of t.layout t.pair r (get_or bodies r []), refl)

      repairs_is : (st' : Store) (a : Answer) → Repairs s t st st' a → (small : Bool) → leb (lost_count s t (at st)) (check_rows t.layout) ≡ small
          → (a ≡ cond small (taken (broken_count s t (at st) ∷ [])) (refused 9 (lost_count s t (at st) ∷ [])))
          × ((r : ℕ) → r < n → at st' r ≡ cond small (λ k. cond (is_clean (condition_at s t (at st) k)) (at st k) (closed_block t s bodies k)) (at st) r)
          × (n ≤ length st'.contents)
      repairs_is st' a h true e = go (h.filled some)
        where
          some : lost_count s t (at st) ≤ check_rows t.layout
          some = leb-true (lost_count s t (at st)) (check_rows t.layout) e

          go : ((D : List (Symbols s)) × Filling s t (at st) D × (a ≡ taken (broken_count s t (at st) ∷ [])) × Rewritten s t D st st')
              ⊎ (NoFilling s t (at st) × (a ≡ refused 10 []) × (st' ≡ st))
              → (a ≡ taken (broken_count s t (at st) ∷ []))
              × ((r : ℕ) → r < n → at st' r ≡ cond (is_clean (condition_at s t (at st) r)) (at st r) (closed_block t s bodies r))
              × (n ≤ length st'.contents)
          go (inl g) =
              let now_at : (r : ℕ) → r < n → at st' r ≡ cond (is_clean (condition_at s t (at st) r)) (at st r) (closed_block t s bodies r) = λ r lr.
              rewritten_at g.0 st' g.1 some g.3 r lr (is_clean (condition_at s t (at st) r)) refl
              in (
                g.2,
                now_at,
                all_there st' n (λ r lr. let x = restored_some r lr (is_clean (condition_at s t (at st) r)) refl in (x.0, now_at r lr ∙ x.1)),
              )
          go (inr g) = absurd (g.0 (own s t few rows bodies closed short) (own_filling s t few rows bodies closed short (at st) good))
      repairs_is st' a h false e =
          let over = h.over (leb-false (lost_count s t (at st)) (check_rows t.layout) e) in (
            over.0,
            (λ r lr. ap (λ (z : Store). at z r) over.1),
            rw over.1 seats,
          )

      pub call_follows : (memory : List ℕ) (c : Call) (a : Answer) (st' : Store) (memory' : List ℕ) → Applied s t st memory c a st' memory'
          → Follows s t bodies st memory c a st' memory'
      call_follows memory (PutBlock row block) a st' memory' h =
          let x = ltb row n in
          let y = eqb (length block.now) (block_width t.layout) in
          let asked : Answer = guarded x 7 (guarded y 8 (taken [])) in
          let e : a ≡ asked = h.1 ∙ fitted_is s t st fit asked in
          let f : st' ≡ stored s t asked st row (Some block.now) = rw e at h.2 in
          record {
            answer_is = e;
            memory_is = h.3;
            places = λ r lr. rw f (put_at row (Some block.now) x y refl r);
            seated = rw f (long_stored row (Some block.now) (is_taken asked));
          }
      call_follows memory (Erase row) a st' memory' h =
          let x = ltb row n in
          let asked : Answer = guarded x 7 (taken []) in
          let e : a ≡ asked = h.0 ∙ fitted_is s t st fit asked in
          let f : st' ≡ stored s t asked st row None = rw e at h.1 in
          record {
            answer_is = e;
            memory_is = h.2;
            places = λ r lr. rw f (erased_at row None x refl r);
            seated = rw f (long_stored row None (is_taken asked));
          }
      call_follows memory (Check row) a st' memory' h = record {
        answer_is = h.0 ∙ fitted_is s t st fit _;
        memory_is = h.2;
        places = λ r lr. ap (λ (z : Store). at z r) h.1;
        seated = rw h.1 seats;
      }
      call_follows memory (Read row from to) a st' memory' h =
          let x = ltb row (data_rows t.layout) in
          let y = eqb (length (part_of memory from to)) (data_bytes t.layout) in
          let asked : Answer = guarded x 7 (guarded y 8 (taken [])) in
          let both =
          reading_is memory row from to h.0 a x y refl
          (rw (fitted_is s t st fit asked) at h.1)
          in
          record {
            answer_is = both.0;
            memory_is = h.3 ∙ both.1;
            places = λ r lr. ap (λ (z : Store). at z r) h.2;
            seated = rw h.2 seats;
          }
      call_follows memory Repair a st' memory' h =
          let all =
          repairs_is st' a (rw fit at h.0) (leb (lost_count s t (at st)) (check_rows t.layout)) refl
          in
          record { answer_is = all.0; memory_is = h.1; places = all.1; seated = all.2 }
