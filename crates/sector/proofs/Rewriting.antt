-- Putting the rows that are flagged, one after another; and what a repair answers.
use Rattle.std.proofs.Common.{◌≡◌, ℕ, ◌+◌, ◌*◌, ◌<◌, Bool, true, false, cond, not, List, [], ◌∷◌, length, get_or, take, Some, Ok, Err, Option, Result, sym, refl, ap, ◌∙◌, subst, inl, inr, arith, get_or-take, MatchBool, MatchResult}
use Rattle.std.proofs.lemmas.List.{ext_get_or}
use Rattle.std.proofs.lemmas.List.FromFn.{get_or-map-range_with_len}
use Rattle.byte_string.specs.Bytes.{Bytes}
use Rattle.field.specs.Systems.{System, Symbol, symbol}
use Rattle.code.specs.Codewords.{Symbols, Codeword, count}
use Rattle.code.specs.declared.error.CodeError.{CodeError}
use Rattle.grid.specs.Packing.{symbol_at}
use Rattle.grid.specs.Grids.{row_symbols, data_symbols, check_symbols, fitting, row, RowsEncoded}
use Rattle.grid.specs.declared.shape.Shape.{Shape}
use Rattle.grid.proofs.Fitting.{parts_of_row}
use Rattle.grid.proofs.LineWork.{length_line}
use Rattle.store.specs.Store.{Store, at, with_at}
use Rattle.block.specs.Layouts.{shape_of, row_count, body_bytes}
use Rattle.block.specs.Conditions.{is_clean, symbols_in}
use Rattle.sector.specs.Answers.{Answer, taken, refused, refusal_of}
use Rattle.sector.specs.Bodies.{Body, block_of}
use Rattle.sector.specs.Flat.{body_at}
use Rattle.sector.specs.Fillings.{condition_at}
use Rattle.sector.specs.Recovery.{data_of, Recovered, RowsWritten}
use Rattle.sector.specs.Closing.{Rewritten, Repairs, Repairing}
use Rattle.sector.specs.declared.refusal.Refusal.{Refusal}
use Rattle.sector.specs.declared.refusal.Refusal.TheVariants.{Pair, Places, Width, Symbols as TooFewSymbols, Row, Length, Lost, NoContents}
use Rattle.sector.specs.declared.terms.Terms.{Terms}
use Rattle.sector.specs.Terms.{Fits, fitted}
use Rattle.sector.proofs.Fits.{fits_true}
use Rattle.sector.proofs.Flat.{length_body, bytes_body, row_is, get_or_row, get_or_symbols, flat_fitting}
use Rattle.sector.proofs.Recovery.{row_of, row_long}
use Rattle.sector.proofs.Rowwise.{Done, done_more, done_kept}

module _ (t : Terms) (flat : List ℕ) (flags : List Bool) (old : Store) where
  -- what a row's place is to hold
  abbrev pub target : ℕ → Option (List ℕ)
  target r = cond (get_or flags r false) (Some (block_of t.layout t.pair r (body_at t.layout flat r))) (at old r)

  pub flagged_more : (n : ℕ) (now new : Store) (body : List ℕ) → Done target n old now → n < length old.contents → get_or flags n false ≡ true → body ≡ body_at t.layout flat n
      → new ≡ with_at now n (Some (block_of t.layout t.pair n body)) → Done target (n + 1) old new
  flagged_more n now new body d h flag eb e =
      let here : target n ≡ Some (block_of t.layout t.pair n (body_at t.layout flat n)) =
      ap (λ b. cond b (Some (block_of t.layout t.pair n (body_at t.layout flat n))) (at old n)) flag
      in
      done_more target n old now new d h
      (e ∙ ap (λ (b : List ℕ). with_at now n (Some (block_of t.layout t.pair n b))) eb ∙ ap (with_at now n) (sym here))

  pub unflagged_more : (n : ℕ) (now : Store) → Done target n old now → get_or flags n false ≡ false → Done target (n + 1) old now
  unflagged_more n now d flag =
      done_kept target n old now d (ap (λ b. cond b (Some (block_of t.layout t.pair n (body_at t.layout flat n))) (at old n)) flag)

module _ (s : System) (t : Terms) (old : Store) where
  -- a repair that cannot be done
  -- what a repair leaves, where the terms fit
  pub repairing : (new : Store) (a : Answer) → Fits s t old → Repairs s t old new a → Repairing s t old new a
  repairing new a f r = subst (λ b. MatchBool b (Repairs s t old new a) ((a ≡ fitted s t old (taken [])) × (new ≡ old))) (sym (fits_true s t old f)) r

  -- what was worked out from a store that is the same
  pub worked_out : (t' : Terms) (old' : Store) (flat : List ℕ) (broken : List Bool) (r : Result (Unit {0}) Refusal) → t' ≡ t → old' ≡ old
      → Recovered s t' (at old') flat broken r → Recovered s t (at old) flat broken r
  worked_out t' old' flat broken r e f h =
      subst (λ x. Recovered s x (at old) flat broken r) e (subst (λ st. Recovered s t' (at st) flat broken r) f h)

  pub repair_refused : (flat : List ℕ) (broken : List Bool) (e : Refusal) → Recovered s t (at old) flat broken (Err e) → Repairs s t old old (refusal_of e)
  repair_refused flat broken (Lost n) h = record {
    over = λ _. (ap (λ k. refused 9 (k ∷ [])) h.1, refl);
    filled = λ k. absurd (let l = h.0 in let z : ⊥ = omega arith in z);
  }
  repair_refused flat broken NoContents h = record {
    over = λ k. absurd (let l = h.0 in let z : ⊥ = omega arith in z);
    filled = λ _. inr (h.1, refl, refl);
  }
  repair_refused flat broken Pair h = absurd h
  repair_refused flat broken Places h = absurd h
  repair_refused flat broken Width h = absurd h
  repair_refused flat broken TooFewSymbols h = absurd h
  repair_refused flat broken Row h = absurd h
  repair_refused flat broken Length h = absurd h

  module _ (flat made : List ℕ) (broken : List Bool) (long : length flat ≡ row_count t.layout * body_bytes t.layout)
      (encoded : RowsEncoded s (shape_of t.layout) flat made) (bytes : Bytes made) where
    abbrev data' : ℕ
    data' = data_symbols s (shape_of t.layout)

    abbrev Nil : Symbol s.order
    Nil = s.on.nil

    long' : length made ≡ row_count t.layout * body_bytes t.layout
    long' = encoded.long ∙ long

    body_is : (r : ℕ) → r < row_count t.layout → Body s t.layout (body_at t.layout made r)
    body_is r h = record {
      long = length_body t.layout made r long' h;
      bytes = bytes_body t.layout made r bytes;
      codeword = subst (Codeword s (check_symbols s (shape_of t.layout))) (row_is s t.layout made long' r h) (encoded.each r h).codeword;
    }

    -- the data symbols stay
    front_is : (r : ℕ) → r < row_count t.layout → take data' (symbols_in s (body_at t.layout made r)) ≡ get_or (data_of s t (at old) flat) r []
    front_is r h =
        let parts = parts_of_row s (shape_of t.layout) in
        let l1 = row_long s t (at old) flat long r h in
        let l2 : length (take data' (symbols_in s (body_at t.layout made r))) ≡ data' =
        ap length (sym (row_of s t (at old) made r h)) ∙ row_long s t (at old) made long' r h
        in
        ext_get_or Nil (take data' (symbols_in s (body_at t.layout made r))) (get_or (data_of s t (at old) flat) r []) (l2 ∙ sym l1)
        (λ j l.
        let lj : j < data' = omega arith in
        let n : length (row s (shape_of t.layout) flat r) ≡ row_symbols s (shape_of t.layout) = length_line s flat (r * row_symbols s (shape_of t.layout)) 1 (row_symbols s (shape_of t.layout)) in
        let kept : symbol_at s made (r * row_symbols s (shape_of t.layout) + j) ≡ symbol_at s flat (r * row_symbols s (shape_of t.layout) + j) =
        sym (get_or_row s t.layout made r j (omega arith)) ∙ (encoded.each r h).same j (omega arith) ∙ get_or_row s t.layout flat r j (omega arith)
        in
        get_or-take data' (symbols_in s (body_at t.layout made r)) j Nil lj ∙ get_or_symbols s t.layout made long' r j h (omega arith) ∙ ap (symbol s) kept
        ∙ sym (get_or_symbols s t.layout flat long r j h (omega arith)) ∙ sym (get_or-take data' (symbols_in s (body_at t.layout flat r)) j Nil lj)
        ∙ ap (λ (xs : Symbols s). get_or xs j Nil) (sym (row_of s t (at old) flat r h)))

    -- a repair that is done
    pub repair_done : (new : Store) (n : ℕ) → Recovered s t (at old) flat broken (Ok tt) → RowsWritten t made broken old new → n ≡ count broken
        → Repairs s t old new (taken (n ∷ []))
    repair_done new n rec' w en = record {
      over = λ k. absurd (let l = rec'.0 in let z : ⊥ = omega arith in z);
      filled = λ _. inl (data_of s t (at old) flat, rec'.2, ap (λ k. taken (k ∷ [])) (en ∙ ap count rec'.1), rewritten);
    }
      where
        flag : (r : ℕ) → r < row_count t.layout → get_or broken r false ≡ not (is_clean (condition_at s t (at old) r))
        flag r h = ap (λ (b : List Bool). get_or b r false) rec'.1 ∙ get_or-map-range_with_len (λ r. not (is_clean (condition_at s t (at old) r))) 0 (row_count t.layout) r r false h (omega arith)

        chosen : (r : ℕ) (b : Bool) → r < row_count t.layout → is_clean (condition_at s t (at old) r) ≡ b
            → at new r ≡ cond (not b) (Some (block_of t.layout t.pair r (body_at t.layout made r))) (at old r)
        chosen r b h e =
            w.places r h ∙ ap (λ b. cond b (Some (block_of t.layout t.pair r (body_at t.layout made r))) (at old r)) (flag r h ∙ ap not e)

        rewritten : Rewritten s t (data_of s t (at old) flat) old new
        rewritten = record {
          kept = λ r h e. chosen r true h e;
          made = λ r h e. record { body = body_at t.layout made r; is = body_is r h; front = front_is r h; block = chosen r false h e };
          same = w.same;
        }

  -- encoding the rows is taken
  pub rows_encoded : (sh : Shape) (flat made : List ℕ) (r : Result (Unit {0}) CodeError) → sh ≡ shape_of t.layout → length flat ≡ row_count t.layout * body_bytes t.layout
      → row_count t.layout < s.order → row_symbols s (shape_of t.layout) < s.order → r ≡ fitting s sh (length flat)
      → MatchResult r (λ _. RowsEncoded s sh flat made) (λ _. made ≡ flat) → RowsEncoded s (shape_of t.layout) flat made
  rows_encoded sh flat made r e long few short reply after =
      let ok : r ≡ Ok tt = reply ∙ ap (λ (x : Shape). fitting s x (length flat)) e ∙ flat_fitting s t.layout flat long few short in
      let done : RowsEncoded s sh flat made = subst (λ (q : Result (Unit {0}) CodeError). MatchResult q (λ _. RowsEncoded s sh flat made) (λ _. made ≡ flat)) ok after in
      subst (λ (x : Shape). RowsEncoded s x flat made) e done
