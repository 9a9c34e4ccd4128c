-- Filling the lost rows of bodies that were looked at.
use Rattle.std.proofs.Common.{◌≡◌, ℕ, ◌+◌, ◌-◌, ◌*◌, ◌<◌, ◌≤◌, Bool, true, false, cond, not, eqb, leb, List, [], length, get_or, take, drop, is_ok, Ok, Err, Result, MatchResult, refl, sym, ap, ◌∙◌, subst, arith, length-drop, length-take-le, get_or-take}
use lib.ListN.{length-map}
use Rattle.std.proofs.lemmas.List.{ext_get_or, get_or-map}
use Rattle.std.proofs.lemmas.List.FromFn.{length-map-range_with_len, get_or-map-range_with_len, fill_by_all}
use Rattle.std.proofs.lemmas.Bool.{eq-eqb, le-leb}
use Rattle.field.specs.Systems.{System, Symbol, symbol}
use Rattle.code.specs.Codewords.{Symbols, Codeword, symbols, count}
use Rattle.code.specs.declared.error.CodeError.{CodeError}
use Rattle.code.specs.declared.error.CodeError.TheVariants.{UnequalLengths, TooLong, TooFewChecks, TooManyChecks, TooManyUnknown, NoCodeword}
use Rattle.grid.specs.Packing.{symbol_at}
use Rattle.grid.specs.Grids.{row_symbols, data_symbols, column, RowsFilled}
use Rattle.grid.specs.Fillable.{Fillable}
use Rattle.grid.specs.Answers.{and_then, loss_reply, RowsFilling, LossAnswer}
use Rattle.grid.proofs.Fitting.{parts_of_row}
use Rattle.grid.proofs.LineWork.{length_line}
use Rattle.grid.specs.declared.shape.Shape.{Shape}
use Rattle.block.specs.Layouts.{shape_of, row_count, check_rows, body_bytes}
use Rattle.block.specs.Conditions.{is_clean, symbols_in, word_of}
use Rattle.block.specs.declared.layout.Layout.{Layout}
use Rattle.block.specs.declared.layout.Layout.TheVariants.{Audio, Video, Subcode}
use Rattle.sector.specs.Bodies.{column_in}
use Rattle.sector.specs.Flat.{body_at}
use Rattle.sector.specs.Opening.{Contents}
use Rattle.sector.specs.Fillings.{condition_at, lost_at, lost_count, Filling, NoFilling}
use Rattle.sector.specs.Recovery.{lost_rows, broken_rows, Surveyed, Recovered, data_of}
use Rattle.sector.specs.declared.refusal.Refusal.{Refusal}
use Rattle.sector.specs.declared.refusal.Refusal.TheVariants.{NoContents}
use Rattle.sector.specs.declared.terms.Terms.{Terms}
use Rattle.sector.proofs.Flat.{length_body, get_or_symbols, get_or_column, flat_fitting}
use Rattle.sector.proofs.Fronts.{length_column_in, get_or_column_in}
use Rattle.sector.proofs.Strings.{length_symbols_in}

-- the front part of some room
pub front_long : {A : Type 0} (xs : List A) (k : ℕ) → k ≤ length xs → length (take (k - 0) (drop 0 xs)) ≡ k
front_long xs k h = length-take-le (k - 0) (drop 0 xs) (omega (arith, length-drop 0 xs)) ∙ (let e : k - 0 ≡ k = omega arith in e)

-- no layout has more rows
pub few_rows : (l : Layout) → row_count l ≤ 149
few_rows Audio = omega arith
few_rows Video = omega arith
few_rows Subcode = omega arith

module _ (s : System) (t : Terms) (P : Contents) where
  abbrev n : ℕ
  n = row_count t.layout

  abbrev data' : ℕ
  data' = data_symbols s (shape_of t.layout)

  abbrev Nil : Symbol s.order
  Nil = s.on.nil

  -- the data symbols of a row
  pub row_of : (flat : List ℕ) (r : ℕ) → r < n → get_or (data_of s t P flat) r [] ≡ take data' (symbols_in s (body_at t.layout flat r))
  row_of flat r h =
      get_or-map-range_with_len (λ r. take data' (symbols_in s (body_at t.layout flat r))) 0 n r r [] h (omega arith)

  pub length_data_of : (flat : List ℕ) → length (data_of s t P flat) ≡ n
  length_data_of flat = length-map-range_with_len (λ r. take data' (symbols_in s (body_at t.layout flat r))) 0 n

  module _ (flat : List ℕ) (long : length flat ≡ n * body_bytes t.layout) where
    symbols_long : (r : ℕ) → r < n → length (symbols_in s (body_at t.layout flat r)) ≡ row_symbols s (shape_of t.layout)
    symbols_long r h = length_symbols_in s (body_at t.layout flat r) ∙ ap (λ k. k * s.per) (length_body t.layout flat r long h)

    pub row_long : (r : ℕ) → r < n → length (get_or (data_of s t P flat) r []) ≡ data'
    row_long r h =
        ap length (row_of flat r h)
        ∙ length-take-le data' (symbols_in s (body_at t.layout flat r)) (omega (arith, symbols_long r h, parts_of_row s (shape_of t.layout)))

    -- a data symbol, by its place among the symbols of all rows
    in_row : (r j : ℕ) → r < n → j < data' → get_or (get_or (data_of s t P flat) r []) j Nil ≡ symbol s (symbol_at s flat (r * row_symbols s (shape_of t.layout) + j))
    in_row r j h lj =
        ap (λ (xs : Symbols s). get_or xs j Nil) (row_of flat r h) ∙ get_or-take data' (symbols_in s (body_at t.layout flat r)) j Nil lj
        ∙ get_or_symbols s t.layout flat long r j h (omega (arith, parts_of_row s (shape_of t.layout)))

    length_column : (j : ℕ) → length (column s (shape_of t.layout) flat j) ≡ n
    length_column j = length_line s flat j (row_symbols s (shape_of t.layout)) n

    in_column : (r j : ℕ) → r < n → get_or (symbols s (column s (shape_of t.layout) flat j)) r Nil ≡ symbol s (symbol_at s flat (r * row_symbols s (shape_of t.layout) + j))
    in_column r j h =
        get_or-map (symbol s) (column s (shape_of t.layout) flat j) r 0 Nil (omega (arith, length_column j)) ∙ ap (symbol s) (get_or_column s t.layout flat r j h)

    -- the columns of the data symbols are those of the bytes
    pub column_of : (j : ℕ) → j < data' → column_in s j (data_of s t P flat) ≡ symbols s (column s (shape_of t.layout) flat j)
    column_of j lj =
        let many : length (column_in s j (data_of s t P flat)) ≡ n = length_column_in s j (data_of s t P flat) ∙ length_data_of flat in
        ext_get_or Nil (column_in s j (data_of s t P flat)) (symbols s (column s (shape_of t.layout) flat j))
        (many ∙ sym (length-map (column s (shape_of t.layout) flat j) (symbol s) ∙ length_column j))
        (λ r h.
        let lr : r < n = omega arith in
        get_or_column_in s j (data_of s t P flat) r (omega (arith, length_data_of flat)) ∙ in_row r j lr lj ∙ sym (in_column r j lr))

  module _ (old : List ℕ) (lost broken : List Bool) (long : length old ≡ n * body_bytes t.layout) (flags : length lost ≡ n) (flags' : length broken ≡ n)
      (few : n < s.order) (short : row_symbols s (shape_of t.layout) < s.order) (seen : Surveyed s t P n old lost broken) where
    pub lost_are : lost ≡ lost_rows s t P
    lost_are = fill_by_all (lost_at s t P) lost n false flags seen.lost_is

    pub broken_are : broken ≡ broken_rows s t P
    broken_are = fill_by_all (λ r. not (is_clean (condition_at s t P r))) broken n false flags' seen.broken_is

    pub count_is : count lost ≡ lost_count s t P
    count_is = ap count lost_are

    -- the test before filling passes
    taken : count lost ≤ check_rows t.layout → loss_reply s (shape_of t.layout) (length old) lost ≡ Ok tt
    taken few' =
        ap (λ r. and_then (and_then r (eqb (length lost) n) UnequalLengths) (leb (count lost) (check_rows t.layout)) TooManyUnknown) (flat_fitting s t.layout old long few short)
        ∙ ap (λ b. and_then (and_then (Ok tt) b UnequalLengths) (leb (count lost) (check_rows t.layout)) TooManyUnknown) (eq-eqb (length lost) n flags)
        ∙ ap (λ b. and_then (Ok tt) b TooManyUnknown) (le-leb (count lost) (check_rows t.layout) few')

    -- a known symbol stays
    stays : (new : List ℕ) → RowsFilled s (shape_of t.layout) lost old new → (r j : ℕ) → r < n → j < data' → lost_at s t P r ≡ false
        → symbol_at s new (r * row_symbols s (shape_of t.layout) + j) ≡ symbol_at s old (r * row_symbols s (shape_of t.layout) + j)
    stays new f r j h lj e =
        sym (get_or_column s t.layout new r j h) ∙ (f.each j lj).same r (seen.lost_is r h ∙ e) ∙ get_or_column s t.layout old r j h

    filling : (new : List ℕ) → RowsFilled s (shape_of t.layout) lost old new → Filling s t P (data_of s t P new)
    filling new f =
        let long' : length new ≡ n * body_bytes t.layout = f.long ∙ long in
        record {
          many = length_data_of new;
          long = row_long new long';
          kept = λ r h e.
              let wide : length (take data' (word_of s t.layout (P r))) ≡ data' =
              ap (λ (xs : Symbols s). length (take data' xs)) (sym (seen.words r h e)) ∙ ap length (sym (row_of old r h)) ∙ row_long old long r h
              in
              ext_get_or Nil (get_or (data_of s t P new) r []) (take data' (word_of s t.layout (P r))) (row_long new long' r h ∙ sym wide)
              (λ j l.
              let lj : j < data' = omega (arith, row_long new long' r h) in
              in_row new long' r j h lj ∙ ap (symbol s) (stays new f r j h lj e) ∙ sym (in_row old long r j h lj)
              ∙ ap (λ (xs : Symbols s). get_or xs j Nil) (row_of old r h ∙ ap (take data') (seen.words r h e)));
          columns = λ j lj.
              subst (Codeword s (check_rows t.layout)) (sym (column_of new long' j lj)) (f.each j lj).completes.codeword;
        }

    -- where a column has no symbols for the lost rows, there is no filling
    no_filling : (j : ℕ) → j < data' → (Fillable s (check_rows t.layout) lost (column s (shape_of t.layout) old j) → ⊥) → NoFilling s t P
    no_filling j lj none rows f =
        none (
          column_in s j rows,
          record {
            long = length_column_in s j rows ∙ f.many ∙ sym (length-map (column s (shape_of t.layout) old j) (symbol s) ∙ length_column old long j);
            codeword = f.columns j lj;
            keeps = λ p lp e.
                let h : p < n = omega (arith, length-map (column s (shape_of t.layout) old j) (symbol s), length_column old long j) in
                let sound : lost_at s t P p ≡ false = sym (seen.lost_is p h) ∙ e in
                get_or_column_in s j rows p (omega (arith, f.many)) ∙ ap (λ (xs : Symbols s). get_or xs j Nil) (f.kept p h sound ∙ ap (take data') (sym (seen.words p h sound)) ∙ sym (row_of old p h))
                ∙ in_row old long p j h lj ∙ sym (in_column old long p j h);
          },
        )

    by_answer : (new : List ℕ) (r : Result (Unit {0}) CodeError) (b : Bool) → b ≡ is_ok r → RowsFilling s (shape_of t.layout) lost old new r
        → cond b (Filling s t P (data_of s t P new)) (NoFilling s t P)
    by_answer new (Ok u) b e h = subst (λ b. cond b (Filling s t P (data_of s t P new)) (NoFilling s t P)) (sym e) (filling new h)
    by_answer new (Err NoCodeword) b e h =
        subst (λ b. cond b (Filling s t P (data_of s t P new)) (NoFilling s t P)) (sym e) (no_filling h.1.0 h.1.1 h.1.2)
    by_answer new (Err UnequalLengths) b e h = absurd h
    by_answer new (Err TooLong) b e h = absurd h
    by_answer new (Err TooFewChecks) b e h = absurd h
    by_answer new (Err TooManyChecks) b e h = absurd h
    by_answer new (Err TooManyUnknown) b e h = absurd h

    -- the rows are filled, or no contents of them fit
    pub recovered : (new : List ℕ) (r : Result (Unit {0}) CodeError) (b : Bool) → b ≡ is_ok r → count lost ≤ check_rows t.layout
        → LossAnswer s (shape_of t.layout) lost old new (loss_reply s (shape_of t.layout) (length old) lost) r
        → cond b (Filling s t P (data_of s t P new)) (NoFilling s t P)
    recovered new r b e few' h =
        by_answer new r b e (subst (λ (q : Result (Unit {0}) CodeError). LossAnswer s (shape_of t.layout) lost old new q r) (taken few') h)

    -- the same, by what the calls that do it say
    pub outcome : (sh : Shape) (new : List ℕ) (many : ℕ) (r : Result (Unit {0}) CodeError) (b : Bool) → sh ≡ shape_of t.layout → many ≡ count lost → many ≤ sh.check_rows
        → LossAnswer s sh lost old new (loss_reply s sh (length old) lost) r → b ≡ is_ok r
        → (lost_count s t P ≤ check_rows t.layout) × (broken ≡ broken_rows s t P) × cond b (Filling s t P (data_of s t P new)) (NoFilling s t P)
    outcome sh new many r b e em le h eb =
        let checks : sh.check_rows ≡ check_rows t.layout = ap (λ (x : Shape). x.check_rows) e in
        let enough : count lost ≤ check_rows t.layout = omega arith in (
          omega (arith, count_is),
          broken_are,
          recovered new r b eb enough (subst (λ (x : Shape). LossAnswer s x lost old new (loss_reply s x (length old) lost) r) e h),
        )

    -- the same, as the answer of the recovery
    pub filled : (sh : Shape) (new : List ℕ) (many : ℕ) (r : Result (Unit {0}) CodeError) (answer : Result (Unit {0}) Refusal) → sh ≡ shape_of t.layout
        → many ≡ count lost → many ≤ sh.check_rows → LossAnswer s sh lost old new (loss_reply s sh (length old) lost) r
        → MatchResult r (λ u. answer ≡ Ok u) (λ _. answer ≡ Err NoContents) → Recovered s t P new broken answer
    filled sh new many (Ok u) answer e em le h is = subst (Recovered s t P new broken) (sym is) (outcome sh new many (Ok u) true e em le h refl)
    filled sh new many (Err k) answer e em le h is =
        let end = outcome sh new many (Err k) false e em le h refl in subst (Recovered s t P new broken) (sym is) (end.0, end.2)
