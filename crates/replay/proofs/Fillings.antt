-- Rows that hold blocks within reach have exactly one filling: the closed bodies' data symbols.
use Rattle.std.proofs.Common.{◌≡◌, ℕ, ◌<◌, ◌≤◌, false, List, [], ◌∷◌, map, length, get_or, take, sym, refl, ap, ◌∙◌, ap₂, arith}
use lib.ListN.{length-map}
use Rattle.std.specs.List.{range_with_len}
use Rattle.std.proofs.lemmas.List.{ext_get_or, get_or-map, get_or-take, length-take-le}
use Rattle.std.proofs.lemmas.List.FromFn.{length-map-range_with_len, get_or-map-range_with_len}
use Rattle.field.specs.Systems.{System, Symbol}
use Rattle.code.specs.Codewords.{Symbols, distance}
use Rattle.code.proofs.Completion.{apart_off}
use Rattle.code.proofs.Distance.{codewords_apart}
use Rattle.grid.specs.Grids.{row_symbols, data_symbols}
use Rattle.grid.proofs.Fitting.{parts_of_row}
use Rattle.block.specs.Layouts.{shape_of, row_count, check_rows}
use Rattle.sector.specs.Bodies.{column_in, Closed}
use Rattle.sector.specs.Opening.{Contents}
use Rattle.sector.specs.Fillings.{lost_at, lost_count, Filling}
use Rattle.sector.specs.declared.terms.Terms.{Terms}
use Rattle.sector.proofs.Fronts.{length_column_in, get_or_column_in}
use Rattle.sector.proofs.Words.{words, length_words, get_or_words, length_word}
use Rattle.replay.proofs.Rows.{sent, Good, word_sent}

module _ (s : System) (t : Terms) (few : row_count t.layout < s.order) where
  abbrev nil : Symbol s.order
  nil = s.on.nil

  abbrev n : ℕ
  n = row_count t.layout

  -- how many data symbols a row has
  abbrev w : ℕ
  w = data_symbols s (shape_of t.layout)

  -- two fillings differ at most at the lost rows, and so they are the same
  fillings_column : (P : Contents) (D E : List (Symbols s)) → Filling s t P D → Filling s t P E → lost_count s t P ≤ check_rows t.layout → (j : ℕ) → j < w
      → column_in s j D ≡ column_in s j E
  fillings_column P D E f g some j lj =
      let long_d : length (column_in s j D) ≡ n = length_column_in s j D ∙ f.many in
      let long_e : length (column_in s j E) ≡ n = length_column_in s j E ∙ g.many in
      let many_d = f.many in
      let many_e = g.many in
      let near : distance (column_in s j D) (column_in s j E) ≤ lost_count s t P =
      apart_off s nil (map (lost_at s t P) (range_with_len 0 n)) (column_in s j D) (column_in s j E)
      (length-map-range_with_len (lost_at s t P) 0 n ∙ sym long_d) (long_e ∙ sym long_d)
      (λ p lp e.
      let l : p < n = omega arith in
      let kept : lost_at s t P p ≡ false = sym (get_or-map-range_with_len (lost_at s t P) 0 n p p false l (omega arith)) ∙ e in
      get_or_column_in s j D p (omega arith) ∙ ap (λ (xs : Symbols s). get_or xs j nil) (f.kept p l kept ∙ sym (g.kept p l kept))
      ∙ sym (get_or_column_in s j E p (omega arith)))
      in
      codewords_apart s (check_rows t.layout) (column_in s j D) (column_in s j E) (long_d ∙ sym long_e) (omega arith) (f.columns j lj) (g.columns j lj) (omega arith)

  fillings_same : (P : Contents) (D E : List (Symbols s)) → Filling s t P D → Filling s t P E → lost_count s t P ≤ check_rows t.layout → (r : ℕ) → r < n
      → get_or D r [] ≡ get_or E r []
  fillings_same P D E f g some r lr =
      let many_d = f.many in
      let many_e = g.many in
      let long_d = f.long r lr in
      ext_get_or nil (get_or D r []) (get_or E r []) (long_d ∙ sym (g.long r lr))
      (λ j l.
      sym (get_or_column_in s j D r (omega arith)) ∙ ap (λ (xs : Symbols s). get_or xs r nil) (fillings_column P D E f g some j (omega arith))
      ∙ get_or_column_in s j E r (omega arith))

  module _ (rows : ℕ → List ℕ) (bodies : List (List ℕ)) (closed : Closed s t.layout rows bodies)
      (short : row_symbols s (shape_of t.layout) < s.order) where
    -- the data symbols of the closed bodies
    abbrev pub own : List (Symbols s)
    own = map (take w) (words s t.layout bodies)

    get_or_own : (r : ℕ) → r < n → get_or own r [] ≡ take w (sent s t bodies r)
    get_or_own r lr =
        let many = length_words s t.layout rows bodies closed in
        get_or-map (take w) (words s t.layout bodies) r [] [] (omega arith) ∙ ap (take w) (get_or_words s t.layout rows bodies closed r lr)

    own_column : (j : ℕ) → j < w → (D : List (Symbols s)) → column_in s j (map (take w) D) ≡ column_in s j D
    own_column j l [] = refl
    own_column j l (xs ∷ D) = ap₂ ◌∷◌ (get_or-take w xs j nil l) (own_column j l D)

    module _ (P : Contents) (good : Good s t bodies P) where
      pub own_filling : Filling s t P own
      own_filling = record {
        many = length-map (words s t.layout bodies) (take w) ∙ length_words s t.layout rows bodies closed;
        long = λ r lr.
            let size = length_word s t.layout rows bodies closed r lr in
            let parts = parts_of_row s (shape_of t.layout) in
            ap length (get_or_own r lr) ∙ length-take-le w (sent s t bodies r) (omega arith);
        kept = λ r lr e. get_or_own r lr ∙ ap (take w) (sym (word_sent s t bodies rows closed short r lr (P r) (good r lr) e));
        columns = λ j lj. rw (own_column j lj (words s t.layout bodies)) (closed.columns j lj);
      }

      -- any filling has the closed bodies' data symbols
      pub filling_row : (D : List (Symbols s)) → Filling s t P D → lost_count s t P ≤ check_rows t.layout → (r : ℕ) → r < n
          → get_or D r [] ≡ take w (sent s t bodies r)
      filling_row D f some r lr = fillings_same P D own f own_filling some r lr ∙ get_or_own r lr
