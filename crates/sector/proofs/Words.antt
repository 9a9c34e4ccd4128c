-- The symbols of the bodies of a closed sector.
use Rattle.std.proofs.Common.{◌≡◌, ℕ, ◌*◌, ◌<◌, List, [], map, length, get_or, sym, ap, ◌∙◌, arith}
use lib.ListN.{length-map}
use Rattle.std.proofs.lemmas.List.{get_or-map, get_or-take}
use Rattle.field.specs.Systems.{System, Symbol}
use Rattle.code.specs.Codewords.{Symbols}
use Rattle.grid.specs.Grids.{row_symbols, data_symbols}
use Rattle.block.specs.Layouts.{shape_of, row_count, data_rows, data_bytes}
use Rattle.block.specs.Conditions.{symbols_in}
use Rattle.block.specs.declared.layout.Layout.{Layout}
use Rattle.sector.specs.Bodies.{column_in, Closed}
use Rattle.sector.proofs.Strings.{length_symbols_in, symbols_in_take}
use Rattle.sector.proofs.Fronts.{get_or_column_in}

module _ (s : System) (l : Layout) where
  abbrev nil : Symbol s.order
  nil = s.on.nil

  -- the symbols of the bodies
  abbrev pub words : List (List ℕ) → List (Symbols s)
  words bodies = map (symbols_in s) bodies

  module _ (rows : ℕ → List ℕ) (bodies : List (List ℕ)) (closed : Closed s l rows bodies) where
    pub length_words : length (words bodies) ≡ row_count l
    length_words = length-map bodies (symbols_in s) ∙ closed.many

    pub get_or_words : (r : ℕ) → r < row_count l → get_or (words bodies) r [] ≡ symbols_in s (get_or bodies r [])
    get_or_words r lr = let many = closed.many in get_or-map (symbols_in s) bodies r [] [] (omega arith)

    pub length_word : (r : ℕ) → r < row_count l → length (symbols_in s (get_or bodies r [])) ≡ row_symbols s (shape_of l)
    length_word r lr = length_symbols_in s (get_or bodies r []) ∙ ap (λ n. n * s.per) (closed.each r lr).long

    -- symbol r of a column is symbol j of the row
    pub in_column : (j r : ℕ) → r < row_count l → get_or (column_in s j (words bodies)) r nil ≡ get_or (symbols_in s (get_or bodies r [])) j nil
    in_column j r lr =
        let many = length_words in
        get_or_column_in s j (words bodies) r (omega arith) ∙ ap (λ (xs : Symbols s). get_or xs j nil) (get_or_words r lr)

    -- a data row's data symbols are those of its data bytes
    pub data_symbol : (j r : ℕ) → r < data_rows l → j < data_symbols s (shape_of l)
        → get_or (symbols_in s (get_or bodies r [])) j nil ≡ get_or (symbols_in s (rows r)) j nil
    data_symbol j r lr lj =
        let body = get_or bodies r [] in
        let long = (closed.each r (omega arith)).long in
        sym (get_or-take (data_symbols s (shape_of l)) (symbols_in s body) j nil lj)
        ∙ ap (λ (xs : Symbols s). get_or xs j nil) (sym (symbols_in_take s (data_bytes l) body (omega arith)))
        ∙ ap (λ (b : List ℕ). get_or (symbols_in s b) j nil) (closed.front r lr)
