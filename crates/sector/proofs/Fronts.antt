-- Rows and columns that agree in their first symbols.
use Rattle.std.proofs.Common.{◌≡◌, ℕ, zero, suc, ◌-◌, ◌<◌, ◌≤◌, true, not, eqb, List, [], ◌∷◌, length, get_or, sym, ap, ◌∙◌, arith}
use native.Mathlib.Nat.{suc_inj}
use lib.ListN.{length-map}
use Rattle.std.proofs.lemmas.List.{get_or-map}
use Rattle.std.proofs.lemmas.Bool.{eq-eqb}
use Rattle.field.specs.Systems.{System, Symbol}
use Rattle.code.specs.Codewords.{Symbols, Codeword, count, differences, distance}
use Rattle.code.proofs.Apartness.{at_most}
use Rattle.code.proofs.Distance.{codewords_apart}
use Rattle.grid.specs.Grids.{row_symbols, data_symbols, check_symbols}
use Rattle.grid.proofs.Fitting.{parts_of_row}
use Rattle.block.specs.Layouts.{shape_of, row_count, data_rows, check_rows}
use Rattle.block.specs.declared.layout.Layout.{Layout}
use Rattle.sector.specs.Bodies.{column_in}

-- lists that agree up to w differ at most behind it
pub apart_behind : {q : ℕ} (d : Symbol q) (w : ℕ) (xs ys : List (Symbol q)) → length xs ≡ length ys
    → ((p : ℕ) → p < w → get_or xs p d ≡ get_or ys p d) → distance xs ys ≤ length xs - w
apart_behind d w [] ys e h = omega arith
apart_behind d w (x ∷ xs) [] e h = absurd (let z : ⊥ = omega arith in z)
apart_behind d zero (x ∷ xs) (y ∷ ys) e h =
    let below : distance xs ys ≤ length xs - 0 = apart_behind d 0 xs ys (suc_inj e) (λ p l. absurd (let z : ⊥ = omega arith in z)) in
    let this = at_most (differences xs ys) (not (eqb x.code y.code)) in
    omega arith
apart_behind {q} d (suc w) (x ∷ xs) (y ∷ ys) e h =
    let below : distance xs ys ≤ length xs - w = apart_behind d w xs ys (suc_inj e) (λ p l. h (suc p) (omega arith)) in
    let like : eqb x.code y.code ≡ true = eq-eqb x.code y.code (ap (λ (z : Symbol q). z.code) (h 0 (omega arith))) in
    let this : count (not (eqb x.code y.code) ∷ differences xs ys) ≡ distance xs ys = ap (λ b. count (not b ∷ differences xs ys)) like in
    omega arith

module _ (s : System) where
  abbrev nil : Symbol s.order
  nil = s.on.nil

  pub length_column_in : (j : ℕ) (rows : List (Symbols s)) → length (column_in s j rows) ≡ length rows
  length_column_in j rows = length-map rows (λ (xs : Symbols s). get_or xs j nil)

  pub get_or_column_in : (j : ℕ) (rows : List (Symbols s)) (r : ℕ) → r < length rows → get_or (column_in s j rows) r nil ≡ get_or (get_or rows r []) j nil
  get_or_column_in j rows r l = get_or-map (λ (xs : Symbols s). get_or xs j nil) rows r [] nil l

  module _ (l : Layout) where
    -- two rows with the same data symbols
    pub same_row : row_symbols s (shape_of l) < s.order → (a b : Symbols s) → length a ≡ row_symbols s (shape_of l) → length b ≡ row_symbols s (shape_of l)
        → Codeword s (check_symbols s (shape_of l)) a → Codeword s (check_symbols s (shape_of l)) b
        → ((p : ℕ) → p < data_symbols s (shape_of l) → get_or a p nil ≡ get_or b p nil) → a ≡ b
    same_row short a b la lb wa wb h =
        let near = apart_behind nil (data_symbols s (shape_of l)) a b (la ∙ sym lb) h in
        let parts = parts_of_row s (shape_of l) in
        codewords_apart s (check_symbols s (shape_of l)) a b (la ∙ sym lb) (omega arith) wa wb (omega arith)

    -- two columns with the same data rows
    pub same_column : row_count l < s.order → (a b : Symbols s) → length a ≡ row_count l → length b ≡ row_count l
        → Codeword s (check_rows l) a → Codeword s (check_rows l) b
        → ((p : ℕ) → p < data_rows l → get_or a p nil ≡ get_or b p nil) → a ≡ b
    same_column short a b la lb wa wb h =
        let near = apart_behind nil (data_rows l) a b (la ∙ sym lb) h in
        codewords_apart s (check_rows l) a b (la ∙ sym lb) (omega arith) wa wb (omega arith)
