-- A body made as a grid of one row.
use Rattle.std.proofs.Common.{◌≡◌, ℕ, ◌+◌, ◌*◌, ◌<◌, ◌≤◌, List, ◌++◌, length, get_or, take, Ok, Result, sym, ap, ◌∙◌, subst, zero-mul, mul-one, arith, lit<, length-append, length-drop, length-take-le, MatchResult}
use borrow.Rule.Slice.PartMut.{post_of}
use Rattle.std.proofs.lemmas.List.{ext_get_or, take_at}
use Rattle.byte_string.specs.Bytes.{Bytes}
use Rattle.field.specs.Systems.{System}
use Rattle.code.specs.Codewords.{Codeword, symbols}
use Rattle.code.specs.declared.error.CodeError.{CodeError}
use Rattle.byte_string.proofs.Bytes.{bytes_take}
use Rattle.grid.specs.Packing.{symbol_at, unpacked}
use Rattle.grid.specs.Grids.{row_symbols, data_symbols, check_symbols, fitting, row, RowsEncoded}
use Rattle.grid.specs.declared.shape.Shape.{Shape}
use Rattle.grid.proofs.Parts.{length_unpacked, get_or_unpacked, symbols_tell}
use Rattle.grid.proofs.Fitting.{right_length, parts_of_row}
use Rattle.grid.proofs.LineWork.{length_line, get_or_line}
use Rattle.block.specs.Layouts.{shape_of, row_count, data_bytes, body_bytes}
use Rattle.block.specs.declared.layout.Layout.{Layout}
use Rattle.block.specs.declared.layout.Layout.TheVariants.{Audio, Video, Subcode}
use Rattle.sector.specs.Bodies.{Body}
use Rattle.sector.proofs.Flat.{symbol_front}

-- one row of a shape
abbrev pub one_row : Shape → Shape
one_row sh = record { data_rows = 1; check_rows = 0; data_bytes = sh.data_bytes; check_bytes = sh.check_bytes }

many_rows : (l : Layout) → 1 < row_count l
many_rows Audio = lit< tt
many_rows Video = lit< tt
many_rows Subcode = lit< tt

-- data bytes at the front of a room
pub front_written : (d : ℕ) (bytes old ys : List ℕ) (k : ℕ) → ys ≡ bytes → length bytes ≡ d → k ≡ d → d ≤ length old
    → (take d (ys ++ post_of 0 k old) ≡ bytes) × (length (ys ++ post_of 0 k old) ≡ length old)
front_written d bytes old ys k ey lb ek h =
    let ly : length ys ≡ d = ap length ey ∙ lb in
    (take_at ys (post_of 0 k old) d ly ∙ ey, omega (arith, length-append ys (post_of 0 k old), length-drop k old))

module _ (s : System) (l : Layout) where
  abbrev n : ℕ
  n = row_symbols s (shape_of l)

  get_or_one : (W : List ℕ) (p : ℕ) → p < row_symbols s (shape_of l) → get_or (row s (one_row (shape_of l)) W 0) p 0 ≡ symbol_at s W p
  get_or_one W p h =
      get_or_line s W (0 * row_symbols s (shape_of l)) 1 (row_symbols s (shape_of l)) p h
      ∙ ap (symbol_at s W) (let a = mul-one p in let b = zero-mul (row_symbols s (shape_of l)) in let e : p * 1 + 0 * row_symbols s (shape_of l) ≡ p = omega arith in e)

  row_unpacked : (W : List ℕ) → length W ≡ body_bytes l → row s (one_row (shape_of l)) W 0 ≡ unpacked s W
  row_unpacked W long =
      let e : length W * s.per ≡ row_symbols s (shape_of l) = ap (λ k. k * s.per) long in
      let ll = length_line s W (0 * row_symbols s (shape_of l)) 1 (row_symbols s (shape_of l)) in
      ext_get_or 0 (row s (one_row (shape_of l)) W 0) (unpacked s W) (ll ∙ sym (length_unpacked s W ∙ e))
      (λ p lp. let lt : p < row_symbols s (shape_of l) = omega arith in get_or_one W p lt ∙ sym (get_or_unpacked s W p (omega arith)))

  module _ (bytes W1 W2 : List ℕ) (long : length W1 ≡ body_bytes l) (front : take (data_bytes l) W1 ≡ bytes) (b1 : Bytes W1) (b2 : Bytes W2) where
    encoded_body : RowsEncoded s (one_row (shape_of l)) W1 W2 → Body s l W2 × (take (data_bytes l) W2 ≡ bytes)
    encoded_body e =
        let d = data_bytes l in
        let parts = parts_of_row s (shape_of l) in
        let long2 : length W2 ≡ body_bytes l = e.long ∙ long in
        let done = e.each 0 (lit< tt) in
        let ll = length_line s W1 (0 * row_symbols s (shape_of l)) 1 (row_symbols s (shape_of l)) in
        let l2 = length-take-le d W2 (omega arith) in
        let l1 = length-take-le d W1 (omega arith) in (
          record {
            long = long2;
            bytes = b2;
            codeword = subst (λ (x : List ℕ). Codeword s (check_symbols s (shape_of l)) (symbols s x)) (row_unpacked W2 long2) done.codeword;
          },
          symbols_tell s (take d W2) (take d W1) (bytes_take d W2 b2) (bytes_take d W1 b1) (l2 ∙ sym l1)
              (λ p lp.
              let lt : p < data_symbols s (shape_of l) = subst (λ m. p < m * s.per) l2 lp in
              symbol_front s W2 d p lt ∙ sym (get_or_one W2 p (omega arith)) ∙ done.same p (omega arith) ∙ get_or_one W1 p (omega arith) ∙ sym (symbol_front s W1 d p lt))
              ∙ front,
        )

    fitted_body : row_count l < s.order → row_symbols s (shape_of l) < s.order → (r : Result (Unit {0}) CodeError) → r ≡ fitting s (one_row (shape_of l)) (length W1)
        → MatchResult r (λ _. RowsEncoded s (one_row (shape_of l)) W1 W2) (λ _. W2 ≡ W1) → Body s l W2 × (take (data_bytes l) W2 ≡ bytes)
    fitted_body few short r e c =
        let m = many_rows l in
        let ok : fitting s (one_row (shape_of l)) (length W1) ≡ Ok tt = right_length s (one_row (shape_of l)) (length W1) (omega arith) short (omega arith) in
        encoded_body (subst (λ (x : Result (Unit {0}) CodeError). MatchResult x (λ _. RowsEncoded s (one_row (shape_of l)) W1 W2) (λ _. W2 ≡ W1)) (e ∙ ok) c)

    -- with sh for the layout's shape
    pub made_body : (sh : Shape) → sh ≡ shape_of l → row_count l < s.order → row_symbols s (shape_of l) < s.order → (r : Result (Unit {0}) CodeError)
        → r ≡ fitting s (one_row sh) (length W1) → MatchResult r (λ _. RowsEncoded s (one_row sh) W1 W2) (λ _. W2 ≡ W1) → Body s l W2 × (take (data_bytes l) W2 ≡ bytes)
    made_body sh es few short r e c =
        fitted_body few short r (e ∙ ap (λ x. fitting s (one_row x) (length W1)) es)
        (subst (λ x. MatchResult r (λ _. RowsEncoded s (one_row x) W1 W2) (λ _. W2 ≡ W1)) es c)
