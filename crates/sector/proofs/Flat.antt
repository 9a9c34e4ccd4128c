-- The bodies of a sector kept one after another in one byte string.
use Rattle.std.proofs.Common.{◌≡◌, ℕ, ◌+◌, ◌-◌, ◌*◌, ◌/◌, ◌%◌, ◌<◌, ◌≤◌, ◌≢◌, List, [], map, length, get_or, take, drop, Ok, sym, ap, ◌∙◌, subst, ap₂, ⊎_elim, mul-le-mul_right, mod-lt, mul_assoc, add-mul, one-mul, div-add-mod', mul-one, arith, length-drop, length-take-le, get_or-drop, get_or-take}
use borrow.Rule.Slice.PartMut.{put_mid}
use lib.Arith.{digits_div, digits_mod}
use lib.ListN.{length-map}
use Rattle.std.proofs.lemmas.List.{ext_get_or, get_or-map, drop-take, take-take}
use Rattle.std.proofs.lemmas.List.FromFn.{length-map-range_with_len, get_or-map-range_with_len}
use Rattle.std.proofs.lemmas.Slice.{take-put_mid_below, drop-put_mid, between-put_mid}
use Rattle.std.proofs.lemmas.Bool.{cases_order}
use Rattle.byte_string.specs.Bytes.{Bytes}
use Rattle.field.specs.Systems.{System, Symbol, symbol}
use Rattle.field.proofs.Sizes.{per_some}
use Rattle.code.specs.Codewords.{Symbols, Codeword, symbols}
use Rattle.byte_string.proofs.Bytes.{bytes_drop, bytes_take}
use Rattle.grid.specs.Packing.{part, symbol_at, unpacked}
use Rattle.grid.specs.Grids.{row_symbols, data_symbols, check_symbols, fitting, row, column, RowsEncoded, ColumnsEncoded}
use Rattle.grid.proofs.Parts.{length_unpacked, get_or_unpacked, symbols_tell, byte_of}
use Rattle.grid.proofs.Fitting.{right_length, parts_of_row}
use Rattle.grid.proofs.LineWork.{length_line, get_or_line, same_line}
use Rattle.block.specs.Layouts.{shape_of, row_count, data_rows, check_rows, data_bytes, body_bytes}
use Rattle.block.specs.Conditions.{symbols_in}
use Rattle.block.specs.declared.layout.Layout.{Layout}
use Rattle.sector.specs.Bodies.{Body, Closed, column_in}
use Rattle.sector.specs.Flat.{body_at, bodies_of}

row_end : (k n p : ℕ) → k < p → k * n + n ≤ p * n
row_end k n p h = let e = mul-le-mul_right {m = k + 1} {n = p} n (omega arith) in omega (arith, e, add-mul k 1 n, one-mul n)

-- the body of a row lies in the bytes
pub body_within : (l : Layout) (W : List ℕ) (r : ℕ) → length W ≡ row_count l * body_bytes l → r < row_count l → r * body_bytes l + body_bytes l ≤ length W
body_within l W r e h = subst (λ n. r * body_bytes l + body_bytes l ≤ n) (sym e) (row_end r (body_bytes l) (row_count l) h)

pub length_body : (l : Layout) (W : List ℕ) (r : ℕ) → length W ≡ row_count l * body_bytes l → r < row_count l → length (body_at l W r) ≡ body_bytes l
unfolding body_at
length_body l W r e h =
    let w = body_within l W r e h in
    length-take-le (body_bytes l) (drop (r * body_bytes l) W) (omega (arith, length-drop (r * body_bytes l) W))

pub bytes_body : (l : Layout) (W : List ℕ) (r : ℕ) → Bytes W → Bytes (body_at l W r)
unfolding body_at
bytes_body l W r b = bytes_take (body_bytes l) (drop (r * body_bytes l) W) (bytes_drop (r * body_bytes l) W b)

-- a part of the bytes as it is read, with a for the start and k for the length
pub body_part : (l : Layout) (W : List ℕ) (r a k : ℕ) → a ≡ r * body_bytes l → k ≡ body_bytes l → take k (drop a W) ≡ body_at l W r
unfolding body_at
body_part l W r a k ea ek = ap₂ (λ i j. take i (drop j W)) ek ea

-- the same part, as a range of n bytes from row r's start on
pub part_is : (l : Layout) (W : List ℕ) (r n : ℕ) → n ≡ body_bytes l → take (r * n + n - r * n) (drop (r * n) W) ≡ take (body_bytes l) (drop (r * body_bytes l) W)
part_is l W r n e = ap₂ (λ i j. take i (drop (r * j) W)) (let z : r * n + n - r * n ≡ body_bytes l = omega arith in z) e

pub length_part : (l : Layout) (W : List ℕ) (r n : ℕ) → length W ≡ row_count l * body_bytes l → r < row_count l → n ≡ body_bytes l → length (take (r * n + n - r * n) (drop (r * n) W)) ≡ body_bytes l
unfolding body_at
length_part l W r n long h e = ap length (part_is l W r n e) ∙ length_body l W r long h

pub length_bodies : (l : Layout) (W : List ℕ) → length (bodies_of l W) ≡ row_count l
length_bodies l W = length-map-range_with_len (body_at l W) 0 (row_count l)

pub get_or_bodies : (l : Layout) (W : List ℕ) (r : ℕ) → r < row_count l → get_or (bodies_of l W) r [] ≡ body_at l W r
get_or_bodies l W r h = get_or-map-range_with_len (body_at l W) 0 (row_count l) r r [] h (omega arith)

-- after a write of b to the first k bytes of row r's body
module _ (l : Layout) (W b : List ℕ) (r a k : ℕ) (long : length W ≡ row_count l * body_bytes l) (h : r < row_count l) (ea : a ≡ r * body_bytes l)
    (lb : length b ≡ k) (few : k ≤ body_bytes l) where
  in_bounds : a + body_bytes l ≤ length W
  in_bounds = subst (λ n. n + body_bytes l ≤ length W) (sym ea) (body_within l W r long h)

  pub body_front : take k (body_at l (put_mid a k W b) r) ≡ b
  unfolding body_at
  body_front =
      let w = in_bounds in
      let e : (a + k) - a ≡ k = omega arith in
      let P : ℕ → Type 0 = λ m. take m (drop a (put_mid a k W b)) ≡ b in
      take-take k (body_bytes l) (drop (r * body_bytes l) (put_mid a k W b)) few ∙ ap (λ n. take k (drop n (put_mid a k W b))) (sym ea)
      ∙ subst P e (between-put_mid a k W b (a + k) (omega arith) (omega arith))

  pub body_other : (i : ℕ) → i ≢ r → body_at l (put_mid a k W b) i ≡ body_at l W i
  unfolding body_at
  body_other i ne =
      let w = in_bounds in
      let n = body_bytes l in
      ⊎_elim
      (λ e. absurd (ne e))
      (⊎_elim
      (λ lt. let o : i * n + n ≤ a = subst (λ m. i * n + n ≤ m) (sym ea) (row_end i n r lt) in
      sym (drop-take (i * n) n (put_mid a k W b)) ∙ ap (drop (i * n)) (take-put_mid_below a k W b (i * n + n) o (omega arith)) ∙ drop-take (i * n) n W)
      (λ gt. let o : a + n ≤ i * n = subst (λ m. m + n ≤ i * n) (sym ea) (row_end r n i gt) in
      ap (take n) (drop-put_mid a k W b (i * n) (omega arith) (omega arith) lb)))
      (cases_order i r)

-- after a write of b to the whole body of row r
pub body_same : (l : Layout) (W b : List ℕ) (r a k : ℕ) → length W ≡ row_count l * body_bytes l → r < row_count l → a ≡ r * body_bytes l → k ≡ body_bytes l → length b ≡ body_bytes l
    → body_at l (put_mid a k W b) r ≡ b
unfolding body_at
body_same l W b r a k long h ea ek lb =
    let f = body_front l W b r a (body_bytes l) long h ea lb (omega arith) in
    ap (λ n. body_at l (put_mid a n W b) r) ek
    ∙ sym (take-take (body_bytes l) (body_bytes l) (drop (r * body_bytes l) (put_mid a (body_bytes l) W b)) (omega arith)) ∙ f

module _ (s : System) where
  -- symbol p of the bytes from place d on
  pub symbol_shifted : (W : List ℕ) (d p : ℕ) → symbol_at s (drop d W) p ≡ symbol_at s W (d * s.per + p)
  unfolding symbol_at
  symbol_shifted W d p =
      let m = s.per in
      let at : d * m + p ≡ (d + p / m) * m + p % m =
      let x = add-mul d (p / m) m in
      let y = div-add-mod' p m in
      omega arith
      in
      let lt : p % m < m = mod-lt p (per_some s) in
      ap (λ b. part s b (p % m)) (get_or-drop d W (p / m) 0)
      ∙ ap₂ (λ i k. part s (get_or W i 0) k) (sym (ap (λ n. n / m) at ∙ digits_div (d + p / m) lt)) (sym (ap (λ n. n % m) at ∙ digits_mod (d + p / m) lt))

  -- a symbol of the first n bytes
  pub symbol_front : (W : List ℕ) (n p : ℕ) → p < n * s.per → symbol_at s (take n W) p ≡ symbol_at s W p
  unfolding symbol_at
  symbol_front W n p h = ap (λ b. part s b (p % s.per)) (get_or-take n W (p / s.per) 0 (byte_of s p n h))

  module _ (l : Layout) where
    pub symbol_body : (W : List ℕ) (r p : ℕ) → p < row_symbols s (shape_of l) → symbol_at s (body_at l W r) p ≡ symbol_at s W (r * row_symbols s (shape_of l) + p)
    unfolding body_at
    symbol_body W r p h =
        symbol_front (drop (r * body_bytes l) W) (body_bytes l) p h ∙ symbol_shifted W (r * body_bytes l) p
        ∙ ap (λ n. symbol_at s W (n + p)) (mul_assoc r (body_bytes l) s.per)

    -- the place of a symbol in its row, and in its column
    pub get_or_row : (W : List ℕ) (r p : ℕ) → p < row_symbols s (shape_of l) → get_or (row s (shape_of l) W r) p 0 ≡ symbol_at s W (r * row_symbols s (shape_of l) + p)
    get_or_row W r p h =
        get_or_line s W (r * row_symbols s (shape_of l)) 1 (row_symbols s (shape_of l)) p h
        ∙ ap (symbol_at s W) (let m = mul-one p in let e : p * 1 + r * row_symbols s (shape_of l) ≡ r * row_symbols s (shape_of l) + p = omega arith in e)

    pub get_or_column : (W : List ℕ) (r j : ℕ) → r < row_count l → get_or (column s (shape_of l) W j) r 0 ≡ symbol_at s W (r * row_symbols s (shape_of l) + j)
    get_or_column W r j h = get_or_line s W j (row_symbols s (shape_of l)) (row_count l) r h

    module _ (W : List ℕ) (long : length W ≡ row_count l * body_bytes l) where
      pub row_unpacked : (r : ℕ) → r < row_count l → row s (shape_of l) W r ≡ unpacked s (body_at l W r)
      row_unpacked r h =
          let lb = length_body l W r long h in
          let n = row_symbols s (shape_of l) in
          let e : length (body_at l W r) * s.per ≡ n = ap (λ k. k * s.per) lb in
          ext_get_or 0 (row s (shape_of l) W r) (unpacked s (body_at l W r))
          (length_line s W (r * n) 1 n ∙ sym (length_unpacked s (body_at l W r) ∙ e))
          (λ p lp.
          let lt : p < n = subst (λ k. p < k) (length_line s W (r * n) 1 n) lp in
          get_or_row W r p lt ∙ sym (symbol_body W r p lt) ∙ sym (get_or_unpacked s (body_at l W r) p (subst (λ k. p < k) (sym e) lt)))

      pub row_is : (r : ℕ) → r < row_count l → symbols s (row s (shape_of l) W r) ≡ symbols_in s (body_at l W r)
      row_is r h = ap (symbols s) (row_unpacked r h)

      -- a symbol of a body
      pub get_or_symbols : (r j : ℕ) → r < row_count l → j < row_symbols s (shape_of l)
          → get_or (symbols_in s (body_at l W r)) j s.on.nil ≡ symbol s (symbol_at s W (r * row_symbols s (shape_of l) + j))
      get_or_symbols r j h lj =
          let e : length (body_at l W r) * s.per ≡ row_symbols s (shape_of l) = ap (λ k. k * s.per) (length_body l W r long h) in
          let lu = length_unpacked s (body_at l W r) in
          get_or-map (symbol s) (unpacked s (body_at l W r)) j 0 s.on.nil (omega arith)
          ∙ ap (symbol s) (get_or_unpacked s (body_at l W r) j (omega arith) ∙ symbol_body W r j lj)

      pub column_is : (j : ℕ) → j < row_symbols s (shape_of l) → symbols s (column s (shape_of l) W j) ≡ column_in s j (map (symbols_in s) (bodies_of l W))
      column_is j lj =
          let nil = s.on.nil in
          let n = row_symbols s (shape_of l) in
          let bodies = bodies_of l W in
          let pick : Symbols s → Symbol s.order = λ xs. get_or xs j nil in
          let lc = length_line s W j n (row_count l) in
          let ls : length (symbols s (column s (shape_of l) W j)) ≡ row_count l = length-map (column s (shape_of l) W j) (symbol s) ∙ lc in
          let lm : length (map (symbols_in s) bodies) ≡ row_count l = length-map bodies (symbols_in s) ∙ length_bodies l W in
          ext_get_or nil (symbols s (column s (shape_of l) W j)) (column_in s j (map (symbols_in s) bodies))
          (ls ∙ sym (length-map (map (symbols_in s) bodies) pick ∙ lm))
          (λ r lr.
          let lt : r < row_count l = omega arith in
          let lb = length_bodies l W in
          get_or-map (symbol s) (column s (shape_of l) W j) r 0 nil (omega arith) ∙ ap (symbol s) (get_or_column W r j lt)
          ∙ sym
          (get_or-map pick (map (symbols_in s) bodies) r [] nil (omega arith)
          ∙ ap pick (get_or-map (symbols_in s) bodies r [] [] (omega arith) ∙ ap (symbols_in s) (get_or_bodies l W r lt)) ∙ get_or_symbols r j lt lj))

      pub flat_fitting : row_count l < s.order → row_symbols s (shape_of l) < s.order → fitting s (shape_of l) (length W) ≡ Ok tt
      flat_fitting few short = right_length s (shape_of l) (length W) few short (sym long)

    -- columns and then rows were encoded
    module _ (W0 W1 W2 : List ℕ) (long : length W0 ≡ row_count l * body_bytes l) (cols : ColumnsEncoded s (shape_of l) W0 W1) (rows : RowsEncoded s (shape_of l) W1 W2) where
      long1 : length W1 ≡ row_count l * body_bytes l
      long1 = cols.long ∙ long

      pub long2 : length W2 ≡ row_count l * body_bytes l
      long2 = rows.long ∙ long1

      data_row : (r p : ℕ) → r < row_count l → p < data_symbols s (shape_of l)
          → symbol_at s W2 (r * row_symbols s (shape_of l) + p) ≡ symbol_at s W1 (r * row_symbols s (shape_of l) + p)
      data_row r p h lp =
          let n = row_symbols s (shape_of l) in
          let parts = parts_of_row s (shape_of l) in
          let ll = length_line s W1 (r * n) 1 n in
          sym (get_or_row W2 r p (omega arith)) ∙ (rows.each r h).same p (omega arith) ∙ get_or_row W1 r p (omega arith)

      data_column : (r p : ℕ) → r < data_rows l → p < data_symbols s (shape_of l)
          → symbol_at s W1 (r * row_symbols s (shape_of l) + p) ≡ symbol_at s W0 (r * row_symbols s (shape_of l) + p)
      data_column r p h lp =
          let ll = length_line s W0 p (row_symbols s (shape_of l)) (row_count l) in
          sym (get_or_column W1 r p (omega arith)) ∙ (cols.each p lp).same r (omega arith) ∙ get_or_column W0 r p (omega arith)

      front_is : Bytes W0 → Bytes W2 → (r : ℕ) → r < data_rows l → take (data_bytes l) (body_at l W2 r) ≡ take (data_bytes l) (body_at l W0 r)
      front_is b0 b2 r h =
          let d = data_bytes l in
          let parts = parts_of_row s (shape_of l) in
          let l2 = length-take-le d (body_at l W2 r) (omega (arith, length_body l W2 r long2 (omega arith))) in
          let l0 = length-take-le d (body_at l W0 r) (omega (arith, length_body l W0 r long (omega arith))) in
          symbols_tell s (take d (body_at l W2 r)) (take d (body_at l W0 r)) (bytes_take d (body_at l W2 r) (bytes_body l W2 r b2)) (bytes_take d (body_at l W0 r) (bytes_body l W0 r b0))
          (l2 ∙ sym l0)
          (λ p lp.
          let lt : p < data_symbols s (shape_of l) = subst (λ n. p < n * s.per) l2 lp in
          symbol_front (body_at l W2 r) d p lt ∙ symbol_body W2 r p (omega arith) ∙ data_row r p (omega arith) lt ∙ data_column r p h lt
          ∙ sym (symbol_front (body_at l W0 r) d p lt ∙ symbol_body W0 r p (omega arith)))

      column_kept : (j : ℕ) → j < data_symbols s (shape_of l) → column s (shape_of l) W2 j ≡ column s (shape_of l) W1 j
      column_kept j lj = same_line s W2 W1 j (row_symbols s (shape_of l)) (row_count l) (λ i li. data_row i j li lj)

      pub encoded : (data' : ℕ → List ℕ) → Bytes W0 → Bytes W2 → ((r : ℕ) → r < data_rows l → take (data_bytes l) (body_at l W0 r) ≡ data' r) → Closed s l data' (bodies_of l W2)
      encoded data' b0 b2 given = record {
        many = length_bodies l W2;
        each = λ r h.
            subst (λ (b : List ℕ). Body s l b) (sym (get_or_bodies l W2 r h))
            (record {
              long = length_body l W2 r long2 h;
              bytes = bytes_body l W2 r b2;
              codeword = subst (λ (x : Symbols s). Codeword s (check_symbols s (shape_of l)) x) (row_is W2 long2 r h) (rows.each r h).codeword;
            });
        front = λ r h. ap (take (data_bytes l)) (get_or_bodies l W2 r (omega arith)) ∙ front_is b0 b2 r h ∙ given r h;
        columns = λ j lj.
            let parts = parts_of_row s (shape_of l) in
            subst (λ (x : Symbols s). Codeword s (check_rows l) x) (column_is W2 long2 j (omega arith))
            (subst (λ (x : List ℕ). Codeword s (check_rows l) (symbols s x)) (sym (column_kept j lj)) (cols.each j lj).codeword);
      }
