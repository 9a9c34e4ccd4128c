-- The lines of a grid that was measured, and the calls that work through it.
use Rattle.std.proofs.Common.{◌≡◌, ℕ, ◌+◌, ◌*◌, ◌%◌, ◌<◌, ◌≤◌, Bool, List, length, get_or, MatchBool, sym, ap, ◌∙◌, subst, mod-eq_of_lt, mul_assoc, mul-le-mul_right, add-mul, one-mul, mul-one, arith}
use native.Mathlib.Decide.{ℕ_discrete}
use lib.Arith.{digits_lt, digits_mod}
use Rattle.field.specs.Systems.{System}
use Rattle.code.specs.Codewords.{Codeword, symbols, syndrome, syndrome_of}
use Rattle.code.specs.Filling.{Encoded}
use Rattle.grid.specs.Grids.{rows_of, row_bytes, row_symbols, data_symbols, check_symbols, line, row, column}
use Rattle.grid.specs.Packing.{symbol_at}
use Rattle.grid.specs.Fillable.{Fillable}
use Rattle.grid.specs.Line.{on, Within, Written, Redone}
use Rattle.grid.specs.Measures.{Sized, IsRow, IsColumn, IsSyndromes}
use Rattle.grid.specs.declared.shape.Shape.{Shape}
use Rattle.grid.specs.declared.shape.Grid.{Grid}
use Rattle.grid.specs.declared.lines.Line.{Line}
use Rattle.grid.proofs.Fitting.{parts_of_row}
use Rattle.grid.proofs.GridWork.{changed, RowsDone, rows_more, ColumnsDone, columns_more}

module _ {s : System} {sh : Shape} {len : ℕ} {g : Grid} (h : Sized s sh len g) where
  -- the bytes of the grid have so many symbols
  pub grid_symbols : len * s.per ≡ rows_of sh * row_symbols s sh
  grid_symbols = ap (λ b. b * s.per) h.long ∙ mul_assoc (rows_of sh) (row_bytes sh) s.per

  module _ {r : ℕ} {l : Line} (e : IsRow g r l) where
    row_start : l.start ≡ r * row_symbols s sh
    row_start = e.start ∙ ap (λ n. r * n) h.columns

    row_len : l.len ≡ row_symbols s sh
    row_len = e.len ∙ h.columns

    row_checks : l.checks ≡ check_symbols s sh
    row_checks =
        let a = h.columns in
        let b = h.data_columns in
        let c = e.checks in
        let p = parts_of_row s sh in
        omega arith

    row_on : (bytes : List ℕ) → on s l bytes ≡ row s sh bytes r
    row_on bytes =
        ap (λ i. line s bytes i l.step l.len) row_start ∙ ap (λ i. line s bytes (r * row_symbols s sh) i l.len) e.step
        ∙ ap (line s bytes (r * row_symbols s sh) 1) row_len

    pub row_within : {m : ℕ} → r < g.rows → m ≡ len → Within s l m
    row_within {m} lr em =
        let n = row_symbols s sh in
        let short = h.short in
        record {
          few = subst (λ k. k < s.order) (sym row_len) short;
          inside = λ i li.
              let rows : (r + 1) * n ≤ rows_of sh * n = mul-le-mul_right {m = r + 1} {n = rows_of sh} n (let a = h.rows in omega arith) in
              let here : i * 1 + r * n < rows_of sh * n =
              let a = add-mul r 1 n in
              let b = one-mul n in
              let d = mul-one i in
              let f = row_len in
              omega arith
              in
              subst (λ k. i * k + l.start < m * s.per) (sym e.step)
              (subst (λ k. i * 1 + k < m * s.per) (sym row_start) (subst (λ k. i * 1 + r * n < k) (sym (ap (λ k. k * s.per) em ∙ grid_symbols)) here));
        }

    pub row_step : {old now new : List ℕ} → RowsDone s sh (Encoded s (check_symbols s sh)) r old now → length new ≡ length now → Redone s l (Encoded s l.checks) now new
        → RowsDone s sh (Encoded s (check_symbols s sh)) (r + 1) old new
    row_step {old} {now} {new} d kept w =
        rows_more s sh (Encoded s (check_symbols s sh)) r old now new d kept
        (changed s l (Encoded s l.checks) (Encoded s (check_symbols s sh)) (r * row_symbols s sh) 1 (row_symbols s sh) now new row_start e.step row_len
        (λ x y. subst (λ n. Encoded s n x y) row_checks) w)

    pub judged_row : (bytes : List ℕ) (b : Bool)
        → MatchBool b (Codeword s l.checks (symbols s (on s l bytes))) (Codeword s l.checks (symbols s (on s l bytes)) → ⊥)
        → MatchBool b (Codeword s (check_symbols s sh) (symbols s (row s sh bytes r))) (Codeword s (check_symbols s sh) (symbols s (row s sh bytes r)) → ⊥)
    judged_row bytes b w =
        let V : ℕ → List ℕ → Type 0 = λ c x. MatchBool b (Codeword s c (symbols s x)) (Codeword s c (symbols s x) → ⊥) in
        subst (V (check_symbols s sh)) (row_on bytes) (subst (λ c. V c (on s l bytes)) row_checks w)

  module _ {j : ℕ} {l : Line} (e : IsColumn g j l) where
    column_step_is : l.step ≡ row_symbols s sh
    column_step_is = e.step ∙ h.columns

    column_len : l.len ≡ rows_of sh
    column_len = e.len ∙ h.rows

    column_checks : l.checks ≡ sh.check_rows
    column_checks = e.checks ∙ h.check_rows

    pub column_on : (bytes : List ℕ) → on s l bytes ≡ column s sh bytes j
    column_on bytes =
        ap (λ i. line s bytes i l.step l.len) e.start ∙ ap (λ i. line s bytes j i l.len) column_step_is ∙ ap (line s bytes j (row_symbols s sh)) column_len

    pub column_within : {m : ℕ} → j < g.data_columns → m ≡ len → Within s l m
    column_within {m} lj em =
        let few = h.few in
        record {
          few = subst (λ k. k < s.order) (sym column_len) few;
          inside = λ i li.
              let here : i * row_symbols s sh + j < rows_of sh * row_symbols s sh =
              digits_lt (subst (λ k. i < k) column_len li) (let a = h.columns in let b = g.column_part in omega arith)
              in
              subst (λ k. i * k + l.start < m * s.per) (sym column_step_is)
              (subst (λ k. i * row_symbols s sh + k < m * s.per) (sym e.start)
              (subst (λ k. i * row_symbols s sh + j < k) (sym (ap (λ k. k * s.per) em ∙ grid_symbols)) here));
        }

    -- one column more, by a change that names the number of checks
    pub column_step : (P : ℕ → List ℕ → List ℕ → Type 0) {old now new : List ℕ} → j < g.data_columns → ColumnsDone s sh (P sh.check_rows) j old now → length new ≡ length now
        → Redone s l (P l.checks) now new → ColumnsDone s sh (P sh.check_rows) (j + 1) old new
    column_step P {old} {now} {new} lj d kept w =
        columns_more s sh (P sh.check_rows) j old now new (let a = h.columns in let b = g.column_part in omega arith) d kept
        (changed s l (P l.checks) (P sh.check_rows) j (row_symbols s sh) (rows_of sh) now new e.start column_step_is column_len
        (λ x y. subst (λ n. P n x y) column_checks) w)

    pub fillable_column : (lost : List Bool) (bytes : List ℕ) → Fillable s l.checks lost (on s l bytes) → Fillable s sh.check_rows lost (column s sh bytes j)
    fillable_column lost bytes f =
        subst (λ n. Fillable s n lost (column s sh bytes j)) column_checks (subst (λ (x : List ℕ). Fillable s l.checks lost x) (column_on bytes) f)

  -- the line of a column's syndromes, in bytes for as many rows of data as there are check rows
  module _ {j : ℕ} {l : Line} (e : IsSyndromes g j l) where
    pub syndromes_within : {m : ℕ} → j < g.data_columns → m ≡ sh.check_rows * sh.data_bytes → Within s l m
    syndromes_within {m} lj em =
        let n = data_symbols s sh in
        let symbols : m * s.per ≡ sh.check_rows * n = ap (λ b. b * s.per) em ∙ mul_assoc sh.check_rows sh.data_bytes s.per in
        record {
          few = let a = e.len in let b = g.row_part in let c = h.rows in let d = h.few in omega arith;
          inside = λ i li.
              let here : i * n + j < sh.check_rows * n =
              digits_lt (subst (λ k. i < k) (e.len ∙ h.check_rows) li) (subst (λ k. j < k) h.data_columns lj)
              in
              subst (λ k. i * k + l.start < m * s.per) (sym (e.step ∙ h.data_columns))
              (subst (λ k. i * n + k < m * s.per) (sym e.start) (subst (λ k. i * n + j < k) (sym symbols) here));
        }

  -- the syndromes of one column more
  module _ (bytes old new word part : List ℕ) {j : ℕ} {c l : Line} (ec : IsColumn g j c) (e : IsSyndromes g j l) (lj : j < g.data_columns) (ew : word ≡ on s c bytes)
      (lp : length part ≡ l.len) (sy : (i : ℕ) → i < length part → get_or part i 0 ≡ syndrome_of s i word) (w : Written s l l.len part old new) where
    start : l.start ≡ j
    start = e.start

    lc : l.len ≡ sh.check_rows
    lc = e.len ∙ h.check_rows

    is : word ≡ column s sh bytes j
    is = ew ∙ column_on ec bytes

    at : (i k : ℕ) → i * l.step + k ≡ i * data_symbols s sh + k
    at i k = ap (λ n. i * n + k) (e.step ∙ h.data_columns)

    this : (i : ℕ) → i < sh.check_rows → symbol_at s new (i * data_symbols s sh + j) ≡ syndrome_of s i (column s sh bytes j)
    this i li =
        ap (symbol_at s new) (sym (at i j) ∙ ap (λ n. i * l.step + n) (sym start)) ∙ w.online i (omega arith) ∙ ap (λ k. k % s.order) (sy i (omega arith))
        ∙ mod-eq_of_lt (syndrome s i (symbols s word)).small ∙ ap (syndrome_of s i) is

    pub syndromes_step : ((i k : ℕ) → i < sh.check_rows → k < j → symbol_at s old (i * data_symbols s sh + k) ≡ syndrome_of s i (column s sh bytes k))
        → (i k : ℕ) → i < sh.check_rows → k < j + 1 → symbol_at s new (i * data_symbols s sh + k) ≡ syndrome_of s i (column s sh bytes k)
    syndromes_step before i k li lk = go (ℕ_discrete k j)
      where
        go : Dec (k ≡ j) → symbol_at s new (i * data_symbols s sh + k) ≡ syndrome_of s i (column s sh bytes k)
        go (yes e) = subst (λ m. symbol_at s new (i * data_symbols s sh + m) ≡ syndrome_of s i (column s sh bytes m)) (sym e) (this i li)
        go (no ne) =
            w.offline (i * data_symbols s sh + k) (λ a la e. ne (off a e)) ∙ before i k li (omega arith)
          where
            d : data_symbols s sh ≡ g.data_columns
            d = sym h.data_columns

            off : (a : ℕ) → i * data_symbols s sh + k ≡ a * l.step + l.start → k ≡ j
            off a e =
                let same : i * data_symbols s sh + k ≡ a * data_symbols s sh + j = e ∙ ap (λ n. a * l.step + n) start ∙ at a j in
                sym (digits_mod i (subst (λ n. k < n) (sym d) (let q : k < g.data_columns = omega arith in q))) ∙ ap (λ x. x % data_symbols s sh) same
                ∙ digits_mod a (subst (λ n. j < n) (sym d) lj)
