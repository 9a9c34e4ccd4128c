-- Grids whose rows or columns are worked on one after another.
use Rattle.std.proofs.Common.{◌≡◌, ℕ, ◌+◌, ◌*◌, ◌/◌, ◌%◌, ◌<◌, ◌≤◌, List, length, sym, ap, ◌∙◌, subst, mul-one, arith}
use native.Mathlib.Decide.{ℕ_discrete}
use lib.Arith.{digits_div, digits_mod}
use Rattle.field.specs.Systems.{System}
use Rattle.grid.specs.Packing.{symbol_at}
use Rattle.grid.specs.Grids.{rows_of, row_symbols, line, row, column}
use Rattle.grid.specs.Line.{Redone}
use Rattle.grid.specs.declared.lines.Line.{Line}
use Rattle.grid.specs.declared.shape.Shape.{Shape}
use Rattle.grid.proofs.LineWork.{same_line}

module _ (s : System) where
  -- n symbols went from one list to another, and all symbols off them are as they were
  pub record Changed (start step n : ℕ) (P : List ℕ → List ℕ → Type 0) (old new : List ℕ) : Type 0 where
    pub done : P (line s old start step n) (line s new start step n)
    pub offline : (p : ℕ) → ((i : ℕ) → i < n → p ≡ i * step + start → ⊥) → symbol_at s new p ≡ symbol_at s old p

  pub changed : (l : Line) (P Q : List ℕ → List ℕ → Type 0) (a b n : ℕ) (old new : List ℕ) → l.start ≡ a → l.step ≡ b → l.len ≡ n → ((x y : List ℕ) → P x y → Q x y)
      → Redone s l P old new → Changed a b n Q old new
  changed l P Q a b n old new ea eb en f w =
      subst (λ i. Changed i b n Q old new) ea (subst (λ i. Changed l.start i n Q old new) eb (subst (λ i. Changed l.start l.step i Q old new) en
      (record { done = f _ _ w.done; offline = w.offline })))

module _ (s : System) (sh : Shape) where
  abbrev n : ℕ
  n = row_symbols s sh

  -- the first k rows have gone from the old lists to new ones, and the others are as they were
  pub record RowsDone (P : List ℕ → List ℕ → Type 0) (k : ℕ) (old new : List ℕ) : Type 0 where
    pub long : length new ≡ length old
    pub done : (r : ℕ) → r < k → P (row s sh old r) (row s sh new r)
    pub todo : (r : ℕ) → k ≤ r → row s sh new r ≡ row s sh old r

  module _ (P : List ℕ → List ℕ → Type 0) (k : ℕ) (old now new : List ℕ) (d : RowsDone P k old now) (kept : length new ≡ length now)
      (w : Changed s (k * row_symbols s sh) 1 (row_symbols s sh) P now new) where
    other_row : (r : ℕ) → (r ≡ k → ⊥) → row s sh new r ≡ row s sh now r
    other_row r ne =
        same_line s new now (r * row_symbols s sh) 1 (row_symbols s sh)
        (λ i l. w.offline (i * 1 + r * row_symbols s sh)
        (λ j m e.
        let a = mul-one i in
        let b = mul-one j in
        let same : r * row_symbols s sh + i ≡ k * row_symbols s sh + j = omega arith in
        ne (sym (digits_div r l) ∙ ap (λ x. x / row_symbols s sh) same ∙ digits_div k m)))

    pub rows_more : RowsDone P (k + 1) old new
    rows_more = record {
      long = kept ∙ d.long;
      done = λ r l. at r l (ℕ_discrete r k);
      todo = λ r l. other_row r (λ e. let z : ⊥ = omega arith in z) ∙ d.todo r (omega arith);
    }
      where
        at : (r : ℕ) → r < k + 1 → Dec (r ≡ k) → P (row s sh old r) (row s sh new r)
        at r l (yes e) =
            subst (λ i. P (row s sh old i) (row s sh new i)) (sym e) (subst (λ (x : List ℕ). P x (row s sh new k)) (d.todo k (omega arith)) w.done)
        at r l (no ne) = subst (λ (x : List ℕ). P (row s sh old r) x) (sym (other_row r ne)) (d.done r (omega arith))

  -- the first k columns have gone from the old lists to new ones, and the others are as they were
  pub record ColumnsDone (P : List ℕ → List ℕ → Type 0) (k : ℕ) (old new : List ℕ) : Type 0 where
    pub long : length new ≡ length old
    pub done : (j : ℕ) → j < k → P (column s sh old j) (column s sh new j)
    pub todo : (j : ℕ) → k ≤ j → j < row_symbols s sh → column s sh new j ≡ column s sh old j

  module _ (P : List ℕ → List ℕ → Type 0) (k : ℕ) (old now new : List ℕ) (lk : k < row_symbols s sh) (d : ColumnsDone P k old now) (kept : length new ≡ length now)
      (w : Changed s k (row_symbols s sh) (rows_of sh) P now new) where
    other_column : (j : ℕ) → j < row_symbols s sh → (j ≡ k → ⊥) → column s sh new j ≡ column s sh now j
    other_column j lj ne =
        same_line s new now j (row_symbols s sh) (rows_of sh)
        (λ i l. w.offline (i * row_symbols s sh + j)
        (λ h m e. ne (sym (digits_mod i lj) ∙ ap (λ x. x % row_symbols s sh) e ∙ digits_mod h lk)))

    pub columns_more : ColumnsDone P (k + 1) old new
    columns_more = record {
      long = kept ∙ d.long;
      done = λ j l. at j l (ℕ_discrete j k);
      todo = λ j l m. other_column j m (λ e. let z : ⊥ = omega arith in z) ∙ d.todo j (omega arith) m;
    }
      where
        at : (j : ℕ) → j < k + 1 → Dec (j ≡ k) → P (column s sh old j) (column s sh new j)
        at j l (yes e) =
            subst (λ i. P (column s sh old i) (column s sh new i)) (sym e) (subst (λ (x : List ℕ). P x (column s sh new k)) (d.todo k (omega arith) lk) w.done)
        at j l (no ne) = subst (λ (x : List ℕ). P (column s sh old j) x) (sym (other_column j (omega arith) ne)) (d.done j (omega arith))
