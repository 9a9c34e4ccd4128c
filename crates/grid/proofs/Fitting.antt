-- Which grids fit a field.
use Rattle.std.proofs.Common.{◌≡◌, ℕ, ◌+◌, ◌-◌, ◌*◌, ◌/◌, ◌<◌, ◌≤◌, Bool, true, false, cond, eqb, ltb, Ok, Err, Result, sym, refl, ap, ◌∙◌, subst, mul-le-mul_right, add-mul, le-div_iff_mul-le, arith}
use native.Mathlib.Decide.{dec_lt}
use Rattle.std.proofs.lemmas.Bool.{lt-ltb, le-ltb, eq-eqb, ne_eqb}
use Rattle.field.specs.Systems.{System}
use Rattle.field.proofs.Sizes.{per_some, order_small}
use Rattle.code.specs.declared.error.CodeError.{CodeError}
use Rattle.code.specs.declared.error.CodeError.TheVariants.{UnequalLengths, TooLong}
use Rattle.grid.specs.Grids.{rows_of, row_bytes, row_symbols, data_symbols, check_symbols, fitting}
use Rattle.grid.specs.declared.shape.Shape.{Shape}

module _ (s : System) (sh : Shape) (bytes : ℕ) where
  choice : (b : Bool) → ◌≡◌ {A = Result (Unit {0}) CodeError} (cond b (Err TooLong) (Err TooLong)) (Err TooLong)
  choice true = refl
  choice false = refl

  pub many_rows : s.order ≤ rows_of sh → fitting s sh bytes ≡ Err TooLong
  many_rows h =
      ap (λ b. cond b (cond (ltb (row_symbols s sh) s.order) (cond (eqb bytes (rows_of sh * row_bytes sh)) (Ok tt) (Err UnequalLengths)) (Err TooLong)) (Err TooLong))
      (le-ltb (rows_of sh) s.order h)

  pub long_rows : s.order ≤ row_symbols s sh → fitting s sh bytes ≡ Err TooLong
  long_rows h =
      ap (λ b. cond (ltb (rows_of sh) s.order) (cond b (cond (eqb bytes (rows_of sh * row_bytes sh)) (Ok tt) (Err UnequalLengths)) (Err TooLong)) (Err TooLong))
      (le-ltb (row_symbols s sh) s.order h)
      ∙ choice (ltb (rows_of sh) s.order)

  module _ (few : rows_of sh < s.order) (short : row_symbols s sh < s.order) where
    inner : fitting s sh bytes ≡ cond (eqb bytes (rows_of sh * row_bytes sh)) (Ok tt) (Err UnequalLengths)
    inner =
        ap (λ b. cond b (cond (ltb (row_symbols s sh) s.order) (cond (eqb bytes (rows_of sh * row_bytes sh)) (Ok tt) (Err UnequalLengths)) (Err TooLong)) (Err TooLong))
        (lt-ltb (rows_of sh) s.order few)
        ∙ ap (λ b. cond b (cond (eqb bytes (rows_of sh * row_bytes sh)) (Ok tt) (Err UnequalLengths)) (Err TooLong)) (lt-ltb (row_symbols s sh) s.order short)

    pub other_length : (rows_of sh * row_bytes sh ≡ bytes → ⊥) → fitting s sh bytes ≡ Err UnequalLengths
    other_length n = inner ∙ ap (λ b. cond b (Ok tt) (Err UnequalLengths)) (ne_eqb bytes (rows_of sh * row_bytes sh) (λ e. n (sym e)))

    pub right_length : rows_of sh * row_bytes sh ≡ bytes → fitting s sh bytes ≡ Ok tt
    right_length e = inner ∙ ap (λ b. cond b (Ok tt) (Err UnequalLengths)) (eq-eqb bytes (rows_of sh * row_bytes sh) (sym e))

-- The tests of a row's width w in bytes, with q for the order and m for the symbols in a byte.
module _ (s : System) (w : ℕ) where
  module _ (q m : ℕ) (eq : q ≡ s.order) (em : m ≡ s.per) where
    pub over : (q - 1) / m < w → s.order ≤ w * s.per
    over h =
        let step : (s.order - 1) / s.per < w = subst (λ n. (s.order - 1) / n < w) em (subst (λ n. (n - 1) / m < w) eq h) in
        go (dec_lt (w * s.per) s.order) step
      where
        go : Dec (w * s.per < s.order) → (s.order - 1) / s.per < w → s.order ≤ w * s.per
        go (yes l) t =
            let le : w ≤ (s.order - 1) / s.per = (le-div_iff_mul-le {k = s.per} {x = w} {y = s.order - 1} (per_some s)).1 (omega arith) in
            absurd (let z : ⊥ = omega arith in z)
        go (no l) t = omega arith

    pub under : w ≤ (q - 1) / m → w * s.per < s.order
    under h =
        let step : w ≤ (s.order - 1) / s.per = subst (λ n. w ≤ (s.order - 1) / n) em (subst (λ n. w ≤ (n - 1) / m) eq h) in
        let le : w * s.per ≤ s.order - 1 = (le-div_iff_mul-le {k = s.per} {x = w} {y = s.order - 1} (per_some s)).0 step in
        omega (arith, s.some)

    -- the product of a part of the width
    pub product_small : (v : ℕ) → v ≤ w → w ≤ (q - 1) / m → v * m ≤ 255
    product_small v l h =
        let o = order_small s in
        let u = under h in
        let a : v * s.per ≤ w * s.per = mul-le-mul_right {m = v} {n = w} s.per l in
        subst (λ n. v * n ≤ 255) (sym em) (omega arith)

pub parts_of_row : (s : System) (sh : Shape) → data_symbols s sh + check_symbols s sh ≡ row_symbols s sh
parts_of_row s sh = sym (add-mul sh.data_bytes sh.check_bytes s.per)
