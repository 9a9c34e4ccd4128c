-- How far lists of symbols are apart: lists that differ in no place or in one, and the triangle.
use Rattle.std.proofs.Common.{◌≡◌, ℕ, zero, suc, ◌+◌, ◌<◌, ◌≤◌, Bool, true, false, not, T, eqb, ◌⊎◌, List, [], ◌∷◌, length, get_or, set, sym, refl, ap, ◌∙◌, subst, ap₂, inl, inr, le_of_suc-le-suc, arith, eqb→eq}
use native.Mathlib.Nat.{suc_inj}
use lib.Dec.{eqb_refl}
use Rattle.field.specs.Systems.{Symbol}
use Rattle.field.proofs.Symbols.{symbol_path}
use Rattle.code.specs.Codewords.{differences, count, distance}

holds : (b : Bool) → T b → b ≡ true
holds true t = refl
holds false t = absurd t

pub at_most : (bs : List Bool) (b : Bool) → count (b ∷ bs) ≤ suc (count bs)
at_most bs true = omega arith
at_most bs false = omega arith

triangle_step : (a b c : List Bool) (x y z : Bool) → (T x → T y → T z) → count c ≤ count a + count b → count (not z ∷ c) ≤ count (not x ∷ a) + count (not y ∷ b)
triangle_step a b c true true true h l = l
triangle_step a b c true true false h l = absurd (h tt tt)
triangle_step a b c true false true h l = omega arith
triangle_step a b c true false false h l = omega arith
triangle_step a b c false true true h l = omega arith
triangle_step a b c false true false h l = omega arith
triangle_step a b c false false true h l = omega arith
triangle_step a b c false false false h l = omega arith

module _ {q : ℕ} where
  equal : (x y : Symbol q) → T (eqb x.code y.code) → x ≡ y
  equal x y t = symbol_path x y (eqb→eq x.code y.code t)

  alike_step : (x y : Symbol q) (xs ys : List (Symbol q)) (bs : List Bool) (b : Bool) → (T b → x ≡ y) → count (not b ∷ bs) ≤ 0 → (count bs ≤ 0 → xs ≡ ys)
      → ◌≡◌ {A = List (Symbol q)} (x ∷ xs) (y ∷ ys)
  alike_step x y xs ys bs true e l rest = ap₂ ◌∷◌ (e tt) (rest l)
  alike_step x y xs ys bs false e l rest = absurd (let z : ⊥ = omega arith in z)

  pub alike : (xs ys : List (Symbol q)) → length xs ≡ length ys → distance xs ys ≤ 0 → xs ≡ ys
  alike [] [] e l = refl
  alike [] (y ∷ ys) e l = absurd (let z : ⊥ = omega arith in z)
  alike (x ∷ xs) [] e l = absurd (let z : ⊥ = omega arith in z)
  alike (x ∷ xs) (y ∷ ys) e l = alike_step x y xs ys (differences xs ys) (eqb x.code y.code) (equal x y) l (alike xs ys (suc_inj e))

  -- w is xs, or xs with one place changed
  abbrev pub OneOff : (Symbol q) → List (Symbol q) → List (Symbol q) → Type 0
  OneOff d xs w = (xs ≡ w) ⊎ ((p : ℕ) × (p < length xs) × (w ≡ set xs p (get_or w p d)))

  later : (d x y : Symbol q) (xs ys : List (Symbol q)) → x ≡ y → OneOff d xs ys → OneOff d (x ∷ xs) (y ∷ ys)
  later d x y xs ys e (inl f) = inl (ap₂ ◌∷◌ e f)
  later d x y xs ys e (inr f) = inr (suc f.0, omega (arith, f.1), ap₂ ◌∷◌ (sym e) f.2)

  one_step : (d x y : Symbol q) (xs ys : List (Symbol q)) (bs : List Bool) (b : Bool) → (T b → x ≡ y) → count (not b ∷ bs) ≤ 1
      → (count bs ≤ 1 → OneOff d xs ys) → (count bs ≤ 0 → xs ≡ ys) → OneOff d (x ∷ xs) (y ∷ ys)
  one_step d x y xs ys bs true e l rest none = later d x y xs ys (e tt) (rest l)
  one_step d x y xs ys bs false e l rest none = inr (0, omega arith, ap (λ (t : List (Symbol q)). y ∷ t) (sym (none (le_of_suc-le-suc l))))

  pub one_off : (d : Symbol q) (xs ys : List (Symbol q)) → length xs ≡ length ys → distance xs ys ≤ 1 → OneOff d xs ys
  one_off d [] [] e l = inl refl
  one_off d [] (y ∷ ys) e l = absurd (let z : ⊥ = omega arith in z)
  one_off d (x ∷ xs) [] e l = absurd (let z : ⊥ = omega arith in z)
  one_off d (x ∷ xs) (y ∷ ys) e l =
      one_step d x y xs ys (differences xs ys) (eqb x.code y.code) (equal x y) l (one_off d xs ys (suc_inj e)) (alike xs ys (suc_inj e))

  self_step : (x : Symbol q) (bs : List Bool) (b : Bool) → b ≡ true → count (not b ∷ bs) ≡ count bs
  self_step x bs b e = ap (λ c. count (not c ∷ bs)) e

  pub distance_self : (xs : List (Symbol q)) → distance xs xs ≡ 0
  distance_self [] = refl
  distance_self (x ∷ xs) =
      self_step x (differences xs xs) (eqb x.code x.code) (holds (eqb x.code x.code) (eqb_refl x.code)) ∙ distance_self xs

  pub distance_set : (xs : List (Symbol q)) (p : ℕ) (v : Symbol q) → distance xs (set xs p v) ≤ 1
  distance_set [] p v = omega arith
  distance_set (x ∷ xs) zero v = omega (arith, at_most (differences xs xs) (not (eqb x.code v.code)), distance_self xs)
  distance_set (x ∷ xs) (suc p) v =
      omega (arith, distance_set xs p v, self_step x (differences xs (set xs p v)) (eqb x.code x.code) (holds (eqb x.code x.code) (eqb_refl x.code)))

  joins : (x y z : Symbol q) → T (eqb x.code y.code) → T (eqb x.code z.code) → T (eqb y.code z.code)
  joins x y z a b =
      subst (λ n. T (eqb y.code n)) (sym (eqb→eq x.code y.code a) ∙ eqb→eq x.code z.code b) (eqb_refl y.code)

  pub triangle : (xs ys zs : List (Symbol q)) → length xs ≡ length ys → length xs ≡ length zs → distance ys zs ≤ distance xs ys + distance xs zs
  triangle [] [] zs e f = omega arith
  triangle [] (y ∷ ys) zs e f = absurd (let z : ⊥ = omega arith in z)
  triangle (x ∷ xs) [] zs e f = absurd (let z : ⊥ = omega arith in z)
  triangle (x ∷ xs) (y ∷ ys) [] e f = absurd (let z : ⊥ = omega arith in z)
  triangle (x ∷ xs) (y ∷ ys) (z ∷ zs) e f =
      triangle_step (differences xs ys) (differences xs zs) (differences ys zs) (eqb x.code y.code) (eqb x.code z.code) (eqb y.code z.code) (joins x y z)
      (triangle xs ys zs (suc_inj e) (suc_inj f))
