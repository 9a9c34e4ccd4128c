-- A syndrome as it grows by one symbol at the end.
use Rattle.std.proofs.Common.{◌≡◌, ℕ, List, [], ◌∷◌, ◌++◌, length, sym, ap, ◌∙◌, ap₂, add-one, length-append}
use Rattle.std.proofs.lemmas.List.{map-append}
use Rattle.field.specs.Arithmetic.{Arithmetic, power}
use Rattle.field.specs.Systems.{System, Symbol, symbol}
use Rattle.field.proofs.Algebra.{nil_plus, nil_times, distr_right, power_one, power_times}
use Rattle.code.specs.Codewords.{Symbols, locator, syndrome, symbols, syndrome_of}

module _ (s : System) where
  abbrev F : Arithmetic (Symbol s.order)
  F = s.on

  syndrome_push : (i : ℕ) (xs : Symbols s) (x : Symbol s.order) → syndrome s i (xs ++ (x ∷ [])) ≡ F.plus (F.times (syndrome s i xs) (locator s i)) x
  syndrome_push i [] x =
      F.plus_nil (F.times x (power F F.one i)) ∙ ap (F.times x) (power_one F i) ∙ F.times_one x
      ∙ sym (ap (λ y. F.plus y x) (nil_times F (locator s i)) ∙ nil_plus F x)
  syndrome_push i (y ∷ ys) x =
      let X = locator s i in
      let P = power F (locator s (length ys)) i in
      let R = syndrome s i ys in
      ap₂ F.plus
      (ap (λ n. F.times y (power F (locator s n) i)) (length-append ys (x ∷ []) ∙ add-one (length ys))
      ∙ ap (F.times y) (power_times F (locator s (length ys)) s.root i) ∙ sym (F.times_assoc y P X))
      (syndrome_push i ys x)
      ∙ sym (F.plus_assoc (F.times (F.times y P) X) (F.times R X) x)
      ∙ ap (λ z. F.plus z x) (sym (distr_right F (F.times y P) R X))

  -- one more symbol of a list
  pub syndrome_more : (i : ℕ) (xs : List ℕ) (x : ℕ)
      → (F.plus (F.times (syndrome s i (symbols s xs)) (locator s i)) (symbol s x)).code ≡ syndrome_of s i (xs ++ x ∷ [])
  syndrome_more i xs x =
      ap (λ (y : Symbol s.order). y.code)
      (sym (ap (syndrome s i) (map-append (symbol s) xs (x ∷ [])) ∙ syndrome_push i (symbols s xs) (symbol s x)))
