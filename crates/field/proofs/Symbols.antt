-- Symbols and their codes.
use Rattle.std.proofs.Common.{◌≡◌, ℕ, ◌%◌, sym, ap, ◌∙◌, ap₂, mod-eq_of_lt}
pub use Rattle.field.specs.Symbols.{symbol_path}
use Rattle.field.specs.Systems.{System, Symbol, symbol, sum_of, product_of}

module _ (s : System) where
  -- what has a symbol's code counts as it
  pub symbol_is : (n : ℕ) (x : Symbol s.order) → n ≡ x.code → symbol s n ≡ x
  symbol_is n x e = symbol_path (symbol s n) x (ap (λ m. m % s.order) e ∙ mod-eq_of_lt x.small)

  pub symbol_nil : symbol s 0 ≡ s.on.nil
  symbol_nil = symbol_is 0 s.on.nil (sym s.nil_is)

  pub sum_is : (m n : ℕ) (x y : Symbol s.order) → m ≡ x.code → symbol s n ≡ y → sum_of s m n ≡ (s.on.plus x y).code
  sum_is m n x y e f = ap₂ (λ u v. (s.on.plus u v).code) (symbol_is m x e) f

  pub product_is : (m n : ℕ) (x y : Symbol s.order) → m ≡ x.code → symbol s n ≡ y → product_of s m n ≡ (s.on.times x y).code
  product_is m n x y e f = ap₂ (λ u v. (s.on.times u v).code) (symbol_is m x e) f
