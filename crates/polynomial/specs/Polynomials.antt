-- Polynomials whose coefficients are bits, written as numbers: bit i is the coefficient of X ^ i. Their sum is the xor, and each is
-- its own opposite. Their product is taken modulo a polynomial p of degree k.
use Rattle.std.specs.Prelude.{ℕ, zero, suc, ◌*◌, ◌/◌, ◌%◌, ◌^◌, bit_xor}

-- the coefficient of X ^ i in a
abbrev pub coefficient : ℕ → ℕ → ℕ
coefficient i a = a / 2 ^ i % 2

module _ (k p : ℕ) where
  -- a times X: shifted by one place, less p where that brings X ^ k in
  unfoldable pub times_x : ℕ → ℕ
  times_x a = bit_xor (a * 2) (coefficient k (a * 2) * p)

  -- a times X ^ i
  unfoldable pub times_power : ℕ → ℕ → ℕ
  times_power zero a = a
  times_power (suc i) a = times_x (times_power i a)

  -- a times the part of b below X ^ i: the sum of a times X ^ j over those j below i whose coefficient in b is 1
  unfoldable pub times_part : ℕ → ℕ → ℕ → ℕ
  times_part zero a b = 0
  times_part (suc i) a b = bit_xor (times_part i a b) (coefficient i b * times_power i a)

  -- a times b, both of degree below k
  unfoldable pub product : ℕ → ℕ → ℕ
  product a b = times_part k a b

-- X ^ 8 + X ^ 4 + X ^ 3 + X ^ 2 + 1
abbrev pub byte_polynomial : ℕ
byte_polynomial = 0b1_0001_1101

-- X ^ 4 + X + 1
abbrev pub half_byte_polynomial : ℕ
half_byte_polynomial = 0b1_0011

-- the product of polynomials of eight bits, and that of polynomials of four bits
abbrev pub byte_product : ℕ → ℕ → ℕ
byte_product a b = product 8 byte_polynomial a b

abbrev pub half_byte_product : ℕ → ℕ → ℕ
half_byte_product a b = product 4 half_byte_polynomial a b
