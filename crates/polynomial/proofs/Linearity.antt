-- Polynomials over the bits: multiplying by a power of X respects sums, and a polynomial is the sum of its parts.
use Rattle.std.proofs.Common.{◌≡◌, ℕ, zero, suc, ◌+◌, ◌*◌, ◌/◌, ◌%◌, ◌^◌, ◌<◌, ◌≤◌, sym, refl, ap, ◌∙◌, ap₂, le_of_suc-le-suc, not-suc-le-zero, add-zero, mod-lt, mod-eq_of_lt, add_comm, suc-add, one-mul, mul-zero, zero-add, zero-mul, one-add, arith, lit<, pow_pos}
use native.Mathlib.Nat.{mod-one, zero-mod, zero-div}
use lib.Bits.{bit_xor, xor_mod, xor_shr, xor_block, xor_shifted, xor_zero_r, xor_self, xor_comm, xor_assoc}
use Rattle.std.proofs.lemmas.Nat.{mod-pow-add}
use Rattle.polynomial.specs.Polynomials.{coefficient, times_x, times_power, times_part, product}

-- (a + b) + (c + d) in another order
pub xor_four : (a b c d : ℕ) → bit_xor (bit_xor a b) (bit_xor c d) ≡ bit_xor (bit_xor a c) (bit_xor b d)
xor_four a b c d =
    xor_assoc a b (bit_xor c d) ∙ ap (bit_xor a) (sym (xor_assoc b c d) ∙ ap (λ x. bit_xor x d) (xor_comm b c) ∙ xor_assoc c b d)
    ∙ sym (xor_assoc a c (bit_xor b d))

double_xor : (a b : ℕ) → bit_xor a b * 2 ≡ bit_xor (a * 2) (b * 2)
double_xor a b =
    sym (ap₂ bit_xor (sym (add-zero (a * 2))) (sym (add-zero (b * 2))) ∙ xor_block 1 a b 0 0 (lit< tt) (lit< tt) ∙ add-zero (bit_xor a b * 2))

bit_times : (d e p : ℕ) → d < 2 → e < 2 → bit_xor d e * p ≡ bit_xor (d * p) (e * p)
bit_times zero zero p hd he = rw zero-mul
bit_times zero (suc e) p hd he = rw zero-mul
bit_times (suc zero) zero p hd he = simp (zero-mul, xor_zero_r)
bit_times (suc zero) (suc zero) p hd he = rw (zero-mul, xor_self)
bit_times (suc zero) (suc (suc e)) p hd he = absurd (not-suc-le-zero (le_of_suc-le-suc (le_of_suc-le-suc he)))
bit_times (suc (suc d)) e p hd he = absurd (not-suc-le-zero (le_of_suc-le-suc (le_of_suc-le-suc hd)))

pub coefficient_bit : (i a : ℕ) → coefficient i a < 2
coefficient_bit i a = mod-lt (a / 2 ^ i) (lit< tt)

coefficient_xor : (i a b : ℕ) → coefficient i (bit_xor a b) ≡ bit_xor (coefficient i a) (coefficient i b)
coefficient_xor i a b = ap (λ x. x % 2) (xor_shr a b i) ∙ xor_mod (a / 2 ^ i) (b / 2 ^ i) 1

-- the part of a up to X ^ i is its part below X ^ i and what it has of X ^ i
pub part_next : (i a : ℕ) → a % 2 ^ suc i ≡ bit_xor (a % 2 ^ i) (coefficient i a * 2 ^ i)
part_next i a =
    ap (λ j. a % 2 ^ j) (sym (one-add i)) ∙ mod-pow-add a 1 i ∙ sym (xor_shifted (coefficient i a) i (a % 2 ^ i) (mod-lt a (pow_pos i)))
    ∙ xor_comm (coefficient i a * 2 ^ i) (a % 2 ^ i)

module _ (k p : ℕ) where
  pub times_x_nil : times_x k p 0 ≡ 0
  unfolding times_x
  times_x_nil = rw (zero-div, zero-mod, zero-mul)

  times_x_xor : (a b : ℕ) → times_x k p (bit_xor a b) ≡ bit_xor (times_x k p a) (times_x k p b)
  unfolding times_x
  times_x_xor a b =
      ap₂ bit_xor (double_xor a b)
      (ap (λ x. coefficient k x * p) (double_xor a b) ∙ ap (λ x. x * p) (coefficient_xor k (a * 2) (b * 2))
      ∙ bit_times (coefficient k (a * 2)) (coefficient k (b * 2)) p (coefficient_bit k (a * 2)) (coefficient_bit k (b * 2)))
      ∙ xor_four (a * 2) (b * 2) (coefficient k (a * 2) * p) (coefficient k (b * 2) * p)

  pub times_power_nil : (i : ℕ) → times_power k p i 0 ≡ 0
  unfolding times_power
  times_power_nil zero = refl
  times_power_nil (suc i) = ap (times_x k p) (times_power_nil i) ∙ times_x_nil

  pub times_power_xor : (i a b : ℕ) → times_power k p i (bit_xor a b) ≡ bit_xor (times_power k p i a) (times_power k p i b)
  unfolding times_power
  times_power_xor zero a b = refl
  times_power_xor (suc i) a b = ap (times_x k p) (times_power_xor i a b) ∙ times_x_xor (times_power k p i a) (times_power k p i b)

  -- times X ^ (i + j) is times X ^ j and then times X ^ i
  pub times_power_add : (i j a : ℕ) → times_power k p (i + j) a ≡ times_power k p i (times_power k p j a)
  unfolding times_power
  times_power_add zero j a = ap (λ m. times_power k p m a) (zero-add j)
  times_power_add (suc i) j a = ap (λ m. times_power k p m a) (suc-add i j) ∙ ap (times_x k p) (times_power_add i j a)

  times_part_nil : (i b : ℕ) → times_part k p i 0 b ≡ 0
  unfolding times_part
  times_part_nil zero b = refl
  times_part_nil (suc i) b =
      ap₂ bit_xor (times_part_nil i b) (ap (λ x. coefficient i b * x) (times_power_nil i) ∙ mul-zero (coefficient i b))

  times_part_xor : (i a b c : ℕ) → times_part k p i a (bit_xor b c) ≡ bit_xor (times_part k p i a b) (times_part k p i a c)
  unfolding times_part
  times_part_xor zero a b c = refl
  times_part_xor (suc i) a b c =
      let x = times_power k p i a in
      ap₂ bit_xor (times_part_xor i a b c)
      (ap (λ d. d * x) (coefficient_xor i b c) ∙ bit_times (coefficient i b) (coefficient i c) x (coefficient_bit i b) (coefficient_bit i c))
      ∙ xor_four (times_part k p i a b) (times_part k p i a c) (coefficient i b * x) (coefficient i c * x)

  -- one more coefficient of b, 0 or 1
  pub part_without : (i a b r : ℕ) → r ≡ times_part k p i a b → coefficient i b ≡ 0 → r ≡ times_part k p (suc i) a b
  unfolding times_part
  part_without i a b r e z =
      let s = times_part k p i a b in
      let x = times_power k p i a in
      e ∙ sym (ap (λ d. bit_xor s (d * x)) z ∙ ap (bit_xor s) (zero-mul x) ∙ xor_zero_r s)

  pub part_with : (i a b r x : ℕ) → r ≡ times_part k p i a b → x ≡ times_power k p i a → coefficient i b ≡ 1 → bit_xor r x ≡ times_part k p (suc i) a b
  unfolding times_part
  part_with i a b r x e f o =
      let s = times_part k p i a b in
      let y = times_power k p i a in
      ap₂ bit_xor e f ∙ sym (ap (λ d. bit_xor s (d * y)) o ∙ ap (bit_xor s) (one-mul y))

  pub nil_product : (b : ℕ) → product k p 0 b ≡ 0
  unfolding product
  nil_product b = times_part_nil k b

  pub product_xor : (a b c : ℕ) → product k p a (bit_xor b c) ≡ bit_xor (product k p a b) (product k p a c)
  unfolding product
  product_xor a b c = times_part_xor k a b c

  pub product_nil : (a : ℕ) → product k p a 0 ≡ 0
  product_nil a = product_xor a 0 0 ∙ xor_self (product k p a 0)

  -- X ^ i, for any i
  abbrev pub x_power : ℕ → ℕ
  x_power i = times_power k p i 1

  x_power_add : (i j : ℕ) → times_power k p i (x_power j) ≡ x_power (i + j)
  x_power_add i j = sym (times_power_add i j 1)

  bit_power : (i d a : ℕ) → d < 2 → times_power k p i (d * a) ≡ d * times_power k p i a
  bit_power i zero a h = ap (times_power k p i) (zero-mul a) ∙ times_power_nil i ∙ sym (zero-mul (times_power k p i a))
  bit_power i (suc zero) a h = ap (times_power k p i) (one-mul a) ∙ sym (one-mul (times_power k p i a))
  bit_power i (suc (suc d)) a h = absurd (not-suc-le-zero (le_of_suc-le-suc (le_of_suc-le-suc h)))

  -- where the first k powers of X are the first k bits, the product with a power of X shifts that often
  module _ (low : (i : ℕ) → i < k → x_power i ≡ 2 ^ i) where
    power_part : (i b m : ℕ) → m ≤ k → times_part k p m (x_power i) b ≡ times_power k p i (b % 2 ^ m)
    unfolding times_part
    power_part i b zero h = sym (ap (times_power k p i) (mod-one b) ∙ times_power_nil i)
    power_part i b (suc m) h =
        let d = coefficient m b in
        ap₂ bit_xor (power_part i b m (omega arith))
        (ap (λ x. d * x) (x_power_add m i ∙ ap x_power (add_comm m i) ∙ sym (x_power_add i m) ∙ ap (times_power k p i) (low m (omega arith)))
        ∙ sym (bit_power i d (2 ^ m) (coefficient_bit m b)))
        ∙ sym (ap (times_power k p i) (part_next m b) ∙ times_power_xor i (b % 2 ^ m) (d * 2 ^ m))

    pub power_product : (i b : ℕ) → b < 2 ^ k → product k p (x_power i) b ≡ times_power k p i b
    unfolding product
    power_product i b h = power_part i b k (omega arith) ∙ ap (times_power k p i) (mod-eq_of_lt h)
