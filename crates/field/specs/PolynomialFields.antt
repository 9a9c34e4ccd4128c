-- The number systems of polynomials: the symbols are the polynomials of degree below k, the sum is the xor, each symbol is its own
-- opposite, the product is that of polynomials modulo a primitive polynomial p, and the root is X, coded 2.
use Rattle.std.specs.Prelude.{◌≡◌, ℕ, zero, suc, ◌-◌, ◌^◌, ◌<◌, ◌≢◌, bit_xor, refl}
use Rattle.std.proofs.Common.{sym, ap, ap₂, ◌∙◌, add-one, arith, pow_pos}
use Rattle.std.proofs.lemmas.Nat.{xor_comm, xor_lt}
use Rattle.std.specs.Int.Bits.{xor_assoc, xor_zero_r, xor_self}
use Rattle.polynomial.specs.Polynomials.{product}
use Rattle.polynomial.proofs.Linearity.{x_power, product_xor}
use Rattle.polynomial.proofs.Logarithms.{Primitive, log, log_power, power_pos, product_powers}
use Rattle.polynomial.proofs.Laws.{one_power, one_small, two_power, two_small, product_small, product_comm, product_assoc, product_one, partner, partner_nil, partner_small, partner_law}
use Rattle.polynomial.proofs.Moduli.{byte_primitive, half_byte_primitive}
use Rattle.field.specs.Arithmetic.{Arithmetic, power}
use Rattle.field.specs.Systems.{System, Symbol}
use Rattle.field.specs.Symbols.{symbol_path}

module _ {k p n : ℕ} (P : Primitive k p n) where
  abbrev pub arithmetic : Arithmetic (Symbol (2 ^ k))
  arithmetic = record {
    nil = record { code = 0; small = pow_pos k };
    one = record { code = 1; small = one_small P };
    plus = λ a b. record { code = bit_xor a.code b.code; small = xor_lt k a.code b.code a.small b.small };
    times = λ a b. record { code = product k p a.code b.code; small = product_small P a.code b.code a.small b.small };
    opp = λ a. a;
    inv = λ a. record { code = partner P a.code; small = partner_small P a.code };
    plus_assoc = λ a b c. symbol_path _ _ (xor_assoc a.code b.code c.code);
    plus_comm = λ a b. symbol_path _ _ (xor_comm a.code b.code);
    plus_nil = λ a. symbol_path _ _ (xor_zero_r a.code);
    plus_opp = λ a. symbol_path _ _ (xor_self a.code);
    times_assoc = λ a b c. symbol_path _ _ (product_assoc P a.code b.code c.code a.small b.small c.small);
    times_comm = λ a b. symbol_path _ _ (product_comm P a.code b.code a.small b.small);
    times_one = λ a. symbol_path _ _ (product_one P a.code a.small);
    distr = λ a b c. symbol_path _ _ (product_xor k p a.code b.code c.code);
    times_inv = λ a ne. symbol_path _ _ (partner_law P a.code a.small (λ z. ne (symbol_path _ _ z)));
    inv_nil = symbol_path _ _ (partner_nil P);
  }

  abbrev pub root : Symbol (2 ^ k)
  root = record { code = 2; small = two_small P }

  root_is : (i : ℕ) → (power arithmetic root i).code ≡ x_power k p i
  root_is zero = one_power P
  root_is (suc i) = ap₂ (product k p) (root_is i) (two_power P) ∙ product_powers P i 1 ∙ ap (x_power k p) (add-one i)

  pub root_power : (i : ℕ) → i < 2 ^ k - 1 → power arithmetic root i ≢ arithmetic.nil
  root_power i h z =
      let pos : 0 < x_power k p i = power_pos P i in
      let none : x_power k p i ≡ 0 = sym (root_is i) ∙ ap (λ (x : Symbol (2 ^ k)). x.code) z in
      omega arith

  pub root_apart : (i j : ℕ) → i < 2 ^ k - 1 → j < 2 ^ k - 1 → power arithmetic root i ≡ power arithmetic root j → i ≡ j
  root_apart i j hi hj z =
      sym (log_power P i (omega (arith, P.size)))
      ∙ ap (log P) (sym (root_is i) ∙ ap (λ (x : Symbol (2 ^ k)). x.code) z ∙ root_is j) ∙ log_power P j (omega (arith, P.size))

  -- with m symbols to a byte
  abbrev pub system : (m : ℕ) → (2 ^ k) ^ m ≡ 256 → System
  system m whole = record {
    order = 2 ^ k;
    per = m;
    whole_byte = whole;
    some = pow_pos k;
    on = arithmetic;
    nil_is = refl;
    one_is = refl;
    root = root;
    root_power = root_power;
    root_apart = root_apart;
  }

-- the byte field, one symbol to a byte
abbrev pub byte_system : System
byte_system = system byte_primitive 1 refl

-- the half-byte field, two symbols to a byte
abbrev pub half_byte_system : System
half_byte_system = system half_byte_primitive 2 refl
