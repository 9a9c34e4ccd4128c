-- The labels of the half-byte field's symbols: label 0 is 0, and label i + 1 is the power X ^ i.
use Rattle.std.specs.Prelude.{◌≡◌, ℕ, zero, suc, ◌%◌, ◌<◌, refl}
use Rattle.std.proofs.Common.{sym, ap, ◌∙◌, mod-lt, mod-eq_of_lt, not-suc-le-zero, arith, lit<}
use Rattle.polynomial.specs.Polynomials.{times_x, times_power, half_byte_polynomial}
use Rattle.polynomial.proofs.Linearity.{x_power}
use Rattle.polynomial.proofs.Logarithms.{log, log_power, log_small, power_log, power_mod, power_pos, power_small}
use Rattle.polynomial.proofs.Moduli.{half_byte_primitive}
use Rattle.field.specs.Systems.{System, Symbol}
use Rattle.field.specs.Symbols.{symbol_path}
use Rattle.field.specs.PolynomialFields.{half_byte_system}
use Rattle.relabelled.specs.Relabelling.{Relabelling, relabelled_system}

-- the symbol that a label stands for
unfoldable pub value_of : ℕ → ℕ
value_of zero = 0
value_of (suc i) = x_power 4 half_byte_polynomial i

-- the label of a symbol
unfoldable pub label_of : ℕ → ℕ
label_of zero = 0
label_of (suc a) = suc (log half_byte_primitive (suc a))

pub value_small : (b : ℕ) → value_of b < 16
unfolding value_of
value_small zero = lit< tt
value_small (suc i) = power_small half_byte_primitive i

pub label_small : (a : ℕ) → a < 16 → label_of a < 16
unfolding label_of
label_small zero h = lit< tt
label_small (suc a) h = omega (arith, log_small half_byte_primitive a (omega arith))

-- the label of a power of X
pub label_power : (i : ℕ) → label_of (x_power 4 half_byte_polynomial i) ≡ suc (i % 15)
unfolding label_of
label_power i = go (x_power 4 half_byte_polynomial i) refl (power_pos half_byte_primitive i)
  where
    go : (a : ℕ) → x_power 4 half_byte_polynomial i ≡ a → 0 < a → label_of a ≡ suc (i % 15)
    go zero e h = absurd (not-suc-le-zero h)
    go (suc a) e h =
        ap suc (ap (log half_byte_primitive) (sym (power_mod half_byte_primitive i ∙ e)) ∙ log_power half_byte_primitive (i % 15) (mod-lt i (lit< tt)))

pub value_label : (a : ℕ) → a < 16 → value_of (label_of a) ≡ a
unfolding value_of label_of
value_label zero h = refl
value_label (suc a) h = power_log half_byte_primitive a (omega arith)

pub label_value : (b : ℕ) → b < 16 → label_of (value_of b) ≡ b
unfolding value_of label_of
label_value zero h = refl
label_value (suc i) h = label_power i ∙ ap suc (mod-eq_of_lt (omega arith))

abbrev pub labels : Relabelling (Symbol 16) (Symbol 16)
labels = record {
  to = λ b. record { code = value_of b.code; small = value_small b.code };
  from = λ a. record { code = label_of a.code; small = label_small a.code a.small };
  to_from = λ a. symbol_path _ _ (value_label a.code a.small);
  from_to = λ b. symbol_path _ _ (label_value b.code b.small);
}

pub label_nil : label_of 0 ≡ 0
unfolding label_of
label_nil = refl

pub label_one : label_of 1 ≡ 1
unfolding label_of log times_x times_power
label_one = refl

-- the half-byte field by its labels
abbrev pub label_system : System
label_system = relabelled_system half_byte_system labels label_nil label_one
