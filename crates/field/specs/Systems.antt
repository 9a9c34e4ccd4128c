-- A number system: q symbols, coded 0 to q - 1, that form a field, with a root whose first q - 1 powers are all the symbols but 0,
-- and m symbols to a byte.
use Rattle.std.specs.Prelude.{◌≡◌, ℕ, ◌-◌, ◌%◌, ◌^◌, ◌<◌, ◌≢◌}
use Rattle.std.proofs.Common.{mod-lt}
use Rattle.field.specs.Arithmetic.{Arithmetic, power, minus}

-- a symbol: a code below q
pub record Symbol (q : ℕ) : Type 0 where
  pub code : ℕ
  pub small : code < q

pub record System : Type 0 where
  pub order : ℕ
  pub per : ℕ
  pub whole_byte : order ^ per ≡ 256
  pub some : 0 < order
  pub on : Arithmetic (Symbol order)
  pub nil_is : on.nil.code ≡ 0
  pub one_is : on.one.code ≡ 1
  pub root : Symbol order
  pub root_power : (i : ℕ) → i < order - 1 → power on root i ≢ on.nil
  pub root_apart : (i j : ℕ) → i < order - 1 → j < order - 1 → power on root i ≡ power on root j → i ≡ j

module _ (s : System) where
  -- the symbol that a number counts as: its remainder modulo q
  abbrev pub symbol : ℕ → Symbol s.order
  symbol n = record { code = n % s.order; small = mod-lt n s.some }

  -- the codes of sums, products, opposites and partners of numbers of any size
  abbrev pub sum_of : ℕ → ℕ → ℕ
  sum_of a b = (s.on.plus (symbol a) (symbol b)).code

  abbrev pub product_of : ℕ → ℕ → ℕ
  product_of a b = (s.on.times (symbol a) (symbol b)).code

  abbrev pub opposite_of : ℕ → ℕ
  opposite_of a = (s.on.opp (symbol a)).code

  abbrev pub partner_of : ℕ → ℕ
  partner_of a = (s.on.inv (symbol a)).code

  abbrev pub difference_of : ℕ → ℕ → ℕ
  difference_of a b = (minus s.on (symbol a) (symbol b)).code

  abbrev pub power_of : ℕ → ℕ → ℕ
  power_of x n = (power s.on (symbol x) n).code
