-- What the steps of the solver do to a list of numbers, place by place.
use Rattle.std.specs.Prelude.{◌≡◌, ℕ, ◌<◌, List, [], ◌∷◌, length, slice_index}
use Rattle.field.specs.Systems.{System, Symbol, symbol, product_of, partner_of, difference_of}
use Rattle.code.specs.Codewords.{Symbols, symbols}
use Rattle.code.specs.Equations.{moment}

module _ (s : System) where
  -- the sum of the values
  abbrev pub total : Symbols s → Symbol s.order
  total [] = s.on.nil
  total (v ∷ vs) = s.on.plus v (total vs)

  -- the symbol at a place
  abbrev pub place : List ℕ → ℕ → Symbol s.order
  place xs k = symbol s (slice_index xs k)

  -- each sum less x times the one before it, of which the first has the code b
  abbrev pub Eliminated : ℕ → ℕ → List ℕ → List ℕ → Type 0
  Eliminated x b old new =
      (k : ℕ) → k < length old → slice_index new k ≡ difference_of s (slice_index old k) (product_of s x (slice_index (b ∷ old) k))

  -- each value divided by its locator less x
  abbrev pub Divided : ℕ → List ℕ → List ℕ → List ℕ → Type 0
  Divided x locators old new =
      (k : ℕ) → k < length old → slice_index new k ≡ product_of s (slice_index old k) (partner_of s (difference_of s (slice_index locators k) x))

  -- the values whose sums at the locators are the old numbers
  pub record Solved (locators old new : List ℕ) : Type 0 where
    pub sums : (i : ℕ) → i < length locators → moment s.on i (symbols s locators) (symbols s new) ≡ place old i
    pub small : (k : ℕ) → k < length old → slice_index new k < s.order
