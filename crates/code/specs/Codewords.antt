-- Syndromes of a list of symbols, the codewords of c checks, and how far two lists are apart.
use Rattle.std.specs.Prelude.{◌≡◌, ℕ, suc, ◌<◌, ◌≤◌, Bool, true, false, not, List, [], ◌∷◌, map, length, MatchBool, ◌==◌}
use Rattle.field.specs.Arithmetic.{power}
use Rattle.field.specs.Systems.{System, Symbol, symbol}

module _ (s : System) where
  -- lists of symbols
  abbrev pub Symbols : Type 0
  Symbols = List (Symbol s.order)

  -- the locator of a symbol that n symbols follow: symbol p of N has N - 1 - p behind it
  abbrev pub locator : ℕ → Symbol s.order
  locator n = power s.on s.root n

  -- syndrome i: the sum of each symbol times its locator to the power i
  abbrev pub syndrome : ℕ → Symbols → Symbol s.order
  syndrome i [] = s.on.nil
  syndrome i (x ∷ xs) = s.on.plus (s.on.times x (power s.on (locator (length xs)) i)) (syndrome i xs)

  -- a codeword of c checks: syndromes 0 to c - 1 are 0
  abbrev pub Codeword : ℕ → Symbols → Type 0
  Codeword c xs = (i : ℕ) → i < c → syndrome i xs ≡ s.on.nil

  -- syndromes a to c - 1 are 0
  abbrev pub Vanish : ℕ → ℕ → Symbols → Type 0
  Vanish a c xs = (i : ℕ) → a ≤ i → i < c → syndrome i xs ≡ s.on.nil

  -- the symbols that a list of numbers counts as
  abbrev pub symbols : List ℕ → Symbols
  symbols xs = map (symbol s) xs

  -- the code of syndrome i of a list of numbers
  abbrev pub syndrome_of : ℕ → List ℕ → ℕ
  syndrome_of i xs = (syndrome i (symbols xs)).code

-- what a test of P answers: true where P holds, and false where it does not
abbrev pub Tells : Bool → Type 0 → Type 0
Tells r P = MatchBool r P (P → ⊥)

-- how many are true
abbrev pub count : List Bool → ℕ
count [] = 0
count (true ∷ bs) = suc (count bs)
count (false ∷ bs) = count bs

-- at each place, whether two lists of one length differ there
abbrev pub differences : {q : ℕ} → List (Symbol q) → List (Symbol q) → List Bool
differences [] ys = []
differences (x ∷ xs) [] = []
differences (x ∷ xs) (y ∷ ys) = not (x.code == y.code) ∷ differences xs ys

-- the number of places at which two lists of one length differ: their Hamming distance
abbrev pub distance : {q : ℕ} → List (Symbol q) → List (Symbol q) → ℕ
distance xs ys = count (differences xs ys)
