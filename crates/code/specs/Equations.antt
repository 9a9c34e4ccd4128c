-- Sums of values at locators, and the values that give wanted sums.
use Rattle.std.specs.Prelude.{◌≡◌, ℕ, ◌<◌, ◌≢◌, List, [], ◌∷◌, length}
use Rattle.field.specs.Arithmetic.{Arithmetic, power}

module _ {A : Type 0} where
  -- the sum of each value times its locator to the power i
  abbrev pub moment : Arithmetic A → ℕ → List A → List A → A
  moment F i [] vs = F.nil
  moment F i (x ∷ xs) [] = F.nil
  moment F i (x ∷ xs) (v ∷ vs) = F.plus (F.times v (power F x i)) (moment F i xs vs)

  -- no entry is x
  abbrev pub Lacks : A → List A → Type 0
  Lacks x [] = Unit {0}
  Lacks x (y ∷ ys) = (y ≢ x) × Lacks x ys

  -- no two are equal
  abbrev pub Distinct : List A → Type 0
  Distinct [] = Unit {0}
  Distinct (x ∷ xs) = Lacks x xs × Distinct xs

  -- the values, one for each locator, have the wanted sums
  pub record Solution (F : Arithmetic A) (locators : List A) (wanted : ℕ → A) (values : List A) : Type 0 where
    pub long : length values ≡ length locators
    pub sums : (i : ℕ) → i < length locators → moment F i locators values ≡ wanted i

  -- different locators and any wanted sums have exactly one solution
  abbrev pub OneSolution : Arithmetic A → Type 0
  OneSolution F =
      (locators : List A) (wanted : ℕ → A) → Distinct locators
      → (vs : List A) × Solution F locators wanted vs × ((ws : List A) → Solution F locators wanted ws → ws ≡ vs)
