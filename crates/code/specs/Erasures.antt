-- Lists with some of their places marked as unknown.
use Rattle.std.specs.Prelude.{◌≡◌, ℕ, zero, suc, ◌<◌, Bool, true, false, List, [], ◌∷◌, length, slice_index, slice_index_or}
use Rattle.field.specs.Systems.{System}
use Rattle.code.specs.Codewords.{Symbols, Codeword, locator, symbols, count}

module _ {A : Type 0} where
  -- the entries at the marked places
  abbrev pub picked : List Bool → List A → List A
  picked [] xs = []
  picked (true ∷ bs) [] = []
  picked (true ∷ bs) (x ∷ xs) = x ∷ picked bs xs
  picked (false ∷ bs) [] = []
  picked (false ∷ bs) (x ∷ xs) = picked bs xs

  -- the list with d at each marked place
  abbrev pub blanked : A → List Bool → List A → List A
  blanked d [] xs = xs
  blanked d (true ∷ bs) [] = []
  blanked d (true ∷ bs) (x ∷ xs) = d ∷ blanked d bs xs
  blanked d (false ∷ bs) [] = []
  blanked d (false ∷ bs) (x ∷ xs) = x ∷ blanked d bs xs

  -- the list with the values, in their order, at the marked places
  abbrev pub merged : List Bool → List A → List A → List A
  merged [] xs vs = xs
  merged (true ∷ bs) [] vs = []
  merged (true ∷ bs) (x ∷ xs) [] = x ∷ xs
  merged (true ∷ bs) (x ∷ xs) (v ∷ vs) = v ∷ merged bs xs vs
  merged (false ∷ bs) [] vs = []
  merged (false ∷ bs) (x ∷ xs) vs = x ∷ merged bs xs vs

module _ (s : System) where
  -- the locators of n symbols, the first first
  abbrev pub locators : ℕ → Symbols s
  locators zero = []
  locators (suc n) = locator s n ∷ locators n

  -- the unknown places were filled so that as many syndromes are 0, and nothing else was changed
  pub record Completed (unknown : List Bool) (old new : List ℕ) : Type 0 where
    pub long : length new ≡ length old
    pub codeword : Codeword s (count unknown) (symbols s new)
    pub same : (p : ℕ) → slice_index_or unknown p false ≡ false → slice_index new p ≡ slice_index old p
    pub small : (p : ℕ) → p < length new → slice_index_or unknown p false ≡ true → slice_index new p < s.order
