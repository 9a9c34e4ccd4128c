-- Places below a number, in an order, none of them twice.
use Rattle.std.specs.Prelude.{ℕ, Bool, true, not, ◌&&◌, List, [], ◌∷◌, ◌==◌, nat_lt}
use Rattle.std.specs.List.{list_any}

-- each below n, and none twice
abbrev pub apart : ℕ → List ℕ → Bool
apart n [] = true
apart n (x ∷ xs) = nat_lt x n && not (list_any (λ q. x == q) xs) && apart n xs
