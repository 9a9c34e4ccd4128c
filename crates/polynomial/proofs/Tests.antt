-- Tests that are computed at each number below a bound, and what they show.
use Rattle.std.proofs.Common.{◌≡◌, ℕ, zero, suc, ◌<◌, Bool, true, false, T, subst, le_of_suc-le-suc, not-suc-le-zero, arith}
use native.Mathlib.Decide.{dec_lt}

abbrev pub both : Bool → Bool → Bool
both true b = b
both false b = false

pub both_left : (a b : Bool) → T (both a b) → T a
both_left true b t = tt
both_left false b t = t

pub both_right : (a b : Bool) → T (both a b) → T b
both_right true b t = t
both_right false b t = absurd t

-- the test f passes at each number below n
abbrev pub every : (ℕ → Bool) → ℕ → Bool
every f zero = true
every f (suc n) = both (f n) (every f n)

last : (f : ℕ → Bool) (n i : ℕ) → i < suc n → T (f n) → (i < n → T (f i)) → T (f i)
last f n i h t below = go (dec_lt i n)
  where
    go : Dec (i < n) → T (f i)
    go (yes l) = below l
    go (no l) = let e : n ≡ i = omega (arith, le_of_suc-le-suc h) in subst (λ (m : ℕ). T (f m)) e t

pub at : (f : ℕ → Bool) (n : ℕ) → T (every f n) → (i : ℕ) → i < n → T (f i)
at f zero t i h = absurd (not-suc-le-zero h)
at f (suc n) t i h = last f n i h (both_left (f n) (every f n) t) (at f n (both_right (f n) (every f n) t) i)
