-- Logarithms to the base X of the polynomials of degree below k, modulo a polynomial p by which every one of them but 0 is a power
-- of X. That p is such a polynomial is shown by tests that are computed.
use Rattle.std.proofs.Common.{◌≡◌, ℕ, zero, suc, ◌+◌, ◌*◌, ◌/◌, ◌%◌, ◌^◌, ◌<◌, cond, T, eqb, ltb, List, [], ◌∷◌, get_or, sym, refl, ap, ◌∙◌, subst, le_of_suc-le-suc, not-suc-le-zero, add-zero, add_assoc, mod-lt, suc-mul, zero-mul, add-one, arith, eqb→eq, ltb→lt, pow_pos}
use native.Mathlib.Nat.{mod-add-div'}
use Rattle.polynomial.specs.Polynomials.{times_x, times_power, product}
use Rattle.polynomial.proofs.Tests.{every, at}
use Rattle.polynomial.proofs.Linearity.{x_power, times_x_nil, times_power_add, power_product}

-- a, a X, a X ^ 2 and so on, n of them
abbrev pub powers_from : ℕ → ℕ → ℕ → ℕ → List ℕ
powers_from k p zero a = []
powers_from k p (suc n) a = a ∷ powers_from k p n (times_x k p a)

-- the place of a in a list
abbrev pub place : ℕ → List ℕ → ℕ
place a [] = 0
place a (x ∷ xs) = cond (eqb a x) 0 (suc (place a xs))

-- the powers as a list: the i-th, and the place of a
abbrev pub entry : ℕ → ℕ → ℕ → ℕ → ℕ
entry k p n i = get_or (powers_from k p n 1) i 0

abbrev pub index : ℕ → ℕ → ℕ → ℕ → ℕ
index k p n a = place a (powers_from k p n 1)

-- the first n powers of X are the n polynomials but 0
pub record Primitive (k p n : ℕ) : Type 0 where
  pub size : n + 1 ≡ 2 ^ k
  pub some : 0 < n
  pub degree : 1 < k
  pub round : x_power k p n ≡ 1
  pub low : T (every (λ i. eqb (x_power k p i) (2 ^ i)) k)
  pub pos : T (every (λ i. ltb 0 (entry k p n i)) n)
  pub small : T (every (λ i. ltb (entry k p n i) (2 ^ k)) n)
  pub apart : T (every (λ i. eqb (index k p n (entry k p n i)) i) n)
  pub within : T (every (λ a. ltb (index k p n (suc a)) n) n)
  pub whole : T (every (λ a. eqb (entry k p n (index k p n (suc a))) (suc a)) n)

powers_from_at : (k p n a i : ℕ) → i < n → get_or (powers_from k p n a) i 0 ≡ times_power k p i a
unfolding times_power
powers_from_at k p zero a i h = absurd (not-suc-le-zero h)
powers_from_at k p (suc n) a zero h = refl
powers_from_at k p (suc n) a (suc i) h =
    powers_from_at k p n (times_x k p a) i (le_of_suc-le-suc h) ∙ sym (times_power_add k p i 1 a) ∙ ap (λ m. times_power k p m a) (add-one i)

module _ {k p n : ℕ} (P : Primitive k p n) where
  -- the logarithm of a
  unfoldable pub log : ℕ → ℕ
  log a = index k p n a

  entry_is : (i : ℕ) → i < n → entry k p n i ≡ x_power k p i
  entry_is i h = powers_from_at k p n 1 i h

  -- the first k powers are the first k bits
  pub power_low : (i : ℕ) → i < k → x_power k p i ≡ 2 ^ i
  power_low i h = eqb→eq (x_power k p i) (2 ^ i) (at (λ i. eqb (x_power k p i) (2 ^ i)) k P.low i h)

  first_pos : (i : ℕ) → i < n → 0 < x_power k p i
  first_pos i h =
      subst (λ (x : ℕ). 0 < x) (entry_is i h) (ltb→lt 0 (entry k p n i) (at (λ i. ltb 0 (entry k p n i)) n P.pos i h))

  first_small : (i : ℕ) → i < n → x_power k p i < 2 ^ k
  first_small i h =
      subst (λ (x : ℕ). x < 2 ^ k) (entry_is i h)
      (ltb→lt (entry k p n i) (2 ^ k) (at (λ i. ltb (entry k p n i) (2 ^ k)) n P.small i h))

  pub log_power : (i : ℕ) → i < n → log (x_power k p i) ≡ i
  unfolding log
  log_power i h =
      ap (index k p n) (sym (entry_is i h))
      ∙ eqb→eq (index k p n (entry k p n i)) i (at (λ i. eqb (index k p n (entry k p n i)) i) n P.apart i h)

  pub log_small : (a : ℕ) → a < n → log (suc a) < n
  unfolding log
  log_small a h = ltb→lt (index k p n (suc a)) n (at (λ a. ltb (index k p n (suc a)) n) n P.within a h)

  pub power_log : (a : ℕ) → a < n → x_power k p (log (suc a)) ≡ suc a
  unfolding log
  power_log a h =
      sym (entry_is (log (suc a)) (log_small a h))
      ∙ eqb→eq (entry k p n (index k p n (suc a))) (suc a) (at (λ a. eqb (entry k p n (index k p n (suc a))) (suc a)) n P.whole a h)

  -- the powers come round after n
  turns : (m i : ℕ) → x_power k p (i + m * n) ≡ x_power k p i
  turns zero i = ap (x_power k p) (ap (λ x. i + x) (zero-mul n) ∙ add-zero i)
  turns (suc m) i =
      ap (x_power k p) (ap (λ x. i + x) (suc-mul m n) ∙ sym (add_assoc i (m * n) n)) ∙ times_power_add k p (i + m * n) n 1
      ∙ ap (times_power k p (i + m * n)) P.round ∙ turns m i

  pub power_mod : (i : ℕ) → x_power k p (i % n) ≡ x_power k p i
  power_mod i = sym (turns (i / n) (i % n)) ∙ ap (x_power k p) (mod-add-div' i n)

  pub power_pos : (i : ℕ) → 0 < x_power k p i
  power_pos i = subst (λ (x : ℕ). 0 < x) (power_mod i) (first_pos (i % n) (mod-lt i P.some))

  pub power_small : (i : ℕ) → x_power k p i < 2 ^ k
  power_small i = subst (λ (x : ℕ). x < 2 ^ k) (power_mod i) (first_small (i % n) (mod-lt i P.some))

  -- the product of two powers
  pub product_powers : (i j : ℕ) → product k p (x_power k p i) (x_power k p j) ≡ x_power k p (i + j)
  product_powers i j = power_product k p power_low i (x_power k p j) (power_small j) ∙ sym (times_power_add k p i j 1)

  -- a polynomial is 0 or a power
  pub data Seen : ℕ → Type 0 where
    nothing : Seen 0
    a_power : (i : ℕ) → Seen (x_power k p i)

  pub seen : (a : ℕ) → a < 2 ^ k → Seen a
  seen zero h = nothing
  seen (suc a) h = subst Seen (power_log a (omega (arith, P.size))) (a_power (log (suc a)))

  -- times X stays of degree below k
  pub times_x_small : (a : ℕ) → a < 2 ^ k → times_x k p a < 2 ^ k
  unfolding times_power
  times_x_small a h = go (seen a h)
    where
      go : {a : ℕ} → Seen a → times_x k p a < 2 ^ k
      go nothing = subst (λ (x : ℕ). x < 2 ^ k) (sym (times_x_nil k p)) (pow_pos k)
      go (a_power i) = power_small (suc i)
