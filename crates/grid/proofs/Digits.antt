-- Digits of a number in a base: one of them replaced, and numbers with the same digits.
use Rattle.std.proofs.Common.{◌≡◌, ℕ, zero, suc, ◌+◌, ◌-◌, ◌*◌, ◌/◌, ◌%◌, ◌^◌, ◌<◌, ◌⊎◌, sym, ap, ◌∙◌, subst, ap₂, inl, inr, suc-le-suc, zero-le, add_assoc, mod-lt, mul_assoc, mul_comm, div-lt_iff_lt-mul, add-mul, add_comm, one-mul, pow-suc, div-add-mod', div-one, arith, pow-add}
use native.Mathlib.Nat.{pow-zero, pow-succ', div-div-eq-div-mul, one-le-pow, add-mul-div_right, add-mul-mod_self_right}
use lib.Arith.{digits_lt, digits_div, digits_mod}
use Rattle.std.proofs.lemmas.Bool.{cases_order}

module _ (q : ℕ) (some : 0 < q) where
  abbrev pub digit : ℕ → ℕ → ℕ
  digit e b = b / q ^ e % q

  -- b with v for its digit e
  abbrev pub replaced : ℕ → ℕ → ℕ → ℕ
  replaced e v b = b / (q ^ e * q) * (q ^ e * q) + v * q ^ e + b % q ^ e

  pub power_some : (e : ℕ) → 0 < q ^ e
  power_some e = one-le-pow e q some

  module _ (e v b : ℕ) (h : v < q) where
    -- above the digit, and it
    split : replaced e v b ≡ (b / (q ^ e * q) * q + v) * q ^ e + b % q ^ e
    split =
        ap (λ n. n + b % q ^ e)
        (ap (λ n. n + v * q ^ e) (ap (λ n. b / (q ^ e * q) * n) (mul_comm (q ^ e) q) ∙ sym (mul_assoc (b / (q ^ e * q)) q (q ^ e)))
        ∙ sym (add-mul (b / (q ^ e * q) * q) v (q ^ e)))

    low : v * q ^ e + b % q ^ e < q ^ e * q
    low = subst (λ n. v * q ^ e + b % q ^ e < n) (mul_comm q (q ^ e)) (digits_lt h (mod-lt b (power_some e)))

    whole : replaced e v b ≡ b / (q ^ e * q) * (q ^ e * q) + (v * q ^ e + b % q ^ e)
    whole = add_assoc (b / (q ^ e * q) * (q ^ e * q)) (v * q ^ e) (b % q ^ e)

    pub digit_here : digit e (replaced e v b) ≡ v
    digit_here =
        ap (λ n. n / q ^ e % q) split ∙ ap (λ n. n % q) (digits_div (b / (q ^ e * q) * q + v) (mod-lt b (power_some e)))
        ∙ digits_mod (b / (q ^ e * q)) h

    above : replaced e v b / (q ^ e * q) ≡ b / (q ^ e * q)
    above = ap (λ n. n / (q ^ e * q)) whole ∙ digits_div (b / (q ^ e * q)) low

    below : replaced e v b % q ^ e ≡ b % q ^ e
    below = ap (λ n. n % q ^ e) split ∙ digits_mod (b / (q ^ e * q) * q + v) (mod-lt b (power_some e))

    power_up : (d : ℕ) → q ^ (e + 1 + d) ≡ q ^ e * q * q ^ d
    power_up d = pow-add q (e + 1) d ∙ ap (λ n. n * q ^ d) (pow-add q e 1 ∙ ap (λ n. q ^ e * n) (pow-suc q 0 ∙ ap (λ n. n * q) (pow-zero q) ∙ one-mul q))

    digit_above : (d : ℕ) → digit (e + 1 + d) (replaced e v b) ≡ digit (e + 1 + d) b
    digit_above d =
        ap (λ n. replaced e v b / n % q) (power_up d) ∙ ap (λ n. n % q) (sym (div-div-eq-div-mul (replaced e v b) (q ^ e * q) (q ^ d)))
        ∙ ap (λ n. n / q ^ d % q) above ∙ ap (λ n. n % q) (div-div-eq-div-mul b (q ^ e * q) (q ^ d)) ∙ ap (λ n. b / n % q) (sym (power_up d))

    pub replaced_small : (d : ℕ) → b < q ^ (e + 1 + d) → replaced e v b < q ^ (e + 1 + d)
    replaced_small d l =
        let pos : 0 < q ^ e * q = subst (λ n. 0 < n) (pow-suc q e) (power_some (suc e)) in
        let B : b / (q ^ e * q) < q ^ d =
        (div-lt_iff_lt-mul {k = q ^ e * q} {x = b} {y = q ^ d} pos).1 (subst (λ n. b < n) (power_up d ∙ mul_comm (q ^ e * q) (q ^ d)) l)
        in
        subst (λ n. n < q ^ (e + 1 + d)) (sym whole)
        (subst (λ n. b / (q ^ e * q) * (q ^ e * q) + (v * q ^ e + b % q ^ e) < n) (sym (power_up d ∙ mul_comm (q ^ e * q) (q ^ d))) (digits_lt B low))

  -- a digit below e is one of the rest modulo q to the e
  digit_rest : (d e b : ℕ) → digit d (b % q ^ (d + 1 + e)) ≡ digit d b
  digit_rest d e b =
      let u = q ^ d in
      let t = q ^ e in
      let up : q ^ (d + 1 + e) ≡ t * q * u =
      pow-add q (d + 1) e ∙ ap (λ n. n * t) (pow-add q d 1 ∙ ap (λ n. u * n) (pow-suc q 0 ∙ ap (λ n. n * q) (pow-zero q) ∙ one-mul q))
      ∙ mul_comm (u * q) t ∙ ap (λ n. t * n) (mul_comm u q) ∙ sym (mul_assoc t q u)
      in
      let W = q ^ (d + 1 + e) in
      let N = b / W in
      let m = b % W in
      let is : b ≡ m + (N * t * q) * u =
      sym (div-add-mod' b W) ∙ add_comm (N * W) m
      ∙ ap (λ n. m + n) (ap (λ n. N * n) up ∙ sym (mul_assoc N (t * q) u) ∙ ap (λ n. n * u) (sym (mul_assoc N t q)))
      in
      sym (ap (λ n. n / u % q) is ∙ ap (λ n. n % q) (add-mul-div_right m (N * t * q) (power_some d)) ∙ add-mul-mod_self_right (m / u) (N * t) q)

  pub digit_other : (e f v b : ℕ) → v < q → (f ≡ e → ⊥) → digit f (replaced e v b) ≡ digit f b
  digit_other e f v b h ne = go (cases_order f e)
    where
      go : (f ≡ e) ⊎ ((f < e) ⊎ (e < f)) → digit f (replaced e v b) ≡ digit f b
      go (inl z) = absurd (ne z)
      go (inr (inl l)) =
          let d = e - f - 1 in
          let up : f + 1 + d ≡ e = omega arith in
          sym (digit_rest f d (replaced e v b)) ∙ ap (λ n. digit f (replaced e v b % q ^ n)) up ∙ ap (digit f) (below e v b h)
          ∙ ap (λ n. digit f (b % q ^ n)) (sym up) ∙ digit_rest f d b
      go (inr (inr l)) =
          let d = f - e - 1 in
          let up : e + 1 + d ≡ f = omega arith in
          ap (λ n. digit n (replaced e v b)) (sym up) ∙ digit_above e v b h d ∙ ap (λ n. digit n b) up

  -- numbers below q to the m with the same digits are equal
  pub same_digits : (m a b : ℕ) → a < q ^ m → b < q ^ m → ((e : ℕ) → e < m → digit e a ≡ digit e b) → a ≡ b
  same_digits zero a b la lb h = let z = pow-zero q in omega arith
  same_digits (suc m) a b la lb h =
      let rest : a / q ≡ b / q =
      same_digits m (a / q) (b / q) (fewer a la) (fewer b lb) (λ e l. next e a ∙ h (suc e) (suc-le-suc l) ∙ sym (next e b))
      in
      let last : a % q ≡ b % q = first a ∙ h 0 (suc-le-suc zero-le) ∙ sym (first b) in
      sym (div-add-mod' a q) ∙ ap₂ (λ x y. x * q + y) rest last ∙ div-add-mod' b q
    where
      fewer : (n : ℕ) → n < q ^ suc m → n / q < q ^ m
      fewer n l = (div-lt_iff_lt-mul {k = q} {x = n} {y = q ^ m} some).1 (subst (λ k. n < k) (pow-suc q m) l)

      next : (e n : ℕ) → digit e (n / q) ≡ digit (suc e) n
      next e n = ap (λ k. k % q) (div-div-eq-div-mul n q (q ^ e) ∙ ap (λ k. n / k) (sym (pow-succ' q e)))

      first : (n : ℕ) → n % q ≡ digit 0 n
      first n = sym (ap (λ k. n / k % q) (pow-zero q) ∙ ap (λ k. k % q) (div-one n))
