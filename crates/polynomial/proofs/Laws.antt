-- The polynomials of degree below k, modulo a primitive polynomial, keep the laws of a field. Each is 0 or a power of X, and the
-- product of powers is a power.
use Rattle.std.proofs.Common.{◌≡◌, ℕ, zero, suc, ◌+◌, ◌-◌, ◌^◌, ◌<◌, ◌≢◌, sym, refl, ap, ◌∙◌, subst, add-zero, add_assoc, add_comm, arith, pow_pos}
use Rattle.polynomial.specs.Polynomials.{times_power, product}
use Rattle.polynomial.proofs.Linearity.{x_power, nil_product, product_nil}
use Rattle.polynomial.proofs.Logarithms.{Primitive, log, log_small, power_log, power_low, power_small, product_powers, Seen, nothing, a_power, seen}

module _ {k p n : ℕ} (P : Primitive k p n) where
  pub one_power : 1 ≡ x_power k p 0
  unfolding times_power
  one_power = refl

  pub one_small : 1 < 2 ^ k
  one_small = omega (arith, P.size, P.some)

  seen_small : {a : ℕ} → Seen P a → a < 2 ^ k
  seen_small nothing = pow_pos k
  seen_small (a_power i) = power_small P i

  seen_product : {a b : ℕ} → Seen P a → Seen P b → Seen P (product k p a b)
  seen_product {b = b} nothing t = subst (Seen P) (sym (nil_product k p b)) nothing
  seen_product (a_power i) nothing = subst (Seen P) (sym (product_nil k p (x_power k p i))) nothing
  seen_product (a_power i) (a_power j) = subst (Seen P) (sym (product_powers P i j)) (a_power (i + j))

  seen_comm : {a b : ℕ} → Seen P a → Seen P b → product k p a b ≡ product k p b a
  seen_comm {b = b} nothing t = nil_product k p b ∙ sym (product_nil k p b)
  seen_comm (a_power i) nothing = product_nil k p (x_power k p i) ∙ sym (nil_product k p (x_power k p i))
  seen_comm (a_power i) (a_power j) = product_powers P i j ∙ ap (x_power k p) (add_comm i j) ∙ sym (product_powers P j i)

  seen_assoc : {a b c : ℕ} → Seen P a → Seen P b → Seen P c → product k p (product k p a b) c ≡ product k p a (product k p b c)
  seen_assoc {b = b} {c = c} nothing t u =
      ap (λ x. product k p x c) (nil_product k p b) ∙ nil_product k p c ∙ sym (nil_product k p (product k p b c))
  seen_assoc {c = c} (a_power i) nothing u =
      ap (λ x. product k p x c) (product_nil k p (x_power k p i)) ∙ nil_product k p c
      ∙ sym (ap (product k p (x_power k p i)) (nil_product k p c) ∙ product_nil k p (x_power k p i))
  seen_assoc (a_power i) (a_power j) nothing =
      product_nil k p (product k p (x_power k p i) (x_power k p j))
      ∙ sym (ap (product k p (x_power k p i)) (product_nil k p (x_power k p j)) ∙ product_nil k p (x_power k p i))
  seen_assoc (a_power i) (a_power j) (a_power l) =
      ap (λ x. product k p x (x_power k p l)) (product_powers P i j) ∙ product_powers P (i + j) l ∙ ap (x_power k p) (add_assoc i j l)
      ∙ sym (ap (product k p (x_power k p i)) (product_powers P j l) ∙ product_powers P i (j + l))

  seen_one : {a : ℕ} → Seen P a → product k p a 1 ≡ a
  seen_one nothing = nil_product k p 1
  seen_one (a_power i) = ap (product k p (x_power k p i)) one_power ∙ product_powers P i 0 ∙ ap (x_power k p) (add-zero i)

  pub product_small : (a b : ℕ) → a < 2 ^ k → b < 2 ^ k → product k p a b < 2 ^ k
  product_small a b ha hb = seen_small (seen_product (seen P a ha) (seen P b hb))

  pub product_comm : (a b : ℕ) → a < 2 ^ k → b < 2 ^ k → product k p a b ≡ product k p b a
  product_comm a b ha hb = seen_comm (seen P a ha) (seen P b hb)

  pub product_assoc : (a b c : ℕ) → a < 2 ^ k → b < 2 ^ k → c < 2 ^ k → product k p (product k p a b) c ≡ product k p a (product k p b c)
  product_assoc a b c ha hb hc = seen_assoc (seen P a ha) (seen P b hb) (seen P c hc)

  pub product_one : (a : ℕ) → a < 2 ^ k → product k p a 1 ≡ a
  product_one a h = seen_one (seen P a h)

  -- the polynomial whose product with a is 1, and 0 for 0
  unfoldable pub partner : ℕ → ℕ
  partner zero = 0
  partner (suc a) = x_power k p (n - log P (suc a))

  pub partner_nil : partner 0 ≡ 0
  unfolding partner
  partner_nil = refl

  pub partner_small : (a : ℕ) → partner a < 2 ^ k
  unfolding partner
  partner_small zero = pow_pos k
  partner_small (suc a) = power_small P (n - log P (suc a))

  pub partner_law : (a : ℕ) → a < 2 ^ k → a ≢ 0 → product k p a (partner a) ≡ 1
  unfolding partner
  partner_law zero h ne = absurd (ne refl)
  partner_law (suc a) h ne =
      let l = log P (suc a) in
      let within : a < n = omega (arith, P.size) in
      let under : l < n = log_small P a within in
      let whole : l + (n - l) ≡ n = omega arith in
      ap (λ x. product k p x (x_power k p (n - l))) (sym (power_log P a within)) ∙ product_powers P l (n - l) ∙ ap (x_power k p) whole ∙ P.round

  pub two_power : 2 ≡ x_power k p 1
  two_power = sym (power_low P 1 P.degree)

  pub two_small : 2 < 2 ^ k
  two_small = subst (λ (x : ℕ). x < 2 ^ k) (sym two_power) (power_small P 1)

  -- the partner of a is the only number whose product with a is 1
  pub partner_only : (a b : ℕ) → a < 2 ^ k → b < 2 ^ k → product k p a b ≡ 1 → b ≡ partner a
  partner_only a b ha hb e =
      let c = partner a in
      let hc = partner_small a in
      let some : a ≢ 0 = λ z. (let none : ◌≡◌ {A = ℕ} 1 0 = sym e ∙ ap (λ x. product k p x b) z ∙ nil_product k p b in omega arith) in
      sym (product_one b hb) ∙ ap (product k p b) (sym (partner_law a ha some)) ∙ sym (product_assoc b a c hb ha hc)
      ∙ ap (λ x. product k p x c) (product_comm b a hb ha ∙ e) ∙ product_comm 1 c one_small hc ∙ product_one c hc
