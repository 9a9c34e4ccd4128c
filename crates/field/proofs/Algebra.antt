-- What the laws of a field give.
use Rattle.std.proofs.Common.{◌≡◌, ℕ, zero, suc, ◌≢◌, sym, refl, ap, ◌∙◌, ap₂}
use Rattle.field.specs.Arithmetic.{Arithmetic, power, minus}

module _ {A : Type 0} (F : Arithmetic A) where
  open F use {nil, one, plus, times, opp, inv, plus_assoc, plus_comm, plus_nil, plus_opp, times_assoc, times_comm, times_one, distr, times_inv}

  pub nil_plus : (a : A) → plus nil a ≡ a
  nil_plus a = plus_comm nil a ∙ plus_nil a

  pub one_times : (a : A) → times one a ≡ a
  one_times a = times_comm one a ∙ times_one a

  pub opp_plus : (a : A) → plus (opp a) a ≡ nil
  opp_plus a = plus_comm (opp a) a ∙ plus_opp a

  pub cancel : (a b c : A) → plus a b ≡ plus a c → b ≡ c
  cancel a b c e =
      sym (nil_plus b) ∙ ap (λ x. plus x b) (sym (opp_plus a)) ∙ plus_assoc (opp a) a b ∙ ap (plus (opp a)) e
      ∙ sym (plus_assoc (opp a) a c) ∙ ap (λ x. plus x c) (opp_plus a) ∙ nil_plus c

  pub distr_right : (a b c : A) → times (plus a b) c ≡ plus (times a c) (times b c)
  distr_right a b c = times_comm (plus a b) c ∙ distr c a b ∙ ap₂ plus (times_comm c a) (times_comm c b)

  pub times_nil : (a : A) → times a nil ≡ nil
  times_nil a =
      cancel (times a nil) (times a nil) nil (sym (distr a nil nil) ∙ ap (times a) (plus_nil nil) ∙ sym (plus_nil (times a nil)))

  pub nil_times : (a : A) → times nil a ≡ nil
  nil_times a = times_comm nil a ∙ times_nil a

  -- (a b)(c d) in another order
  pub times_four : (a b c d : A) → times (times a b) (times c d) ≡ times (times a c) (times b d)
  times_four a b c d =
      times_assoc a b (times c d) ∙ ap (times a) (sym (times_assoc b c d) ∙ ap (λ x. times x d) (times_comm b c) ∙ times_assoc c b d)
      ∙ sym (times_assoc a c (times b d))

  pub plus_four : (a b c d : A) → plus (plus a b) (plus c d) ≡ plus (plus a c) (plus b d)
  plus_four a b c d =
      plus_assoc a b (plus c d) ∙ ap (plus a) (sym (plus_assoc b c d) ∙ ap (λ x. plus x d) (plus_comm b c) ∙ plus_assoc c b d)
      ∙ sym (plus_assoc a c (plus b d))

  pub power_one : (n : ℕ) → power F one n ≡ one
  power_one zero = refl
  power_one (suc n) = times_one (power F one n) ∙ power_one n

  pub power_times : (a b : A) (n : ℕ) → power F (times a b) n ≡ times (power F a n) (power F b n)
  power_times a b zero = sym (times_one one)
  power_times a b (suc n) = ap (λ x. times x (times a b)) (power_times a b n) ∙ times_four (power F a n) (power F b n) a b

  pub opp_is : (a b : A) → plus a b ≡ nil → b ≡ opp a
  opp_is a b e = cancel a b (opp a) (e ∙ sym (plus_opp a))

  pub times_opp : (a b : A) → times a (opp b) ≡ opp (times a b)
  times_opp a b = opp_is (times a b) (times a (opp b)) (sym (distr a b (opp b)) ∙ ap (times a) (plus_opp b) ∙ times_nil a)

  pub opp_sum : (a b : A) → opp (plus a b) ≡ plus (opp a) (opp b)
  opp_sum a b =
      sym (opp_is (plus a b) (plus (opp a) (opp b)) (plus_four a b (opp a) (opp b) ∙ ap₂ plus (plus_opp a) (plus_opp b) ∙ plus_nil nil))

  pub times_minus : (a b c : A) → times a (minus F b c) ≡ minus F (times a b) (times a c)
  times_minus a b c = distr a b (opp c) ∙ ap (plus (times a b)) (times_opp a c)

  pub minus_four : (a b c d : A) → plus (minus F a b) (minus F c d) ≡ minus F (plus a c) (plus b d)
  minus_four a b c d = plus_four a (opp b) c (opp d) ∙ ap (plus (plus a c)) (sym (opp_sum b d))

  pub minus_self : (a b : A) → minus F a b ≡ nil → a ≡ b
  minus_self a b e = cancel (opp b) a b (plus_comm (opp b) a ∙ e ∙ sym (opp_plus b))

  pub minus_plus : (a b : A) → plus (minus F a b) b ≡ a
  minus_plus a b = plus_assoc a (opp b) b ∙ ap (plus a) (opp_plus b) ∙ plus_nil a

  pub plus_minus : (a b : A) → minus F (plus a b) b ≡ a
  plus_minus a b = plus_assoc a b (opp b) ∙ ap (plus a) (plus_opp b) ∙ plus_nil a

  pub apart_minus : (x y : A) → y ≢ x → minus F y x ≢ nil
  apart_minus x y ne e = ne (minus_self y x e)
