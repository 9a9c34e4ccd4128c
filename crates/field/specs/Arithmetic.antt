-- A field over any carrier: the operations, with the laws that they keep.
use Rattle.std.specs.Prelude.{◌≡◌, ℕ, zero, suc, ◌≢◌}

pub record Arithmetic (A : Type 0) : Type 0 where
  pub nil : A
  pub one : A
  pub plus : A → A → A
  pub times : A → A → A
  pub opp : A → A
  pub inv : A → A
  pub plus_assoc : (a b c : A) → plus (plus a b) c ≡ plus a (plus b c)
  pub plus_comm : (a b : A) → plus a b ≡ plus b a
  pub plus_nil : (a : A) → plus a nil ≡ a
  pub plus_opp : (a : A) → plus a (opp a) ≡ nil
  pub times_assoc : (a b c : A) → times (times a b) c ≡ times a (times b c)
  pub times_comm : (a b : A) → times a b ≡ times b a
  pub times_one : (a : A) → times a one ≡ a
  pub distr : (a b c : A) → times a (plus b c) ≡ plus (times a b) (times a c)
  pub times_inv : (a : A) → a ≢ nil → times a (inv a) ≡ one
  pub inv_nil : inv nil ≡ nil

-- x to the n
abbrev pub power : {A : Type 0} → Arithmetic A → A → ℕ → A
power F x zero = F.one
power F x (suc n) = F.times (power F x n) x

abbrev pub minus : {A : Type 0} → Arithmetic A → A → A → A
minus F a b = F.plus a (F.opp b)
