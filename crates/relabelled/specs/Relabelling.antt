-- A number system under other labels: two maps that undo each other carry its operations over, and the laws with them.
use Rattle.std.specs.Prelude.{◌≡◌, ℕ, zero, suc, refl}
use Rattle.std.proofs.Common.{sym, ap, ap₂, ◌∙◌}
use Rattle.field.specs.Arithmetic.{Arithmetic, power}
use Rattle.field.specs.Systems.{System, Symbol}

-- labels B for the symbols A
pub record Relabelling (A B : Type 0) : Type 0 where
  pub to : B → A
  pub from : A → B
  pub to_from : (a : A) → to (from a) ≡ a
  pub from_to : (b : B) → from (to b) ≡ b

module _ {A B : Type 0} (F : Arithmetic A) (R : Relabelling A B) where
  open F
      use {nil, one, plus, times, opp, inv, plus_assoc, plus_comm, plus_nil, plus_opp, times_assoc, times_comm, times_one, distr, times_inv, inv_nil}
  open R use {to, from, to_from, from_to}

  -- an operation, by labels
  abbrev pub moved : (A → A → A) → B → B → B
  moved f a b = from (f (to a) (to b))

  pub moved_assoc : (f : A → A → A) → ((a b c : A) → f (f a b) c ≡ f a (f b c)) → (a b c : B)
      → moved f (moved f a b) c ≡ moved f a (moved f b c)
  moved_assoc f law a b c =
      ap from
      (ap (λ x. f x (to c)) (to_from (f (to a) (to b))) ∙ law (to a) (to b) (to c) ∙ sym (ap (f (to a)) (to_from (f (to b) (to c)))))

  pub moved_distr : (a b c : B) → moved times a (moved plus b c) ≡ moved plus (moved times a b) (moved times a c)
  moved_distr a b c =
      ap from
      (ap (times (to a)) (to_from (plus (to b) (to c))) ∙ distr (to a) (to b) (to c)
      ∙ sym (ap₂ plus (to_from (times (to a) (to b))) (to_from (times (to a) (to c)))))

  abbrev pub relabelled : Arithmetic B
  relabelled = record {
    nil = from nil;
    one = from one;
    plus = moved plus;
    times = moved times;
    opp = λ a. from (opp (to a));
    inv = λ a. from (inv (to a));
    plus_assoc = moved_assoc plus plus_assoc;
    plus_comm = λ a b. ap from (plus_comm (to a) (to b));
    plus_nil = λ a. ap from (ap (plus (to a)) (to_from nil) ∙ plus_nil (to a)) ∙ from_to a;
    plus_opp = λ a. ap from (ap (plus (to a)) (to_from (opp (to a))) ∙ plus_opp (to a));
    times_assoc = moved_assoc times times_assoc;
    times_comm = λ a b. ap from (times_comm (to a) (to b));
    times_one = λ a. ap from (ap (times (to a)) (to_from one) ∙ times_one (to a)) ∙ from_to a;
    distr = moved_distr;
    times_inv = λ a ne. ap from (ap (times (to a)) (to_from (inv (to a))) ∙ times_inv (to a) (λ z. ne (sym (from_to a) ∙ ap from z)));
    inv_nil = ap from (ap inv (to_from nil) ∙ inv_nil);
  }

  moved_power : (a : A) (n : ℕ) → power relabelled (from a) n ≡ from (power F a n)
  moved_power a zero = refl
  moved_power a (suc n) =
      ap (λ x. from (times (to x) (to (from a)))) (moved_power a n) ∙ ap from (ap₂ times (to_from (power F a n)) (to_from a))

  -- powers that the labels make equal are equal
  pub power_apart : (a b : A) (n : ℕ) → power relabelled (from a) n ≡ from b → power F a n ≡ b
  power_apart a b n e = sym (to_from (power F a n)) ∙ ap to (sym (moved_power a n) ∙ e) ∙ to_from b

  pub powers_apart : (a : A) (m n : ℕ) → power relabelled (from a) m ≡ power relabelled (from a) n → power F a m ≡ power F a n
  powers_apart a m n e = power_apart a (power F a n) m (e ∙ moved_power a n)

-- where the labels keep 0 and 1, the relabelled system is a system
module _ (s : System) (R : Relabelling (Symbol s.order) (Symbol s.order)) where
  open R use {from}

  abbrev pub relabelled_system : (from s.on.nil).code ≡ 0 → (from s.on.one).code ≡ 1 → System
  relabelled_system nil_kept one_kept = record {
    order = s.order;
    per = s.per;
    whole_byte = s.whole_byte;
    some = s.some;
    on = relabelled s.on R;
    nil_is = nil_kept;
    one_is = one_kept;
    root = from s.root;
    root_power = λ i h z. s.root_power i h (power_apart s.on R s.root s.on.nil i z);
    root_apart = λ i j hi hj z. s.root_apart i j hi hj (powers_apart s.on R s.root i j z);
  }
