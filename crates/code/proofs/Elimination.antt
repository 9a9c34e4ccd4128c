-- Values at distinct locators are given by their sums: one locator is eliminated at a time.
use Rattle.std.proofs.Common.{◌≡◌, ℕ, zero, suc, ◌<◌, List, [], ◌∷◌, length, sym, refl, ap, ◌∙◌, ap₂, suc-le-suc, zero-le, le_of_suc-le-suc, not-suc-le-zero, arith}
use native.Mathlib.Nat.{suc_inj}
use Rattle.field.specs.Arithmetic.{Arithmetic, power, minus}
use Rattle.code.specs.Equations.{moment, Lacks, Distinct, OneSolution}
use Rattle.field.proofs.Algebra.{nil_plus, times_nil, times_minus, minus_four, minus_plus, plus_minus, apart_minus}

module _ {A : Type 0} where
  -- each value times its locator less x
  abbrev pub scaled : Arithmetic A → A → List A → List A → List A
  scaled F x [] vs = []
  scaled F x (y ∷ ys) [] = []
  scaled F x (y ∷ ys) (v ∷ vs) = F.times v (minus F y x) ∷ scaled F x ys vs

  -- each value divided by its locator less x
  abbrev pub divided : Arithmetic A → A → List A → List A → List A
  divided F x [] vs = []
  divided F x (y ∷ ys) [] = []
  divided F x (y ∷ ys) (v ∷ vs) = F.times v (F.inv (minus F y x)) ∷ divided F x ys vs

  -- the values whose sums are S 0, S 1, ..
  abbrev pub solved : Arithmetic A → List A → (ℕ → A) → List A
  solved F [] S = []
  solved F (x ∷ xs) S =
      let vs = divided F x xs (solved F xs (λ i. minus F (S (suc i)) (F.times x (S i)))) in
      minus F (S 0) (moment F 0 xs vs) ∷ vs

module _ {A : Type 0} (F : Arithmetic A) where
  open F use {nil, one, plus, times, opp, inv, plus_assoc, plus_comm, plus_nil, plus_opp, times_assoc, times_comm, times_one, distr, times_inv}

  head_step : (x y w : A) (i : ℕ) → times (times w (minus F y x)) (power F y i) ≡ minus F (times w (times (power F y i) y)) (times x (times w (power F y i)))
  head_step x y w i =
      let p = power F y i in
      times_assoc w (minus F y x) p ∙ ap (times w) (times_comm (minus F y x) p) ∙ sym (times_assoc w p (minus F y x))
      ∙ times_minus F (times w p) y x ∙ ap₂ (minus F) (times_assoc w p y) (times_comm (times w p) x)

  -- the sums of the scaled values
  pub scaled_moment : (x : A) (xs vs : List A) (i : ℕ) → moment F i xs (scaled F x xs vs) ≡ minus F (moment F (suc i) xs vs) (times x (moment F i xs vs))
  scaled_moment x [] vs i = sym (ap (minus F nil) (times_nil F x) ∙ plus_opp nil)
  scaled_moment x (y ∷ ys) [] i = sym (ap (minus F nil) (times_nil F x) ∙ plus_opp nil)
  scaled_moment x (y ∷ ys) (v ∷ vs) i =
      ap₂ plus (head_step x y v i) (scaled_moment x ys vs i)
      ∙ minus_four F (times v (times (power F y i) y)) (times x (times v (power F y i))) (moment F (suc i) ys vs) (times x (moment F i ys vs))
      ∙ ap (minus F (plus (times v (power F y (suc i))) (moment F (suc i) ys vs))) (sym (distr x (times v (power F y i)) (moment F i ys vs)))

  -- the head's part goes away
  pub whole_step : (x v : A) (xs vs : List A) (i : ℕ)
      → minus F (moment F (suc i) (x ∷ xs) (v ∷ vs)) (times x (moment F i (x ∷ xs) (v ∷ vs))) ≡ moment F i xs (scaled F x xs vs)
  whole_step x v xs vs i =
      let h = times v (power F x i) in
      let m = moment F (suc i) xs vs in
      let n = moment F i xs vs in
      ap (minus F (plus (times v (times (power F x i) x)) m)) (distr x h n)
      ∙ sym (minus_four F (times v (times (power F x i) x)) (times x h) m (times x n))
      ∙ ap (λ z. plus z (minus F m (times x n)))
      (ap (λ z. minus F z (times x h)) (sym (times_assoc v (power F x i) x) ∙ times_comm h x) ∙ plus_opp (times x h))
      ∙ nil_plus F (minus F m (times x n)) ∙ sym (scaled_moment x xs vs i)

  pub scaled_divided : (x : A) (xs vs : List A) → Lacks x xs → length vs ≡ length xs → scaled F x xs (divided F x xs vs) ≡ vs
  scaled_divided x [] [] h e = refl
  scaled_divided x [] (v ∷ vs) h e = absurd (let z : ⊥ = omega arith in z)
  scaled_divided x (y ∷ ys) [] h e = absurd (let z : ⊥ = omega arith in z)
  scaled_divided x (y ∷ ys) (v ∷ vs) h e =
      ap₂ ◌∷◌
      (times_assoc v (inv (minus F y x)) (minus F y x) ∙ ap (times v) (times_comm (inv (minus F y x)) (minus F y x) ∙ times_inv (minus F y x) (apart_minus F x y h.0)) ∙ times_one v)
      (scaled_divided x ys vs h.1 (suc_inj e))

  divided_scaled : (x : A) (xs vs : List A) → Lacks x xs → length vs ≡ length xs → divided F x xs (scaled F x xs vs) ≡ vs
  divided_scaled x [] [] h e = refl
  divided_scaled x [] (v ∷ vs) h e = absurd (let z : ⊥ = omega arith in z)
  divided_scaled x (y ∷ ys) [] h e = absurd (let z : ⊥ = omega arith in z)
  divided_scaled x (y ∷ ys) (v ∷ vs) h e =
      ap₂ ◌∷◌
      (times_assoc v (minus F y x) (inv (minus F y x)) ∙ ap (times v) (times_inv (minus F y x) (apart_minus F x y h.0)) ∙ times_one v)
      (divided_scaled x ys vs h.1 (suc_inj e))

  length_scaled : (x : A) (xs vs : List A) → length vs ≡ length xs → length (scaled F x xs vs) ≡ length xs
  length_scaled x [] vs e = refl
  length_scaled x (y ∷ ys) [] e = e
  length_scaled x (y ∷ ys) (v ∷ vs) e = ap suc (length_scaled x ys vs (suc_inj e))

  length_divided : (x : A) (xs vs : List A) → length vs ≡ length xs → length (divided F x xs vs) ≡ length xs
  length_divided x [] vs e = refl
  length_divided x (y ∷ ys) [] e = e
  length_divided x (y ∷ ys) (v ∷ vs) e = ap suc (length_divided x ys vs (suc_inj e))

  pub length_solved : (xs : List A) (S : ℕ → A) → length (solved F xs S) ≡ length xs
  length_solved [] S = refl
  length_solved (x ∷ xs) S = ap suc (length_divided x xs (solved F xs (λ i. minus F (S (suc i)) (times x (S i)))) (length_solved xs (λ i. minus F (S (suc i)) (times x (S i)))))

  -- equal differences and an equal start give equal sums
  pub climbs : (x : A) (n : ℕ) (P S : ℕ → A) → P 0 ≡ S 0 → ((i : ℕ) → i < n → minus F (P (suc i)) (times x (P i)) ≡ minus F (S (suc i)) (times x (S i)))
      → (i : ℕ) → i < suc n → P i ≡ S i
  climbs x n P S e d zero h = e
  climbs x n P S e d (suc i) h =
      let below : P i ≡ S i = climbs x n P S e d i (omega arith) in
      sym (minus_plus F (P (suc i)) (times x (P i))) ∙ ap₂ plus (d i (le_of_suc-le-suc h)) (ap (times x) below) ∙ minus_plus F (S (suc i)) (times x (S i))

  -- there are such values
  pub solved_moment : (xs : List A) (S : ℕ → A) → Distinct xs → (i : ℕ) → i < length xs → moment F i xs (solved F xs S) ≡ S i
  solved_moment [] S h i l = absurd (not-suc-le-zero l)
  solved_moment (x ∷ xs) S h i l =
      let S' : ℕ → A = λ j. minus F (S (suc j)) (times x (S j)) in
      let ws = solved F xs S' in
      let vs = divided F x xs ws in
      let v = minus F (S 0) (moment F 0 xs vs) in
      climbs x (length xs) (λ j. moment F j (x ∷ xs) (v ∷ vs)) S
      (ap (λ z. plus z (moment F 0 xs vs)) (times_one v) ∙ minus_plus F (S 0) (moment F 0 xs vs))
      (λ j k. whole_step x v xs vs j ∙ ap (moment F j xs) (scaled_divided x xs ws h.0 (length_solved xs S')) ∙ solved_moment xs S' h.1 j k)
      i l

  -- and no others
  pub solved_only : (xs vs : List A) (S : ℕ → A) → Distinct xs → length vs ≡ length xs → ((i : ℕ) → i < length xs → moment F i xs vs ≡ S i) → vs ≡ solved F xs S
  solved_only [] [] S h e m = refl
  solved_only [] (v ∷ vs) S h e m = absurd (let z : ⊥ = omega arith in z)
  solved_only (x ∷ xs) [] S h e m = absurd (let z : ⊥ = omega arith in z)
  solved_only (x ∷ xs) (v ∷ vs) S h e m =
      let S' : ℕ → A = λ j. minus F (S (suc j)) (times x (S j)) in
      let tails : scaled F x xs vs ≡ solved F xs S' =
      solved_only xs (scaled F x xs vs) S' h.1 (length_scaled x xs vs (suc_inj e))
      (λ i l. sym (whole_step x v xs vs i) ∙ ap₂ (λ a b. minus F a (times x b)) (m (suc i) (suc-le-suc l)) (m i (omega arith)))
      in
      let same : vs ≡ divided F x xs (solved F xs S') = sym (divided_scaled x xs vs h.0 (suc_inj e)) ∙ ap (divided F x xs) tails in
      ap₂ ◌∷◌
      (sym (plus_minus F v (moment F 0 xs vs)) ∙ ap (λ z. minus F (plus z (moment F 0 xs vs)) (moment F 0 xs vs)) (sym (times_one v))
      ∙ ap₂ (λ a b. minus F a (moment F 0 xs b)) (m 0 (suc-le-suc zero-le)) same)
      same

  pub one_solution : OneSolution F
  one_solution xs S h = (
    solved F xs S,
    record { long = length_solved xs S; sums = solved_moment xs S h },
    (λ ws w. solved_only xs ws S h w.long w.sums),
  )
