-- Two codewords of c checks that differ in at most c places are equal.
use Rattle.std.proofs.Common.{◌≡◌, ℕ, zero, suc, ◌-◌, ◌<◌, ◌≤◌, Bool, true, false, not, T, eqb, List, [], ◌∷◌, length, sym, refl, ap, ◌∙◌, subst, ap₂, arith, eqb→eq}
use native.Mathlib.Nat.{suc_inj}
use Rattle.field.specs.Arithmetic.{Arithmetic, power, minus}
use Rattle.field.specs.Systems.{System, Symbol}
use Rattle.field.proofs.Symbols.{symbol_path}
use Rattle.code.specs.Equations.{moment, Lacks, Distinct}
use Rattle.code.specs.Codewords.{locator, syndrome, differences, count}
use Rattle.code.specs.Erasures.{picked, locators}
use Rattle.code.specs.Acceptance.{CodewordsAreApart}
use Rattle.field.proofs.Algebra.{nil_plus, nil_times, times_nil, minus_self, minus_four, times_minus}
use Rattle.code.proofs.Elimination.{divided, solved, solved_only}

module _ {A : Type 0} where
  pub length_picked : (bs : List Bool) (xs : List A) → length bs ≡ length xs → length (picked bs xs) ≡ count bs
  length_picked [] xs e = refl
  length_picked (true ∷ bs) [] e = absurd (let z : ⊥ = omega arith in z)
  length_picked (true ∷ bs) (x ∷ xs) e = ap suc (length_picked bs xs (suc_inj e))
  length_picked (false ∷ bs) [] e = absurd (let z : ⊥ = omega arith in z)
  length_picked (false ∷ bs) (x ∷ xs) e = length_picked bs xs (suc_inj e)

  lacks_picked : (y : A) (bs : List Bool) (xs : List A) → Lacks y xs → Lacks y (picked bs xs)
  lacks_picked y [] xs h = tt
  lacks_picked y (true ∷ bs) [] h = tt
  lacks_picked y (true ∷ bs) (x ∷ xs) h = (h.0, lacks_picked y bs xs h.1)
  lacks_picked y (false ∷ bs) [] h = tt
  lacks_picked y (false ∷ bs) (x ∷ xs) h = lacks_picked y bs xs h.1

  pub distinct_picked : (bs : List Bool) (xs : List A) → Distinct xs → Distinct (picked bs xs)
  distinct_picked [] xs h = tt
  distinct_picked (true ∷ bs) [] h = tt
  distinct_picked (true ∷ bs) (x ∷ xs) h = (lacks_picked x bs xs h.0, distinct_picked bs xs h.1)
  distinct_picked (false ∷ bs) [] h = tt
  distinct_picked (false ∷ bs) (x ∷ xs) h = distinct_picked bs xs h.1

module _ (s : System) where
  abbrev pub F : Arithmetic (Symbol s.order)
  F = s.on

  abbrev pub E : Type 0
  E = Symbol s.order

  abbrev less : List E → List E → List E
  less [] ys = []
  less (x ∷ xs) [] = []
  less (x ∷ xs) (y ∷ ys) = minus F x y ∷ less xs ys

  pub as_moment : (i : ℕ) (xs : List E) → syndrome s i xs ≡ moment F i (locators s (length xs)) xs
  as_moment i [] = refl
  as_moment i (x ∷ xs) = ap (F.plus (F.times x (power F (locator s (length xs)) i))) (as_moment i xs)

  length_less : (xs ys : List E) → length xs ≡ length ys → length (less xs ys) ≡ length xs
  length_less [] ys e = refl
  length_less (x ∷ xs) [] e = sym e
  length_less (x ∷ xs) (y ∷ ys) e = ap suc (length_less xs ys (suc_inj e))

  length_unlike : (xs ys : List E) → length xs ≡ length ys → length (differences xs ys) ≡ length xs
  length_unlike [] ys e = refl
  length_unlike (x ∷ xs) [] e = sym e
  length_unlike (x ∷ xs) (y ∷ ys) e = ap suc (length_unlike xs ys (suc_inj e))

  pub length_locators : (n : ℕ) → length (locators s n) ≡ n
  length_locators zero = refl
  length_locators (suc n) = ap suc (length_locators n)

  lacks_locators : (n m : ℕ) → n ≤ m → m < s.order - 1 → Lacks (locator s m) (locators s n)
  lacks_locators zero m l h = tt
  lacks_locators (suc n) m l h =
      ((λ e. let z : n ≡ m = s.root_apart n m (omega arith) h e in omega arith), lacks_locators n m (omega arith) h)

  pub distinct_locators : (n : ℕ) → n ≤ s.order - 1 → Distinct (locators s n)
  distinct_locators zero h = tt
  distinct_locators (suc n) h = (lacks_locators n n (omega arith) h, distinct_locators n (omega arith))

  times_less : (a b c : E) → F.times (minus F a b) c ≡ minus F (F.times a c) (F.times b c)
  times_less a b c = F.times_comm (minus F a b) c ∙ times_minus F c a b ∙ ap₂ (minus F) (F.times_comm c a) (F.times_comm c b)

  moment_less : (i : ℕ) (ls xs ys : List E) → length xs ≡ length ys → moment F i ls (less xs ys) ≡ minus F (moment F i ls xs) (moment F i ls ys)
  moment_less i [] xs ys e = sym (F.plus_opp F.nil)
  moment_less i (l ∷ ls) [] [] e = sym (F.plus_opp F.nil)
  moment_less i (l ∷ ls) [] (y ∷ ys) e = absurd (let z : ⊥ = omega arith in z)
  moment_less i (l ∷ ls) (x ∷ xs) [] e = absurd (let z : ⊥ = omega arith in z)
  moment_less i (l ∷ ls) (x ∷ xs) (y ∷ ys) e =
      ap₂ F.plus (times_less x y (power F l i)) (moment_less i ls xs ys (suc_inj e))
      ∙ minus_four F (F.times x (power F l i)) (F.times y (power F l i)) (moment F i ls xs) (moment F i ls ys)

  -- what is 0 adds nothing
  picked_step : (i : ℕ) (l d : E) (ls ds : List E) (bs : List Bool) (b : Bool) → (T b → d ≡ F.nil)
      → moment F i ls ds ≡ moment F i (picked bs ls) (picked bs ds)
      → moment F i (l ∷ ls) (d ∷ ds) ≡ moment F i (picked (not b ∷ bs) (l ∷ ls)) (picked (not b ∷ bs) (d ∷ ds))
  picked_step i l d ls ds bs true z e =
      ap (λ x. F.plus (F.times x (power F l i)) (moment F i ls ds)) (z tt) ∙ ap (λ x. F.plus x (moment F i ls ds)) (nil_times F (power F l i))
      ∙ nil_plus F (moment F i ls ds) ∙ e
  picked_step i l d ls ds bs false z e = ap (F.plus (F.times d (power F l i))) e

  like_nil : (x y : E) → T (eqb x.code y.code) → minus F x y ≡ F.nil
  like_nil x y t = ap (λ z. minus F z y) (symbol_path x y (eqb→eq x.code y.code t)) ∙ F.plus_opp y

  moment_picked : (i : ℕ) (ls xs ys : List E) → length xs ≡ length ys → length ls ≡ length xs
      → moment F i ls (less xs ys) ≡ moment F i (picked (differences xs ys) ls) (picked (differences xs ys) (less xs ys))
  moment_picked i [] [] ys e f = refl
  moment_picked i [] (x ∷ xs) ys e f = absurd (let z : ⊥ = omega arith in z)
  moment_picked i (l ∷ ls) [] ys e f = absurd (let z : ⊥ = omega arith in z)
  moment_picked i (l ∷ ls) (x ∷ xs) [] e f = absurd (let z : ⊥ = omega arith in z)
  moment_picked i (l ∷ ls) (x ∷ xs) (y ∷ ys) e f =
      picked_step i l (minus F x y) ls (less xs ys) (differences xs ys) (eqb x.code y.code) (like_nil x y)
      (moment_picked i ls xs ys (suc_inj e) (suc_inj f))

  abbrev Nils : List E → Type 0
  Nils [] = Unit {0}
  Nils (x ∷ xs) = (x ≡ F.nil) × Nils xs

  divided_nils : (x : E) (xs vs : List E) → Nils vs → Nils (divided F x xs vs)
  divided_nils x [] vs h = tt
  divided_nils x (y ∷ ys) [] h = tt
  divided_nils x (y ∷ ys) (v ∷ vs) h = (ap (λ z. F.times z (F.inv (minus F y x))) h.0 ∙ nil_times F (F.inv (minus F y x)), divided_nils x ys vs h.1)

  moment_nils : (i : ℕ) (xs vs : List E) → Nils vs → moment F i xs vs ≡ F.nil
  moment_nils i [] vs h = refl
  moment_nils i (x ∷ xs) [] h = refl
  moment_nils i (x ∷ xs) (v ∷ vs) h =
      ap₂ F.plus (ap (λ z. F.times z (power F x i)) h.0 ∙ nil_times F (power F x i)) (moment_nils i xs vs h.1) ∙ F.plus_nil F.nil

  solved_nils : (xs : List E) (S : ℕ → E) → ((i : ℕ) → S i ≡ F.nil) → Nils (solved F xs S)
  solved_nils [] S h = tt
  solved_nils (x ∷ xs) S h =
      let S' : ℕ → E = λ j. minus F (S (suc j)) (F.times x (S j)) in
      let vs = divided F x xs (solved F xs S') in
      let zs : Nils vs =
      divided_nils x xs (solved F xs S')
      (solved_nils xs S' (λ j. ap₂ (λ a b. minus F a (F.times x b)) (h (suc j)) (h j) ∙ ap (minus F F.nil) (times_nil F x) ∙ F.plus_opp F.nil))
      in
      (ap₂ (minus F) (h 0) (moment_nils 0 xs vs zs) ∙ F.plus_opp F.nil, zs)

  same_step : (x y : E) (xs ys ds : List E) (bs : List Bool) (b : Bool) → (T b → x ≡ y) → Nils (picked (not b ∷ bs) (minus F x y ∷ ds))
      → (Nils (picked bs ds) → xs ≡ ys) → ◌≡◌ {A = List E} (x ∷ xs) (y ∷ ys)
  same_step x y xs ys ds bs true z h rest = ap₂ ◌∷◌ (z tt) (rest h)
  same_step x y xs ys ds bs false z h rest = ap₂ ◌∷◌ (minus_self F x y h.0) (rest h.1)

  same : (xs ys : List E) → length xs ≡ length ys → Nils (picked (differences xs ys) (less xs ys)) → xs ≡ ys
  same [] [] e h = refl
  same [] (y ∷ ys) e h = absurd (let z : ⊥ = omega arith in z)
  same (x ∷ xs) [] e h = absurd (let z : ⊥ = omega arith in z)
  same (x ∷ xs) (y ∷ ys) e h =
      same_step x y xs ys (less xs ys) (differences xs ys) (eqb x.code y.code) (λ t. symbol_path x y (eqb→eq x.code y.code t)) h
      (same xs ys (suc_inj e))

  pub codewords_apart : CodewordsAreApart s
  codewords_apart c xs ys e small wx wy few =
      let n = length xs in
      let ls = locators s n in
      let bs = differences xs ys in
      let ds = less xs ys in
      let long_ls : length (picked bs ls) ≡ count bs = length_picked bs ls (length_unlike xs ys e ∙ sym (length_locators n)) in
      let long_ds : length (picked bs ds) ≡ count bs = length_picked bs ds (length_unlike xs ys e ∙ sym (length_less xs ys e)) in
      let sums : (i : ℕ) → i < length (picked bs ls) → moment F i (picked bs ls) (picked bs ds) ≡ F.nil = λ i l.
      let li : i < c = omega arith in
      sym (moment_picked i ls xs ys e (length_locators n)) ∙ moment_less i ls xs ys e
      ∙ ap₂ (minus F) (sym (as_moment i xs) ∙ wx i li) (ap (λ m. moment F i (locators s m) ys) e ∙ sym (as_moment i ys) ∙ wy i li)
      ∙ F.plus_opp F.nil
      in
      same xs ys e
      (subst Nils
      (sym (solved_only F (picked bs ls) (picked bs ds) (λ _. F.nil) (distinct_picked bs ls (distinct_locators n small)) (long_ds ∙ sym long_ls) sums))
      (solved_nils (picked bs ls) (λ _. F.nil) (λ _. refl)))
