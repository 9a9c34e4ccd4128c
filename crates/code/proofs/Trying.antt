-- Whether a codeword is within a reach of a list is decided by trying every list within that reach, and so is which one.
use Rattle.std.proofs.Common.{◌≡◌, ℕ, zero, suc, ◌+◌, ◌-◌, ◌<◌, ◌≤◌, Bool, true, false, not, T, eqb, List, [], ◌∷◌, length, Some, None, Option, sym, refl, ap, ◌∙◌, subst, le_of_suc-le-suc, arith, eqb→eq}
use native.Mathlib.Nat.{suc_inj}
use native.Mathlib.Decide.{ℕ_discrete}
use lib.Dec.{eqb_refl}
use Rattle.field.specs.Systems.{System, Symbol}
use Rattle.field.proofs.Symbols.{symbol_path}
use Rattle.code.specs.Codewords.{Symbols, Codeword, syndrome, differences, count, distance}
use Rattle.code.specs.Acceptance.{Near, Accepted, AcceptanceHasOneAnswer}
use Rattle.code.proofs.Apartness.{at_most}
use Rattle.code.proofs.Reach.{acceptance_one}

module _ {q : ℕ} where
  -- a symbol with a property, tried one by one
  any_below : (Q : Symbol q → Type 0) → ((v : Symbol q) → Dec (Q v)) → (k : ℕ) → k ≤ q → Dec ((v : Symbol q) × (v.code < k) × Q v)
  any_below Q d zero h = no (λ f. let l = f.1 in let z : ⊥ = omega arith in z)
  any_below Q d (suc k) h = go (d here) (any_below Q d k (omega arith))
    where
      here : Symbol q
      here = record { code = k; small = h }

      go : Dec (Q here) → Dec ((v : Symbol q) × (v.code < k) × Q v) → Dec ((v : Symbol q) × (v.code < suc k) × Q v)
      go (yes y) r = yes (here, omega arith, y)
      go (no n) (yes f) = yes (f.0, (let l = f.1 in let z : f.0.code < suc k = omega arith in z), f.2)
      go (no n) (no m) = no (λ f. last f (ℕ_discrete f.0.code k))
        where
          last : (f : (v : Symbol q) × (v.code < suc k) × Q v) → Dec (f.0.code ≡ k) → ⊥
          last f (yes e) = n (subst Q (symbol_path f.0 here e) f.2)
          last f (no ne) = m (f.0, (let l = f.1 in let z : f.0.code < k = omega arith in z), f.2)

  -- a list of one length with xs, in at most t places another, with a property
  abbrev Close : (List (Symbol q) → Type 0) → ℕ → List (Symbol q) → Type 0
  Close P t xs = (w : List (Symbol q)) × (length w ≡ length xs) × (distance xs w ≤ t) × P w

  head_same : (x y : Symbol q) (ds : List Bool) (b : Bool) → eqb x.code y.code ≡ b → x ≡ y → count (not b ∷ ds) ≡ count ds
  head_same x y ds true e h = refl
  head_same x y ds false e h = absurd (subst T e (subst (λ (z : Symbol q). T (eqb x.code z.code)) h (eqb_refl x.code)))

  split : (x y : Symbol q) (ds : List Bool) (t : ℕ) (b : Bool) → eqb x.code y.code ≡ b → count (not b ∷ ds) ≤ t → (C : Type 0) → (x ≡ y → count ds ≤ t → C) → (suc (count ds) ≤ t → C) → C
  split x y ds t true e l C f g = f (symbol_path x y (eqb→eq x.code y.code (subst T (sym e) tt))) l
  split x y ds t false e l C f g = g l

  try : (P : List (Symbol q) → Type 0) → ((w : List (Symbol q)) → Dec (P w)) → (t : ℕ) (xs : List (Symbol q)) → Dec (Close P t xs)
  try P d t [] = go (d [])
    where
      none : (w : List (Symbol q)) → length w ≡ 0 → P w → P []
      none [] e p = p
      none (x ∷ w) e p = absurd (let z : ⊥ = omega arith in z)

      go : Dec (P []) → Dec (Close P t [])
      go (yes p) = yes ([], refl, omega arith, p)
      go (no n) = no (λ f. n (none f.0 f.1 f.3))
  try P d zero (x ∷ xs) = go (try (λ w. P (x ∷ w)) (λ w. d (x ∷ w)) zero xs)
    where
      back : (w : List (Symbol q)) → length w ≡ suc (length xs) → distance (x ∷ xs) w ≤ 0 → P w → Close (λ w. P (x ∷ w)) zero xs
      back [] e l p = absurd (let z : ⊥ = omega arith in z)
      back (y ∷ w) e l p =
          split x y (differences xs w) zero (eqb x.code y.code) refl l (Close (λ w. P (x ∷ w)) zero xs)
          (λ same k. (w, suc_inj e, k, subst (λ (z : Symbol q). P (z ∷ w)) (sym same) p))
          (λ k. absurd (let z : ⊥ = omega arith in z))

      go : Dec (Close (λ w. P (x ∷ w)) zero xs) → Dec (Close P zero (x ∷ xs))
      go (yes f) = yes (x ∷ f.0, ap suc f.1, subst (λ n. n ≤ 0) (sym (head_same x x (differences xs f.0) (eqb x.code x.code) refl refl)) f.2, f.3)
      go (no n) = no (λ f. n (back f.0 f.1 f.2 f.3))
  try P d (suc t) (x ∷ xs) = go (try (λ w. P (x ∷ w)) (λ w. d (x ∷ w)) (suc t) xs) (any_below Other (λ v. try (λ w. P (v ∷ w)) (λ w. d (v ∷ w)) t xs) q (omega arith))
    where
      Other : Symbol q → Type 0
      Other v = Close (λ w. P (v ∷ w)) t xs

      back : (Close (λ w. P (x ∷ w)) (suc t) xs → ⊥) → ((v : Symbol q) × (v.code < q) × Other v → ⊥) → (w : List (Symbol q)) → length w ≡ suc (length xs) → distance (x ∷ xs) w ≤ suc t → P w → ⊥
      back n m [] e l p = let z : ⊥ = omega arith in z
      back n m (y ∷ w) e l p =
          split x y (differences xs w) (suc t) (eqb x.code y.code) refl l ⊥
          (λ same k. n (w, suc_inj e, k, subst (λ (z : Symbol q). P (z ∷ w)) (sym same) p))
          (λ k. m (y, y.small, (w, suc_inj e, le_of_suc-le-suc k, p)))

      go : Dec (Close (λ w. P (x ∷ w)) (suc t) xs) → Dec ((v : Symbol q) × (v.code < q) × Other v) → Dec (Close P (suc t) (x ∷ xs))
      go (yes f) r = yes (x ∷ f.0, ap suc f.1, subst (λ n. n ≤ suc t) (sym (head_same x x (differences xs f.0) (eqb x.code x.code) refl refl)) f.2, f.3)
      go (no n) (yes f) =
          let v = f.0 in
          let c = f.2 in
          let k = c.2 in
          yes (v ∷ c.0, ap suc c.1, (let h = at_most (differences xs c.0) (not (eqb x.code v.code)) in let z : distance (x ∷ xs) (v ∷ c.0) ≤ suc t = omega arith in z), c.3)
      go (no n) (no m) = no (λ f. back n m f.0 f.1 f.2 f.3)

module _ (s : System) where
  same_symbol : (x y : Symbol s.order) → Dec (x ≡ y)
  same_symbol x y = go (ℕ_discrete x.code y.code)
    where
      go : Dec (x.code ≡ y.code) → Dec (x ≡ y)
      go (yes e) = yes (symbol_path x y e)
      go (no n) = no (λ e. n (ap (λ (z : Symbol s.order). z.code) e))

  is_codeword : (c : ℕ) (w : Symbols s) → Dec (Codeword s c w)
  is_codeword zero w = yes (λ i l. absurd (let z : ⊥ = omega arith in z))
  is_codeword (suc c) w = go (is_codeword c w) (same_symbol (syndrome s c w) s.on.nil)
    where
      more : Codeword s c w → syndrome s c w ≡ s.on.nil → (i : ℕ) → i < suc c → Dec (i ≡ c) → syndrome s i w ≡ s.on.nil
      more h z i l (yes e) = ap (λ k. syndrome s k w) e ∙ z
      more h z i l (no ne) = h i (omega arith)

      go : Dec (Codeword s c w) → Dec (syndrome s c w ≡ s.on.nil) → Dec (Codeword s (suc c) w)
      go (yes h) (yes z) = yes (λ i l. more h z i l (ℕ_discrete i c))
      go (yes h) (no n) = no (λ h. n (h c (omega arith)))
      go (no n) r = no (λ h. n (λ i l. h i (omega arith)))

  found : (t c : ℕ) (received : Symbols s) → Dec (Close (Codeword s c) t received) → Option (Symbols s)
  found t c received (yes f) = Some f.0
  found t c received (no m) = None

  -- the codeword of c checks within reach t of a list, or nothing where there is none
  pub nearest : (t c : ℕ) → Symbols s → Option (Symbols s)
  nearest t c received = found t c received (try (Codeword s c) (is_codeword c) t received)

  module _ (t c : ℕ) (received : Symbols s) (short : length received ≤ s.order - 1) (reach : t + t ≤ c) where
    pub nearest_accepted : Accepted s t c received (nearest t c received)
    unfolding nearest found
    nearest_accepted = go (try (Codeword s c) (is_codeword c) t received)
      where
        near : (w : Symbols s) → length w ≡ length received → distance received w ≤ t → Codeword s c w → Near s t c received w
        near w l d h = record { long = l; codeword = h; near = d }

        go : (d : Dec (Close (Codeword s c) t received)) → Accepted s t c received (found t c received d)
        go (yes f) =
            let n = near f.0 f.1 f.2 f.3 in
            (n, (λ v m. acceptance_one s t c received short reach v f.0 m n))
        go (no m) = λ w n. m (w, n.long, n.near, n.codeword)

    -- what is accepted is one answer
    accepted_one : (a b : Option (Symbols s)) → Accepted s t c received a → Accepted s t c received b → b ≡ a
    accepted_one (Some w) (Some v) h k = ap Some (h.1 v k.0)
    accepted_one (Some w) None h k = absurd (k w h.0)
    accepted_one None (Some v) h k = absurd (h v k.0)
    accepted_one None None h k = refl

    pub nearest_only : (b : Option (Symbols s)) → Accepted s t c received b → b ≡ nearest t c received
    nearest_only b h = accepted_one (nearest t c received) b nearest_accepted h

  pub acceptance_has_one_answer : AcceptanceHasOneAnswer s
  acceptance_has_one_answer t c received short reach =
      (nearest t c received, nearest_accepted t c received short reach, nearest_only t c received short reach)
