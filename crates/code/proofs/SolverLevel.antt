-- One level of the solver's recursion.
use Rattle.std.proofs.Common.{◌≡◌, ℕ, zero, suc, ◌<◌, List, [], ◌∷◌, ◌++◌, length, get_or, sym, refl, ap, ◌∙◌, subst, ap₂, le_of_suc-le-suc, arith}
use native.Mathlib.Nat.{suc_inj}
use lib.ListN.{length-map}
use Rattle.std.proofs.lemmas.List.{map-append}
use Rattle.field.specs.Arithmetic.{Arithmetic, minus}
use Rattle.field.specs.Systems.{System, Symbol, symbol, product_of, partner_of, difference_of}
use Rattle.field.proofs.Algebra.{nil_plus, minus_plus}
use Rattle.field.proofs.Symbols.{symbol_is}
use Rattle.code.specs.Codewords.{Symbols, symbols}
use Rattle.code.specs.Equations.{moment, Distinct}
use Rattle.code.specs.Solving.{total, place, Eliminated, Divided, Solved}
use Rattle.code.proofs.Elimination.{scaled, divided, climbs, whole_step, scaled_divided}

module _ (s : System) where
  abbrev F : Arithmetic (Symbol s.order)
  F = s.on

  quotient_is : (n a b x : ℕ) → n ≡ product_of s a (partner_of s (difference_of s b x)) → symbol s n ≡ F.times (symbol s a) (F.inv (minus F (symbol s b) (symbol s x)))
  quotient_is n a b x e =
      let d = difference_of s b x in
      symbol_is s n (F.times (symbol s a) (symbol s (partner_of s d))) e
      ∙ ap (F.times (symbol s a)) (symbol_is s (partner_of s d) (F.inv (symbol s d)) refl ∙ ap F.inv (symbol_is s d (minus F (symbol s b) (symbol s x)) refl))

  divided_is : (x : ℕ) (xs old new : List ℕ) → length old ≡ length xs → length new ≡ length old
      → Divided s x xs old new
      → symbols s new ≡ divided F (symbol s x) (symbols s xs) (symbols s old)
  divided_is x [] [] [] e f h = refl
  divided_is x [] [] (n ∷ new) e f h = absurd (let z : ⊥ = omega arith in z)
  divided_is x [] (o ∷ old) new e f h = absurd (let z : ⊥ = omega arith in z)
  divided_is x (y ∷ xs) [] new e f h = absurd (let z : ⊥ = omega arith in z)
  divided_is x (y ∷ xs) (o ∷ old) [] e f h = absurd (let z : ⊥ = omega arith in z)
  divided_is x (y ∷ xs) (o ∷ old) (n ∷ new) e f h =
      ap₂ ◌∷◌ (quotient_is n o y x (h 0 (omega arith))) (divided_is x xs old new (suc_inj e) (suc_inj f) (λ k l. h (suc k) (omega arith)))

  total_push : (vs : Symbols s) (v : Symbol s.order) → total s (vs ++ (v ∷ [])) ≡ F.plus (total s vs) v
  total_push [] v = F.plus_nil v ∙ sym (nil_plus F v)
  total_push (w ∷ vs) v = ap (F.plus w) (total_push vs v) ∙ sym (F.plus_assoc w (total s vs) v)

  pub total_more : (xs : List ℕ) (x : ℕ) → (F.plus (total s (symbols s xs)) (symbol s x)).code ≡ (total s (symbols s (xs ++ x ∷ []))).code
  total_more xs x =
      ap (λ (y : Symbol s.order). y.code) (sym (ap (total s) (map-append (symbol s) xs (x ∷ [])) ∙ total_push (symbols s xs) (symbol s x)))

  total_is : (xs vs : Symbols s) → length vs ≡ length xs → moment F 0 xs vs ≡ total s vs
  total_is [] [] e = refl
  total_is [] (v ∷ vs) e = absurd (let z : ⊥ = omega arith in z)
  total_is (x ∷ xs) [] e = refl
  total_is (x ∷ xs) (v ∷ vs) e = ap₂ F.plus (F.times_one v) (total_is xs vs (suc_inj e))

  small_cons : (v : ℕ) (f : List ℕ) → v < s.order → ((k : ℕ) → k < length f → get_or f k 0 < s.order) → (k : ℕ) → k < suc (length f) → get_or (v ∷ f) k 0 < s.order
  small_cons v f h t zero l = h
  small_cons v f h t (suc k) l = t k (le_of_suc-le-suc l)

  -- the first locator is x, and the first sum b
  pub level : (x b : ℕ) (xs old d e f : List ℕ) (sum v : ℕ) → Distinct (symbols s (x ∷ xs)) → length old ≡ length xs → length d ≡ length xs → length e ≡ length xs → length f ≡ length xs
      → Eliminated s x b old d → Solved s xs d e → Divided s x xs e f
      → sum ≡ (total s (symbols s f)).code → v ≡ difference_of s b sum → Solved s (x ∷ xs) (b ∷ old) (v ∷ f)
  level x b xs old d e f sum v distinct lo ld le lf st so di es ev =
      let X = symbol s x in
      let XS = symbols s xs in
      let V = symbol s v in
      let FS = symbols s f in
      let long : (l : List ℕ) → length l ≡ length xs → length (symbols s l) ≡ length XS = λ l h. length-map l (symbol s) ∙ h ∙ sym (length-map xs (symbol s)) in
      let sum_is : symbol s sum ≡ moment F 0 XS FS = symbol_is s sum (total s FS) es ∙ sym (total_is XS FS (long f lf)) in
      let V_is : V ≡ minus F (symbol s b) (moment F 0 XS FS) =
      symbol_is s v (minus F (symbol s b) (symbol s sum)) ev ∙ ap (minus F (symbol s b)) sum_is
      in
      let quotients : FS ≡ divided F X XS (symbols s e) = divided_is x xs e f le (lf ∙ sym le) di in
      let back : scaled F X XS FS ≡ symbols s e = ap (scaled F X XS) quotients ∙ scaled_divided F X XS (symbols s e) distinct.0 (long e le) in
      let start : moment F 0 (X ∷ XS) (V ∷ FS) ≡ symbol s b =
      ap (λ z. F.plus z (moment F 0 XS FS)) (F.times_one V ∙ V_is) ∙ minus_plus F (symbol s b) (moment F 0 XS FS)
      in
      let less : (j : ℕ) → j < length xs → place s d j ≡ minus F (place s old j) (F.times X (place s (b ∷ old) j)) = λ j l.
      let p = product_of s x (get_or (b ∷ old) j 0) in
      symbol_is s (get_or d j 0) (minus F (place s old j) (symbol s p)) (st j (omega arith))
      ∙ ap (minus F (place s old j)) (symbol_is s p (F.times X (place s (b ∷ old) j)) refl)
      in
      let steps : (j : ℕ) → j < length xs → minus F (moment F (suc j) (X ∷ XS) (V ∷ FS)) (F.times X (moment F j (X ∷ XS) (V ∷ FS))) ≡ minus F (place s old j) (F.times X (place s (b ∷ old) j)) = λ j l.
      whole_step F X V XS FS j ∙ ap (moment F j XS) back ∙ so.sums j l ∙ less j l
      in
      let quotient_small : (j : ℕ) → j < length f → get_or f j 0 < s.order = λ j l.
      subst (λ n. n < s.order) (sym (di j (omega arith))) (F.times (symbol s (get_or e j 0)) (symbol s (partner_of s (difference_of s (get_or xs j 0) x)))).small
      in
      record {
        sums = λ i l. climbs F X (length xs) (λ j. moment F j (X ∷ XS) (V ∷ FS)) (place s (b ∷ old)) start steps i l;
        small = λ k l. small_cons v f (subst (λ n. n < s.order) (sym ev) (minus F (symbol s b) (symbol s sum)).small) quotient_small k (omega arith);
      }
