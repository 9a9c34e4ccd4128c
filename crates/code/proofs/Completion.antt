-- Symbols at unknown places: what they add to the syndromes, and that a completion is the only one.
use Rattle.std.proofs.Common.{◌≡◌, ℕ, zero, suc, ◌+◌, ◌<◌, ◌≤◌, Bool, true, false, not, T, eqb, List, [], ◌∷◌, length, get_or, MatchBool, sym, refl, ap, ◌∙◌, subst, ap₂, arith}
use native.Mathlib.Decide.{dec_lt}
use native.Mathlib.Nat.{suc_inj}
use lib.Dec.{eqb_refl}
use lib.ListN.{length-map, get_or-map}
use Rattle.field.specs.Arithmetic.{Arithmetic, power}
use Rattle.field.specs.Systems.{System, Symbol, symbol, opposite_of}
use Rattle.field.proofs.Algebra.{nil_plus, nil_times, opp_plus}
use Rattle.field.proofs.Symbols.{symbol_is, symbol_nil}
use Rattle.code.specs.Codewords.{Symbols, Codeword, Vanish, locator, syndrome, symbols, syndrome_of, count, differences, distance}
use Rattle.code.specs.Equations.{moment}
use Rattle.code.specs.Erasures.{picked, blanked, merged, locators, Completed}
use Rattle.code.specs.Filling.{Completes, Filled, Encoded}
use Rattle.code.specs.Solving.{Solved}
use Rattle.code.proofs.Marks.{length_blanked, length_merged, blanked_twice, get_or_merged, merged_has, last_marks, length_last, count_last, front_last, back_last}
use Rattle.code.proofs.Distance.{codewords_apart}

module _ (s : System) where
  abbrev F : Arithmetic (Symbol s.order)
  F = s.on

  symbols_merged : (bs : List Bool) (xs vs : List ℕ) → symbols s (merged bs xs vs) ≡ merged bs (symbols s xs) (symbols s vs)
  symbols_merged [] xs vs = refl
  symbols_merged (true ∷ bs) [] vs = refl
  symbols_merged (true ∷ bs) (x ∷ xs) [] = refl
  symbols_merged (true ∷ bs) (x ∷ xs) (v ∷ vs) = ap (λ (l : Symbols s). symbol s v ∷ l) (symbols_merged bs xs vs)
  symbols_merged (false ∷ bs) [] vs = refl
  symbols_merged (false ∷ bs) (x ∷ xs) vs = ap (λ (l : Symbols s). symbol s x ∷ l) (symbols_merged bs xs vs)

  symbols_blanked : (bs : List Bool) (xs : List ℕ) → symbols s (blanked 0 bs xs) ≡ blanked F.nil bs (symbols s xs)
  symbols_blanked [] xs = refl
  symbols_blanked (true ∷ bs) [] = refl
  symbols_blanked (true ∷ bs) (x ∷ xs) = ap₂ ◌∷◌ (symbol_nil s) (symbols_blanked bs xs)
  symbols_blanked (false ∷ bs) [] = refl
  symbols_blanked (false ∷ bs) (x ∷ xs) = ap (λ (l : Symbols s). symbol s x ∷ l) (symbols_blanked bs xs)

  -- the values add their moments at the locators of the marked places
  syndrome_merged : (i : ℕ) (bs : List Bool) (xs vs : Symbols s) → length bs ≡ length xs → length vs ≡ count bs
      → syndrome s i (merged bs xs vs) ≡ F.plus (moment F i (picked bs (locators s (length xs))) vs) (syndrome s i (blanked F.nil bs xs))
  syndrome_merged i [] [] vs e f = sym (F.plus_nil F.nil)
  syndrome_merged i [] (x ∷ xs) vs e f = absurd (let z : ⊥ = omega arith in z)
  syndrome_merged i (true ∷ bs) [] vs e f = absurd (let z : ⊥ = omega arith in z)
  syndrome_merged i (true ∷ bs) (x ∷ xs) [] e f = absurd (let z : ⊥ = omega arith in z)
  syndrome_merged i (true ∷ bs) (x ∷ xs) (v ∷ vs) e f =
      let a = F.times v (power F (locator s (length xs)) i) in
      let m = moment F i (picked bs (locators s (length xs))) vs in
      let b = syndrome s i (blanked F.nil bs xs) in
      let P = power F (locator s (length (blanked F.nil bs xs))) i in
      ap₂ (λ n r. F.plus (F.times v (power F (locator s n) i)) r) (length_merged bs xs vs) (syndrome_merged i bs xs vs (suc_inj e) (suc_inj f))
      ∙ sym (F.plus_assoc a m b)
      ∙ ap (F.plus (F.plus a m)) (sym (ap (λ z. F.plus z b) (nil_times F P) ∙ nil_plus F b))
  syndrome_merged i (false ∷ bs) [] vs e f = absurd (let z : ⊥ = omega arith in z)
  syndrome_merged i (false ∷ bs) (x ∷ xs) vs e f =
      let a = F.times x (power F (locator s (length xs)) i) in
      let m = moment F i (picked bs (locators s (length xs))) vs in
      let b = syndrome s i (blanked F.nil bs xs) in
      ap₂ (λ n r. F.plus (F.times x (power F (locator s n) i)) r) (length_merged bs xs vs) (syndrome_merged i bs xs vs (suc_inj e) f)
      ∙ sym (F.plus_assoc a m b) ∙ ap (λ z. F.plus z b) (F.plus_comm a m) ∙ F.plus_assoc m a b
      ∙ ap (λ n. F.plus m (F.plus (F.times x (power F (locator s n) i)) b)) (sym (length_blanked F.nil bs xs))

  -- the steps of completing, put together
  pub completed : (bs : List Bool) (xs known locs wanted values new : List ℕ) → length bs ≡ length xs
      → known ≡ blanked 0 bs xs
      → symbols s locs ≡ picked bs (locators s (length bs))
      → length locs ≡ count bs → length wanted ≡ count bs → length values ≡ count bs
      → ((i : ℕ) → i < length wanted → get_or wanted i 0 ≡ opposite_of s (syndrome_of s i known))
      → Solved s locs wanted values
      → new ≡ merged bs known values
      → Completed s bs xs new
  completed bs xs known locs wanted values new lb ek el ll lw lv hw so en =
      let K = symbols s known in
      let V = symbols s values in
      let lk : length known ≡ length xs = ap length ek ∙ length_blanked 0 bs xs in
      let l_k : length K ≡ length known = length-map known (symbol s) in
      let blank : blanked F.nil bs K ≡ K =
      ap (λ (l : List ℕ). blanked F.nil bs (symbols s l)) ek ∙ ap (blanked F.nil bs) (symbols_blanked bs xs) ∙ blanked_twice F.nil bs (symbols s xs)
      ∙ sym (symbols_blanked bs xs) ∙ ap (symbols s) (sym ek)
      in
      record {
        long = ap length en ∙ length_merged bs known values ∙ lk;
        codeword = λ i li.
            let S = syndrome s i K in
            let wi : symbol s (get_or wanted i 0) ≡ F.opp S =
            symbol_is s (get_or wanted i 0) (F.opp S) (hw i (omega arith) ∙ ap (λ (x : Symbol s.order). (F.opp x).code) (symbol_is s (syndrome_of s i known) S refl))
            in
            ap (λ (l : List ℕ). syndrome s i (symbols s l)) en ∙ ap (syndrome s i) (symbols_merged bs known values)
            ∙ syndrome_merged i bs K V (lb ∙ sym (l_k ∙ lk)) (length-map values (symbol s) ∙ lv)
            ∙ ap₂ F.plus
            (ap (λ n. moment F i (picked bs (locators s n)) V) (l_k ∙ lk ∙ sym lb) ∙ ap (λ (l : Symbols s). moment F i l V) (sym el) ∙ so.sums i (omega arith) ∙ wi)
            (ap (syndrome s i) blank)
            ∙ opp_plus F S;
        same = λ p h.
            ap (λ (l : List ℕ). get_or l p 0) en ∙ get_or_merged 0 bs known values p h ∙ ap (λ (l : List ℕ). get_or l p 0) ek ∙ known_same bs xs p h;
        small = λ p l t.
            subst (λ (w : List ℕ). get_or w p 0 < s.order) (sym en)
            (merged_has (λ n. n < s.order) 0 bs known values p lv (let lm = length_merged bs known values in let le = ap length en in omega arith) (λ k lk. so.small k (omega arith)) t);
      }
    where
      known_same : (bs : List Bool) (xs : List ℕ) (p : ℕ) → get_or bs p false ≡ false → get_or (blanked 0 bs xs) p 0 ≡ get_or xs p 0
      known_same [] xs p h = refl
      known_same (true ∷ bs) [] p h = refl
      known_same (true ∷ bs) (x ∷ xs) zero h = absurd (let z : ◌≡◌ {A = ℕ} 0 1 = cc in let y : ⊥ = omega arith in y)
      known_same (true ∷ bs) (x ∷ xs) (suc p) h = known_same bs xs p h
      known_same (false ∷ bs) [] p h = refl
      known_same (false ∷ bs) (x ∷ xs) zero h = refl
      known_same (false ∷ bs) (x ∷ xs) (suc p) h = known_same bs xs p h

  like : (x y : Symbol s.order) (b : Bool) → eqb x.code y.code ≡ b → x ≡ y → b ≡ true
  like x y true e h = refl
  like x y false e h = absurd (subst T e (subst (λ (z : Symbol s.order). T (eqb x.code z.code)) h (eqb_refl x.code)))

  off_step : (b t : Bool) (ds bs : List Bool) → (t ≡ false → b ≡ true) → count ds ≤ count bs → count (not b ∷ ds) ≤ count (t ∷ bs)
  off_step true true ds bs h l = omega arith
  off_step true false ds bs h l = l
  off_step false true ds bs h l = omega arith
  off_step false false ds bs h l = absurd (let e = h refl in let z : ◌≡◌ {A = ℕ} 0 1 = cc in let y : ⊥ = omega arith in y)

  -- lists that agree off the marked places are at most as many places apart as are marked
  pub apart_off : (d : Symbol s.order) (bs : List Bool) (xs ys : Symbols s) → length bs ≡ length xs → length ys ≡ length xs
      → ((p : ℕ) → p < length xs → get_or bs p false ≡ false → get_or xs p d ≡ get_or ys p d) → distance xs ys ≤ count bs
  apart_off d [] [] ys e f h = omega arith
  apart_off d [] (x ∷ xs) ys e f h = absurd (let z : ⊥ = omega arith in z)
  apart_off d (b ∷ bs) [] ys e f h = absurd (let z : ⊥ = omega arith in z)
  apart_off d (b ∷ bs) (x ∷ xs) [] e f h = absurd (let z : ⊥ = omega arith in z)
  apart_off d (b ∷ bs) (x ∷ xs) (y ∷ ys) e f h =
      off_step (eqb x.code y.code) b (differences xs ys) bs (λ t. like x y (eqb x.code y.code) refl (h 0 (omega arith) t))
      (apart_off d bs xs ys (suc_inj e) (suc_inj f) (λ p l t. h (suc p) (omega arith) t))

  module _ (bs : List Bool) (old new : List ℕ) (lb : length bs ≡ length old) (short : length old < s.order) (c : ℕ) (few : count bs ≤ c) (done : Completed s bs old new) where
    long_new : length (symbols s new) ≡ length (symbols s old)
    long_new = length-map new (symbol s) ∙ done.long ∙ sym (length-map old (symbol s))

    at_same : (p : ℕ) → get_or bs p false ≡ false → get_or (symbols s new) p (symbol s 0) ≡ get_or (symbols s old) p (symbol s 0)
    at_same p t = get_or-map (symbol s) new p 0 ∙ ap (symbol s) (done.same p t) ∙ sym (get_or-map (symbol s) old p 0)

    at_nil : (p : ℕ) → get_or bs p false ≡ false → get_or (symbols s new) p F.nil ≡ get_or (symbols s old) p F.nil
    at_nil p t = subst (λ (d : Symbol s.order). get_or (symbols s new) p d ≡ get_or (symbols s old) p d) (symbol_nil s) (at_same p t)

    pub only_one : (w : Symbols s) → Completes s c bs (symbols s old) w → w ≡ symbols s new
    only_one w h =
        let lo = length-map old (symbol s) in
        let lw = h.long in
        codewords_apart s (count bs) w (symbols s new) (lw ∙ sym long_new) (omega arith) (λ i l. h.codeword i (omega arith)) done.codeword
        (apart_off F.nil bs w (symbols s new) (omega arith) (long_new ∙ sym lw) (λ p l t. h.keeps p (omega arith) t ∙ sym (at_nil p t)))

    codeword_all : Vanish s (count bs) c (symbols s new) → Codeword s c (symbols s new)
    codeword_all v i l = go (dec_lt i (count bs))
      where
        go : Dec (i < count bs) → syndrome s i (symbols s new) ≡ F.nil
        go (yes h) = done.codeword i h
        go (no h) = v i (omega arith) l

    pub filled : Vanish s (count bs) c (symbols s new) → Filled s c bs old new
    filled v = record {
      completes = record { long = long_new; codeword = codeword_all v; keeps = λ p l t. at_nil p t };
      only = only_one;
      same = done.same;
      small = done.small;
    }

    pub not_filled : (Vanish s (count bs) c (symbols s new) → ⊥) → (w : Symbols s) → Completes s c bs (symbols s old) w → ⊥
    not_filled n w h = n (λ i la lc. ap (syndrome s i) (sym (only_one w h)) ∙ h.codeword i lc)

    -- what the test of the spare syndromes decides
    pub tested_true : (r : ℕ) (t : Bool) (out : List ℕ) → r ≡ count bs → t ≡ true → MatchBool t (Vanish s r c (symbols s new)) (Vanish s r c (symbols s new) → ⊥) → out ≡ new
        → Filled s c bs old out
    tested_true r true out e h v eo =
        subst (λ (w : List ℕ). Filled s c bs old w) (sym eo) (filled (subst (λ n. Vanish s n c (symbols s new)) e v))
    tested_true r false out e h v eo = absurd (let z : ◌≡◌ {A = ℕ} 0 1 = cc in let y : ⊥ = omega arith in y)

    pub tested_false : (r : ℕ) (t : Bool) → r ≡ count bs → t ≡ false → MatchBool t (Vanish s r c (symbols s new)) (Vanish s r c (symbols s new) → ⊥)
        → (w : Symbols s) → Completes s c bs (symbols s old) w → ⊥
    tested_false r true e h v = absurd (let z : ◌≡◌ {A = ℕ} 0 1 = cc in let y : ⊥ = omega arith in y)
    tested_false r false e h v = not_filled (λ a. v (subst (λ n. Vanish s n c (symbols s new)) (sym e) a))

  -- the last c places completed
  pub encoded : (a c : ℕ) (bs : List Bool) (old new out : List ℕ) → bs ≡ last_marks a c → a + c ≡ length old → length old < s.order → Completed s bs old new
      → out ≡ new → Encoded s c old out
  encoded a c bs old new out eb ea short done eo =
      subst (λ (w : List ℕ). Encoded s c old w) (sym eo)
      record {
        long = done.long;
        codeword = subst (λ n. Codeword s n (symbols s new)) all done.codeword;
        same = λ p l. done.same p (front p (omega arith));
        only = λ w lw hw keep.
            only_one bs old new (ap length eb ∙ length_last a c ∙ ea) short c (omega (arith, all)) done w
            record {
              long = lw ∙ sym (length-map old (symbol s));
              codeword = hw;
              keeps = λ p l t. keep p (let lo = length-map old (symbol s) in known p (dec_lt p a) (omega arith) t);
            };
        small = λ p l m. let ln = done.long in done.small p l (back p (omega arith) (omega arith));
      }
    where
      all : count bs ≡ c
      all = ap count eb ∙ count_last a c

      front : (p : ℕ) → p < a → get_or bs p false ≡ false
      front p l = ap (λ (x : List Bool). get_or x p false) eb ∙ front_last a c p l

      back : (p : ℕ) → a ≤ p → p < a + c → get_or bs p false ≡ true
      back p l m = ap (λ (x : List Bool). get_or x p false) eb ∙ back_last a c p l m

      known : (p : ℕ) → Dec (p < a) → p < length old → get_or bs p false ≡ false → p + c < length old
      known p (yes h) l t = omega arith
      known p (no h) l t = absurd (let u = back p (omega arith) (omega arith) in let z : ◌≡◌ {A = ℕ} 0 1 = cc in let y : ⊥ = omega arith in y)
