-- One symbol changed: what it does to the syndromes, and the lists within one symbol that are codewords.
use Rattle.std.proofs.Common.{◌≡◌, ℕ, zero, suc, ◌+◌, ◌-◌, ◌<◌, ◌≤◌, ◌≢◌, ◌⊎◌, List, [], ◌∷◌, length, get_or, set, Some, None, Option, sym, refl, ap, ◌∙◌, subst, ap₂, inl, inr, le_of_suc-le-suc, mod-eq_of_lt, add-one, arith, length-set, get_or-set_same}
use lib.ListN.{length-map, get_or-map}
use Rattle.std.proofs.lemmas.List.{map-set, set-get_or}
use Rattle.field.specs.Arithmetic.{Arithmetic, power, minus}
use Rattle.field.specs.Systems.{System, Symbol, symbol, product_of, partner_of, difference_of}
use Rattle.field.proofs.Algebra.{nil_plus, nil_times, cancel, times_minus, minus_four, minus_self, opp_plus}
use Rattle.field.proofs.Symbols.{symbol_is, symbol_nil, symbol_path, product_is}
use Rattle.code.specs.Codewords.{Symbols, Codeword, locator, syndrome, symbols, syndrome_of, distance}
use Rattle.code.specs.Acceptance.{Near, Accepted, Geometric, Position, Located, Judged}
use Rattle.code.specs.declared.correct.Verdict.TheVariants.{Clean, Corrected, OutOfReach}
use Rattle.code.proofs.Apartness.{OneOff, one_off, distance_self, distance_set}
use Rattle.code.proofs.Reach.{acceptance_one}
use Rattle.code.proofs.Vanishing.{syndrome_zero}

module _ (s : System) where
  abbrev F : Arithmetic (Symbol s.order)
  F = s.on

  -- b in the place of a
  replaced : (a b r : Symbol s.order) → F.plus b r ≡ F.plus (minus F (F.plus a r) a) b
  replaced a b r =
      F.plus_comm b r
      ∙ ap (λ z. F.plus z b) (sym (ap (λ z. minus F z a) (F.plus_comm a r) ∙ F.plus_assoc r a (F.opp a) ∙ ap (F.plus r) (F.plus_opp a) ∙ F.plus_nil r))

  syndrome_set : (i : ℕ) (xs : Symbols s) (p : ℕ) (v d : Symbol s.order) → p < length xs
      → syndrome s i (set xs p v)
      ≡ F.plus (minus F (syndrome s i xs) (F.times (get_or xs p d) (power F (locator s (length xs - 1 - p)) i))) (F.times v (power F (locator s (length xs - 1 - p)) i))
  syndrome_set i [] p v d l = absurd (let z : ⊥ = omega arith in z)
  syndrome_set i (x ∷ xs) zero v d l =
      let P : ℕ → Symbol s.order = λ n. power F (locator s n) i in
      let e : length xs ≡ suc (length xs) - 1 - 0 = omega arith in
      replaced (F.times x (P (length xs))) (F.times v (P (length xs))) (syndrome s i xs)
      ∙ ap (λ n. F.plus (minus F (F.plus (F.times x (P (length xs))) (syndrome s i xs)) (F.times x (P n))) (F.times v (P n))) e
  syndrome_set i (x ∷ xs) (suc p) v d l =
      let P : ℕ → Symbol s.order = λ n. power F (locator s n) i in
      let e : length xs - 1 - p ≡ suc (length xs) - 1 - suc p = omega arith in
      let a = F.times x (P (length xs)) in
      let S = syndrome s i xs in
      let Q = P (length xs - 1 - p) in
      let g = get_or xs p d in
      ap₂ (λ n r. F.plus (F.times x (P n)) r) (length-set xs p v) (syndrome_set i xs p v d (le_of_suc-le-suc l))
      ∙ sym (F.plus_assoc a (minus F S (F.times g Q)) (F.times v Q))
      ∙ ap (λ z. F.plus z (F.times v Q)) (sym (F.plus_assoc a S (F.opp (F.times g Q))))
      ∙ ap (λ n. F.plus (minus F (F.plus a S) (F.times g (P n))) (F.times v (P n))) e

  -- the value that syndrome 0 leaves for a place
  abbrev pub repaired : Symbols s → ℕ → Symbols s
  repaired xs p = set xs p (minus F (get_or xs p F.nil) (syndrome s 0 xs))

  -- what a repair at a place leaves of syndrome i
  syndrome_repaired : (i : ℕ) (xs : Symbols s) (p : ℕ) → p < length xs
      → syndrome s i (repaired xs p) ≡ minus F (syndrome s i xs) (F.times (syndrome s 0 xs) (power F (locator s (length xs - 1 - p)) i))
  syndrome_repaired i xs p l =
      let P = power F (locator s (length xs - 1 - p)) i in
      let g = get_or xs p F.nil in
      let e = syndrome s 0 xs in
      let S = syndrome s i xs in
      let g_p = F.times g P in
      let e_p = F.times e P in
      syndrome_set i xs p (minus F g e) F.nil l
      ∙ ap (F.plus (minus F S g_p)) (F.times_comm (minus F g e) P ∙ times_minus F P g e ∙ ap₂ (minus F) (F.times_comm P g) (F.times_comm P e))
      ∙ F.plus_assoc S (F.opp g_p) (minus F g_p e_p)
      ∙ ap (F.plus S)
      (sym (F.plus_assoc (F.opp g_p) g_p (F.opp e_p)) ∙ ap (λ z. F.plus z (F.opp e_p)) (opp_plus F g_p) ∙ nil_plus F (F.opp e_p))

  -- the syndromes of one wrong symbol at place p
  abbrev pub Single : ℕ → Symbols s → ℕ → Type 0
  Single c xs p = (i : ℕ) → i < c → syndrome s i xs ≡ F.times (syndrome s 0 xs) (power F (locator s (length xs - 1 - p)) i)

  pub repaired_codeword : (c : ℕ) (xs : Symbols s) (p : ℕ) → p < length xs → Single c xs p → Codeword s c (repaired xs p)
  repaired_codeword c xs p l h i li =
      let e_p = F.times (syndrome s 0 xs) (power F (locator s (length xs - 1 - p)) i) in
      syndrome_repaired i xs p l ∙ ap (λ z. minus F z e_p) (h i li) ∙ F.plus_opp e_p

  -- a codeword that differs at one place is the repair there
  forced : (c : ℕ) (xs : Symbols s) (p : ℕ) (v : Symbol s.order) → 0 < c → p < length xs → Codeword s c (set xs p v) → set xs p v ≡ repaired xs p
  forced c xs p v h l w =
      let g = get_or xs p F.nil in
      let S = syndrome s 0 xs in
      let one : (a : Symbol s.order) → F.times a F.one ≡ a = F.times_one in
      let zero_is : F.plus (minus F S g) v ≡ F.nil =
      ap₂ (λ a b. F.plus (minus F S a) b) (sym (one g)) (sym (one v)) ∙ sym (syndrome_set 0 xs p v F.nil l) ∙ w 0 h
      in
      let other : F.plus (minus F S g) (minus F g S) ≡ F.nil =
      minus_four F S g g S ∙ ap (λ z. minus F z (F.plus g S)) (F.plus_comm S g) ∙ F.plus_opp (F.plus g S)
      in
      ap (set xs p) (cancel F (minus F S g) v (minus F g S) (zero_is ∙ sym other))

  single : (c : ℕ) (xs : Symbols s) (p : ℕ) → p < length xs → Codeword s c (repaired xs p) → Single c xs p
  single c xs p l w i li =
      minus_self F (syndrome s i xs) (F.times (syndrome s 0 xs) (power F (locator s (length xs - 1 - p)) i))
      (sym (syndrome_repaired i xs p l) ∙ w i li)

  -- a codeword within one symbol is the list itself, or shows at some place
  pub near_shows : (c : ℕ) (xs w : Symbols s) → 0 < c → Near s 1 c xs w → (Codeword s c xs) ⊎ ((p : ℕ) × (p < length xs) × Single c xs p)
  near_shows c xs w h n = go (one_off F.nil xs w (sym n.long) n.near)
    where
      go : OneOff F.nil xs w → (Codeword s c xs) ⊎ ((p : ℕ) × (p < length xs) × Single c xs p)
      go (inl e) = inl (subst (Codeword s c) (sym e) n.codeword)
      go (inr f) =
          let p = f.0 in
          let v = get_or w p F.nil in
          let word : Codeword s c (set xs p v) = subst (Codeword s c) f.2 n.codeword in
          inr (p, f.1, single c xs p f.1 (subst (Codeword s c) (forced c xs p v h f.1 word) word))

  -- the written syndromes go from one to the next by the locator of p
  pub geometric_single : (xs syndromes : List ℕ) (x p : ℕ) → ((i : ℕ) → i < length syndromes → get_or syndromes i 0 ≡ syndrome_of s i xs)
      → symbol s x ≡ locator s (length (symbols s xs) - 1 - p) → Geometric s x syndromes → Single (length syndromes) (symbols s xs) p
  geometric_single xs syndromes x p h ex g zero li = sym (F.times_one (syndrome s 0 (symbols s xs)))
  geometric_single xs syndromes x p h ex g (suc i) li =
      let X = locator s (length (symbols s xs) - 1 - p) in
      let S : ℕ → Symbol s.order = λ j. syndrome s j (symbols s xs) in
      let before : i < length syndromes = omega arith in
      let step : syndrome_of s (suc i) xs ≡ (F.times (S i) X).code =
      sym (h (suc i) li) ∙ ap (λ n. get_or syndromes n 0) (sym (add-one i)) ∙ g i (omega arith)
      ∙ product_is s (get_or syndromes i 0) x (S i) X (h i before) ex
      in
      symbol_path (S (suc i)) (F.times (S i) X) step
      ∙ ap (λ z. F.times z X) (geometric_single xs syndromes x p h ex g i before)
      ∙ F.times_assoc (S 0) (power F X i) X

  pub single_geometric : (xs syndromes : List ℕ) (x p : ℕ) → ((i : ℕ) → i < length syndromes → get_or syndromes i 0 ≡ syndrome_of s i xs)
      → symbol s x ≡ locator s (length (symbols s xs) - 1 - p) → Single (length syndromes) (symbols s xs) p → Geometric s x syndromes
  single_geometric xs syndromes x p h ex g i li =
      let X = locator s (length (symbols s xs) - 1 - p) in
      let S : ℕ → Symbol s.order = λ j. syndrome s j (symbols s xs) in
      let up : suc i < length syndromes = omega arith in
      let before : i < length syndromes = omega arith in
      ap (λ n. get_or syndromes n 0) (add-one i) ∙ h (suc i) up
      ∙ ap (λ (z : Symbol s.order). z.code)
      (g (suc i) up ∙ sym (F.times_assoc (S 0) (power F X i) X) ∙ ap (λ z. F.times z X) (sym (g i before)))
      ∙ sym (product_is s (get_or syndromes i 0) x (S i) X (h i before) ex)

  module _ (c : ℕ) (old : List ℕ) (short : length old < s.order) (two : 2 ≤ c) where
    accepted : (w : Symbols s) → Near s 1 c (symbols s old) w → Accepted s 1 c (symbols s old) (Some w)
    accepted w n = (n, (λ v m. acceptance_one s 1 c (symbols s old) (omega (arith, length-map old (symbol s))) (omega arith) v w m n))

    pub judged_clean : (new : List ℕ) → new ≡ old → Codeword s c (symbols s old)
        → (new ≡ old) × Accepted s 1 c (symbols s old) (Some (symbols s old)) × Codeword s c (symbols s old)
    judged_clean new e w =
        (e, accepted (symbols s old) record { long = refl; codeword = w; near = let d = distance_self (symbols s old) in omega arith }, w)

    pub judged_none : (new : List ℕ) → new ≡ old → (Codeword s c (symbols s old) → ⊥) → ((p : ℕ) → p < length old → Single c (symbols s old) p → ⊥)
        → (new ≡ old) × Accepted s 1 c (symbols s old) None
    judged_none new e bad none = (e, λ w n. go (near_shows c (symbols s old) w (omega arith) n))
      where
        go : (Codeword s c (symbols s old)) ⊎ ((p : ℕ) × (p < length (symbols s old)) × Single c (symbols s old) p) → ⊥
        go (inl w) = bad w
        go (inr f) = none f.0 (let l = f.1 in let m = length-map old (symbol s) in omega arith) f.2

    pub judged_corrected : (new : List ℕ) (p v e : ℕ) → p < length old → (Codeword s c (symbols s old) → ⊥) → Single c (symbols s old) p
        → e ≡ syndrome_of s 0 old → v ≡ difference_of s (get_or old p 0) e → new ≡ set old p v
        → (p < length old) × (new ≡ set old p (get_or new p 0)) × (symbol s (get_or new p 0) ≢ symbol s (get_or old p 0)) × (get_or new p 0 < s.order)
        × Accepted s 1 c (symbols s old) (Some (symbols s new))
    judged_corrected new p v e l bad sg ee ev en =
        let there : get_or new p 0 ≡ v = ap (λ (w : List ℕ). get_or w p 0) en ∙ get_or-set_same old p v 0 l in
        let lo = length-map old (symbol s) in
        let at : get_or (symbols s old) p F.nil ≡ symbol s (get_or old p 0) =
        ap (get_or (symbols s old) p) (sym (symbol_nil s)) ∙ get_or-map (symbol s) old p 0
        in
        let vs : symbol s v ≡ minus F (get_or (symbols s old) p F.nil) (syndrome s 0 (symbols s old)) =
        symbol_is s v (minus F (symbol s (get_or old p 0)) (symbol s e)) ev ∙ ap₂ (minus F) (sym at) (symbol_is s e (syndrome s 0 (symbols s old)) ee)
        in
        let new_is : symbols s new ≡ repaired (symbols s old) p =
        ap (symbols s) en ∙ map-set (symbol s) old p v ∙ ap (set (symbols s old) p) vs
        in
        let word : Codeword s c (symbols s new) =
        subst (Codeword s c) (sym new_is) (repaired_codeword c (symbols s old) p (omega arith) sg)
        in (
          l,
          en ∙ ap (set old p) (sym there),
          (λ same. bad
              (subst (Codeword s c)
              (ap (symbols s) en ∙ map-set (symbol s) old p v ∙ ap (set (symbols s old) p) (ap (symbol s) (sym there) ∙ same ∙ sym (get_or-map (symbol s) old p 0))
              ∙ set-get_or (symbols s old) p (symbol s 0)) word)),
          subst (λ n. n < s.order) (sym (there ∙ ev)) (minus F (symbol s (get_or old p 0)) (symbol s e)).small,
          accepted (symbols s new)
              record {
                long = ap length new_is ∙ length-set (symbols s old) p (minus F (get_or (symbols s old) p F.nil) (syndrome s 0 (symbols s old)));
                codeword = word;
                near = subst (λ (w : Symbols s). distance (symbols s old) w ≤ 1) (sym new_is)
                    (distance_set (symbols s old) p (minus F (get_or (symbols s old) p F.nil) (syndrome s 0 (symbols s old))));
              },
        )

  -- The same from the syndromes as they were written.
  module _ (old syndromes : List ℕ) (c : ℕ) (long : length syndromes ≡ c) (short : length old < s.order) (two : 2 ≤ c)
      (are : (i : ℕ) → i < length syndromes → get_or syndromes i 0 ≡ syndrome_of s i old) where
    zeros_codeword : ((i : ℕ) → i < length syndromes → get_or syndromes i 0 ≡ 0) → Codeword s c (symbols s old)
    zeros_codeword z i l = syndrome_zero s i old (get_or syndromes i 0) (are i (omega arith)) (z i (omega arith))

    codeword_zeros : Codeword s c (symbols s old) → (i : ℕ) → i < length syndromes → get_or syndromes i 0 ≡ 0
    codeword_zeros w i l = are i l ∙ ap (λ (x : Symbol s.order). x.code) (w i (omega arith)) ∙ s.nil_is

    here : (p : ℕ) → symbol s (locator s (length old - 1 - p)).code ≡ locator s (length (symbols s old) - 1 - p)
    here p =
        symbol_is s (locator s (length old - 1 - p)).code (locator s (length old - 1 - p)) refl
        ∙ ap (λ n. locator s (n - 1 - p)) (sym (length-map old (symbol s)))

    pub found_clean : (new : List ℕ) → new ≡ old → ((i : ℕ) → i < length syndromes → get_or syndromes i 0 ≡ 0) → Judged s c old new Clean
    found_clean new e z = judged_clean c old short two new e (zeros_codeword z)

    pub found_none : (new : List ℕ) → new ≡ old → (((i : ℕ) → i < length syndromes → get_or syndromes i 0 ≡ 0) → ⊥) → Located s (length old) syndromes None
        → Judged s c old new OutOfReach
    found_none new e bad none =
        judged_none c old short two new e (λ w. bad (codeword_zeros w))
        (λ p l sg. none p l (single_geometric old syndromes (locator s (length old - 1 - p)).code p are (here p)
        (subst (λ n. Single n (symbols s old) p) (sym long) sg)))

    pub found_one : (new : List ℕ) (p v : ℕ) → (((i : ℕ) → i < length syndromes → get_or syndromes i 0 ≡ 0) → ⊥) → Located s (length old) syndromes (Some p)
        → v ≡ difference_of s (get_or old p 0) (get_or syndromes 0 0) → new ≡ set old p v → Judged s c old new (Corrected p)
    found_one new p v bad one ev en =
        judged_corrected c old short two new p v (get_or syndromes 0 0) one.0 (λ w. bad (codeword_zeros w))
        (subst (λ n. Single n (symbols s old) p) long (geometric_single old syndromes (locator s (length old - 1 - p)).code p are (here p) one.1))
        (are 0 (omega arith)) ev en

  -- The locator of a single error is the quotient of syndromes 1 and 0.
  module _ (syndromes : List ℕ) (two : 2 ≤ length syndromes) (low : (i : ℕ) → i < length syndromes → get_or syndromes i 0 < s.order)
      (some : ((i : ℕ) → i < length syndromes → get_or syndromes i 0 ≡ 0) → ⊥) where
    module _ (X : Symbol s.order) (g : Geometric s X.code syndromes) where
      next : (i : ℕ) → i + 1 < length syndromes → symbol s (get_or syndromes (i + 1) 0) ≡ F.times (symbol s (get_or syndromes i 0)) X
      next i l =
          symbol_is s (get_or syndromes (i + 1) 0) (F.times (symbol s (get_or syndromes i 0)) (symbol s X.code)) (g i l)
          ∙ ap (F.times (symbol s (get_or syndromes i 0))) (symbol_is s X.code X refl)

      vanish : symbol s (get_or syndromes 0 0) ≡ F.nil → (i : ℕ) → i < length syndromes → symbol s (get_or syndromes i 0) ≡ F.nil
      vanish z zero l = z
      vanish z (suc i) l =
          ap (λ n. symbol s (get_or syndromes n 0)) (sym (add-one i)) ∙ next i (omega arith) ∙ ap (λ a. F.times a X) (vanish z i (omega arith)) ∙ nil_times F X

      first_some : symbol s (get_or syndromes 0 0) ≢ F.nil
      first_some z = some (λ i l. sym (mod-eq_of_lt (low i l)) ∙ ap (λ (a : Symbol s.order). a.code) (vanish z i l) ∙ s.nil_is)

      pub quotient_is : (q x : ℕ) → q ≡ partner_of s (get_or syndromes 0 0) → x ≡ product_of s (get_or syndromes 1 0) q → x ≡ X.code
      quotient_is q x eq ex =
          let a = symbol s (get_or syndromes 0 0) in
          ex
          ∙ ap (λ (z : Symbol s.order). z.code)
          (ap₂ F.times (next 0 (omega arith)) (symbol_is s q (F.inv a) eq)
          ∙ ap (λ z. F.times z (F.inv a)) (F.times_comm a X) ∙ F.times_assoc X a (F.inv a) ∙ ap (F.times X) (F.times_inv a first_some) ∙ F.times_one X)

    pub not_located : (n q x : ℕ) → q ≡ partner_of s (get_or syndromes 0 0) → x ≡ product_of s (get_or syndromes 1 0) q → (Geometric s x syndromes → ⊥) → Located s n syndromes None
    not_located n q x eq ex bad p l g =
        bad (subst (λ y. Geometric s y syndromes) (sym (quotient_is (locator s (n - 1 - p)) g q x eq ex)) g)

    pub located : (n q x : ℕ) (r : Option ℕ) → q ≡ partner_of s (get_or syndromes 0 0) → x ≡ product_of s (get_or syndromes 1 0) q → Geometric s x syndromes → Position s n x r → Located s n syndromes r
    located n q x (Some p) eq ex g h = (h.0, subst (λ y. Geometric s y syndromes) h.1 g)
    located n q x None eq ex g h = λ p l k. h p l (quotient_is (locator s (n - 1 - p)) k q x eq ex)
