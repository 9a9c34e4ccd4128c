-- Lists with marked places: the loops that go through them, one place at a time.
use Rattle.std.proofs.Common.{◌≡◌, ℕ, zero, suc, ◌+◌, ◌-◌, ◌<◌, ◌≤◌, Bool, true, false, cond, List, [], ◌∷◌, ◌++◌, length, get_or, take, drop, set, sym, refl, ap, ◌∙◌, subst, ap₂, append_assoc, le_of_suc-le-suc, add-one, arith, replicate, length-append, length-take, length-drop, drop-cons}
use native.Mathlib.Nat.{suc_inj}
use Rattle.std.proofs.lemmas.List.{ext_get_or, append-nil, get_or-replicate, length-replicate, drop-set-lt, set-get_or, take-append-drop, take_more, take_more_set, take_all, drop_all}
use Rattle.std.specs.List.{sum_by}
use Rattle.std.proofs.lemmas.List.Sums.{sum_by-cons}
use borrow.Rule.Slice.PartMut.{put_mid}
use Rattle.code.specs.Codewords.{count}
use Rattle.code.specs.Erasures.{blanked, merged}

-- 1 for a mark, and 0 for none
abbrev pub bit_of : Bool → ℕ
bit_of b = cond b 1 0

pub sum_marks : (bs : List Bool) → sum_by bit_of bs ≡ count bs
sum_marks [] = refl
sum_marks (true ∷ bs) = rw (sum_by-cons bit_of true bs) (omega (arith, sum_marks bs))
sum_marks (false ∷ bs) = rw (sum_by-cons bit_of false bs) (omega (arith, sum_marks bs))

pub count_at_most : (bs : List Bool) → count bs ≤ length bs
count_at_most [] = omega arith
count_at_most (true ∷ bs) = omega (arith, count_at_most bs)
count_at_most (false ∷ bs) = omega (arith, count_at_most bs)

-- what is left of the marks at a place
pub left_here : (bs : List Bool) (p : ℕ) (b : Bool) → p < length bs → get_or bs p false ≡ b → drop p bs ≡ b ∷ drop (p + 1) bs
left_here bs p b l e = drop-cons bs p false l ∙ ap₂ (λ (x : Bool) (n : ℕ). x ∷ drop n bs) e (sym (add-one p))

module _ {A : Type 0} where
  pub length_blanked : (d : A) (bs : List Bool) (xs : List A) → length (blanked d bs xs) ≡ length xs
  length_blanked d [] xs = refl
  length_blanked d (true ∷ bs) [] = refl
  length_blanked d (true ∷ bs) (x ∷ xs) = ap suc (length_blanked d bs xs)
  length_blanked d (false ∷ bs) [] = refl
  length_blanked d (false ∷ bs) (x ∷ xs) = ap suc (length_blanked d bs xs)

  pub length_merged : (bs : List Bool) (xs vs : List A) → length (merged bs xs vs) ≡ length xs
  length_merged [] xs vs = refl
  length_merged (true ∷ bs) [] vs = refl
  length_merged (true ∷ bs) (x ∷ xs) [] = refl
  length_merged (true ∷ bs) (x ∷ xs) (v ∷ vs) = ap suc (length_merged bs xs vs)
  length_merged (false ∷ bs) [] vs = refl
  length_merged (false ∷ bs) (x ∷ xs) vs = ap suc (length_merged bs xs vs)

  pub get_or_blanked : (d e : A) (bs : List Bool) (xs : List A) (p : ℕ) → p < length xs → get_or (blanked d bs xs) p e ≡ cond (get_or bs p false) d (get_or xs p e)
  get_or_blanked d e [] xs p l = refl
  get_or_blanked d e (true ∷ bs) [] p l = absurd (let z : ⊥ = omega arith in z)
  get_or_blanked d e (true ∷ bs) (x ∷ xs) zero l = refl
  get_or_blanked d e (true ∷ bs) (x ∷ xs) (suc p) l = get_or_blanked d e bs xs p (le_of_suc-le-suc l)
  get_or_blanked d e (false ∷ bs) [] p l = absurd (let z : ⊥ = omega arith in z)
  get_or_blanked d e (false ∷ bs) (x ∷ xs) zero l = refl
  get_or_blanked d e (false ∷ bs) (x ∷ xs) (suc p) l = get_or_blanked d e bs xs p (le_of_suc-le-suc l)

  pub blanked_twice : (d : A) (bs : List Bool) (xs : List A) → blanked d bs (blanked d bs xs) ≡ blanked d bs xs
  blanked_twice d [] xs = refl
  blanked_twice d (true ∷ bs) [] = refl
  blanked_twice d (true ∷ bs) (x ∷ xs) = ap (λ (l : List A). d ∷ l) (blanked_twice d bs xs)
  blanked_twice d (false ∷ bs) [] = refl
  blanked_twice d (false ∷ bs) (x ∷ xs) = ap (λ (l : List A). x ∷ l) (blanked_twice d bs xs)

  -- a place that is not marked keeps its entry
  pub get_or_merged : (e : A) (bs : List Bool) (xs vs : List A) (p : ℕ) → get_or bs p false ≡ false → get_or (merged bs xs vs) p e ≡ get_or xs p e
  get_or_merged e [] xs vs p h = refl
  get_or_merged e (true ∷ bs) [] vs p h = refl
  get_or_merged e (true ∷ bs) (x ∷ xs) [] p h = refl
  get_or_merged e (true ∷ bs) (x ∷ xs) (v ∷ vs) zero h = absurd (let z : ◌≡◌ {A = ℕ} 0 1 = cc in let y : ⊥ = omega arith in y)
  get_or_merged e (true ∷ bs) (x ∷ xs) (v ∷ vs) (suc p) h = get_or_merged e bs xs vs p h
  get_or_merged e (false ∷ bs) [] vs p h = refl
  get_or_merged e (false ∷ bs) (x ∷ xs) vs zero h = refl
  get_or_merged e (false ∷ bs) (x ∷ xs) vs (suc p) h = get_or_merged e bs xs vs p h

  -- a marked place has one of the values
  pub merged_has : (P : A → Type 0) (e : A) (bs : List Bool) (xs vs : List A) (p : ℕ) → length vs ≡ count bs → p < length xs
      → ((k : ℕ) → k < length vs → P (get_or vs k e)) → get_or bs p false ≡ true → P (get_or (merged bs xs vs) p e)
  merged_has P e [] xs vs p n l h t = absurd (let z : ◌≡◌ {A = ℕ} 0 1 = cc in let y : ⊥ = omega arith in y)
  merged_has P e (true ∷ bs) [] vs p n l h t = absurd (let y : ⊥ = omega arith in y)
  merged_has P e (true ∷ bs) (x ∷ xs) [] p n l h t = absurd (let y : ⊥ = omega arith in y)
  merged_has P e (true ∷ bs) (x ∷ xs) (v ∷ vs) zero n l h t = h 0 (omega arith)
  merged_has P e (true ∷ bs) (x ∷ xs) (v ∷ vs) (suc p) n l h t =
      merged_has P e bs xs vs p (suc_inj n) (le_of_suc-le-suc l) (λ k lk. h (suc k) (omega arith)) t
  merged_has P e (false ∷ bs) [] vs p n l h t = absurd (let y : ⊥ = omega arith in y)
  merged_has P e (false ∷ bs) (x ∷ xs) vs zero n l h t = absurd (let z : ◌≡◌ {A = ℕ} 0 1 = cc in let y : ⊥ = omega arith in y)
  merged_has P e (false ∷ bs) (x ∷ xs) vs (suc p) n l h t = merged_has P e bs xs vs p n (le_of_suc-le-suc l) h t

  merged_none : (bs : List Bool) (xs : List A) → merged bs xs [] ≡ xs
  merged_none [] xs = refl
  merged_none (true ∷ bs) [] = refl
  merged_none (true ∷ bs) (x ∷ xs) = refl
  merged_none (false ∷ bs) [] = refl
  merged_none (false ∷ bs) (x ∷ xs) = ap (λ (l : List A). x ∷ l) (merged_none bs xs)

  -- p places are written, and vs are the values for the places from there on
  abbrev pub Merging : List Bool → List A → ℕ → List A → List A → Type 0
  Merging bs was p now vs = take p now ++ merged (drop p bs) (drop p now) vs ≡ was

  module _ (d : A) (bs : List Bool) (was now vs : List A) (p : ℕ) (l : p < length now) (lb : p < length bs) (h : Merging bs was p now vs) where
    here : drop p now ≡ get_or now p d ∷ drop (p + 1) now
    here = drop-cons now p d l ∙ ap (λ n. get_or now p d ∷ drop n now) (sym (add-one p))

    pub merging_marked : (o rest : List A) (v : A) → get_or bs p false ≡ true → o ≡ set now p v → vs ≡ v ∷ rest → Merging bs was (p + 1) o rest
    merging_marked o rest v t eo e =
        let step : merged (drop p bs) (drop p now) vs ≡ v ∷ merged (drop (p + 1) bs) (drop (p + 1) now) rest =
        ap (λ (x : List Bool). merged x (drop p now) vs) (left_here bs p true lb t) ∙ ap₂ (λ (x y : List A). merged (true ∷ drop (p + 1) bs) x y) here e
        in
        ap (λ (x : List A). take (p + 1) x ++ merged (drop (p + 1) bs) (drop (p + 1) x) rest) eo
        ∙ ap₂ (λ (x y : List A). x ++ merged (drop (p + 1) bs) y rest) (take_more_set now p v l) (drop-set-lt (p + 1) now p v (omega arith))
        ∙ append_assoc (take p now) (v ∷ []) (merged (drop (p + 1) bs) (drop (p + 1) now) rest)
        ∙ ap (λ (x : List A). take p now ++ x) (sym step) ∙ h

    pub merging_known : (o rest : List A) → get_or bs p false ≡ false → o ≡ set now p (get_or now p d) → rest ≡ vs → Merging bs was (p + 1) o rest
    merging_known o rest t eo e =
        let more = merged (drop (p + 1) bs) (drop (p + 1) now) vs in
        let step : merged (drop p bs) (drop p now) vs ≡ get_or now p d ∷ more =
        ap (λ (x : List Bool). merged x (drop p now) vs) (left_here bs p false lb t) ∙ ap (λ (x : List A). merged (false ∷ drop (p + 1) bs) x vs) here
        in
        ap₂ (λ (x y : List A). take (p + 1) x ++ merged (drop (p + 1) bs) (drop (p + 1) x) y) (eo ∙ set-get_or now p d) e
        ∙ ap (λ (x : List A). x ++ more) (take_more now p d l) ∙ append_assoc (take p now) (get_or now p d ∷ []) more
        ∙ ap (λ (x : List A). take p now ++ x) (sym step) ∙ h

    -- no values are left
    pub merging_none : (o rest : List A) → o ≡ set now p (get_or now p d) → vs ≡ [] → rest ≡ vs → Merging bs was (p + 1) o rest
    merging_none o rest eo none e =
        let whole : (q : ℕ) → take q now ++ merged (drop q bs) (drop q now) [] ≡ now = λ q.
        ap (λ (x : List A). take q now ++ x) (merged_none (drop q bs) (drop q now)) ∙ take-append-drop q now
        in
        ap₂ (λ (x y : List A). take (p + 1) x ++ merged (drop (p + 1) bs) (drop (p + 1) x) y) (eo ∙ set-get_or now p d) (e ∙ none)
        ∙ whole (p + 1) ∙ sym (whole p) ∙ subst (λ (x : List A). Merging bs was p now x) none h

  pub merging_end : (bs : List Bool) (was now vs : List A) (p : ℕ) → length bs ≤ p → length now ≤ p → Merging bs was p now vs → now ≡ was
  merging_end bs was now vs p lb l h =
      sym (append-nil now)
      ∙ ap₂ (λ (x y : List A). x ++ y) (sym (take_all p now l))
      (sym (ap₂ (λ (x : List Bool) (y : List A). merged x y vs) (drop_all p bs lb) (drop_all p now l)))
      ∙ h

  pub blanked_is : (d : A) (bs : List Bool) (xs ys : List A) → length ys ≡ length xs
      → ((p : ℕ) → p < length ys → get_or ys p d ≡ cond (get_or bs p false) d (get_or xs p d)) → ys ≡ blanked d bs xs
  blanked_is d bs xs ys l h =
      ext_get_or d ys (blanked d bs xs) (l ∙ sym (length_blanked d bs xs)) (λ p lp. h p lp ∙ sym (get_or_blanked d d bs xs p (omega arith)))

-- a places that are not marked, and then c that are
abbrev pub last_marks : ℕ → ℕ → List Bool
last_marks a c = replicate a false ++ replicate c true

pub length_last : (a c : ℕ) → length (last_marks a c) ≡ a + c
length_last a c = simp (length-append, length-replicate)

pub count_last : (a c : ℕ) → count (last_marks a c) ≡ c
count_last zero zero = refl
count_last zero (suc c) = ap suc (count_last zero c)
count_last (suc a) c = count_last a c

pub front_last : (a c p : ℕ) → p < a → get_or (last_marks a c) p false ≡ false
front_last zero c p l = absurd (let z : ⊥ = omega arith in z)
front_last (suc a) c zero l = refl
front_last (suc a) c (suc p) l = front_last a c p (le_of_suc-le-suc l)

pub back_last : (a c p : ℕ) → a ≤ p → p < a + c → get_or (last_marks a c) p false ≡ true
back_last zero c p h l = get_or-replicate c p true false (omega arith)
back_last (suc a) c zero h l = absurd (let z : ⊥ = omega arith in z)
back_last (suc a) c (suc p) h l = back_last a c p (le_of_suc-le-suc h) (omega arith)

unmarked : (a : ℕ) (bs : List Bool) → a ≤ length bs → count bs ≡ 0 → take a bs ≡ replicate a false
unmarked zero bs l e = refl
unmarked (suc a) [] l e = absurd (let z : ⊥ = omega arith in z)
unmarked (suc a) (true ∷ bs) l e = absurd (let z : ⊥ = omega arith in z)
unmarked (suc a) (false ∷ bs) l e = ap (λ (x : List Bool). false ∷ x) (unmarked a bs (le_of_suc-le-suc l) e)

pub count_front : (n : ℕ) (bs : List Bool) → count bs ≡ 0 → count (take n bs) ≡ 0
count_front zero bs e = refl
count_front (suc n) [] e = refl
count_front (suc n) (true ∷ bs) e = absurd (let z : ⊥ = omega arith in z)
count_front (suc n) (false ∷ bs) e = count_front n bs e

-- the last places of a list with no marks, filled with marks
pub last_filled : (a c : ℕ) (bs ms : List Bool) → a + c ≡ length bs → count bs ≡ 0 → ms ≡ replicate (length (take (length bs - a) (drop a bs))) true
    → put_mid a (length bs - a) bs ms ≡ last_marks a c
last_filled a c bs ms e none em =
    let long : length (take (length bs - a) (drop a bs)) ≡ c = simp (length-take, length-drop) (omega arith) in
    ap₂ (λ (x y : List Bool). x ++ y) (unmarked a bs (omega arith) none)
    (ap₂ (λ (x y : List Bool). x ++ y) (em ∙ ap (λ n. replicate n true) long) (drop_all (length bs - a) (drop a bs) (simp length-drop (omega arith))) ∙ append-nil (replicate c true))
