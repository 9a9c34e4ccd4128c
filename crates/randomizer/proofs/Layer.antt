-- The plain store, call by call, from the store below.
use Rattle.std.proofs.Common.{◌≡◌, ℕ, zero, suc, ◌<◌, Bool, true, false, cond, eqb, ltb, List, [], ◌∷◌, map, length, get_or, Some, None, Option, sym, refl, ap, ◌∙◌, subst, ⊎_elim, arith}
use Rattle.std.specs.Option.{option_map}
use Rattle.std.proofs.lemmas.List.{map-set, length-map}
use Rattle.std.proofs.lemmas.Bool.{cases_Bool}
use Rattle.byte_string.specs.Bytes.{Bytes}
use Rattle.store.specs.Store.{Store, Sound, at, with_at, put_after, clear_after}
use Rattle.randomizer.specs.Sequence.{mixed, sequence_of}
use Rattle.randomizer.specs.Plain.{plain_store}
use Rattle.randomizer.proofs.Register.{sequence_bytes}
use Rattle.randomizer.proofs.Mixing.{length_mixed, mixed_twice, mixed_bytes}

get_or_mapped : (f : List ℕ → List ℕ) (c : List (Option (List ℕ))) (k : ℕ) → get_or (map (option_map f) c) k None ≡ option_map f (get_or c k None)
get_or_mapped f [] k = refl
get_or_mapped f (x ∷ c) zero = refl
get_or_mapped f (x ∷ c) (suc k) = get_or_mapped f c k

-- what stands above is what stands below, under the sequence
plain_at : (o : Bool) (q : List ℕ) (s : Store) (k : ℕ) → o ≡ true → at (plain_store o q s) k ≡ option_map (mixed q) (at s k)
plain_at o q s k t = simp t (get_or_mapped (mixed q) s.contents k)

with_plain : (o : Bool) (q : List ℕ) (s : Store) (k : ℕ) (v : Option (List ℕ)) → o ≡ true
    → plain_store o q (with_at s k v) ≡ with_at (plain_store o q s) k (option_map (mixed q) v)
with_plain o q s k v t =
    ap (λ (c : List (Option (List ℕ))). record { places = cond o s.places 0; width = s.width; contents = c })
    (simp t (map-set (option_map (mixed q)) s.contents k v))

pub plain_put : (o : Bool) (q : List ℕ) (s : Store) (place : ℕ) (block : List ℕ) → o ≡ true
    → plain_store o q (put_after s place (mixed q block)) ≡ put_after (plain_store o q s) place block
plain_put o q s place block t =
    let l = length_mixed q block in
    ⊎_elim
    (λ (x : ltb place s.places ≡ true).
    ⊎_elim
    (λ (y : eqb (length block) s.width ≡ true).
    let e = with_plain o q s place (Some (mixed q block)) t ∙ ap (λ b. with_at (plain_store o q s) place (Some b)) (mixed_twice q block) in
    let a : put_after s place (mixed q block) ≡ with_at s place (Some (mixed q block)) = simp (l, x, y) in
    let b : put_after (plain_store o q s) place block ≡ with_at (plain_store o q s) place (Some block) = simp (t, x, y) in
    ap (plain_store o q) a ∙ e ∙ sym b)
    (λ (y : eqb (length block) s.width ≡ false).
    let a : put_after s place (mixed q block) ≡ s = simp (l, x, y) in
    let b : put_after (plain_store o q s) place block ≡ plain_store o q s = simp (t, x, y) in
    ap (plain_store o q) a ∙ sym b)
    (cases_Bool (eqb (length block) s.width)))
    (λ (x : ltb place s.places ≡ false).
    let a : put_after s place (mixed q block) ≡ s = simp x in
    let b : put_after (plain_store o q s) place block ≡ plain_store o q s = simp (t, x) in
    ap (plain_store o q) a ∙ sym b)
    (cases_Bool (ltb place s.places))

pub plain_clear : (o : Bool) (q : List ℕ) (s : Store) (place : ℕ) → o ≡ true
    → plain_store o q (clear_after s place) ≡ clear_after (plain_store o q s) place
plain_clear o q s place t =
    ⊎_elim
    (λ (x : ltb place s.places ≡ true).
    let a : clear_after s place ≡ with_at s place None = simp x in
    let b : clear_after (plain_store o q s) place ≡ with_at (plain_store o q s) place None = simp (t, x) in
    ap (plain_store o q) a ∙ with_plain o q s place None t ∙ sym b)
    (λ (x : ltb place s.places ≡ false).
    let a : clear_after s place ≡ s = simp x in
    let b : clear_after (plain_store o q s) place ≡ plain_store o q s = simp (t, x) in
    ap (plain_store o q) a ∙ sym b)
    (cases_Bool (ltb place s.places))

unmapped : (f : List ℕ → List ℕ) (o : Option (List ℕ)) (b : List ℕ) → option_map f o ≡ Some b → (c : List ℕ) × (o ≡ Some c) × (f c ≡ b)
unmapped f None b e = let z : ◌≡◌ {A = ℕ} 0 1 = cc in absurd (omega arith)
unmapped f (Some c) b e = (c, refl, cc)

-- what stands above comes from below
plain_below : (o : Bool) (q : List ℕ) (s : Store) (k : ℕ) (b : List ℕ) → at (plain_store o q s) k ≡ Some b
    → (c : List ℕ) × (at s k ≡ Some c) × (mixed q c ≡ b)
plain_below o q s k b e =
    ⊎_elim
    (λ (t : o ≡ true). unmapped (mixed q) (at s k) b (sym (plain_at o q s k t) ∙ e))
    (λ (t : o ≡ false). let f : None ≡ Some b = simp t at e in let z : ◌≡◌ {A = ℕ} 0 1 = cc in absurd (omega arith))
    (cases_Bool o)

plain_sized : (o : Bool) (q : List ℕ) (s : Store) → length s.contents ≡ s.places → length (plain_store o q s).contents ≡ (plain_store o q s).places
plain_sized o q s h =
    ⊎_elim
    (λ (t : o ≡ true). simp t (length-map s.contents (option_map (mixed q)) ∙ h))
    (λ (t : o ≡ false). simp t)
    (cases_Bool o)

pub good_there : (o : Bool) (q : List ℕ) (s : Store) (k : ℕ) → k < (plain_store o q s).places → o ≡ true
good_there o q s k h =
    ⊎_elim
    (λ (t : o ≡ true). t)
    (λ (t : o ≡ false). let z : k < 0 = simp t at h in absurd (omega arith))
    (cases_Bool o)

plain_there : (o : Bool) (q : List ℕ) (s : Store) → 0 < (plain_store o q s).places → 0 < s.places
plain_there o q s h =
    ⊎_elim
    (λ (t : o ≡ true). let q : 0 < s.places = simp t at h in q)
    (λ (t : o ≡ false). let q : 0 < 0 = simp t at h in absurd (omega arith))
    (cases_Bool o)

pub plain_sound : (o : Bool) (preset : ℕ) (s : Store) → Sound s → Sound (plain_store o (sequence_of preset) s)
plain_sound o preset s h =
    let q = sequence_of preset in
    let P : List ℕ → Type 0 = λ x. length x ≡ s.width in
    let Q : List ℕ → Type 0 = λ x. Bytes x in
    record {
      sized = plain_sized o q s h.sized;
      wide = λ k b e. let d = plain_below o q s k b e in subst P d.2 (length_mixed q d.0 ∙ h.wide k d.0 d.1);
      bytes = λ k b e. let d = plain_below o q s k b e in subst Q d.2 (mixed_bytes q d.0 (sequence_bytes preset) (h.bytes k d.0 d.1));
      narrow = λ z. h.narrow (plain_there o q s z);
    }
