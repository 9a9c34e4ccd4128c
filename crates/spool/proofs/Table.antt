-- What a table has for each place, after an entry is replaced or pushed.
use Rattle.std.proofs.Common.{◌≡◌, ◌≢◌, ℕ, suc, ◌<◌, ◌≤◌, true, false, not, cond, ◌&&◌, ◌||◌, ◌==◌, eqb, ltb, leb, List, [], ◌∷◌, ◌++◌, length, get_or, take, drop, set, replicate, Some, None, Option, sym, refl, ap, ◌∙◌, subst, ⊎_elim, arith, Vec, Global, vec_capacity}
use Rattle.std.specs.List.{position, position_or_len, find, slice_get, list_any, All, AllByRecursion, IsDistinct}
use Rattle.std.specs.Vec.{with_item}
use Rattle.std.specs.Option.{option_map, option_and_then, option_or}
use Rattle.std.specs.Cmp.{nat_eq_equiv}
use Rattle.std.proofs.lemmas.List.{ext_get_or, map-set, set-get_or, length-map, get_or-map, map-append, length-append, length-take-le, length-replicate, get_or-replicate}
use Rattle.std.proofs.lemmas.List.Elements.{All-map, All-push}
use Rattle.std.proofs.lemmas.List.Folds.{find-set, find_past, find-append, find_at, list_any_none, list_any_at, Any-from_list_any}
use Rattle.std.proofs.lemmas.Option.{slice_get_past, slice_get-get_or}
use Rattle.std.proofs.lemmas.List.Quantifiers.{position-Some}
use Rattle.std.proofs.lemmas.List.Sums.{fails_before_first}
use Rattle.std.proofs.lemmas.Map.Keys.{IsDistinct-push}
use Rattle.std.proofs.lemmas.Map.Steps.{length-le_from_distinct_below}
use Rattle.std.proofs.lemmas.Bool.{lt-ltb, eq-eqb, ne_eqb, eqb-true, eqb-false, ltb-true, ltb-false, cases_Bool, and_parts, and_from, or_from, or_right, not_from_false, cond-true, cond-false}
use Rattle.byte_string.specs.Bytes.{Bytes}
use Rattle.store.specs.Store.{Sound, with_at, listed, good_width}
use Rattle.byte_string.proofs.Bytes.{bytes_take, bytes_drop, bytes_zeros, bytes_append}
use Rattle.store.proofs.Listed.{length_listed, get_or_listed, listed_set, listed_sound}
use Rattle.store.proofs.Widths.{width_within}
use Rattle.spool.specs.declared.entry.Entry.{Entry}
use Rattle.spool.specs.declared.Spool.TheInside.{Inside}
use Rattle.spool.specs.Kept.{Kept}
use Rattle.spool.specs.Order.{apart}
use Rattle.spool.specs.Table.{places_of, is_of, lookup, held, spool_store, spool_places, order_put, blank}

-- where the entry of a place stands
pub record Stands (xs : List Entry) (p i : ℕ) : Type 0 where
  pub first : i ≡ position_or_len (is_of p) xs
  pub within : i < length xs
  pub here : (d : Entry) → (get_or xs i d).place ≡ p

pub stands : (xs : List Entry) (p i : ℕ) → Some i ≡ position (is_of p) xs → Stands xs p i
stands xs p i e =
    let m = position_or_len (is_of p) xs in
    ⊎_elim
    (λ (t : ltb m (length xs) ≡ true).
    let f : Some i ≡ Some m = simp t at e in
    let first : i ≡ m = cc in
    let lt = ltb-true m (length xs) t in
    record { first = first; within = omega arith; here = λ d. eqb-true _ _ (position-Some (is_of p) xs i d (sym e)).1 })
    (λ (t : ltb m (length xs) ≡ false). let f : Some i ≡ None = simp t at e in let z : ◌≡◌ {A = ℕ} 0 1 = cc in absurd (omega arith))
    (cases_Bool (ltb m (length xs)))

-- no entry is of the place
pub record Absent (xs : List Entry) (p : ℕ) : Type 0 where
  pub nowhere : find (is_of p) xs ≡ None
  pub none : list_any (eqb p) (places_of xs) ≡ false

none_before : (xs : List Entry) (p : ℕ) → None ≡ position (is_of p) xs → length xs ≤ position_or_len (is_of p) xs
none_before xs p e =
    let m = position_or_len (is_of p) xs in
    ⊎_elim
    (λ (t : ltb m (length xs) ≡ true). let f : None ≡ Some m = simp t at e in let z : ◌≡◌ {A = ℕ} 0 1 = cc in absurd (omega arith))
    (λ (t : ltb m (length xs) ≡ false). ltb-false m (length xs) t)
    (cases_Bool (ltb m (length xs)))

pub absent : (xs : List Entry) (p : ℕ) → None ≡ position (is_of p) xs → Absent xs p
absent xs p e =
    let far = none_before xs p e in
    record {
      nowhere = find_at (is_of p) xs ∙ slice_get_past xs (position_or_len (is_of p) xs) far;
      none =
          list_any_none (eqb p) (places_of xs)
          (All-map (λ q. eqb p q ≡ false) (λ x. x.place) xs
          (λ k d lt. ne_eqb p (get_or xs k d).place (λ f. eqb-false (get_or xs k d).place p (fails_before_first (is_of p) xs k d (omega arith)) (sym f))));
    }

is_it : (x : Entry) (p : ℕ) → x.place ≡ p → is_of p x ≡ true
is_it x p e = eq-eqb x.place p e

is_other : (x : Entry) (p k : ℕ) → x.place ≡ p → k ≢ p → is_of k x ≡ false
is_other x p k e ne = ne_eqb x.place k (λ f. ne (sym f ∙ e))

or_none : (o : Option Entry) → option_or o None ≡ o
or_none None = refl
or_none (Some x) = refl

-- a table that has another thing for one place
pub store_replaced : (n w p i : ℕ) (xs : List Entry) (y : Entry) (o : Option (List ℕ)) → p < n → Stands xs p i → y.place ≡ p
    → held w y ≡ o → spool_store n w (set xs i y) ≡ with_at (spool_store n w xs) p o
store_replaced n w p i xs y o lt s ey eo =
    ap (λ c. record { places = n; width = w; contents = c })
    (listed_set n (lookup w xs) (lookup w (set xs i y)) p o lt
    (ap (option_and_then (held w)) (find-set (is_of p) xs i y s.first s.within (is_it y p ey)) ∙ eo)
    (λ k _ ne. ap (option_and_then (held w)) (find_past (is_of k) xs i y y (is_other (get_or xs i y) p k (s.here y) ne) (is_other y p k ey ne))))

pub store_pushed : (n w p : ℕ) (xs ys : List Entry) (y : Entry) (o : Option (List ℕ)) → p < n → Absent xs p → y.place ≡ p
    → held w y ≡ o → ys ≡ xs ++ y ∷ [] → spool_store n w ys ≡ with_at (spool_store n w xs) p o
store_pushed n w p xs ys y o lt a ey eo ep =
    let last : (k : ℕ) → find (is_of k) ys ≡ option_or (find (is_of k) xs) (cond (is_of k y) (Some y) None) =
    λ k. ap (find (is_of k)) ep ∙ find-append (is_of k) xs (y ∷ []) in
    ap (λ c. record { places = n; width = w; contents = c })
    (listed_set n (lookup w xs) (lookup w ys) p o lt
    (ap (option_and_then (held w)) (last p ∙ ap (λ f. option_or f (cond (is_of p y) (Some y) None)) a.nowhere ∙ cond-true _ _ _ (is_it y p ey)) ∙ eo)
    (λ k _ ne. ap (option_and_then (held w))
    (last k ∙ ap (option_or (find (is_of k) xs)) (cond-false _ _ _ (is_other y p k ey ne)) ∙ or_none (find (is_of k) xs))))

pub store_blank : (n w p : ℕ) (xs : List Entry) → p < n → Absent xs p → spool_store n w xs ≡ with_at (spool_store n w xs) p None
store_blank n w p xs lt a =
    ap (λ c. record { places = n; width = w; contents = c })
    (listed_set n (lookup w xs) (lookup w xs) p None lt (ap (option_and_then (held w)) a.nowhere) (λ k _ _. refl))

-- the entry that stands for a place
pub found : (w p i : ℕ) (xs : List Entry) (d : Entry) → Stands xs p i → lookup w xs p ≡ held w (get_or xs i d)
found w p i xs d s =
    ap (option_and_then (held w)) (find_at (is_of p) xs ∙ ap (slice_get xs) (sym s.first) ∙ slice_get-get_or xs i d s.within)

pub store_at : (n w p : ℕ) (xs : List Entry) (o : Option (List ℕ)) → p < n → lookup w xs p ≡ o
    → get_or (spool_store n w xs).contents p None ≡ o
store_at n w p xs o lt e = get_or_listed n (lookup w xs) p lt ∙ e

place_there : (xs : List Entry) (p i : ℕ) (y : Entry) → Stands xs p i → get_or (places_of xs) i 0 ≡ p
place_there xs p i y s = get_or-map (λ x. x.place) xs i y 0 s.within ∙ s.here y

pub places_replaced : (xs : List Entry) (p i : ℕ) (y : Entry) → Stands xs p i → y.place ≡ p → places_of (set xs i y) ≡ places_of xs
places_replaced xs p i y s ey =
    map-set (λ x. x.place) xs i y ∙ ap (set (places_of xs) i) (ey ∙ sym (place_there xs p i y s)) ∙ set-get_or (places_of xs) i 0

-- what is true of the places in their order stays true where an entry is replaced
pub still : (P : List ℕ → Type 0) (xs : List Entry) (p i : ℕ) (y : Entry) → P (places_of xs) → Stands xs p i → y.place ≡ p
    → P (places_of (set xs i y))
still P xs p i y h st e = subst P (sym (places_replaced xs p i y st e)) h

pub places_pushed : (p : ℕ) (xs ys : List Entry) (y : Entry) → y.place ≡ p → ys ≡ xs ++ y ∷ [] → places_of ys ≡ places_of xs ++ p ∷ []
places_pushed p xs ys y ey ep = ap places_of ep ∙ map-append (λ x. x.place) xs (y ∷ []) ∙ ap (λ q. places_of xs ++ q ∷ []) ey

-- there is room for a place that has not come: with it, the places are still at most n
pub room : (n p : ℕ) (xs : List Entry) → p < n → Absent xs p → IsDistinct eqb (places_of xs) → All (λ q. q < n) (places_of xs) → length xs < n
room n p xs lt a distinct below =
    let ps = places_of xs ++ p ∷ [] in
    let all = All-push (λ q. q < n) (places_of xs) p below lt in
    let few = length-le_from_distinct_below ps n (IsDistinct-push nat_eq_equiv (places_of xs) p distinct a.none)
    (λ q h. let k = Any-from_list_any (eqb q) ps h in let e = eqb-true q k.1 k.4 in let b = all k.0 k.1 k.2 in let f = k.3 in omega arith) in
    omega (arith, few, length-append (places_of xs) (p ∷ []), length-map xs (λ x. x.place))

block_held : (w : ℕ) (o : Option (List ℕ)) (b : List ℕ) → w ≤ 88 → ((a : List ℕ) → o ≡ Some a → length a ≡ 88)
    → ((a : List ℕ) → o ≡ Some a → Bytes a) → option_map (take w) o ≡ Some b → (length b ≡ w) × Bytes b
block_held w None b lw long bytes e = let z : ◌≡◌ {A = ℕ} 0 1 = cc in absurd (omega arith)
block_held w (Some a) b lw long bytes e =
    let f : take w a ≡ b = cc in
    let l = long a refl in
    let P : List ℕ → Type 0 = λ z. (length z ≡ w) × Bytes z in
    subst P f (length-take-le w a (omega arith), bytes_take w a (bytes a refl))

found_block : (w : ℕ) (f : Option Entry) (b : List ℕ) → w ≤ 88 → option_and_then (held w) f ≡ Some b → (length b ≡ w) × Bytes b
found_block w None b lw e = let z : ◌≡◌ {A = ℕ} 0 1 = cc in absurd (omega arith)
found_block w (Some x) b lw e = block_held w x.block b lw x.long x.bytes e

pub spool_sound : (n w : ℕ) (xs : List Entry) → (0 < n → (1 ≤ w) × (w ≤ 88)) → Sound (spool_store n w xs)
spool_sound n w xs narrow =
    listed_sound n w (lookup w xs) (λ k b lt. found_block w (find (is_of k) xs) b (narrow (omega arith)).1) narrow

pub spool_blank : (n w : ℕ) → spool_store n w [] ≡ blank n w
spool_blank n w =
    ap (λ c. record { places = n; width = w; contents = c })
    (ext_get_or None (listed n (lookup w [])) (replicate n None) (length_listed n (lookup w []) ∙ sym (length-replicate n None))
    (λ k h. let lt : k < n = omega (arith, length_listed n (lookup w [])) in get_or_listed n (lookup w []) k lt ∙ sym (get_or-replicate n k None None lt)))

pub narrow_new : (n w : ℕ) → 0 < spool_places n w → (1 ≤ w) × (w ≤ 88)
narrow_new n w h =
    ⊎_elim
    (λ (t : leb n 169 && good_width w ≡ true). width_within w (and_parts (leb n 169) (good_width w) t).1)
    (λ (t : leb n 169 && good_width w ≡ false). let q : 0 < 0 = simp t at h in absurd (omega arith))
    (cases_Bool (leb n 169 && good_width w))

pub narrow_places : (n w : ℕ) → (eqb (spool_places n w) 0 || good_width w) ≡ true
narrow_places n w =
    ⊎_elim
    (λ (t : leb n 169 && good_width w ≡ true). or_right (eqb (spool_places n w) 0) (good_width w) (and_parts (leb n 169) (good_width w) t).1)
    (λ (t : leb n 169 && good_width w ≡ false). simp t)
    (cases_Bool (leb n 169 && good_width w))

-- a place that came again leaves the order, and a new one is the last
pub order_replaced : (n w p i : ℕ) (xs : List Entry) (y : Entry) (b : List ℕ) → p < n → length b ≡ w → Stands xs p i → y.place ≡ p
    → places_of (set xs i y) ≡ order_put (spool_store n w xs) (places_of xs) p b
order_replaced n w p i xs y b lt wide s ey =
    let u = lt-ltb p n lt in
    let t = eq-eqb (length b) w wide in
    let within = s.within in
    let h = list_any_at (eqb p) (places_of xs) i 0 (omega (arith, length-map xs (λ x. x.place))) (eq-eqb p _ (sym (place_there xs p i y s))) in
    simp (u, t, h) (places_replaced xs p i y s ey)

pub order_pushed : (n w p : ℕ) (xs ys : List Entry) (y : Entry) (b : List ℕ) → p < n → length b ≡ w → Absent xs p → y.place ≡ p
    → ys ≡ xs ++ y ∷ [] → places_of ys ≡ order_put (spool_store n w xs) (places_of xs) p b
order_pushed n w p xs ys y b lt wide a ey ep =
    let u = lt-ltb p n lt in
    let t = eq-eqb (length b) w wide in
    let h = a.none in
    simp (u, t, h) (places_pushed p xs ys y ey ep)

pub padded_bytes : (block ys : List ℕ) (n : ℕ) → ys ≡ block → Bytes block → Bytes (ys ++ drop n (replicate 88 0))
padded_bytes block ys n e h =
    let P : List ℕ → Type 0 = λ x. Bytes x in bytes_append ys (drop n (replicate 88 0)) (subst P (sym e) h) (bytes_drop n (replicate 88 0) (bytes_zeros 88))

pub distinct_none : IsDistinct eqb (places_of [])
unfolding IsDistinct
distinct_none = tt

-- the same of a table that is seen to be empty
pub distinct_new : (xs : List Entry) → xs ≡ [] → IsDistinct eqb (places_of xs)
distinct_new xs e = rw e distinct_none

pub below_new : (n : ℕ) (xs : List Entry) → xs ≡ [] → All (λ q. q < n) (places_of xs)
below_new n xs e = rw e (λ k d lt. absurd (omega arith))

pub apart_none : (n : ℕ) (xs : List Entry) → xs ≡ [] → apart n (places_of xs) ≡ true
apart_none n xs e = ap (λ ys. apart n (places_of ys)) e

no_other : (x : ℕ) (xs : List ℕ) → AllByRecursion (λ y. eqb x y ≡ false) xs → list_any (λ q. eqb x q) xs ≡ false
no_other x [] h = refl
no_other x (y ∷ ys) h = or_from (eqb x y) (list_any (λ q. eqb x q) ys) h.0 (no_other x ys h.1)

-- distinct places below n, as the view says it
apart_from : (n : ℕ) (ps : List ℕ) → IsDistinct eqb ps → All (λ q. q < n) ps → apart n ps ≡ true
unfolding IsDistinct
apart_from n [] distinct below = refl
apart_from n (x ∷ xs) distinct below =
    and_from (ltb x n && not (list_any (λ q. eqb x q) xs)) (apart n xs)
    (and_from (ltb x n) (not (list_any (λ q. eqb x q) xs)) (lt-ltb x n (below 0 x (omega arith))) (not_from_false _ (no_other x xs distinct.0)))
    (apart_from n xs distinct.1 (λ k d lt. below (suc k) d (omega arith)))

-- what is true of the spool stays
pub apart_replaced : (s : Inside) (p i : ℕ) (y : Entry) → Stands s.table.items p i → y.place ≡ p
    → apart s.places (places_of (set s.table.items i y)) ≡ true
apart_replaced s p i y st ey = ap (apart s.places) (places_replaced s.table.items p i y st ey) ∙ s.distinct

pub kept_replaced : (s : Inside) (p i : ℕ) (y : Entry) (h : apart s.places (places_of (set s.table.items i y)) ≡ true)
    (g : (s.places == 0 || good_width s.width) ≡ true) → Kept s → Stands s.table.items p i → y.place ≡ p
    → Kept (record s { table = with_item s.table i y; distinct = h; narrow = g })
kept_replaced s p i y h g k st ey =
    let e = places_replaced s.table.items p i y st ey in
    record { distinct = rw e k.distinct; below = rw e k.below; room = k.room; narrow = k.narrow }

pushed_distinct : (s : Inside) (p : ℕ) → Kept s → Absent s.table.items p → IsDistinct eqb (places_of s.table.items ++ p ∷ [])
pushed_distinct s p k a = IsDistinct-push nat_eq_equiv (places_of s.table.items) p k.distinct a.none

pushed_below : (s : Inside) (p : ℕ) → p < s.places → Kept s → All (λ q. q < s.places) (places_of s.table.items ++ p ∷ [])
pushed_below s p lt k = All-push (λ q. q < s.places) (places_of s.table.items) p k.below lt

pub apart_pushed : (s : Inside) (ys : List Entry) (p : ℕ) (y : Entry) → p < s.places → Kept s → Absent s.table.items p → y.place ≡ p
    → ys ≡ s.table.items ++ y ∷ [] → apart s.places (places_of ys) ≡ true
apart_pushed s ys p y lt k a ey ep =
    ap (apart s.places) (places_pushed p s.table.items ys y ey ep)
    ∙ apart_from s.places (places_of s.table.items ++ p ∷ []) (pushed_distinct s p k a) (pushed_below s p lt k)

pub kept_pushed : (s : Inside) (table : Vec Entry Global) (p : ℕ) (y : Entry) (h : apart s.places (places_of table.items) ≡ true)
    (g : (s.places == 0 || good_width s.width) ≡ true) → p < s.places → Kept s → Absent s.table.items p → y.place ≡ p
    → table.items ≡ s.table.items ++ y ∷ [] → vec_capacity table ≡ vec_capacity s.table
    → Kept (record s { table = table; distinct = h; narrow = g })
kept_pushed s table p y h g lt k a ey ep cap =
    let e = places_pushed p s.table.items table.items y ey ep in
    let room = k.room in
    record {
      distinct = rw e (pushed_distinct s p k a);
      below = rw e (pushed_below s p lt k);
      room = omega arith;
      narrow = k.narrow;
    }
