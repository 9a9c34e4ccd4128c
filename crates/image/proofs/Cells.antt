-- Cells of n bytes in memory: where they lie, and what another cell's bytes leave of them.
use Rattle.std.proofs.Common.{◌≡◌, ℕ, ◌+◌, ◌-◌, ◌*◌, ◌/◌, ◌<◌, ◌≤◌, min, true, false, eqb, ◌≢◌, List, ◌++◌, length, get_or, take, drop, Some, None, Option, sym, refl, ap, ◌∙◌, subst, ⊎_elim, mul-le-mul_right, add-mul, one-mul, le-div_iff_mul-le, arith, rules}
use borrow.Rule.Slice.PartMut.{put_mid}
use Rattle.std.proofs.lemmas.List.{drop-take, drop-drop, places, length-drop, length-take-le}
use Rattle.std.proofs.lemmas.Slice.{take-put_mid_below, drop-put_mid, between-put_mid}
use Rattle.std.proofs.lemmas.Bool.{cases_order, cases_Bool}
use Rattle.std.specs.declared.ops.Range.{Range}
use Rattle.byte_string.specs.Bytes.{Bytes}
use Rattle.store.specs.Store.{Sound, with_at, listed, good_width}
use Rattle.byte_string.proofs.Bytes.{bytes_drop, bytes_take}
use Rattle.store.proofs.Listed.{get_or_listed, listed_set, listed_sound}
use Rattle.store.proofs.Widths.{width_within}
use Rattle.image.specs.Cells.{block_of, unmarked}
use Rattle.image.specs.Image.{places_in, cell_at, with_cell, block_at, image_store, Cell}

row_end : (k n p : ℕ) → k < p → k * n + n ≤ p * n
row_end k n p h = let e = mul-le-mul_right {m = k + 1} {n = p} n (omega arith) in omega (arith, e, add-mul k 1 n, one-mul n)

within_div : (k n len : ℕ) → 0 < n → k < len / n → k * n + n ≤ len
within_div k n len z h =
    let e = (le-div_iff_mul-le {k = n} {x = k + 1} {y = len} z).0 (omega arith) in omega (arith, e, add-mul k 1 n, one-mul n)

-- where there is a place, the width is good
pub good_width_lem : (len w k : ℕ) → k < places_in len w → (1 ≤ w) × (w ≤ 88) × (k < len / (w + 2))
good_width_lem len w k h =
    ⊎_elim
    (λ (t : good_width w ≡ true).
    let g = width_within w t in let q : k < min (len / (w + 2)) 169 = simp t at h in (g.0, g.1, omega arith))
    (λ (t : good_width w ≡ false). let q : k < 0 = simp t at h in absurd (omega arith))
    (cases_Bool (good_width w))

pub cell_lies : (len w k : ℕ) (r : Range ℕ) → k < places_in len w → r.start ≡ k * (w + 2) → r.end ≡ r.start + (w + 2) → Cell len w k r
cell_lies len w k r h es ee =
    let e = within_div k (w + 2) len (omega arith) (good_width_lem len w k h).2 in
    record { there = h; starts = es; ends = ee; within = omega arith }

-- the bytes of a cell, in the form in which a write to a part of a slice leaves them
pub part_is_cell : (n : ℕ) (memory cell : List ℕ) (place start k : ℕ) → start ≡ place * n → k ≡ n
    → put_mid start k memory cell ≡ with_cell n memory place cell
part_is_cell n memory cell place start k es ek =
    ap (λ i. put_mid i k memory cell) es ∙ ap (λ i. put_mid (place * n) i memory cell) ek
    ∙ ap (λ (z : List ℕ). take (place * n) memory ++ (cell ++ z)) (drop-drop n (place * n) memory)

pub part_of_cell : (n : ℕ) (memory : List ℕ) (place start k : ℕ) → start ≡ place * n → k ≡ n
    → take k (drop start memory) ≡ cell_at n memory place
part_of_cell n memory place start k es ek =
    ap (λ i. take i (drop start memory)) ek ∙ ap (λ i. take n (drop i memory)) es

pub length_with_cell : (n : ℕ) (memory cell : List ℕ) (place : ℕ) → place * n + n ≤ length memory → length cell ≡ n
    → length (with_cell n memory place cell) ≡ length memory
length_with_cell n memory cell place h l = search (rules, places)

cell_same : (n : ℕ) (memory cell : List ℕ) (place : ℕ) → place * n + n ≤ length memory → length cell ≡ n
    → cell_at n (with_cell n memory place cell) place ≡ cell
cell_same n memory cell place h l =
    let e : (place * n + n) - place * n ≡ n = omega arith in
    let P : ℕ → Type 0 = λ m. take m (drop (place * n) (put_mid (place * n) n memory cell)) ≡ cell in
    ap (λ (z : List ℕ). cell_at n z place) (sym (part_is_cell n memory cell place (place * n) n refl refl))
    ∙ subst P e (between-put_mid (place * n) n memory cell (place * n + n) (omega arith) (omega arith))

cell_other : (n : ℕ) (memory cell : List ℕ) (place k : ℕ) → place * n + n ≤ length memory → length cell ≡ n → k ≢ place
    → cell_at n (with_cell n memory place cell) k ≡ cell_at n memory k
cell_other n memory cell place k h l ne =
    ap (λ (z : List ℕ). cell_at n z k) (sym (part_is_cell n memory cell place (place * n) n refl refl))
    ∙ ⊎_elim
    (λ e. absurd (ne e))
    (⊎_elim
    (λ lt. sym (drop-take (k * n) n (put_mid (place * n) n memory cell))
    ∙ ap (drop (k * n)) (take-put_mid_below (place * n) n memory cell (k * n + n) (row_end k n place lt) (omega arith))
    ∙ drop-take (k * n) n memory)
    (λ gt. ap (take n) (drop-put_mid (place * n) n memory cell (k * n) (row_end place n k gt) (omega arith) l)))
    (cases_order k place)

-- other bytes in one cell are another content at its place
pub store_with_cell : (w : ℕ) (memory cell : List ℕ) (place : ℕ) (r : Range ℕ) (o : Option (List ℕ)) → Cell (length memory) w place r
    → length cell ≡ w + 2 → block_of cell ≡ o
    → image_store w (with_cell (w + 2) memory place cell) ≡ with_at (image_store w memory) place o
store_with_cell w memory cell place r o at l eo =
    let n = w + 2 in
    let p = places_in (length memory) w in
    let starts = at.starts in
    let ends = at.ends in
    let within = at.within in
    let h : place * n + n ≤ length memory = omega arith in
    let new = with_cell n memory place cell in
    ap (λ len. record { places = places_in len w; width = w; contents = listed (places_in len w) (block_at n new) })
    (length_with_cell n memory cell place h l)
    ∙ ap (λ c. record { places = p; width = w; contents = c })
    (listed_set p (block_at n memory) (block_at n new) place o at.there (ap block_of (cell_same n memory cell place h l) ∙ eo)
    (λ k _ ne. ap block_of (cell_other n memory cell place k h l ne)))

pub block_of_cell : (w : ℕ) (memory : List ℕ) (place k : ℕ) (r : Range ℕ) → Cell (length memory) w place r → k ≡ w + 2
    → get_or (image_store w memory).contents place None ≡ block_of (take k (drop r.start memory))
block_of_cell w memory place k r at ek =
    get_or_listed (places_in (length memory) w) (block_at (w + 2) memory) place at.there
    ∙ ap block_of (sym (part_of_cell (w + 2) memory place r.start k at.starts ek))

block_is : (cell b : List ℕ) → block_of cell ≡ Some b → b ≡ drop 2 cell
block_is cell b e =
    ⊎_elim
    (λ (x : eqb (get_or cell 0 0) 1 ≡ true).
    ⊎_elim
    (λ (y : eqb (get_or cell 1 0) 0 ≡ true). let f : Some (drop 2 cell) ≡ Some b = simp (x, y) at e in (cc))
    (λ (y : eqb (get_or cell 1 0) 0 ≡ false). let f : None ≡ Some b = simp (x, y) at e in let z : ◌≡◌ {A = ℕ} 0 1 = cc in absurd (omega arith))
    (cases_Bool (eqb (get_or cell 1 0) 0)))
    (λ (x : eqb (get_or cell 0 0) 1 ≡ false). let f : None ≡ Some b = simp x at e in let z : ◌≡◌ {A = ℕ} 0 1 = cc in absurd (omega arith))
    (cases_Bool (eqb (get_or cell 0 0) 1))

length_cell : (w : ℕ) (memory : List ℕ) (place : ℕ) (r : Range ℕ) → Cell (length memory) w place r → length (cell_at (w + 2) memory place) ≡ w + 2
length_cell w memory place r at =
    let n = w + 2 in
    let starts = at.starts in
    let ends = at.ends in
    let within = at.within in
    length-take-le n (drop (place * n) memory) (omega (arith, length-drop (place * n) memory))

pub length_unmarked : (w : ℕ) (memory : List ℕ) (place : ℕ) (r : Range ℕ) → Cell (length memory) w place r
    → length (unmarked (cell_at (w + 2) memory place)) ≡ w + 2
length_unmarked w memory place r at =
    let cell = cell_at (w + 2) memory place in omega (arith, length_cell w memory place r at, length-drop 2 cell)

pub image_sound : (w : ℕ) (memory : List ℕ) → Bytes memory → Sound (image_store w memory)
image_sound w memory bytes =
    let n = w + 2 in
    listed_sound (places_in (length memory) w) w (block_at n memory)
    (λ k b lt e.
    let cell = cell_at n memory k in
    let is = block_is cell b e in
    let l = length_cell w memory k (record { start = k * n; end = k * n + n }) (cell_lies (length memory) w k _ lt refl refl) in (
      omega (arith, ap length is, length-drop 2 cell),
      let P : List ℕ → Type 0 = λ x. Bytes x in subst P (sym is) (bytes_drop 2 cell (bytes_take n (drop (k * n) memory) (bytes_drop (k * n) memory bytes))),
    ))
    (λ z. let g = good_width_lem (length memory) w 0 z in (g.0, g.1))
