-- The places of a window, in the store and in the store below.
use Rattle.std.proofs.Common.{◌≡◌, ℕ, ◌+◌, ◌<◌, ◌≤◌, true, false, eqb, leb, List, length, get_or, take, drop, set, Some, None, Option, sym, refl, ap, ◌∙◌, ⊎_elim, arith}
use lib.Seq.{take-set-lt}
use Rattle.std.proofs.lemmas.List.{get_or-take, get_or-drop, get_or_past, drop-set-add, length-take, length-drop}
use Rattle.std.proofs.lemmas.Bool.{cases_Bool, cases_lt, leb-true, lt-ltb}
use Rattle.store.specs.Store.{Store, Sound, at, with_at, put_after, clear_after}
use Rattle.window.specs.Window.{window_places, windowed, Below}

-- a window with a place fits
fits : (first count places place : ℕ) → place < window_places first count places → (place < count) × (first + count ≤ places)
fits first count places place h =
    ⊎_elim
    (λ (t : leb (first + count) places ≡ true). let q : place < count = simp t at h in (q, leb-true (first + count) places t))
    (λ (t : leb (first + count) places ≡ false). let q : place < 0 = simp t at h in absurd (omega arith))
    (cases_Bool (leb (first + count) places))

pub below_is : (first count places place : ℕ) → place < window_places first count places → Below first count places place (first + place)
below_is first count places place h =
    let f = fits first count places place h in
    let lt = f.0 in
    let le = f.1 in
    record { within = h; shifted = refl; there = omega arith }

-- what stands at a place of the window stands at its place below
seen : (first count : ℕ) (s : Store) (place k : ℕ) → Below first count s.places place k → at s k ≡ at (windowed first count s) place
seen first count s place k b =
    let n = window_places first count s.places in
    ap (at s) b.shifted
    ∙ sym (get_or-take n (drop first s.contents) place None b.within ∙ get_or-drop first s.contents place None)

with_window : (first count : ℕ) (s : Store) (place k : ℕ) (o : Option (List ℕ)) → Below first count s.places place k
    → windowed first count (with_at s k o) ≡ with_at (windowed first count s) place o
with_window first count s place k o b =
    let n = window_places first count s.places in
    ap (λ (c : List (Option (List ℕ))). record { places = n; width = s.width; contents = c })
    (ap (λ i. take n (drop first (set s.contents i o))) b.shifted
    ∙ ap (take n) (drop-set-add first s.contents place o) ∙ take-set-lt n (drop first s.contents) place o b.within)

pub window_put : (first count : ℕ) (s : Store) (place k : ℕ) (block : List ℕ) → Below first count s.places place k
    → windowed first count (put_after s k block) ≡ put_after (windowed first count s) place block
window_put first count s place k block b =
    let x = lt-ltb k s.places b.there in
    let y = lt-ltb place (window_places first count s.places) b.within in
    ⊎_elim
    (λ (t : eqb (length block) s.width ≡ true). simp (x, y, t) (with_window first count s place k (Some block) b))
    (λ (t : eqb (length block) s.width ≡ false). simp (x, y, t))
    (cases_Bool (eqb (length block) s.width))

pub window_clear : (first count : ℕ) (s : Store) (place k : ℕ) → Below first count s.places place k
    → windowed first count (clear_after s k) ≡ clear_after (windowed first count s) place
window_clear first count s place k b =
    let x = lt-ltb k s.places b.there in
    let y = lt-ltb place (window_places first count s.places) b.within in
    simp (x, y) (with_window first count s place k None b)

-- what stands in the window stands below
seen_below : (first count : ℕ) (s : Store) (k : ℕ) (b : List ℕ) → at (windowed first count s) k ≡ Some b → at s (first + k) ≡ Some b
seen_below first count s k b e =
    let n = window_places first count s.places in
    ⊎_elim
    (λ (lt : k < n). seen first count s k (first + k) (below_is first count s.places k lt) ∙ e)
    (λ (ge : n ≤ k).
    let c = take n (drop first s.contents) in
    let none : get_or c k None ≡ None = get_or_past c k None (omega (arith, length-take n (drop first s.contents))) in
    let z : ◌≡◌ {A = ℕ} 0 1 = cc in absurd (omega arith))
    (cases_lt k n)

window_sized : (first count : ℕ) (s : Store) → length s.contents ≡ s.places
    → length (windowed first count s).contents ≡ window_places first count s.places
window_sized first count s h =
    ⊎_elim
    (λ (t : leb (first + count) s.places ≡ true).
    let le = leb-true (first + count) s.places t in
    simp t (omega (arith, length-take count (drop first s.contents), length-drop first s.contents)))
    (λ (t : leb (first + count) s.places ≡ false). simp t)
    (cases_Bool (leb (first + count) s.places))

pub window_sound : (first count : ℕ) (s : Store) → Sound s → Sound (windowed first count s)
window_sound first count s h =
    record {
      sized = window_sized first count s h.sized;
      wide = λ k b e. h.wide (first + k) b (seen_below first count s k b e);
      bytes = λ k b e. h.bytes (first + k) b (seen_below first count s k b e);
      narrow = λ z. h.narrow (let t = (below_is first count s.places 0 z).there in omega arith);
    }
