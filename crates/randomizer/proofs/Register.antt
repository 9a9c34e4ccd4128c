-- The register's moves, and the bits and bytes of the sequence.
use Rattle.std.proofs.Common.{◌≡◌, ℕ, zero, suc, ◌+◌, ◌-◌, ◌*◌, ◌/◌, ◌%◌, ◌^◌, ◌<◌, ◌≤◌, Bool, true, ◌&&◌, eqb, map, sym, refl, ap, ◌∙◌, ⊎_elim, add-zero, add-suc, pow-suc, arith}
use Rattle.std.proofs.lemmas.Bool.{and_parts, cases_eq, cases_lt, eqb-true}
use Rattle.std.specs.List.{range_with_len}
use Rattle.std.proofs.lemmas.List.{get_or_past}
use Rattle.std.proofs.lemmas.List.FromFn.{length-map-range_with_len, get_or-map-range_with_len}
use Rattle.byte_string.specs.Bytes.{Bytes}
use Rattle.randomizer.specs.Sequence.{moved, after, packed, bit_at, byte_at, sequence_of}

pub after_none : (x : ℕ) → after x 0 ≡ x
unfolding after
after_none x = refl

pub after_more : (x t : ℕ) → after x (t + 1) ≡ moved (after x t)
unfolding after
after_more x t = ap (after x) (add-suc t 0 ∙ ap suc (add-zero t))

pub after_add : (x m t : ℕ) → after (after x m) t ≡ after x (m + t)
unfolding after
after_add x m zero = ap (after x) (sym (add-zero m))
after_add x m (suc t) = ap moved (after_add x m t) ∙ ap (after x) (sym (add-suc m t))

moved_small : (x : ℕ) → moved x < 128
moved_small x = omega arith

pub after_small : (x t : ℕ) → x < 128 → after x t < 128
unfolding after
after_small x zero h = h
after_small x (suc t) h = moved_small (after x t)

-- a test of each number below n
each : ℕ → (ℕ → Bool) → Bool
each zero f = true
each (suc n) f = f n && each n f

each_at : (n : ℕ) (f : ℕ → Bool) (k : ℕ) → each n f ≡ true → k < n → f k ≡ true
unfolding each
each_at zero f k h lt = absurd (omega arith)
each_at (suc n) f k h lt =
    let p = and_parts (f n) (each n f) h in
    ⊎_elim (λ (e : k ≡ n). ap f e ∙ p.0) (λ (ne : k ≡ n → ⊥). each_at n f k p.1 (omega arith)) (cases_eq k n)

recurs_here : (x : ℕ) → x < 128 → after x 7 / 64 ≡ (after x 3 / 64 + after x 0 / 64) % 2
unfolding each after
recurs_here x h =
    eqb-true _ _ (each_at 128 (λ y. eqb (after y 7 / 64) ((after y 3 / 64 + after y 0 / 64) % 2)) x refl h)

starts_here : (x t : ℕ) → x < 128 → t < 7 → after x t / 64 ≡ x / 2 ^ (6 - t) % 2
unfolding each after
starts_here x t h lt =
    eqb-true _ _ (each_at 7 (λ i. eqb (after x i / 64) (x / 2 ^ (6 - i) % 2)) t
    (each_at 128 (λ y. each 7 (λ i. eqb (after y i / 64) (y / 2 ^ (6 - i) % 2))) x refl h) lt)

pub starts : (p : ℕ) → p < 128 → (t : ℕ) → t < 7 → bit_at p t ≡ p / 2 ^ (6 - t) % 2
starts p h t lt =
    let e : p % 128 ≡ p = omega arith in ap (λ x. after x t / 64) e ∙ starts_here p t h lt

pub recurs : (p t : ℕ) → bit_at p (t + 7) ≡ (bit_at p (t + 3) + bit_at p t) % 2
recurs p t =
    let x = p % 128 in
    let y = after x t in
    let small : y < 128 = after_small x t (omega arith) in
    ap (λ z. z / 64) (sym (after_add x t 7)) ∙ recurs_here y small
    ∙ ap (λ z. (z / 64 + after y 0 / 64) % 2) (after_add x t 3)
    ∙ ap (λ z. (after x (t + 3) / 64 + z / 64) % 2) (after_none y)

pub packed_none : (s : ℕ → ℕ) → packed s 0 ≡ 0
unfolding packed
packed_none s = refl

pub packed_more : (s : ℕ → ℕ) (n : ℕ) → packed s (n + 1) ≡ packed s n * 2 + s n
unfolding packed
packed_more s n = ap (packed s) (add-suc n 0 ∙ ap suc (add-zero n))

packed_same : (s u : ℕ → ℕ) (n : ℕ) → ((i : ℕ) → s i ≡ u i) → packed s n ≡ packed u n
unfolding packed
packed_same s u zero h = refl
packed_same s u (suc n) h = let a = packed_same s u n h in let b = h n in omega arith

-- n bits are a number below 2 ^ n
pub packed_small : (s : ℕ → ℕ) (n : ℕ) → ((i : ℕ) → s i ≤ 1) → packed s n < 2 ^ n
unfolding packed
packed_small s zero h = omega arith
packed_small s (suc n) h = let a = packed_small s n h in let b = h n in omega (arith, pow-suc 2 n)

pub bit_small : (x t : ℕ) → x < 128 → after x t / 64 ≤ 1
bit_small x t h = let a = after_small x t h in omega arith

-- the byte that begins at bit 8 j
pub byte_from : (p j : ℕ) → packed (λ i. after (after (p % 128) (8 * j)) i / 64) 8 ≡ byte_at p j
byte_from p j =
    packed_same (λ i. after (after (p % 128) (8 * j)) i / 64) (λ i. bit_at p (8 * j + i)) 8 (λ i. ap (λ z. z / 64) (after_add (p % 128) (8 * j) i))

pub sequence_bytes : (p : ℕ) → Bytes (sequence_of p)
unfolding sequence_of
sequence_bytes p j =
    ⊎_elim
    (λ (lt : j < 88).
    let e = get_or-map-range_with_len (byte_at p) 0 88 j j 0 lt (omega arith) in
    let m = packed_small (λ i. bit_at p (8 * j + i)) 8 (λ i. bit_small (p % 128) (8 * j + i) (omega arith)) in omega arith)
    (λ (ge : 88 ≤ j). let e = get_or_past (map (byte_at p) (range_with_len 0 88)) j 0 (omega (arith, length-map-range_with_len (byte_at p) 0 88)) in omega arith)
    (cases_lt j 88)
