-- Blocks under a sequence.
use Rattle.std.proofs.Common.{◌≡◌, ℕ, ◌<◌, ◌≤◌, List, length, get_or, sym, ap, ◌∙◌, ⊎_elim, arith}
use lib.Bits.{bit_xor, xor_assoc, xor_self, xor_zero_r, xor_lt}
use Rattle.std.proofs.lemmas.List.FromFn.{length-map-range_with_len, get_or-map-range_with_len}
use Rattle.std.proofs.lemmas.List.{ext_get_or, get_or_past}
use Rattle.std.proofs.lemmas.Bool.{cases_lt}
use Rattle.byte_string.specs.Bytes.{Bytes}
use Rattle.randomizer.specs.Sequence.{mixed}

pub length_mixed : (q b : List ℕ) → length (mixed q b) ≡ length b
unfolding mixed
length_mixed q b = length-map-range_with_len (λ j. bit_xor (get_or b j 0) (get_or q j 0)) 0 (length b)

get_or_mixed : (q b : List ℕ) (k : ℕ) → k < length b → get_or (mixed q b) k 0 ≡ bit_xor (get_or b k 0) (get_or q k 0)
unfolding mixed
get_or_mixed q b k h = get_or-map-range_with_len (λ j. bit_xor (get_or b j 0) (get_or q j 0)) 0 (length b) k k 0 h (omega arith)

pub mixed_is : (q b c : List ℕ) → length c ≡ length b → ((k : ℕ) → k < length b → get_or c k 0 ≡ bit_xor (get_or b k 0) (get_or q k 0))
    → c ≡ mixed q b
mixed_is q b c l h =
    ext_get_or 0 c (mixed q b) (l ∙ sym (length_mixed q b)) (λ k lt. h k (omega arith) ∙ sym (get_or_mixed q b k (omega arith)))

pub mixed_twice : (q b : List ℕ) → mixed q (mixed q b) ≡ b
mixed_twice q b =
    let l = length_mixed q b in
    let m = length_mixed q (mixed q b) in
    ext_get_or 0 (mixed q (mixed q b)) b (m ∙ l)
    (λ k h.
    let x = get_or b k 0 in
    let y = get_or q k 0 in
    get_or_mixed q (mixed q b) k (omega arith) ∙ ap (λ z. bit_xor z y) (get_or_mixed q b k (omega arith))
    ∙ xor_assoc x y y ∙ ap (bit_xor x) (xor_self y) ∙ xor_zero_r x)

-- past the sequence, a byte stays
pub past_sequence : (q : List ℕ) (k x : ℕ) → length q ≤ k → x ≡ bit_xor x (get_or q k 0)
past_sequence q k x h = sym (ap (bit_xor x) (get_or_past q k 0 h) ∙ xor_zero_r x)

pub mixed_bytes : (q b : List ℕ) → Bytes q → Bytes b → Bytes (mixed q b)
mixed_bytes q b hq hb k =
    ⊎_elim
    (λ (lt : k < length b). let e = get_or_mixed q b k lt in let x = xor_lt 8 (get_or b k 0) (get_or q k 0) (hb k) (hq k) in omega arith)
    (λ (ge : length b ≤ k). let e = get_or_past (mixed q b) k 0 (omega (arith, length_mixed q b)) in omega arith)
    (cases_lt k (length b))
