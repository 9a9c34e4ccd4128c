-- Zeros are bytes, and so are parts of bytes, and bytes one after another.
use Rattle.std.proofs.Common.{◌≡◌, ℕ, ◌+◌, ◌-◌, ◌<◌, ◌≤◌, List, ◌++◌, length, get_or, take, drop, replicate, ⊎_elim, arith}
use Rattle.std.proofs.lemmas.List.{get_or-take, get_or-drop, get_or_past, get_or-replicate, length-replicate, length-take}
use Rattle.std.proofs.Math.ListN.{get_or-append}
use Rattle.std.proofs.Math.Seq.{get_or-append_right}
use Rattle.std.proofs.lemmas.Bool.{cases_lt}
use Rattle.byte_string.specs.Bytes.{Bytes}

pub bytes_drop : (n : ℕ) (b : List ℕ) → Bytes b → Bytes (drop n b)
bytes_drop n b h j = let e = get_or-drop n b j 0 in let m = h (n + j) in omega arith

pub bytes_take : (n : ℕ) (b : List ℕ) → Bytes b → Bytes (take n b)
bytes_take n b h j =
    ⊎_elim
    (λ (lt : j < n). let e = get_or-take n b j 0 lt in let m = h j in omega arith)
    (λ (ge : n ≤ j). let e = get_or_past (take n b) j 0 (omega (arith, length-take n b)) in omega arith)
    (cases_lt j n)

pub bytes_zeros : (n : ℕ) → Bytes (replicate n 0)
bytes_zeros n j =
    ⊎_elim
    (λ (lt : j < n). let e : get_or (replicate {A = ℕ} n 0) j 0 ≡ 0 = get_or-replicate n j 0 0 lt in omega arith)
    (λ (ge : n ≤ j). let e : get_or (replicate {A = ℕ} n 0) j 0 ≡ 0 = get_or_past (replicate n 0) j 0 (omega (arith, length-replicate {A = ℕ} n 0)) in omega arith)
    (cases_lt j n)

pub bytes_append : (a b : List ℕ) → Bytes a → Bytes b → Bytes (a ++ b)
bytes_append a b ha hb j =
    ⊎_elim
    (λ (lt : j < length a). let e = get_or-append a b 0 j lt in let m = ha j in omega arith)
    (λ (ge : length a ≤ j). let e = get_or-append_right a b j 0 ge in let m = hb (j - length a) in omega arith)
    (cases_lt j (length a))
