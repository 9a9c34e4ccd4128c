-- The parts of a byte, and the symbols of a byte string.
use Rattle.std.proofs.Common.{◌≡◌, ℕ, zero, suc, ◌+◌, ◌-◌, ◌*◌, ◌/◌, ◌%◌, ◌^◌, ◌<◌, ◌≤◌, List, map, length, get_or, set, sym, ap, ◌∙◌, subst, ap₂, add-zero, mul-le-mul_left, mul-one, mod-lt, mod-eq_of_lt, div-lt_iff_lt-mul, pow-suc, div-add-mod', add-one, arith, get_or-set_other, get_or-set_same}
use native.Mathlib.Nat.{pow-zero, pow-le-pow_right, div-eq_of_lt, one-le-pow}
use native.Mathlib.Decide.{ℕ_discrete, dec_lt}
use lib.Arith.{digits_div, digits_mod, digits_lt}
use lib.ListN.{length-map}
use Rattle.std.proofs.lemmas.List.{ext_get_or, get_or_past, get_or-map}
use Rattle.std.proofs.lemmas.List.FromFn.{length-map-range_with_len, get_or-map-range_with_len, fill_by_all}
use Rattle.byte_string.specs.Bytes.{Bytes}
use Rattle.field.specs.Systems.{System}
use Rattle.field.proofs.Sizes.{per_some}
use Rattle.grid.specs.Packing.{part, symbol_at, unpacked, SymbolsTellBytes}
use Rattle.grid.proofs.Digits.{replaced, digit_here, digit_other, replaced_small, same_digits}

module _ (s : System) where
  -- powers of q up to m are at most 256
  pub weight_small : (e : ℕ) → e ≤ s.per → s.order ^ e ≤ 256
  weight_small e h = subst (λ n. s.order ^ e ≤ n) s.whole_byte (pow-le-pow_right s.some h)

  pub weight_some : (e : ℕ) → 0 < s.order ^ e
  weight_some e = one-le-pow e s.order s.some

  pub weight_more : (e : ℕ) → s.order ^ e * s.order ≡ s.order ^ (e + 1)
  weight_more e = sym (ap (λ n. s.order ^ n) (add-one e) ∙ pow-suc s.order e)

  -- so a byte has few parts
  pub per_small : s.per < 256
  per_small = go (dec_lt 1 s.order)
    where
      above : 1 < s.order → (m : ℕ) → m < s.order ^ m
      above h zero = omega (arith, pow-zero s.order)
      above h (suc m) =
          let i = above h m in
          let d : s.order ^ m * 2 ≤ s.order ^ m * s.order = mul-le-mul_left {m = 2} {n = s.order} (s.order ^ m) h in
          omega (arith, pow-suc s.order m)

      ones : (m : ℕ) → 1 ^ m ≡ 1
      ones zero = pow-zero 1
      ones (suc m) = pow-suc 1 m ∙ mul-one (1 ^ m) ∙ ones m

      go : Dec (1 < s.order) → s.per < 256
      go (yes h) = subst (λ n. s.per < n) s.whole_byte (above h s.per)
      go (no n) =
          let some = s.some in
          let one : s.order ≡ 1 = omega arith in
          let z : ◌≡◌ {A = ℕ} 1 256 = sym (ones s.per) ∙ ap (λ q. q ^ s.per) (sym one) ∙ s.whole_byte in
          absurd (omega arith)

  pub part_small : (b k : ℕ) → part s b k < s.order
  part_small b k = mod-lt (b / s.order ^ (s.per - 1 - k)) s.some

  module _ (b k v : ℕ) (lb : b < 256) (lk : k < s.per) (lv : v < s.order) where
    pub replaced_byte : replaced s.order s.some (s.per - 1 - k) v b < 256
    replaced_byte =
        let up : s.per - 1 - k + 1 + k ≡ s.per = omega arith in
        subst (λ n. replaced s.order s.some (s.per - 1 - k) v b < n) s.whole_byte
        (subst (λ n. replaced s.order s.some (s.per - 1 - k) v b < s.order ^ n) up
        (replaced_small s.order s.some (s.per - 1 - k) v b lv k
        (subst (λ n. b < s.order ^ n) (sym up) (subst (λ n. b < n) (sym s.whole_byte) lb))))

    pub replaced_this : part s (replaced s.order s.some (s.per - 1 - k) v b) k ≡ v
    replaced_this = digit_here s.order s.some (s.per - 1 - k) v b lv

    pub replaced_others : (j : ℕ) → j < s.per → (j ≡ k → ⊥) → part s (replaced s.order s.some (s.per - 1 - k) v b) j ≡ part s b j
    replaced_others j lj ne =
        digit_other s.order s.some (s.per - 1 - k) (s.per - 1 - j) v b lv (λ same. ne (let z : j ≡ k = omega arith in z))

  -- a byte is known by its parts
  pub same_parts : (a b : ℕ) → a < 256 → b < 256 → ((k : ℕ) → k < s.per → part s a k ≡ part s b k) → a ≡ b
  same_parts a b la lb h =
      same_digits s.order s.some s.per a b (subst (λ n. a < n) (sym s.whole_byte) la) (subst (λ n. b < n) (sym s.whole_byte) lb)
      (λ d l.
      let back : s.per - 1 - (s.per - 1 - d) ≡ d = omega arith in
      ap (λ n. a / s.order ^ n % s.order) (sym back) ∙ h (s.per - 1 - d) (omega arith) ∙ ap (λ n. b / s.order ^ n % s.order) back)

  pub symbol_small : (bytes : List ℕ) (p : ℕ) → symbol_at s bytes p < s.order
  unfolding symbol_at
  symbol_small bytes p = part_small (get_or bytes (p / s.per) 0) (p % s.per)

  -- which byte, and which part of it
  pub byte_of : (p n : ℕ) → p < n * s.per → p / s.per < n
  byte_of p n h = (div-lt_iff_lt-mul {k = s.per} {x = p} {y = n} (per_some s)).1 h

  pub part_of_lt : (p : ℕ) → p % s.per < s.per
  part_of_lt p = mod-lt p (per_some s)

  same_place : (i p : ℕ) → i / s.per ≡ p / s.per → i % s.per ≡ p % s.per → i ≡ p
  same_place i p d m = sym (div-add-mod' i s.per) ∙ ap₂ (λ x y. x * s.per + y) d m ∙ div-add-mod' p s.per

  -- one byte replaced
  module _ (bytes : List ℕ) (p w v : ℕ) (l : p < length bytes * s.per) (this : part s w (p % s.per) ≡ v)
      (others : (j : ℕ) → j < s.per → (j ≡ p % s.per → ⊥) → part s w j ≡ part s (get_or bytes (p / s.per) 0) j) where
    pub symbol_this : symbol_at s (set bytes (p / s.per) w) p ≡ v
    unfolding symbol_at
    symbol_this = ap (λ b. part s b (p % s.per)) (get_or-set_same bytes (p / s.per) w 0 (byte_of p (length bytes) l)) ∙ this

    pub symbol_others : (i : ℕ) → (i ≡ p → ⊥) → symbol_at s (set bytes (p / s.per) w) i ≡ symbol_at s bytes i
    unfolding symbol_at
    symbol_others i ne = go (ℕ_discrete (i / s.per) (p / s.per))
      where
        go : Dec (i / s.per ≡ p / s.per) → part s (get_or (set bytes (p / s.per) w) (i / s.per) 0) (i % s.per) ≡ part s (get_or bytes (i / s.per) 0) (i % s.per)
        go (yes e) =
            ap (λ n. part s (get_or (set bytes (p / s.per) w) n 0) (i % s.per)) e
            ∙ ap (λ b. part s b (i % s.per)) (get_or-set_same bytes (p / s.per) w 0 (byte_of p (length bytes) l))
            ∙ others (i % s.per) (part_of_lt i) (λ m. ne (same_place i p e m)) ∙ ap (λ n. part s (get_or bytes n 0) (i % s.per)) (sym e)
        go (no n) = ap (λ b. part s b (i % s.per)) (get_or-set_other bytes (p / s.per) (i / s.per) w 0 n)

  pub length_unpacked : (bytes : List ℕ) → length (unpacked s bytes) ≡ length bytes * s.per
  unfolding unpacked
  length_unpacked bytes = length-map-range_with_len (symbol_at s bytes) 0 (length bytes * s.per)

  pub get_or_unpacked : (bytes : List ℕ) (p : ℕ) → p < length bytes * s.per → get_or (unpacked s bytes) p 0 ≡ symbol_at s bytes p
  unfolding unpacked
  get_or_unpacked bytes p l = get_or-map-range_with_len (symbol_at s bytes) 0 (length bytes * s.per) p p 0 l (omega arith)

  pub symbols_tell : (a b : List ℕ) → Bytes a → Bytes b → length a ≡ length b → ((p : ℕ) → p < length a * s.per → symbol_at s a p ≡ symbol_at s b p) → a ≡ b
  unfolding symbol_at
  symbols_tell a b ba bb e h =
      ext_get_or 0 a b e
      (λ i l.
      same_parts (get_or a i 0) (get_or b i 0) (ba i) (bb i)
      (λ k lk.
      let here : (i * s.per + k) / s.per ≡ i = digits_div i lk in
      let off : (i * s.per + k) % s.per ≡ k = digits_mod i lk in
      ap₂ (λ n m. part s (get_or a n 0) m) (sym here) (sym off) ∙ h (i * s.per + k) (digits_lt l lk) ∙ ap₂ (λ n m. part s (get_or b n 0) m) here off))

  pub symbols_tell_bytes : SymbolsTellBytes s
  symbols_tell_bytes a b ba bb e =
      let n : length a * s.per ≡ length b * s.per = sym (length_unpacked a) ∙ ap length e ∙ length_unpacked b in
      let long : length a ≡ length b = sym (whole (length a)) ∙ ap (λ m. m / s.per) n ∙ whole (length b) in
      symbols_tell a b ba bb long
      (λ p l.
      sym (get_or_unpacked a p l) ∙ ap (λ (x : List ℕ). get_or x p 0) e ∙ get_or_unpacked b p (subst (λ m. p < m) n l))
    where
      whole : (m : ℕ) → m * s.per / s.per ≡ m
      whole m = ap (λ x. x / s.per) (sym (add-zero (m * s.per))) ∙ digits_div m (per_some s)

  -- replacing a part, with w for the part's weight and q for the order
  pub record Replacing (b k v w q : ℕ) : Type 0 where
    pub unit_some : 0 < w
    pub step_some : 0 < w * q
    pub step_small : w * q ≤ 256
    pub total_small : b / (w * q) * (w * q) + v % q * w + b % w < 256
    pub this : part s (b / (w * q) * (w * q) + v % q * w + b % w) k ≡ v % s.order
    pub others : (j : ℕ) → j < s.per → (j ≡ k → ⊥) → part s (b / (w * q) * (w * q) + v % q * w + b % w) j ≡ part s b j

  pub replacing : (b k v w q : ℕ) → b < 256 → k < s.per → w ≡ s.order ^ (s.per - 1 - k) → q ≡ s.order → Replacing b k v w q
  replacing b k v w q lb lk ew eq =
      let e = s.per - 1 - k in
      let total : b / (w * q) * (w * q) + v % q * w + b % w ≡ replaced s.order s.some e (v % s.order) b =
      ap₂ (λ x y. b / (x * y) * (x * y) + v % y * x + b % x) ew eq
      in
      let step : w * q ≡ s.order ^ (e + 1) = ap₂ (λ x y. x * y) ew eq ∙ weight_more e in
      let lv = mod-lt v s.some in
      record {
        unit_some = subst (λ n. 0 < n) (sym ew) (weight_some e);
        step_some = subst (λ n. 0 < n) (sym step) (weight_some (e + 1));
        step_small = subst (λ n. n ≤ 256) (sym step) (weight_small (e + 1) (omega arith));
        total_small = subst (λ n. n < 256) (sym total) (replaced_byte b k (v % s.order) lb lk lv);
        this = ap (λ n. part s n k) total ∙ replaced_this b k (v % s.order) lb lk lv;
        others = λ j lj ne. ap (λ n. part s n j) total ∙ replaced_others b k (v % s.order) lb lk lv j lj ne;
      }

  -- past the end there is 0
  pub symbol_past : (bytes : List ℕ) (p m : ℕ) → m ≡ s.per → length bytes ≤ p / m → 0 ≡ symbol_at s bytes p
  unfolding symbol_at
  symbol_past bytes p m e l =
      sym
      (ap (λ b. part s b (p % s.per)) (get_or_past bytes (p / s.per) 0 (subst (λ n. length bytes ≤ p / n) e l))
      ∙ ap (λ n. n % s.order) (div-eq_of_lt (weight_some (s.per - 1 - p % s.per))) ∙ mod-eq_of_lt s.some)

  -- one symbol written, with m for the number of parts
  pub replaced_at : (bytes : List ℕ) (p m w v : ℕ) → p < length bytes * s.per → m ≡ s.per → part s w (p % m) ≡ v % s.order
      → ((j : ℕ) → j < s.per → (j ≡ p % m → ⊥) → part s w j ≡ part s (get_or bytes (p / m) 0) j)
      → (symbol_at s (set bytes (p / m) w) p ≡ v % s.order) × ((i : ℕ) → (i ≡ p → ⊥) → symbol_at s (set bytes (p / m) w) i ≡ symbol_at s bytes i)
  replaced_at bytes p m w v l e this others =
      let P : ℕ → Type 0 = λ n.
      (symbol_at s (set bytes (p / n) w) p ≡ v % s.order) × ((i : ℕ) → (i ≡ p → ⊥) → symbol_at s (set bytes (p / n) w) i ≡ symbol_at s bytes i)
      in
      let this' : part s w (p % s.per) ≡ v % s.order = ap (λ n. part s w (p % n)) (sym e) ∙ this in
      let others' : (j : ℕ) → j < s.per → (j ≡ p % s.per → ⊥) → part s w j ≡ part s (get_or bytes (p / s.per) 0) j = λ j lj ne.
      others j lj (λ z. ne (z ∙ ap (λ n. p % n) e)) ∙ ap (λ n. part s (get_or bytes (p / n) 0) j) e
      in
      subst P (sym e) (symbol_this bytes p w (v % s.order) l this' others', symbol_others bytes p w (v % s.order) l this' others')

  -- symbols written one after another
  pub unpacked_is : (bytes symbols : List ℕ) (n : ℕ) → length symbols ≡ length bytes * s.per → n ≡ length symbols → ((k : ℕ) → k < n → get_or symbols k 0 ≡ symbol_at s bytes k) → symbols ≡ unpacked s bytes
  unfolding unpacked
  unpacked_is bytes symbols n l e h = fill_by_all (symbol_at s bytes) symbols (length bytes * s.per) 0 l (λ k lk. h k (omega arith))

  pub packed_is : (bytes symbols : List ℕ) (n : ℕ) → length symbols ≡ length bytes * s.per → n ≡ length symbols → ((k : ℕ) → k < n → symbol_at s bytes k ≡ get_or symbols k 0 % s.order)
      → unpacked s bytes ≡ map (λ x. x % s.order) symbols
  packed_is bytes symbols n l e h =
      ext_get_or 0 (unpacked s bytes) (map (λ x. x % s.order) symbols) (length_unpacked bytes ∙ sym l ∙ sym (length-map symbols (λ x. x % s.order)))
      (λ k lk.
      let lu = length_unpacked bytes in
      let lt : k < length symbols = omega arith in
      get_or_unpacked bytes k (omega arith) ∙ h k (omega arith) ∙ sym (get_or-map (λ x. x % s.order) symbols k 0 0 lt))

  -- a list of symbols as it is unpacked has no code of q or more
  reduced : (b symbols : List ℕ) → unpacked s b ≡ symbols → map (λ x. x % s.order) symbols ≡ symbols
  reduced b symbols e =
      ext_get_or 0 (map (λ x. x % s.order) symbols) symbols (length-map symbols (λ x. x % s.order))
      (λ k lk.
      let lm = length-map symbols (λ x. x % s.order) in
      let lu : length symbols ≡ length b * s.per = sym (ap length e) ∙ length_unpacked b in
      let lt : k < length symbols = omega arith in
      get_or-map (λ x. x % s.order) symbols k 0 0 lt
      ∙ mod-eq_of_lt (subst (λ n. n < s.order) (sym (get_or_unpacked b k (omega arith)) ∙ ap (λ (x : List ℕ). get_or x k 0) e) (symbol_small b k)))

  -- packing undoes unpacking
  pub packed_undoes : (bytes symbols : List ℕ) → Bytes bytes → unpacked s bytes ≡ map (λ x. x % s.order) symbols → (b : List ℕ) → Bytes b → unpacked s b ≡ symbols → bytes ≡ b
  packed_undoes bytes symbols bb e b bytes_b f = symbols_tell_bytes bytes b bb bytes_b (e ∙ reduced b symbols f ∙ sym f)
