-- Contents that are given place by place.
use Rattle.std.proofs.Common.{◌≡◌, ℕ, ◌<◌, ◌≤◌, List, length, get_or, set, Some, None, Option, sym, ◌∙◌, subst, ⊎_elim, arith}
use Rattle.std.proofs.lemmas.List.FromFn.{length-map-range_with_len, get_or-map-range_with_len}
use Rattle.std.proofs.lemmas.List.{ext_get_or, length-set, get_or-set_same, get_or-set_other, get_or_past}
use Rattle.std.proofs.lemmas.Bool.{cases_eq, cases_lt}
use Rattle.byte_string.specs.Bytes.{Bytes}
use Rattle.store.specs.Store.{listed, Sound}

pub length_listed : (n : ℕ) (f : ℕ → Option (List ℕ)) → length (listed n f) ≡ n
unfolding listed
length_listed n f = length-map-range_with_len f 0 n

pub get_or_listed : (n : ℕ) (f : ℕ → Option (List ℕ)) (k : ℕ) → k < n → get_or (listed n f) k None ≡ f k
unfolding listed
get_or_listed n f k h = get_or-map-range_with_len f 0 n k k None h (omega arith)

-- one place has another content, and the others have what they had
pub listed_set : (n : ℕ) (f g : ℕ → Option (List ℕ)) (place : ℕ) (o : Option (List ℕ)) → place < n → g place ≡ o
    → ((k : ℕ) → k < n → (k ≡ place → ⊥) → g k ≡ f k) → listed n g ≡ set (listed n f) place o
listed_set n f g place o lt here other =
    ext_get_or None (listed n g) (set (listed n f) place o)
    (length_listed n g ∙ sym (length-set (listed n f) place o ∙ length_listed n f))
    (λ k hk.
    let kn : k < n = omega (arith, length_listed n g) in
    get_or_listed n g k kn
    ∙ ⊎_elim
    (λ (e : k ≡ place).
    let P : ℕ → Type 0 = λ m. g m ≡ get_or (set (listed n f) place o) m None in
    subst P (sym e) (here ∙ sym (get_or-set_same (listed n f) place o None (omega (arith, length_listed n f)))))
    (λ (ne : k ≡ place → ⊥). other k kn ne ∙ sym (get_or-set_other (listed n f) place k o None ne ∙ get_or_listed n f k kn))
    (cases_eq k place))

-- a content that is there stands at a place
there : (n : ℕ) (f : ℕ → Option (List ℕ)) (k : ℕ) (b : List ℕ) → get_or (listed n f) k None ≡ Some b → (k < n) × (f k ≡ Some b)
there n f k b e =
    ⊎_elim
    (λ (lt : k < n). (lt, sym (get_or_listed n f k lt) ∙ e))
    (λ (ge : n ≤ k).
    let none : get_or (listed n f) k None ≡ None = get_or_past (listed n f) k None (omega (arith, length_listed n f)) in
    let z : ◌≡◌ {A = ℕ} 0 1 = cc in absurd (omega arith))
    (cases_lt k n)

pub listed_sound : (n w : ℕ) (f : ℕ → Option (List ℕ)) → ((k : ℕ) (b : List ℕ) → k < n → f k ≡ Some b → (length b ≡ w) × Bytes b)
    → (0 < n → (1 ≤ w) × (w ≤ 88)) → Sound (record { places = n; width = w; contents = listed n f })
listed_sound n w f blocks narrow =
    record {
      sized = length_listed n f;
      wide = λ k b e. let t = there n f k b e in (blocks k b t.0 t.1).0;
      bytes = λ k b e. let t = there n f k b e in (blocks k b t.0 t.1).1;
      narrow = narrow;
    }
