-- Loops over the front of a list that has a reply for each entry: one more entry, and the end.
use Rattle.std.proofs.Common.{◌≡◌, ℕ, ◌+◌, ◌<◌, ◌≤◌, List, [], ◌∷◌, ◌++◌, map, length, get_or, take, set, sym, ap, ◌∙◌, subst, arith}
use native.Mathlib.Nat.{min-le_left, min-le_right}
use Rattle.std.proofs.lemmas.List.{take_more, take_more_set, take_all, map_push, length-take-le}
use Rattle.replay.specs.Promise.{shared}

-- one more entry, and its reply
pub one_more : {A B C : Type 0} (f : B → C) (P : List A → List C → Type 0) (xs : List A) (ys : List B) (i : ℕ) (d : A) (r : B) → i < length xs → i < length ys
    → P (take i xs ++ (get_or xs i d ∷ [])) (map f (take i ys) ++ (f r ∷ [])) → P (take (i + 1) xs) (map f (take (i + 1) (set ys i r)))
one_more f P xs ys i d r lx ly h =
    let er : map f (take (i + 1) (set ys i r)) ≡ map f (take i ys) ++ (f r ∷ [])
    = ap (map f) (take_more_set ys i r ly) ∙ map_push f (take i ys) r in
    subst (λ zs. P zs (map f (take (i + 1) (set ys i r)))) (sym (take_more xs i d lx)) (subst (P (take i xs ++ (get_or xs i d ∷ []))) (sym er) h)

module _ {A B : Type 0} (xs : List A) (ys : List B) where
  -- each entry that is answered has its reply
  pub cut_long : (zs : List B) → length zs ≡ length ys → length (take (shared xs ys) zs) ≡ length (take (shared xs ys) xs)
  cut_long zs e =
      let left = min-le_left (length xs) (length ys) in
      let right = min-le_right (length xs) (length ys) in
      length-take-le (shared xs ys) zs (omega arith) ∙ sym (length-take-le (shared xs ys) xs left)

  -- the entries that are answered, and the replies to them
  pub cut_all : (P : List A → List B → Type 0) (zs : List B) (n i : ℕ) → n ≡ shared xs ys → length (take n xs) ≤ i → i ≤ length (take n xs)
      → P (take i (take n xs)) (take i zs) → P (take (shared xs ys) xs) (take (shared xs ys) zs)
  cut_all P zs n i e low high h =
      let left = min-le_left (length xs) (length ys) in
      let long : length (take n xs) ≡ n = length-take-le n xs (omega arith) in
      let last : i ≡ shared xs ys = omega arith in
      let front : take i (take n xs) ≡ take (shared xs ys) xs = take_all i (take n xs) low ∙ ap (λ (k : ℕ). take k xs) e in
      subst (λ us. P us (take (shared xs ys) zs)) front (subst (λ (k : ℕ). P (take i (take n xs)) (take k zs)) last h)
