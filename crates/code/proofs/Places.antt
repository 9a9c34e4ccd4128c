-- What holds of each place of a list, as the list is written place by place.
use Rattle.std.proofs.Common.{◌≡◌, ℕ, ◌+◌, ◌-◌, ◌<◌, ◌≤◌, List, length, get_or, take, drop, set, sym, subst, arith, length-drop, length-take, get_or-set_other, get_or-set_same}
use native.Mathlib.Decide.{ℕ_discrete}

-- one more place holds what it should
pub each_set : {A : Type 0} (d : A) (P : ℕ → A → Type 0) (xs : List A) (k : ℕ) (v : A) → k < length xs
    → ((j : ℕ) → j < k → P j (get_or xs j d)) → P k v → (j : ℕ) → j < k + 1 → P j (get_or (set xs k v) j d)
each_set d P xs k v l below here j lj = go (ℕ_discrete j k)
  where
    go : Dec (j ≡ k) → P j (get_or (set xs k v) j d)
    go (yes e) = subst (λ i. P i (get_or (set xs k v) i d)) (sym e) (subst (P k) (sym (get_or-set_same xs k v d l)) here)
    go (no ne) = subst (P j) (sym (get_or-set_other xs k j v d ne)) (below j (omega arith))

-- the first n places of a list, as a part of it
pub length_front : {A : Type 0} (xs : List A) (n : ℕ) → n ≤ length xs → length (take (n - 0) (drop 0 xs)) ≡ n
length_front xs n h = simp (length-take, length-drop) (omega arith)
