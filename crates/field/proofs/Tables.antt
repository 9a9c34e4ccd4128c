-- A rule of a table is shown at all of its entries by one test, which is computed.
use Rattle.std.proofs.Common.{◌≡◌, ℕ, zero, suc, ◌<◌, T, eqb, ltb, List, sym, ap, ◌∙◌, subst, le_of_suc-le-suc, not-suc-le-zero, eqb→eq, ltb→lt}
use Rattle.polynomial.proofs.Tests.{every, at}
use Rattle.field.specs.Tables.{Entry, entry_at}

module _ {rows : List (List ℕ)} {i r : ℕ} (e : Entry rows i r) (n : ℕ) where
  -- the entry at each i is f i
  pub entries_are : (f : ℕ → ℕ) → T (every (λ j. eqb (entry_at rows j) (f j)) n) → i < n → r ≡ f i
  entries_are f t h = e.is ∙ eqb→eq (entry_at rows i) (f i) (at (λ j. eqb (entry_at rows j) (f j)) n t i h)

  -- each entry is below m
  pub entries_below : (m : ℕ) → T (every (λ j. ltb (entry_at rows j) m) n) → i < n → r < m
  entries_below m t h =
      subst (λ (x : ℕ). x < m) (sym e.is) (ltb→lt (entry_at rows i) m (at (λ j. ltb (entry_at rows j) m) n t i h))

  -- f leads from the entry at each i but 0 back to i
  pub entries_undo : (f : ℕ → ℕ) → T (every (λ j. eqb (f (entry_at rows (suc j))) (suc j)) n) → 0 < i → i < suc n → f r ≡ i
  entries_undo f t p h = ap f e.is ∙ go i p h
    where
      go : (i : ℕ) → 0 < i → i < suc n → f (entry_at rows i) ≡ i
      go zero p h = absurd (not-suc-le-zero p)
      go (suc j) p h =
          eqb→eq (f (entry_at rows (suc j))) (suc j) (at (λ j. eqb (f (entry_at rows (suc j))) (suc j)) n t j (le_of_suc-le-suc h))
