-- What stands at the places of a store.
use Rattle.std.proofs.Common.{◌≡◌, ℕ, ◌<◌, ◌≤◌, Bool, true, false, cond, eqb, ◌⊎◌, List, length, get_or, set, Some, None, Option, sym, refl, ap, ◌∙◌, subst, inl, inr, arith}
use Rattle.std.proofs.lemmas.List.{get_or_past, get_or-set_same, get_or-set_other}
use Rattle.std.proofs.lemmas.Bool.{cases_lt, eqb-true, eqb-false}
use Rattle.store.specs.Store.{Store, at, with_at}
use Rattle.sector.specs.Opening.{SameFrom}
use Rattle.replay.specs.Model.{replaced}

-- the content that was put there, and the others as they were
pub at_with_at : (st : Store) (row : ℕ) (o : Option (List ℕ)) → row < length st.contents → (r : ℕ) → at (with_at st row o) r ≡ replaced (at st) row o r
at_with_at st row o l r = go (eqb r row) refl
  where
    go : (b : Bool) → eqb r row ≡ b → at (with_at st row o) r ≡ cond b o (at st r)
    go true e =
        ap (λ k. get_or (set st.contents row o) k None) (eqb-true r row e) ∙ get_or-set_same st.contents row o None l
    go false e = get_or-set_other st.contents row r o None (eqb-false r row e)

-- a place with a block is one of the list
held_there : (st : Store) (r : ℕ) (b : List ℕ) → at st r ≡ Some b → r < length st.contents
held_there st r b e = go (cases_lt r (length st.contents))
  where
    go : (r < length st.contents) ⊎ (length st.contents ≤ r) → r < length st.contents
    go (inl h) = h
    go (inr h) =
        let none : at st r ≡ None = get_or_past st.contents r None h in
        cc

-- a store with a block at each of its first n places has so many
pub all_there : (st : Store) (n : ℕ) → ((r : ℕ) → r < n → (b : List ℕ) × (at st r ≡ Some b)) → n ≤ length st.contents
all_there st n h = go (cases_lt (length st.contents) n)
  where
    go : (length st.contents < n) ⊎ (n ≤ length st.contents) → n ≤ length st.contents
    go (inl l) =
        let here = h (length st.contents) l in
        absurd (let y : ⊥ = omega (arith, held_there st (length st.contents) here.0 here.1) in y)
    go (inr l) = l

pub same_self : (n : ℕ) (st : Store) → SameFrom n st st
same_self n st = record { places = refl; width = refl; others = λ k l. refl }

pub same_then : (n : ℕ) (a b c : Store) → SameFrom n a b → SameFrom n b c → SameFrom n a c
same_then n a b c f g = record {
  places = g.places ∙ f.places;
  width = g.width ∙ f.width;
  others = λ k l. g.others k l ∙ f.others k l;
}

pub same_path : (n : ℕ) (old new : Store) → new ≡ old → SameFrom n old new
same_path n old new e = subst (λ (st : Store). SameFrom n old st) (sym e) (same_self n old)

pub same_with_at : (n : ℕ) (st : Store) (row : ℕ) (o : Option (List ℕ)) → row < n → SameFrom n st (with_at st row o)
same_with_at n st row o l = record {
  places = refl;
  width = refl;
  others = λ k lk. get_or-set_other st.contents row k o None (λ e. omega arith);
}
