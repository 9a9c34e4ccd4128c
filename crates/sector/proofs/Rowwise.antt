-- Stores whose places are written row after row.
use Rattle.std.proofs.Common.{◌≡◌, ℕ, ◌+◌, ◌<◌, List, length, None, Option, sym, ap, ◌∙◌, subst, arith, length-set, get_or-set_other, get_or-set_same}
use native.Mathlib.Decide.{ℕ_discrete}
use Rattle.store.specs.Store.{Store, at, with_at}
use Rattle.sector.specs.Opening.{SameFrom}

-- the first n places hold what they should, and no other place changed
pub record Done (f : ℕ → Option (List ℕ)) (n : ℕ) (old new : Store) : Type 0 where
  pub sized : length new.contents ≡ length old.contents
  pub done : (r : ℕ) → r < n → at new r ≡ f r
  pub same : SameFrom n old new

pub done_more : (f : ℕ → Option (List ℕ)) (n : ℕ) (old now new : Store) → Done f n old now → n < length old.contents → new ≡ with_at now n (f n) → Done f (n + 1) old new
done_more f n old now new d h e =
    subst (λ (x : Store). Done f (n + 1) old x) (sym e)
    record {
      sized = length-set now.contents n (f n) ∙ d.sized;
      done = λ r l. here r l (ℕ_discrete r n);
      same = record {
        places = d.same.places;
        width = d.same.width;
        others = λ k l. get_or-set_other now.contents n k (f n) None (λ z. let y : ⊥ = omega arith in y) ∙ d.same.others k (omega arith);
      };
    }
  where
    here : (r : ℕ) → r < n + 1 → Dec (r ≡ n) → at (with_at now n (f n)) r ≡ f r
    here r l (yes z) =
        ap (at (with_at now n (f n))) z ∙ get_or-set_same now.contents n (f n) None (let s = d.sized in omega arith) ∙ ap f (sym z)
    here r l (no ne) = get_or-set_other now.contents n r (f n) None ne ∙ d.done r (omega arith)

-- row n is left as it was
pub done_kept : (f : ℕ → Option (List ℕ)) (n : ℕ) (old now : Store) → Done f n old now → f n ≡ at old n → Done f (n + 1) old now
done_kept f n old now d e = record {
  sized = d.sized;
  done = λ r h. pick r h (ℕ_discrete r n);
  same = record { places = d.same.places; width = d.same.width; others = λ k h. d.same.others k (omega arith) };
}
  where
    pick : (r : ℕ) → r < n + 1 → Dec (r ≡ n) → at now r ≡ f r
    pick r h (yes q) = ap (at now) q ∙ d.same.others n (omega arith) ∙ sym e ∙ ap f (sym q)
    pick r h (no ne) = d.done r (omega arith)
