-- What is tested first in every call: the terms fit, or one refusal answers everything.
use Rattle.std.proofs.Common.{◌≡◌, ℕ, ◌<◌, ◌≤◌, Bool, true, false, ◌⊎◌, [], sym, refl, ap, ◌∙◌, inl, inr}
use Rattle.std.proofs.lemmas.Bool.{both_ways}
use Rattle.field.specs.Systems.{System}
use Rattle.grid.specs.Grids.{row_symbols}
use Rattle.store.specs.Store.{Store}
use Rattle.block.specs.Layouts.{shape_of, row_count}
use Rattle.sector.specs.Answers.{Answer, taken, refused, guarded, is_taken}
use Rattle.sector.specs.Terms.{Fits, fitted, fits}
use Rattle.sector.specs.declared.terms.Terms.{Terms}
use Rattle.sector.proofs.Fits.{fitted_cases, fits_when, fits_true}
use Rattle.sector.proofs.Fits as base

pub guard_passed : (b : Bool) (k : ℕ) (a : Answer) → is_taken (guarded b k a) ≡ true → b ≡ true
guard_passed true k a e = refl
guard_passed false k a e = e

module _ (s : System) (t : Terms) (st : Store) where
  -- where the terms fit, what is asked next answers
  pub fitted_is : fits s t st ≡ true → (a : Answer) → fitted s t st a ≡ a
  fitted_is e a = base.fitted_is s t st (fits_when s t st e) a

  -- where they do not, nothing else counts
  pub unfitted_is : (a : Answer) → fits s t st ≡ false → fitted s t st a ≡ fitted s t st (taken [])
  unfitted_is a e = go (fitted_cases s t st)
    where
      go : Fits s t st ⊎ ((k : ℕ) × ((a : Answer) → fitted s t st a ≡ refused k [])) → fitted s t st a ≡ fitted s t st (taken [])
      go (inl f) = absurd (both_ways (fits s t st) e (fits_true s t st f))
      go (inr m) = m.1 a ∙ sym (m.1 (taken []))

  -- what is taken went on
  pub fitted_under : (x : Answer) → is_taken (fitted s t st x) ≡ true → is_taken x ≡ true
  fitted_under x h = go (fitted_cases s t st)
    where
      go : Fits s t st ⊎ ((k : ℕ) × ((a : Answer) → fitted s t st a ≡ refused k [])) → is_taken x ≡ true
      go (inl f) = ap is_taken (sym (base.fitted_is s t st f x)) ∙ h
      go (inr m) = let e : false ≡ true = sym (ap is_taken (m.1 x)) ∙ h in cc

  -- every row has a place
  pub fit_places : fits s t st ≡ true → row_count t.layout ≤ st.places
  fit_places e = (fits_when s t st e).room

  -- rows and columns have no more symbols than there are locators
  pub symbols_fit : fits s t st ≡ true → (row_count t.layout < s.order) × (row_symbols s (shape_of t.layout) < s.order)
  symbols_fit e = let f = fits_when s t st e in (f.few, f.short)

  -- whether terms fit is a matter of the store's places and width
  pub fits_alike : (new : Store) → new.places ≡ st.places → new.width ≡ st.width → fits s t new ≡ fits s t st
  fits_alike new ep ew =
      rw (ep, ew)
