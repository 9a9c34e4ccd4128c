-- Looking at the rows one after another.
use Rattle.std.proofs.Common.{◌≡◌, ℕ, ◌+◌, ◌*◌, ◌<◌, Bool, false, not, List, length, get_or, set, sym, ap, ◌∙◌, arith, get_or-set_other, get_or-set_same}
use native.Mathlib.Decide.{ℕ_discrete}
use borrow.Rule.Slice.PartMut.{put_mid}
use Rattle.field.specs.Systems.{System}
use Rattle.block.specs.Layouts.{row_count, body_bytes}
use Rattle.block.specs.Conditions.{is_lost, is_clean, symbols_in, word_of}
use Rattle.block.specs.declared.condition.Condition.{Condition}
use Rattle.sector.specs.Flat.{body_at}
use Rattle.sector.specs.Opening.{Contents}
use Rattle.sector.specs.Fillings.{condition_at, lost_at}
use Rattle.sector.specs.Judgements.{RowJudged}
use Rattle.sector.specs.Recovery.{Surveyed}
use Rattle.sector.specs.declared.terms.Terms.{Terms}
use Rattle.sector.proofs.Flat.{body_same, body_other}

module _ (s : System) (t : Terms) (P : Contents) where
  module _ (n a k : ℕ) (flat body : List ℕ) (lost broken : List Bool) (c : Condition) (l b : Bool)
      (long : length flat ≡ row_count t.layout * body_bytes t.layout) (few : n < row_count t.layout)
      (ea : a ≡ n * body_bytes t.layout) (ek : k ≡ body_bytes t.layout) (lb : length body ≡ body_bytes t.layout)
      (room : length lost ≡ row_count t.layout) (room' : length broken ≡ row_count t.layout)
      (judged : RowJudged s t n (P n) body c) (el : l ≡ is_lost c) (eb : b ≡ is_clean c) where
    -- one row more
    pub surveyed_more : Surveyed s t P n flat lost broken → Surveyed s t P (n + 1) (put_mid a k flat body) (set lost n l) (set broken n (not b))
    surveyed_more h = record {
      lost_is = λ r hr. flag r hr (ℕ_discrete r n);
      broken_is = λ r hr. flag' r hr (ℕ_discrete r n);
      words = λ r hr e. word r hr e (ℕ_discrete r n);
    }
      where
        flag : (r : ℕ) → r < n + 1 → Dec (r ≡ n) → get_or (set lost n l) r false ≡ lost_at s t P r
        flag r hr (yes e) =
            ap (λ i. get_or (set lost n l) i false) e ∙ get_or-set_same lost n l false (omega arith) ∙ el ∙ ap is_lost judged.is ∙ ap (lost_at s t P) (sym e)
        flag r hr (no ne) = get_or-set_other lost n r l false ne ∙ h.lost_is r (omega arith)

        flag' : (r : ℕ) → r < n + 1 → Dec (r ≡ n) → get_or (set broken n (not b)) r false ≡ not (is_clean (condition_at s t P r))
        flag' r hr (yes e) =
            ap (λ i. get_or (set broken n (not b)) i false) e ∙ get_or-set_same broken n (not b) false (omega arith) ∙ ap not (eb ∙ ap is_clean judged.is)
            ∙ ap (λ i. not (is_clean (condition_at s t P i))) (sym e)
        flag' r hr (no ne) = get_or-set_other broken n r (not b) false ne ∙ h.broken_is r (omega arith)

        word : (r : ℕ) → r < n + 1 → lost_at s t P r ≡ false → Dec (r ≡ n) → symbols_in s (body_at t.layout (put_mid a k flat body) r) ≡ word_of s t.layout (P r)
        word r hr f (yes e) =
            ap (λ i. symbols_in s (body_at t.layout (put_mid a k flat body) i)) e
            ∙ ap (symbols_in s) (body_same t.layout flat body n a k long few ea ek lb)
            ∙ judged.word (ap is_lost judged.is ∙ ap (lost_at s t P) (sym e) ∙ f) ∙ ap (λ i. word_of s t.layout (P i)) (sym e)
        word r hr f (no ne) =
            ap (symbols_in s) (body_other t.layout flat body n a k long few ea (lb ∙ sym ek) (omega arith) r ne) ∙ h.words r (omega arith) f
