-- Syndromes that are 0, one after another.
use Rattle.std.proofs.Common.{◌≡◌, ℕ, ◌+◌, ◌-◌, ◌<◌, Bool, true, false, List, length, get_or, MatchBool, sym, refl, ap, ◌∙◌, subst, arith}
use Rattle.std.specs.List.{AllWithin, HoldsAt, range_with_len}
use Rattle.std.proofs.lemmas.List.FromFn.{length-range_with_len, get_or-range_with_len}
use Rattle.field.specs.Systems.{System, Symbol}
use Rattle.field.proofs.Symbols.{symbol_path}
use Rattle.code.specs.Codewords.{Vanish, symbols, syndrome, syndrome_of}

module _ (s : System) where
  -- a syndrome with the code 0 is 0
  pub syndrome_zero : (i : ℕ) (xs : List ℕ) (r : ℕ) → r ≡ syndrome_of s i xs → r ≡ 0 → syndrome s i (symbols s xs) ≡ s.on.nil
  syndrome_zero i xs r e z = symbol_path (syndrome s i (symbols s xs)) s.on.nil (sym e ∙ z ∙ sym s.nil_is)

  -- what a run of tests over a range says of the syndromes
  pub vanish_all : (a c : ℕ) (xs : List ℕ) (r : Bool)
      → MatchBool r (AllWithin (λ i. syndrome_of s i xs ≡ 0) (range_with_len a (c - a)) 0 (length (range_with_len a (c - a))))
      ((k : ℕ) × (k < length (range_with_len a (c - a))) × HoldsAt (λ i. syndrome_of s i xs ≡ 0 → ⊥) (range_with_len a (c - a)) k)
      → MatchBool r (Vanish s a c (symbols s xs)) (Vanish s a c (symbols s xs) → ⊥)
  vanish_all a c xs true h = λ i la lc.
      let long = length-range_with_len a (c - a) in
      let at : get_or (range_with_len a (c - a)) (i - a) 0 ≡ i = get_or-range_with_len a (c - a) (i - a) 0 (omega arith) ∙ (omega arith) in
      syndrome_zero i xs (syndrome_of s i xs) refl (subst (λ j. syndrome_of s j xs ≡ 0) at (h (i - a) 0 (omega arith) (omega arith)))
  vanish_all a c xs false h = λ v.
      let long = length-range_with_len a (c - a) in
      let l = h.1 in
      let at : get_or (range_with_len a (c - a)) h.0 0 ≡ a + h.0 = get_or-range_with_len a (c - a) h.0 0 (omega arith) in
      h.2 0 (ap (λ (x : Symbol s.order). x.code) (v (get_or (range_with_len a (c - a)) h.0 0) (omega arith) (omega arith)) ∙ s.nil_is)
