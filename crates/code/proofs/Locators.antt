-- The locators of the marked places, as a loop writes them one by one.
use Rattle.std.proofs.Common.{◌≡◌, ℕ, suc, ◌+◌, ◌<◌, ◌≤◌, Bool, true, false, List, [], ◌∷◌, ◌++◌, length, take, set, Some, None, Option, MatchOption, sym, refl, ap, ◌∙◌, subst, append_assoc, arith}
use denote.Param.Members.{Mut}
use denote.Ref.{Bor}
use Rattle.std.specs.Fn.{Called}
use Rattle.std.specs.Iterator.{Yields, YieldsThen}
use Rattle.std.specs.List.{FoldsTo}
use Rattle.std.proofs.Common.{Iter}
use Rattle.std.proofs.lemmas.Fn.{fronts}
use Rattle.std.proofs.lemmas.List.{append-nil, map-append, take_more_set, take_all}
use Rattle.field.specs.Systems.{System, Symbol, symbol}
use Rattle.code.specs.Codewords.{Symbols, locator, symbols, count}
use Rattle.code.specs.Erasures.{picked, locators}
use Rattle.code.proofs.Marks.{count_at_most}

module _ (s : System) where
  -- the locators of the marked ones of the last symbols
  abbrev pub of_last : List Bool → Symbols s
  of_last bs = picked bs (locators s (length bs))

  -- The search for the next mark goes on from `it` to `u`.
  module _ {F : Type 0} (g : Mut F (Bor Bool × Unit {0}) Bool) (f : F) (misses : (x : Bor Bool) (q : F) → Called g f (x, tt) false q → (q ≡ f) × (x.now ≡ false))
      (hits : (x : Bor Bool) (q : F) → Called g f (x, tt) true q → x.now ≡ true) where
    passed : (seen : List (Bor Bool)) (it t : Iter Bool) (q : F) → Yields fronts it seen t → FoldsTo (λ p x q. Called g p (x, tt) false q) f seen q
        → (count it.rest.now ≡ count t.rest.now) × (of_last it.rest.now ≡ of_last t.rest.now) × (q ≡ f)
    passed [] it t q y h = (ap (λ (i : Iter Bool). count i.rest.now) y, ap (λ (i : Iter Bool). of_last i.rest.now) y, sym h)
    passed (x ∷ seen) it t q y h =
        let miss = misses x h.0 h.1 in
        let first : it.rest.now ≡ false ∷ y.0.rest.now = y.1 ∙ ap (λ (b : Bool). b ∷ y.0.rest.now) miss.1 in
        let more = passed seen y.0 t q y.2 (subst (λ (p : F). FoldsTo (λ p x q. Called g p (x, tt) false q) p seen q) miss.0 h.2) in
        (ap count first ∙ more.0, ap of_last first ∙ more.1, more.2)

    ended : (o : Option (Bor Bool)) (t u : Iter Bool) (q : F) (r : Bool) → fronts t o u → q ≡ f → MatchOption o (r ≡ false) (λ x. (r ≡ true) × ((h : F) × Called g q (x, tt) true h))
        → (r ≡ true → (count t.rest.now ≡ suc (count u.rest.now)) × (of_last t.rest.now ≡ locator s (length u.rest.now) ∷ of_last u.rest.now)) × (r ≡ false → count t.rest.now ≡ 0)
    ended None t u q r st e m = ((λ h. absurd (let z : ◌≡◌ {A = Bool} true false = sym h ∙ m in let y : ◌≡◌ {A = ℕ} 0 1 = cc in let w : ⊥ = omega arith in w)), (λ h. let few = count_at_most t.rest.now in let empty = st.0 in omega arith))
    ended (Some x) t u q r st e m =
        let hit : x.now ≡ true = hits x m.1.0 (subst (λ (p : F). Called g p (x, tt) true m.1.0) e m.1.1) in
        let first : t.rest.now ≡ true ∷ u.rest.now = st ∙ ap (λ (b : Bool). b ∷ u.rest.now) hit in
        ((λ h. (ap count first, ap of_last first)), (λ h. absurd (let z : ◌≡◌ {A = Bool} true false = sym m.0 ∙ h in let y : ◌≡◌ {A = ℕ} 0 1 = cc in let w : ⊥ = omega arith in w)))

    pub next_mark : (it u : Iter Bool) (r : Bool)
        → (seen : List (Bor Bool)) × (o : Option (Bor Bool)) × (q : F) × YieldsThen fronts it seen o u × FoldsTo (λ p x q. Called g p (x, tt) false q) f seen q × MatchOption o (r ≡ false) (λ x. (r ≡ true) × ((h : F) × Called g q (x, tt) true h))
        → (r ≡ true → (count it.rest.now ≡ suc (count u.rest.now)) × (of_last it.rest.now ≡ locator s (length u.rest.now) ∷ of_last u.rest.now)) × (r ≡ false → count it.rest.now ≡ 0)
    next_mark it u r ran =
        let t = ran.3.0 in
        let before = passed ran.0 it t ran.2 ran.3.1 ran.4 in
        let here = ended ran.1 t u ran.2 r ran.3.2 before.2 ran.5 in
        ((λ h. (before.0 ∙ (here.0 h).0, before.1 ∙ (here.0 h).1)), (λ h. before.0 ∙ here.1 h))

  pub located_more : (all : Symbols s) (rest left : List Bool) (out : List ℕ) (i v : ℕ) → i < length out → of_last rest ≡ locator s (length left) ∷ of_last left → symbol s v ≡ locator s (length left)
      → symbols s (take i out) ++ of_last rest ≡ all → symbols s (take (i + 1) (set out i v)) ++ of_last left ≡ all
  located_more all rest left out i v l next ev h =
      ap (λ (x : List ℕ). symbols s x ++ of_last left) (take_more_set out i v l)
      ∙ ap (λ (x : Symbols s). x ++ of_last left) (map-append (symbol s) (take i out) (v ∷ []))
      ∙ append_assoc (symbols s (take i out)) (symbol s v ∷ []) (of_last left)
      ∙ ap (λ (x : Symbols s). symbols s (take i out) ++ x) (ap (λ (x : Symbol s.order). x ∷ of_last left) ev ∙ sym next)
      ∙ h

  picked_none : (bs : List Bool) (xs : Symbols s) → count bs ≡ 0 → picked bs xs ≡ []
  picked_none [] xs e = refl
  picked_none (true ∷ bs) xs e = absurd (let z : ⊥ = omega arith in z)
  picked_none (false ∷ bs) [] e = refl
  picked_none (false ∷ bs) (x ∷ xs) e = picked_none bs xs e

  pub located_all : (all : Symbols s) (rest : List Bool) (out : List ℕ) (i : ℕ) → length out ≤ i → i + count rest ≡ length out → symbols s (take i out) ++ of_last rest ≡ all → symbols s out ≡ all
  located_all all rest out i l long h =
      sym (append-nil (symbols s out))
      ∙ ap (λ (x : Symbols s). symbols s out ++ x) (sym (picked_none rest (locators s (length rest)) (omega arith)))
      ∙ ap (λ (x : List ℕ). symbols s x ++ of_last rest) (sym (take_all i out l)) ∙ h
