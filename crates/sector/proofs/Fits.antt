-- Terms that fit a store and a field, and terms that do not.
use Rattle.std.proofs.Common.{◌≡◌, ℕ, ◌-◌, ◌/◌, ◌<◌, ◌≤◌, Bool, true, false, ◌&&◌, eqb, ltb, leb, ◌⊎◌, [], sym, refl, ap, ◌∙◌, subst, inl, inr, arith}
use Rattle.std.proofs.lemmas.Bool.{ltb-true, leb-true, eqb-true, lt-ltb, le-ltb, le-leb, eq-eqb, and_parts, and_from, and_right}
use Rattle.field.specs.Systems.{System}
use Rattle.grid.specs.Grids.{row_symbols}
use Rattle.grid.proofs.Fitting.{over}
use Rattle.store.specs.Store.{Store}
use Rattle.block.specs.Layouts.{shape_of, row_count, body_bytes, block_width}
use Rattle.sector.specs.Answers.{Answer, taken, refused, guarded, is_taken}
use Rattle.sector.specs.Terms.{Fits, fitted, fits}
use Rattle.sector.specs.declared.terms.Terms.{Terms}

not_both : (b : Bool) → b ≡ true → b ≡ false → ⊥
not_both b x y = let z : true ≡ false = sym x ∙ y in let w : ◌≡◌ {A = ℕ} 0 1 = cc in omega arith

-- a test that passes leaves the answer, and one that fails gives its own
pub guard_passed : (b : Bool) (k : ℕ) (a : Answer) → b ≡ true → guarded b k a ≡ a
guard_passed b k a e = ap (λ c. guarded c k a) e

pub guard_failed : (b : Bool) (k : ℕ) (a : Answer) → b ≡ false → guarded b k a ≡ refused k []
guard_failed b k a e = ap (λ c. guarded c k a) e

guard_cases : (b : Bool) (k : ℕ) → (b ≡ true) ⊎ (b ≡ false)
guard_cases true k = inl refl
guard_cases false k = inr refl

module _ (s : System) (t : Terms) (st : Store) where
  abbrev room? : Bool
  room? = leb (row_count t.layout) st.places

  abbrev wide? : Bool
  wide? = eqb st.width (block_width t.layout)

  abbrev short? : Bool
  short? = ltb (row_count t.layout) s.order && ltb (row_symbols s (shape_of t.layout)) s.order

  -- each test that fails gives its refusal, whatever answer would follow
  module _ (a : Answer) where
    pub misfit_pair : leb t.pair 11 ≡ false → fitted s t st a ≡ refused 3 []
    misfit_pair e = guard_failed (leb t.pair 11) 3 (guarded room? 4 (guarded wide? 5 (guarded short? 6 a))) e

    after_pair : leb t.pair 11 ≡ true → fitted s t st a ≡ guarded room? 4 (guarded wide? 5 (guarded short? 6 a))
    after_pair e = guard_passed (leb t.pair 11) 3 (guarded room? 4 (guarded wide? 5 (guarded short? 6 a))) e

    pub misfit_places : leb t.pair 11 ≡ true → room? ≡ false → fitted s t st a ≡ refused 4 []
    misfit_places e f = after_pair e ∙ guard_failed room? 4 (guarded wide? 5 (guarded short? 6 a)) f

    after_places : leb t.pair 11 ≡ true → room? ≡ true → fitted s t st a ≡ guarded wide? 5 (guarded short? 6 a)
    after_places e f = after_pair e ∙ guard_passed room? 4 (guarded wide? 5 (guarded short? 6 a)) f

    pub misfit_width : leb t.pair 11 ≡ true → room? ≡ true → wide? ≡ false → fitted s t st a ≡ refused 5 []
    misfit_width e f g = after_places e f ∙ guard_failed wide? 5 (guarded short? 6 a) g

    after_width : leb t.pair 11 ≡ true → room? ≡ true → wide? ≡ true → fitted s t st a ≡ guarded short? 6 a
    after_width e f g = after_places e f ∙ guard_passed wide? 5 (guarded short? 6 a) g

    pub misfit_symbols : leb t.pair 11 ≡ true → room? ≡ true → wide? ≡ true → short? ≡ false → fitted s t st a ≡ refused 6 []
    misfit_symbols e f g h = after_width e f g ∙ guard_failed short? 6 a h

    pub all_passed : leb t.pair 11 ≡ true → room? ≡ true → wide? ≡ true → short? ≡ true → fitted s t st a ≡ a
    all_passed e f g h = after_width e f g ∙ guard_passed short? 6 a h

  pub fitted_is : Fits s t st → (a : Answer) → fitted s t st a ≡ a
  fitted_is f a =
      all_passed a (le-leb t.pair 11 f.pair) (le-leb (row_count t.layout) st.places f.room)
      (eq-eqb st.width (block_width t.layout) f.wide)
      (and_from (ltb (row_count t.layout) s.order) (ltb (row_symbols s (shape_of t.layout)) s.order)
      (lt-ltb (row_count t.layout) s.order f.few) (lt-ltb (row_symbols s (shape_of t.layout)) s.order f.short))

  -- the terms fit, or one refusal is the answer to every call
  pub fitted_cases : Fits s t st ⊎ ((k : ℕ) × ((a : Answer) → fitted s t st a ≡ refused k []))
  fitted_cases = pair_case (guard_cases (leb t.pair 11) 3)
    where
      short_case : leb t.pair 11 ≡ true → room? ≡ true → wide? ≡ true → (short? ≡ true) ⊎ (short? ≡ false)
          → Fits s t st ⊎ ((k : ℕ) × ((a : Answer) → fitted s t st a ≡ refused k []))
      short_case e f g (inl h) =
          let both = and_parts (ltb (row_count t.layout) s.order) (ltb (row_symbols s (shape_of t.layout)) s.order) h in
          inl (record {
            pair = leb-true t.pair 11 e;
            room = leb-true (row_count t.layout) st.places f;
            wide = eqb-true st.width (block_width t.layout) g;
            few = ltb-true (row_count t.layout) s.order both.0;
            short = ltb-true (row_symbols s (shape_of t.layout)) s.order both.1;
          })
      short_case e f g (inr h) = inr (6, λ a. misfit_symbols a e f g h)

      wide_case : leb t.pair 11 ≡ true → room? ≡ true → (wide? ≡ true) ⊎ (wide? ≡ false)
          → Fits s t st ⊎ ((k : ℕ) × ((a : Answer) → fitted s t st a ≡ refused k []))
      wide_case e f (inl g) = short_case e f g (guard_cases short? 6)
      wide_case e f (inr g) = inr (5, λ a. misfit_width a e f g)

      room_case : leb t.pair 11 ≡ true → (room? ≡ true) ⊎ (room? ≡ false)
          → Fits s t st ⊎ ((k : ℕ) × ((a : Answer) → fitted s t st a ≡ refused k []))
      room_case e (inl f) = wide_case e f (guard_cases wide? 5)
      room_case e (inr f) = inr (4, λ a. misfit_places a e f)

      pair_case : (leb t.pair 11 ≡ true) ⊎ (leb t.pair 11 ≡ false)
          → Fits s t st ⊎ ((k : ℕ) × ((a : Answer) → fitted s t st a ≡ refused k []))
      pair_case (inl e) = room_case e (guard_cases room? 4)
      pair_case (inr e) = inr (3, λ a. misfit_pair a e)

  pub fits_from : taken [] ≡ fitted s t st (taken []) → Fits s t st
  fits_from e = go fitted_cases
    where
      go : Fits s t st ⊎ ((k : ℕ) × ((a : Answer) → fitted s t st a ≡ refused k [])) → Fits s t st
      go (inl f) = f
      go (inr m) = absurd (not_both true refl (ap is_taken (e ∙ m.1 (taken []))))

  pub fits_when : fits s t st ≡ true → Fits s t st
  fits_when e = go fitted_cases
    where
      go : Fits s t st ⊎ ((k : ℕ) × ((a : Answer) → fitted s t st a ≡ refused k [])) → Fits s t st
      go (inl f) = f
      go (inr m) = absurd (not_both true refl (sym e ∙ ap is_taken (m.1 (taken []))))

  pub fits_true : Fits s t st → fits s t st ≡ true
  fits_true f = ap is_taken (fitted_is f (taken []))

  -- the tests as they are made, with bb for the bytes of a body, q for the order and m for the symbols in a byte
  module _ (bb q m : ℕ) (eb : bb ≡ body_bytes t.layout) (eq : q ≡ s.order) (em : m ≡ s.per) (pair : t.pair ≤ 11) (room : row_count t.layout ≤ st.places)
      (wide : st.width ≡ block_width t.layout) where
    pub long_bodies : (q - 1) / m < bb → refused 6 [] ≡ fitted s t st (taken [])
    long_bodies h =
        let l : s.order ≤ row_symbols s (shape_of t.layout) = over s (body_bytes t.layout) q m eq em (subst (λ n. (q - 1) / m < n) eb h) in
        sym
        (misfit_symbols (taken []) (le-leb t.pair 11 pair) (le-leb (row_count t.layout) st.places room) (eq-eqb st.width (block_width t.layout) wide)
        (and_right (ltb (row_count t.layout) s.order) (ltb (row_symbols s (shape_of t.layout)) s.order) (le-ltb (row_symbols s (shape_of t.layout)) s.order l)))
