-- What writing a row and closing a sector leave, from what their steps leave.
use Rattle.std.proofs.Common.{◌≡◌, ℕ, ◌-◌, ◌*◌, ◌<◌, ◌≤◌, Bool, true, false, cond, eqb, ltb, List, [], length, get_or, take, drop, replicate, Some, Ok, MatchBool, Result, sym, ap, ◌∙◌, subst, arith, get_or-take, MatchResult}
use Rattle.std.proofs.lemmas.List.{take-take, get_or-replicate}
use Rattle.std.proofs.lemmas.Bool.{lt-ltb, eq-eqb}
use Rattle.byte_string.specs.Bytes.{Bytes}
use Rattle.field.specs.Systems.{System}
use Rattle.code.specs.declared.error.CodeError.{CodeError}
use Rattle.store.specs.Store.{Store, at}
use Rattle.grid.specs.Grids.{fitting, RowsEncoded, ColumnsEncoded}
use Rattle.grid.specs.declared.shape.Shape.{Shape}
use Rattle.block.specs.Layouts.{shape_of, row_count, data_rows, data_bytes, body_bytes}
use Rattle.sector.specs.Answers.{taken, guarded, is_taken}
use Rattle.sector.specs.Terms.{data_guards}
use Rattle.sector.specs.Bodies.{block_of}
use Rattle.sector.specs.Opening.{RowStored, Writing, Written}
use Rattle.sector.specs.Recovery.{RowsWritten}
use Rattle.sector.specs.declared.terms.Terms.{Terms}
use Rattle.sector.specs.Terms.{Fits}
use Rattle.sector.proofs.Fits.{fitted_is, guard_passed}
use Rattle.sector.specs.Flat.{body_at, bodies_of}
use Rattle.sector.proofs.Flat.{get_or_bodies, flat_fitting, encoded}

-- flags that are all set
pub all_set : (m k r : ℕ) → r < k → k ≤ m → get_or (take (k - 0) (drop 0 (replicate m true))) r false ≡ true
all_set m k r h le = get_or-take (k - 0) (replicate m true) r false (omega arith) ∙ get_or-replicate m r true false (omega arith)

module _ (s : System) (t : Terms) where
  -- a data row of the right length passes
  pub data_passed : (st : Store) (row : ℕ) (bytes : List ℕ) → Fits s t st → row < data_rows t.layout → length bytes ≡ data_bytes t.layout → data_guards s t st row bytes ≡ taken []
  data_passed st row bytes f h l =
      fitted_is s t st f (guarded (ltb row (data_rows t.layout)) 7 (guarded (eqb (length bytes) (data_bytes t.layout)) 8 (taken [])))
      ∙ guard_passed (ltb row (data_rows t.layout)) 7 (guarded (eqb (length bytes) (data_bytes t.layout)) 8 (taken [])) (lt-ltb row (data_rows t.layout) h)
      ∙ guard_passed (eqb (length bytes) (data_bytes t.layout)) 8 (taken []) (eq-eqb (length bytes) (data_bytes t.layout) l)

  pub writing_done : (row : ℕ) (bytes : List ℕ) (old new : Store) (marks marked : List Bool) → Fits s t old → row < data_rows t.layout → length bytes ≡ data_bytes t.layout
      → RowStored s t row bytes old new marks marked → Writing s t row bytes old new marks marked (taken [])
  writing_done row bytes old new marks marked f h l stored =
      let e = data_passed old row bytes f h l in
      (sym e, subst (λ b. MatchBool b (RowStored s t row bytes old new marks marked) ((new ≡ old) × (marked ≡ marks))) (sym (ap is_taken e)) stored)

  -- columns and rows were encoded, and every row was put
  module _ (f : ℕ → List ℕ) (old new : Store) (W0 W1 W2 : List ℕ) (fit : Fits s t old) (long : length W0 ≡ row_count t.layout * body_bytes t.layout) (b0 : Bytes W0) (b2 : Bytes W2)
      (given : (r : ℕ) → r < data_rows t.layout → take (data_bytes t.layout) (drop (r * body_bytes t.layout) W0) ≡ f r)
      (flags : List Bool) (every : (r : ℕ) → r < row_count t.layout → get_or flags r false ≡ true) (put : RowsWritten t W2 flags old new) where
    written : ColumnsEncoded s (shape_of t.layout) W0 W1 → RowsEncoded s (shape_of t.layout) W1 W2 → Written s t f old new
    unfolding body_at
    written cols rows =
        let l = t.layout in
        record {
          bodies = bodies_of l W2;
          closed =
              encoded s l W0 W1 W2 long cols rows f b0 b2
              (λ r h. take-take (data_bytes l) (body_bytes l) (drop (r * body_bytes l) W0) (omega arith) ∙ given r h);
          places = λ r h.
              put.places r h ∙ ap (λ b. cond b (Some (block_of l t.pair r (body_at l W2 r))) (at old r)) (every r h)
              ∙ ap (λ (b : List ℕ). Some (block_of l t.pair r b)) (sym (get_or_bodies l W2 r h));
          same = put.same;
        }

    -- with sh for the layout's shape
    pub closing_done : (sh : Shape) → sh ≡ shape_of t.layout → (p q : Result (Unit {0}) CodeError) → p ≡ fitting s sh (length W0) → MatchResult p (λ _. ColumnsEncoded s sh W0 W1) (λ _. W1 ≡ W0)
        → q ≡ fitting s sh (length W1) → MatchResult q (λ _. RowsEncoded s sh W1 W2) (λ _. W2 ≡ W1) → Written s t f old new
    closing_done sh es p q ep cp eq cq =
        let l = t.layout in
        let fine0 : fitting s sh (length W0) ≡ Ok tt = ap (λ x. fitting s x (length W0)) es ∙ flat_fitting s l W0 long fit.few fit.short in
        let cols : ColumnsEncoded s sh W0 W1 = subst (λ (x : Result (Unit {0}) CodeError). MatchResult x (λ _. ColumnsEncoded s sh W0 W1) (λ _. W1 ≡ W0)) (ep ∙ fine0) cp in
        let fine1 : fitting s sh (length W1) ≡ Ok tt = ap (λ m. fitting s sh m) cols.long ∙ fine0 in
        let rows : RowsEncoded s sh W1 W2 = subst (λ (x : Result (Unit {0}) CodeError). MatchResult x (λ _. RowsEncoded s sh W1 W2) (λ _. W2 ≡ W1)) (eq ∙ fine1) cq in
        written (subst (λ x. ColumnsEncoded s x W0 W1) es cols) (subst (λ x. RowsEncoded s x W1 W2) es rows)
