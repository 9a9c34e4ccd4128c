-- What a read answers, by what was worked out.
use Rattle.std.proofs.Common.{◌≡◌, ℕ, ◌+◌, ◌-◌, ◌*◌, ◌<◌, ◌≤◌, Bool, true, false, List, [], length, take, drop, Ok, sym, refl, ap, ◌∙◌, subst, inl, arith, length-take-le}
use Rattle.std.proofs.lemmas.List.{take-take}
use Rattle.std.proofs.lemmas.Bool.{both_ways}
use Rattle.byte_string.specs.Bytes.{Bytes}
use Rattle.field.specs.Systems.{System}
use Rattle.code.specs.Codewords.{Symbols}
use Rattle.grid.specs.Grids.{data_symbols}
use Rattle.store.specs.Store.{Store, at}
use Rattle.block.specs.Layouts.{shape_of, row_count, data_bytes, body_bytes}
use Rattle.block.specs.Conditions.{is_lost, symbols_in}
use Rattle.block.specs.declared.condition.Condition.{Condition}
use Rattle.block.specs.declared.layout.Layout.{Layout}
use Rattle.block.specs.declared.layout.Layout.TheVariants.{Audio, Video, Subcode}
use Rattle.sector.specs.Answers.{taken}
use Rattle.sector.specs.Flat.{body_at}
use Rattle.sector.specs.Fillings.{lost_at}
use Rattle.sector.specs.Judgements.{RowJudged}
use Rattle.sector.specs.Recovery.{data_of, Recovered}
use Rattle.sector.specs.Closing.{Holds, Reads}
use Rattle.sector.specs.declared.terms.Terms.{Terms}
use Rattle.sector.proofs.Flat.{length_body}
use Rattle.sector.proofs.Recovery.{row_of}
use Rattle.sector.proofs.Strings.{symbols_in_take}

-- no layout has longer bodies
pub few_bytes : (l : Layout) → body_bytes l ≤ 85
few_bytes Audio = omega arith
few_bytes Video = omega arith
few_bytes Subcode = omega arith

-- the data bytes of a row, as a part of the bodies of all rows
pub data_part : (l : Layout) (flat : List ℕ) (row n k : ℕ) → n ≡ body_bytes l → k ≡ data_bytes l → take ((row * n + k) - row * n) (drop (row * n) flat) ≡ take (data_bytes l) (body_at l flat row)
unfolding body_at
data_part l flat row n k en ek =
    let e : (row * n + k) - row * n ≡ data_bytes l = omega arith in
    ap (λ i. take i (drop (row * n) flat)) e ∙ ap (λ j. take (data_bytes l) (drop (row * j) flat)) en
    ∙ sym (take-take (data_bytes l) (body_bytes l) (drop (row * body_bytes l) flat) (omega arith))

module _ (s : System) (t : Terms) where
  -- the data bytes of a body hold its data symbols
  front_holds : (body buffer : List ℕ) → length body ≡ body_bytes t.layout → buffer ≡ take (data_bytes t.layout) body → Bytes buffer
      → Holds s t (take (data_symbols s (shape_of t.layout)) (symbols_in s body)) buffer
  front_holds body buffer long e b = record {
    long = ap length e ∙ length-take-le (data_bytes t.layout) body (omega arith);
    bytes = b;
    are = ap (symbols_in s) e ∙ symbols_in_take s (data_bytes t.layout) body (omega arith);
  }

  module _ (st : Store) (row : ℕ) (old : List ℕ) where
    -- a row that is not lost
    pub read_direct : (body new : List ℕ) (c : Condition) (b : Bool) → RowJudged s t row (at st row) body c → b ≡ is_lost c → b ≡ false → length body ≡ body_bytes t.layout
        → new ≡ take (data_bytes t.layout) body → Bytes new → Reads s t st row old new (taken [])
    read_direct body new c b j eb sound long e bytes =
        let fine : is_lost c ≡ false = sym eb ∙ sound in
        let here : lost_at s t (at st) row ≡ false = ap is_lost (sym j.is) ∙ fine in
        record {
          direct = λ _. (
            refl,
            subst (λ (xs : Symbols s). Holds s t (take (data_symbols s (shape_of t.layout)) xs) new) (j.word fine) (front_holds body new long e bytes),
          );
          over = λ h k. absurd (both_ways (lost_at s t (at st) row) here h);
          filled = λ h k. absurd (both_ways (lost_at s t (at st) row) here h);
        }

    module _ (lost : lost_at s t (at st) row ≡ true) (flat : List ℕ) (broken : List Bool) where
      -- a lost row that is filled
      pub read_filled : (new : List ℕ) → length flat ≡ row_count t.layout * body_bytes t.layout → row < row_count t.layout
          → Recovered s t (at st) flat broken (Ok tt) → new ≡ take (data_bytes t.layout) (body_at t.layout flat row) → Bytes new → Reads s t st row old new (taken [])
      read_filled new long few h e bytes = record {
        direct = λ k. absurd (both_ways (lost_at s t (at st) row) k lost);
        over = λ _ k. absurd (let l = h.0 in let z : ⊥ = omega arith in z);
        filled = λ _ _.
            inl (
              data_of s t (at st) flat,
              h.2,
              refl,
              subst (λ (xs : Symbols s). Holds s t xs new) (sym (row_of s t (at st) flat row few))
                  (front_holds (body_at t.layout flat row) new (length_body t.layout flat row long few) e bytes),
            );
      }
