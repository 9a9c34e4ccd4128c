-- What the correction of a body says of it.
use Rattle.std.proofs.Common.{◌≡◌, ℕ, ◌-◌, ◌*◌, ◌<◌, ◌≤◌, true, false, ltb, List, length, get_or, set, Some, Ok, Err, MatchBool, Result, sym, ap, ◌∙◌, subst, mul-le-mul, arith}
use lib.ListN.{length-map}
use Rattle.std.proofs.lemmas.List.{map-set, get_or-map}
use Rattle.std.proofs.lemmas.Bool.{le-ltb}
use Rattle.field.specs.Systems.{System, symbol}
use Rattle.field.proofs.Sizes.{per_some}
use Rattle.code.specs.Codewords.{symbols}
use Rattle.code.specs.Acceptance.{Correction}
use Rattle.code.specs.declared.correct.Verdict.{Verdict}
use Rattle.code.specs.declared.correct.Verdict.TheVariants.{Clean as Intact, Corrected as Changed, OutOfReach as Beyond}
use Rattle.code.specs.declared.error.CodeError.{CodeError}
use Rattle.code.specs.declared.error.CodeError.TheVariants.{UnequalLengths, TooLong, TooFewChecks, TooManyChecks, TooManyUnknown, NoCodeword}
use Rattle.grid.specs.Packing.{unpacked}
use Rattle.grid.specs.Answers.{RowCorrection, BytesCorrected}
use Rattle.grid.specs.Grids.{row_symbols, check_symbols}
use Rattle.grid.proofs.Parts.{length_unpacked}
use Rattle.block.specs.Layouts.{shape_of, body_bytes}
use Rattle.block.specs.Conditions.{symbols_in, judgement}
use Rattle.block.specs.declared.layout.Layout.{Layout}
use Rattle.block.specs.declared.layout.Layout.TheVariants.{Audio, Video, Subcode}
use Rattle.block.specs.declared.condition.Condition.{Condition}
use Rattle.block.proofs.Judging.{judged_clean, judged_corrected, judged_out}
use Rattle.sector.specs.Judgements.{corrected, BodyJudged}

-- a row of every layout has two check bytes or more
two_checks : (l : Layout) → 2 ≤ (shape_of l).check_bytes
two_checks Audio = omega arith
two_checks Video = omega arith
two_checks Subcode = omega arith

module _ (s : System) (l : Layout) where
  abbrev C : ℕ
  C = check_symbols s (shape_of l)

  pub enough_checks : 2 ≤ C
  enough_checks = mul-le-mul {n₁ = 2} {m₁ = 1} {n₂ = (shape_of l).check_bytes} {m₂ = s.per} (two_checks l) (per_some s)

  module _ (old new : List ℕ) (long : length old ≡ body_bytes l) (short : row_symbols s (shape_of l) < s.order) where
    pub symbols_long : length (symbols_in s old) ≡ row_symbols s (shape_of l)
    symbols_long = length-map (unpacked s old) (symbol s) ∙ length_unpacked s old ∙ ap (λ n. n * s.per) long

    unpacked_long : length (unpacked s old) ≡ row_symbols s (shape_of l)
    unpacked_long = length_unpacked s old ∙ ap (λ n. n * s.per) long

    few : length (symbols_in s old) ≤ s.order - 1
    few = omega (arith, symbols_long)

    by_verdict : (r : Result Verdict CodeError) → Correction s C (unpacked s old) (unpacked s new) r → BodyJudged s l old new (corrected r)
    by_verdict (Ok Intact) h =
        let found = judged_clean s C (symbols_in s old) enough_checks few h.3.2 in
        let same : symbols_in s new ≡ symbols_in s old = ap (symbols s) h.3.0 in
        record {
          is = sym (ap (judgement s (symbols_in s old)) found.0 ∙ found.1);
          word = λ _. ap Some same ∙ sym found.0;
        }
    by_verdict (Ok (Changed p)) h =
        let j = h.3 in
        let v = get_or (unpacked s new) p 0 in
        let made : symbols_in s new ≡ set (symbols_in s old) p (symbol s v) = ap (symbols s) j.1 ∙ map-set (symbol s) (unpacked s old) p v in
        let here : get_or (symbols_in s old) p s.on.nil ≡ symbol s (get_or (unpacked s old) p 0) = get_or-map (symbol s) (unpacked s old) p 0 s.on.nil j.0 in
        let found =
        judged_corrected s C (symbols_in s old) enough_checks few (symbols_in s new) p (symbol s v) s.on.nil j.4 made
        (λ e. j.2 (sym e ∙ here)) (omega (arith, j.0, unpacked_long, symbols_long))
        in
        record {
          is = sym (ap (judgement s (symbols_in s old)) found.0 ∙ found.1);
          word = λ _. sym found.0;
        }
    by_verdict (Ok Beyond) h =
        let found = judged_out s C (symbols_in s old) enough_checks few h.3.1 in
        record { is = sym (ap (judgement s (symbols_in s old)) found.0); word = λ e. absurd (lost_is e) }
      where
        lost_is : true ≡ false → ⊥
        lost_is e = let z : ◌≡◌ {A = ℕ} 0 1 = cc in omega arith
    by_verdict (Err TooLong) h = absurd (let k = h.0 in let z : ⊥ = omega (arith, unpacked_long) in z)
    by_verdict (Err TooFewChecks) h = absurd (let k = h.1 in let z : ⊥ = omega (arith, enough_checks) in z)
    by_verdict (Err TooManyChecks) h = absurd (let k = h.2 in let z : ⊥ = omega (arith, unpacked_long, within) in z)
      where
        within : C ≤ row_symbols s (shape_of l)
        within = mul-le-mul {n₁ = (shape_of l).check_bytes} {m₁ = s.per} {n₂ = body_bytes l} {m₂ = s.per} (omega arith) (omega arith)
    by_verdict (Err UnequalLengths) h = absurd h
    by_verdict (Err TooManyUnknown) h = absurd h
    by_verdict (Err NoCodeword) h = absurd h

    -- a body is judged by its correction
    pub body_judged : (checks : ℕ) (r : Result Verdict CodeError) (c : Condition) → checks ≡ (shape_of l).check_bytes → RowCorrection s checks old new r → c ≡ corrected r
        → BodyJudged s l old new c
    body_judged checks r c e h is =
        let P = (r ≡ Err TooManyChecks) × (new ≡ old) in
        let taken : ltb (length old) (shape_of l).check_bytes ≡ false = le-ltb (length old) (shape_of l).check_bytes (omega arith) in
        let here : RowCorrection s (shape_of l).check_bytes old new r = subst (λ k. RowCorrection s k old new r) e h in
        let fixed : BytesCorrected s C old new r = subst (λ b. MatchBool b ((r ≡ Err TooManyChecks) × (new ≡ old)) (BytesCorrected s C old new r)) taken here in
        subst (BodyJudged s l old new) (sym is) (by_verdict r fixed.symbols)
