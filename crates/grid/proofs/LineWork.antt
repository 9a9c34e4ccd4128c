-- Lines that are copied out, worked on and copied back.
use Rattle.std.proofs.Common.{◌≡◌, ℕ, ◌+◌, ◌*◌, ◌%◌, ◌<◌, ◌≤◌, Bool, true, false, ltb, List, length, get_or, Ok, Err, MatchBool, Result, sym, refl, ap, ◌∙◌, subst, mod-eq_of_lt, mul-lt-mul_of_pos_right, mul-one, arith, get_or-set_other}
use native.Mathlib.Decide.{ℕ_discrete, dec_lt}
use Rattle.std.proofs.lemmas.List.FromFn.{length-map-range_with_len, get_or-map-range_with_len, fill_by_all}
use Rattle.std.proofs.lemmas.List.{ext_get_or}
use Rattle.std.proofs.lemmas.Bool.{le-ltb}
use Rattle.field.specs.Systems.{System}
use Rattle.code.specs.Codewords.{count}
use Rattle.code.specs.Filling.{Filled, Filling, Encoded, Encoding}
use Rattle.code.specs.Acceptance.{Judged, Correction}
use Rattle.code.specs.declared.correct.Verdict.{Verdict}
use Rattle.code.specs.declared.correct.Verdict.TheVariants.{Clean, Corrected, OutOfReach}
use Rattle.code.specs.declared.error.CodeError.{CodeError}
use Rattle.code.specs.declared.error.CodeError.TheVariants.{UnequalLengths, TooLong, TooFewChecks, TooManyChecks, TooManyUnknown, NoCodeword}
use Rattle.grid.specs.Packing.{symbol_at, unpacked}
use Rattle.grid.specs.Grids.{line}
use Rattle.grid.specs.Answers.{is_corrected, BytesCorrected, RowCorrection}
use Rattle.grid.specs.Fillable.{FilledIf}
use Rattle.grid.specs.Line.{on, Written, Redone}
use Rattle.grid.specs.declared.lines.Line.{Line}
use Rattle.grid.proofs.Parts.{symbol_small, length_unpacked, get_or_unpacked}

module _ (s : System) where
  pub length_line : (bytes : List ℕ) (start step n : ℕ) → length (line s bytes start step n) ≡ n
  unfolding line
  length_line bytes start step n = length-map-range_with_len (λ i. symbol_at s bytes (i * step + start)) 0 n

  pub get_or_line : (bytes : List ℕ) (start step n i : ℕ) → i < n → get_or (line s bytes start step n) i 0 ≡ symbol_at s bytes (i * step + start)
  unfolding line
  get_or_line bytes start step n i l = get_or-map-range_with_len (λ k. symbol_at s bytes (k * step + start)) 0 n i i 0 l (omega arith)

  pub gathered : (out bytes : List ℕ) (start step n m : ℕ) → length out ≡ n → n ≤ m → ((k : ℕ) → k < m → get_or out k 0 ≡ symbol_at s bytes (k * step + start)) → out ≡ line s bytes start step n
  unfolding line
  gathered out bytes start step n m l e h = fill_by_all (λ i. symbol_at s bytes (i * step + start)) out n 0 l (λ k lk. h k (omega arith))

  -- two lines with the same symbols
  pub same_line : (a b : List ℕ) (start step n : ℕ) → ((i : ℕ) → i < n → symbol_at s a (i * step + start) ≡ symbol_at s b (i * step + start)) → line s a start step n ≡ line s b start step n
  same_line a b start step n h =
      gathered (line s a start step n) b start step n n (length_line a start step n) (omega arith) (λ k l. get_or_line a start step n k l ∙ h k l)

  on_small : (l : Line) (bytes : List ℕ) (i : ℕ) → i < length (on s l bytes) → get_or (on s l bytes) i 0 < s.order
  on_small l bytes i h =
      let n = length_line bytes l.start l.step l.len in
      subst (λ k. k < s.order) (sym (get_or_line bytes l.start l.step l.len i (omega arith))) (symbol_small s bytes (i * l.step + l.start))

  -- a copy
  copy_long : (l : Line) (bytes copy : List ℕ) → copy ≡ on s l bytes → length copy ≡ l.len
  copy_long l bytes copy e = ap length e ∙ length_line bytes l.start l.step l.len

  copy_small : (l : Line) (bytes copy : List ℕ) → copy ≡ on s l bytes → (i : ℕ) → i < length copy → get_or copy i 0 < s.order
  copy_small l bytes copy e i h =
      subst (λ (x : List ℕ). get_or x i 0 < s.order) (sym e) (on_small l bytes i (subst (λ (x : List ℕ). i < length x) e h))

  -- one symbol more is written
  module _ (l : Line) (k : ℕ) (word old now new : List ℕ) (w : Written s l k word old now)
      (this : symbol_at s new (k * l.step + l.start) ≡ get_or word k 0 % s.order)
      (others : (i : ℕ) → (i ≡ k * l.step + l.start → ⊥) → symbol_at s new i ≡ symbol_at s now i) where
    before : (i : ℕ) → i < k → i * l.step + l.start ≡ k * l.step + l.start → ⊥
    before i h e = let m : i * l.step < k * l.step = mul-lt-mul_of_pos_right h l.apart in omega arith

    pub written_more : Written s l (k + 1) word old new
    written_more = record {
      online = λ i h. at i h (ℕ_discrete i k);
      offline = λ p h.
          others p (λ e. h k (omega arith) e) ∙ w.offline p (λ i m e. h i (omega arith) e);
    }
      where
        at : (i : ℕ) → i < k + 1 → Dec (i ≡ k) → symbol_at s new (i * l.step + l.start) ≡ get_or word i 0 % s.order
        at i h (yes e) = subst (λ j. symbol_at s new (j * l.step + l.start) ≡ get_or word j 0 % s.order) (sym e) this
        at i h (no ne) = others (i * l.step + l.start) (before i (omega arith)) ∙ w.online i (omega arith)

  -- a line that was copied out, made another list of symbols, and copied back
  pub redone : (P : List ℕ → List ℕ → Type 0) (l : Line) (old new before after : List ℕ) → before ≡ on s l old → length after ≡ l.len
      → Written s l l.len after old new → ((i : ℕ) → i < length after → get_or after i 0 < s.order) → P before after → Redone s l P old new
  redone P l old new before after eb la w small p = record {
    done = subst (λ (x : List ℕ). P x (on s l new)) eb (subst (λ (x : List ℕ). P before x) is p);
    offline = w.offline;
  }
    where
      is : after ≡ on s l new
      is = gathered after new l.start l.step l.len l.len la (omega arith) (λ k h. sym (w.online k h ∙ mod-eq_of_lt (small k (omega arith))))

  -- encoding fits
  pub encoding_ok : (c : ℕ) (old new : List ℕ) (r : Result (Unit {0}) CodeError) → length old < s.order → c ≤ length old → Encoding s c old new r → Encoded s c old new
  encoding_ok c old new (Ok u) short few e = e.2
  encoding_ok c old new (Err TooLong) short few e = let l = e.0 in absurd (let z : ⊥ = omega arith in z)
  encoding_ok c old new (Err TooManyChecks) short few e = let l = e.1 in absurd (let z : ⊥ = omega arith in z)
  encoding_ok c old new (Err UnequalLengths) short few e = absurd e
  encoding_ok c old new (Err TooFewChecks) short few e = absurd e
  encoding_ok c old new (Err TooManyUnknown) short few e = absurd e
  encoding_ok c old new (Err NoCodeword) short few e = absurd e

  encoded_small : (c : ℕ) (old new : List ℕ) → Encoded s c old new → ((i : ℕ) → i < length old → get_or old i 0 < s.order) → (i : ℕ) → i < length old → get_or new i 0 < s.order
  encoded_small c old new e h i l = go (dec_lt (i + c) (length old))
    where
      go : Dec (i + c < length old) → get_or new i 0 < s.order
      go (yes k) = subst (λ n. n < s.order) (sym (e.same i k)) (h i l)
      go (no k) = let ln = e.long in e.small i (omega arith) (omega arith)

  filled_small : (c : ℕ) (bs : List Bool) (old new : List ℕ) → Filled s c bs old new → length new ≡ length old → ((i : ℕ) → i < length old → get_or old i 0 < s.order)
      → (i : ℕ) → i < length old → get_or new i 0 < s.order
  filled_small c bs old new e ln h i l = go (get_or bs i false) refl
    where
      go : (b : Bool) → get_or bs i false ≡ b → get_or new i 0 < s.order
      go true t = e.small i (omega arith) t
      go false t = subst (λ n. n < s.order) (sym (e.same i t)) (h i l)

  pub encode_redone : (l : Line) (old new before after : List ℕ) (r : Result (Unit {0}) CodeError) → l.len < s.order → before ≡ on s l old → length after ≡ length before
      → Encoding s l.checks before after r → Written s l l.len after old new → Redone s l (Encoded s l.checks) old new
  encode_redone l old new before after r short eb la e w =
      let room = l.room in
      let lb = copy_long l old before eb in
      let done : Encoded s l.checks before after = encoding_ok l.checks before after r (omega arith) (omega arith) e in
      redone (Encoded s l.checks) l old new before after eb (omega arith) w
      (λ i h. encoded_small l.checks before after done (copy_small l old before eb) i (omega arith)) done

  -- where filling fits, it is done or there is none
  filling_if : (c : ℕ) (bs : List Bool) (old new : List ℕ) (r : Result (Unit {0}) CodeError) → length bs ≡ length old → length old < s.order → c ≤ length old → count bs ≤ c → Filling s c bs old new r → FilledIf s c bs old new
  filling_if c bs old new (Ok u) lb short room few e f = e.4
  filling_if c bs old new (Err UnequalLengths) lb short room few e f = absurd (e.0 lb)
  filling_if c bs old new (Err TooLong) lb short room few e f = let l = e.1 in absurd (let z : ⊥ = omega arith in z)
  filling_if c bs old new (Err TooManyUnknown) lb short room few e f = let l = e.3 in absurd (let z : ⊥ = omega arith in z)
  filling_if c bs old new (Err NoCodeword) lb short room few e f = absurd (e.4 f.0 f.1)
  filling_if c bs old new (Err TooFewChecks) lb short room few e f = absurd e
  filling_if c bs old new (Err TooManyChecks) lb short room few e f = let l = e.2 in absurd (let z : ⊥ = omega arith in z)

  filling_small : (c : ℕ) (bs : List Bool) (old new : List ℕ) (r : Result (Unit {0}) CodeError) → length new ≡ length old → ((i : ℕ) → i < length old → get_or old i 0 < s.order) → Filling s c bs old new r
      → (i : ℕ) → i < length old → get_or new i 0 < s.order
  filling_small c bs old new (Ok u) ln h e i l = filled_small c bs old new e.4 ln h i l
  filling_small c bs old new (Err UnequalLengths) ln h e i l = subst (λ (x : List ℕ). get_or x i 0 < s.order) (sym e.1) (h i l)
  filling_small c bs old new (Err TooLong) ln h e i l = subst (λ (x : List ℕ). get_or x i 0 < s.order) (sym e.2) (h i l)
  filling_small c bs old new (Err TooManyUnknown) ln h e i l = subst (λ (x : List ℕ). get_or x i 0 < s.order) (sym e.4) (h i l)
  filling_small c bs old new (Err NoCodeword) ln h e i l = subst (λ (x : List ℕ). get_or x i 0 < s.order) (sym e.5) (h i l)
  filling_small c bs old new (Err TooFewChecks) ln h e i l = absurd e
  filling_small c bs old new (Err TooManyChecks) ln h e i l = subst (λ (x : List ℕ). get_or x i 0 < s.order) (sym e.3) (h i l)

  pub fill_redone : (l : Line) (bs : List Bool) (old new before after : List ℕ) (r : Result (Unit {0}) CodeError) → l.len < s.order → length bs ≡ l.len → count bs ≤ l.checks → before ≡ on s l old → length after ≡ length before
      → Filling s l.checks bs before after r → Written s l l.len after old new → Redone s l (FilledIf s l.checks bs) old new
  fill_redone l bs old new before after r short lbs few eb la e w =
      let room = l.room in
      let lb = copy_long l old before eb in
      redone (FilledIf s l.checks bs) l old new before after eb (omega arith) w
      (λ i h. filling_small l.checks bs before after r (omega arith) (copy_small l old before eb) e i (omega arith))
      (filling_if l.checks bs before after r (omega arith) (omega arith) (omega arith) few e)

  -- a byte string as one line
  whole_line : (bytes : List ℕ) → line s bytes 0 1 (length bytes * s.per) ≡ unpacked s bytes
  whole_line bytes =
      ext_get_or 0 (line s bytes 0 1 (length bytes * s.per)) (unpacked s bytes) (length_line bytes 0 1 (length bytes * s.per) ∙ sym (length_unpacked s bytes))
      (λ k l.
      let n = length_line bytes 0 1 (length bytes * s.per) in
      let here : k * 1 + 0 ≡ k = let m = mul-one k in omega arith in
      get_or_line bytes 0 1 (length bytes * s.per) k (omega arith) ∙ ap (symbol_at s bytes) here ∙ sym (get_or_unpacked s bytes k (omega arith)))

  correction_small : (c : ℕ) (old new : List ℕ) (r : Result Verdict CodeError) → Correction s c old new r → ((i : ℕ) → i < length old → get_or old i 0 < s.order)
      → (i : ℕ) → i < length old → get_or new i 0 < s.order
  correction_small c old new (Ok Clean) e h i l = subst (λ (x : List ℕ). get_or x i 0 < s.order) (sym e.3.0) (h i l)
  correction_small c old new (Ok OutOfReach) e h i l = subst (λ (x : List ℕ). get_or x i 0 < s.order) (sym e.3.0) (h i l)
  correction_small c old new (Ok (Corrected p)) e h i l = go (ℕ_discrete i p)
    where
      j : Judged s c old new (Corrected p)
      j = e.3

      go : Dec (i ≡ p) → get_or new i 0 < s.order
      go (yes same) = subst (λ k. get_or new k 0 < s.order) (sym same) j.3
      go (no ne) =
          subst (λ n. n < s.order) (sym (ap (λ (x : List ℕ). get_or x i 0) j.1 ∙ get_or-set_other old p i (get_or new p 0) 0 ne)) (h i l)
  correction_small c old new (Err TooLong) e h i l = subst (λ (x : List ℕ). get_or x i 0 < s.order) (sym e.1) (h i l)
  correction_small c old new (Err TooFewChecks) e h i l = subst (λ (x : List ℕ). get_or x i 0 < s.order) (sym e.2) (h i l)
  correction_small c old new (Err TooManyChecks) e h i l = subst (λ (x : List ℕ). get_or x i 0 < s.order) (sym e.3) (h i l)
  correction_small c old new (Err UnequalLengths) e h i l = absurd e
  correction_small c old new (Err TooManyUnknown) e h i l = absurd e
  correction_small c old new (Err NoCodeword) e h i l = absurd e

  -- nothing was corrected: the list is as it was
  correction_else : (c : ℕ) (old new : List ℕ) (r : Result Verdict CodeError) → is_corrected r ≡ false → Correction s c old new r → new ≡ old
  correction_else c old new (Ok Clean) n e = e.3.0
  correction_else c old new (Ok OutOfReach) n e = e.3.0
  correction_else c old new (Ok (Corrected p)) n e = absurd (let z : ◌≡◌ {A = ℕ} 0 1 = cc in let y : ⊥ = omega arith in y)
  correction_else c old new (Err TooLong) n e = e.1
  correction_else c old new (Err TooFewChecks) n e = e.2
  correction_else c old new (Err TooManyChecks) n e = e.3
  correction_else c old new (Err UnequalLengths) n e = absurd e
  correction_else c old new (Err TooManyUnknown) n e = absurd e
  correction_else c old new (Err NoCodeword) n e = absurd e

  -- what corrects a copy of the whole byte string corrects its symbols
  module _ (l : Line) (old : List ℕ) (start : l.start ≡ 0) (step : l.step ≡ 1) (len : l.len ≡ length old * s.per) where
    whole : (bytes : List ℕ) → length bytes ≡ length old → on s l bytes ≡ unpacked s bytes
    whole bytes e =
        ap (λ i. line s bytes i l.step l.len) start ∙ ap (λ i. line s bytes 0 i l.len) step
        ∙ ap (line s bytes 0 1) (len ∙ ap (λ n. n * s.per) (sym e)) ∙ whole_line bytes

    module _ (before after : List ℕ) (r : Result Verdict CodeError) (eb : before ≡ on s l old) (e : Correction s l.checks before after r) where
      pub corrected_then : (new : List ℕ) → length new ≡ length old → length after ≡ length before → is_corrected r ≡ true → Written s l l.len after old new → BytesCorrected s l.checks old new r
      corrected_then new ln la t w =
          let lb = copy_long l old before eb in
          let small : (i : ℕ) → i < length after → get_or after i 0 < s.order = λ i h.
          correction_small l.checks before after r e (copy_small l old before eb) i (omega arith)
          in
          let done = redone (λ (x y : List ℕ). Correction s l.checks x y r) l old new before after eb (omega arith) w small e in
          record {
            symbols =
                subst (λ (x : List ℕ). Correction s l.checks x (unpacked s new) r) (whole old refl)
                (subst (λ (x : List ℕ). Correction s l.checks (on s l old) x r) (whole new ln) done.done);
            kept = λ f. absurd (let u : true ≡ false = sym t ∙ f in let z : ◌≡◌ {A = ℕ} 0 1 = cc in let y : ⊥ = omega arith in y);
          }

      pub corrected_else : is_corrected r ≡ false → BytesCorrected s l.checks old old r
      corrected_else f =
          let is : before ≡ unpacked s old = eb ∙ whole old refl in
          record {
            symbols =
                subst (λ (x : List ℕ). Correction s l.checks x (unpacked s old) r) is
                (subst (λ (x : List ℕ). Correction s l.checks before x r) (correction_else l.checks before after r f e ∙ is) e);
            kept = λ _. refl;
          }

  choose : (A B : Type 0) (a b : ℕ) → b ≤ a → B → MatchBool (ltb a b) A B
  choose A B a b l x = subst (λ t. MatchBool t A B) (sym (le-ltb a b l)) x

  pub too_long_row : (c : ℕ) (old new : List ℕ) → new ≡ old → c ≤ length old → s.order ≤ length old * s.per → RowCorrection s c old new (Err TooLong)
  too_long_row c old new e l h =
      choose ((◌≡◌ {A = Result Verdict CodeError} (Err TooLong) (Err TooManyChecks)) × (new ≡ old)) (BytesCorrected s (c * s.per) old new (Err TooLong)) (length old) c l
      record { symbols = (subst (λ n. s.order ≤ n) (sym (length_unpacked s old)) h, ap (unpacked s) e); kept = λ _. e }
