-- The model depends on the rows' places alone, and keeps them within reach of the closed bodies.
use Rattle.std.proofs.Common.{◌≡◌, ℕ, ◌<◌, Bool, true, false, cond, not, ◌&&◌, ◌||◌, eqb, ltb, leb, List, [], ◌∷◌, map, length, get_or, take, Some, None, Option, sym, refl, ap, ◌∙◌, subst, ap₂, arith}
use Rattle.std.specs.List.{range_with_len}
use Rattle.std.proofs.lemmas.List.FromFn.{length-map-range_with_len, get_or-map-range_with_len, fill_by_all}
use Rattle.std.proofs.lemmas.Bool.{ltb-true, eqb-true}
use Rattle.byte_string.specs.Bytes.{Bytes}
use Rattle.field.specs.Systems.{System}
use Rattle.code.specs.Codewords.{count}
use Rattle.code.proofs.Apartness.{distance_self}
use Rattle.byte_string.proofs.Bytes.{bytes_drop}
use Rattle.block.specs.Layouts.{row_count, data_rows, check_rows, data_bytes, block_width}
use Rattle.block.specs.Conditions.{condition_values, condition, is_lost, is_clean}
use Rattle.block.specs.declared.condition.Condition.{Condition}
use Rattle.sector.specs.Answers.{Answer, taken, refused, guarded, is_taken}
use Rattle.sector.specs.Bodies.{block_of, Closed}
use Rattle.sector.specs.Opening.{Contents}
use Rattle.sector.specs.Fillings.{condition_at, lost_at, lost_count, broken_count}
use Rattle.sector.specs.declared.terms.Terms.{Terms}
use Rattle.replay.specs.Model.{part_of, with_part, replaced, closed_block, repairable, call_answer, call_after, memory_after, Fair}
use Rattle.replay.specs.declared.script.Call.{Call}
use Rattle.replay.specs.declared.script.Call.TheVariants.{PutBlock, Erase, Check, Read, Repair}
use Rattle.replay.proofs.Rows.{sent, Close, Held, Good, two_checks}

counted_same : (f g : ℕ → Bool) (n : ℕ) → ((r : ℕ) → r < n → f r ≡ g r) → map f (range_with_len 0 n) ≡ map g (range_with_len 0 n)
counted_same f g n h =
    fill_by_all g (map f (range_with_len 0 n)) n false (length-map-range_with_len f 0 n)
    (λ k lk. get_or-map-range_with_len f 0 n k k false lk (omega arith) ∙ h k lk)

guard_same : (b : Bool) (k : ℕ) (x y : Answer) → (b ≡ true → x ≡ y) → guarded b k x ≡ guarded b k y
guard_same true k x y h = h refl
guard_same false k x y h = refl

choice_same : (b : Bool) (P Q P' Q' : Contents) (r : ℕ) → P r ≡ P' r → Q r ≡ Q' r → cond b P Q r ≡ cond b P' Q' r
choice_same true P Q P' Q' r e f = e
choice_same false P Q P' Q' r e f = f

module _ (s : System) (t : Terms) where
  -- the same at every row's place
  abbrev pub Same : Contents → Contents → Type 0
  Same P Q = (r : ℕ) → r < row_count t.layout → P r ≡ Q r

  module _ (P Q : Contents) (same : Same P Q) where
    condition_same : (r : ℕ) → r < row_count t.layout → condition_at s t P r ≡ condition_at s t Q r
    condition_same r lr = ap (condition s t.layout t.pair r) (same r lr)

    lost_same : lost_count s t P ≡ lost_count s t Q
    lost_same = ap count (counted_same (lost_at s t P) (lost_at s t Q) (row_count t.layout) (λ r lr. ap is_lost (condition_same r lr)))

    broken_same : broken_count s t P ≡ broken_count s t Q
    broken_same =
        ap count
        (counted_same (λ r. not (is_clean (condition_at s t P r))) (λ r. not (is_clean (condition_at s t Q r))) (row_count t.layout)
        (λ r lr. ap (λ (c : Condition). not (is_clean c)) (condition_same r lr)))

    module _ (bodies : List (List ℕ)) where
      pub answer_same : (memory : List ℕ) (c : Call) → call_answer t s bodies P memory c ≡ call_answer t s bodies Q memory c
      answer_same memory (PutBlock row block) = refl
      answer_same memory (Erase row) = refl
      answer_same memory (Check row) =
          guard_same (ltb row (row_count t.layout)) 7 (taken (condition_values (condition_at s t P row))) (taken (condition_values (condition_at s t Q row)))
          (λ e. ap (λ (c : Condition). taken (condition_values c)) (condition_same row (ltb-true row (row_count t.layout) e)))
      answer_same memory (Read row from to) =
          let part = eqb (length (part_of memory from to)) (data_bytes t.layout) in
          let had : Bool → ℕ → Answer = λ lost m. guarded part 8 (cond (not lost || leb m (check_rows t.layout)) (taken []) (refused 9 (m ∷ []))) in
          guard_same (ltb row (data_rows t.layout)) 7 (had (lost_at s t P row) (lost_count s t P)) (had (lost_at s t Q row) (lost_count s t Q))
          (λ e.
          let l = ltb-true row (data_rows t.layout) e in
          ap₂ had (ap is_lost (condition_same row (omega arith))) lost_same)
      answer_same memory Repair =
          ap₂ (λ (m k : ℕ). cond (leb m (check_rows t.layout)) (taken (k ∷ [])) (refused 9 (m ∷ []))) lost_same broken_same

      pub memory_same : (memory : List ℕ) (c : Call) → memory_after t s bodies P memory c ≡ memory_after t s bodies Q memory c
      memory_same memory (PutBlock row block) = refl
      memory_same memory (Erase row) = refl
      memory_same memory (Check row) = refl
      memory_same memory (Read row from to) =
          ap (λ (a : Answer). cond (is_taken a) (with_part memory from to (take (data_bytes t.layout) (get_or bodies row []))) memory)
          (answer_same memory (Read row from to))
      memory_same memory Repair = refl

      pub after_same : (c : Call) → Same (call_after t s bodies P c) (call_after t s bodies Q c)
      after_same (PutBlock row block) r lr =
          choice_same (ltb row (row_count t.layout) && eqb (length block.now) (block_width t.layout))
          (replaced P row (Some block.now)) P (replaced Q row (Some block.now)) Q r
          (ap (λ (o : Option (List ℕ)). cond (eqb r row) (Some block.now) o) (same r lr)) (same r lr)
      after_same (Erase row) r lr =
          choice_same (ltb row (row_count t.layout)) (replaced P row None) P (replaced Q row None) Q r
          (ap (λ (o : Option (List ℕ)). cond (eqb r row) None o) (same r lr)) (same r lr)
      after_same (Check row) r lr = same r lr
      after_same (Read row from to) r lr = same r lr
      after_same Repair r lr =
          let restored : Contents → Contents = λ P r. cond (is_clean (condition_at s t P r)) (P r) (closed_block t s bodies r) in
          ap (λ (m : ℕ). cond (leb m (check_rows t.layout)) (restored P) P r) lost_same
          ∙ choice_same (repairable t s bodies Q) (restored P) P (restored Q) Q r
          (ap (λ (o : Option (List ℕ)). cond (is_clean (condition s t.layout t.pair r o)) o (closed_block t s bodies r)) (same r lr)) (same r lr)

-- what is put are bytes
abbrev pub InBytes : Call → Type 0
InBytes (PutBlock row block) = Bytes block.now
InBytes (Erase row) = Unit {0}
InBytes (Check row) = Unit {0}
InBytes (Read row from to) = Unit {0}
InBytes Repair = Unit {0}

module _ (s : System) (t : Terms) (rows : ℕ → List ℕ) (bodies : List (List ℕ)) (closed : Closed s t.layout rows bodies) where
  closed_close : (r : ℕ) → r < row_count t.layout → Close s t bodies r (block_of t.layout t.pair r (get_or bodies r []))
  closed_close r lr =
      let body = closed.each r lr in
      let long = body.long in
      record {
        long = omega arith;
        bytes = body.bytes;
        near = omega (arith, distance_self (sent s t bodies r), two_checks s t.layout);
      }

  pub closed_good : Good s t bodies (closed_block t s bodies)
  closed_good r lr = closed_close r lr

  choice_good : (b : Bool) (P Q : Contents) → (b ≡ true → Good s t bodies P) → Good s t bodies Q → Good s t bodies (cond b P Q)
  choice_good true P Q g h = g refl
  choice_good false P Q g h = h

  held_choice : (b : Bool) (r : ℕ) (o p : Option (List ℕ)) → Held s t bodies r o → Held s t bodies r p → Held s t bodies r (cond b o p)
  held_choice true r o p g h = g
  held_choice false r o p g h = h

  replaced_good : (P : Contents) (row : ℕ) (o : Option (List ℕ)) → Good s t bodies P → Held s t bodies row o → Good s t bodies (replaced P row o)
  replaced_good P row o g h r lr = go (eqb r row) refl
    where
      go : (b : Bool) → eqb r row ≡ b → Held s t bodies r (cond b o (P r))
      go true e = subst (λ k. Held s t bodies k o) (sym (eqb-true r row e)) h
      go false e = g r lr

  put_good : (P : Contents) (row : ℕ) (block : List ℕ) (x y : Bool) → Good s t bodies P → (x ≡ true → y ≡ true → Close s t bodies row block)
      → Good s t bodies (cond (x && y) (replaced P row (Some block)) P)
  put_good P row block true true g h = replaced_good P row (Some block) g (h refl refl)
  put_good P row block true false g h = g
  put_good P row block false y g h = g

  pub after_good : (P : Contents) (c : Call) → Good s t bodies P → Fair t s bodies c → InBytes c → Good s t bodies (call_after t s bodies P c)
  after_good P (PutBlock row block) g f b =
      put_good P row block.now (ltb row (row_count t.layout)) (eqb (length block.now) (block_width t.layout)) g
      (λ e h.
      let l = ltb-true row (row_count t.layout) e in
      let long = eqb-true (length block.now) (block_width t.layout) h in
      record { long = long; bytes = bytes_drop 3 block.now b; near = f l long })
  after_good P (Erase row) g f b =
      choice_good (ltb row (row_count t.layout)) (replaced P row None) P (λ e. replaced_good P row None g tt) g
  after_good P (Check row) g f b = g
  after_good P (Read row from to) g f b = g
  after_good P Repair g f b =
      choice_good (repairable t s bodies P) (λ r. cond (is_clean (condition_at s t P r)) (P r) (closed_block t s bodies r)) P
      (λ e r lr. held_choice (is_clean (condition_at s t P r)) r (P r) (closed_block t s bodies r) (g r lr) (closed_good r lr)) g
