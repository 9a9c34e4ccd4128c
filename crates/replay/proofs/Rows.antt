-- Rows that hold a block within reach of their closed body: what is accepted of such a row is that body.
use Rattle.std.proofs.Common.{◌≡◌, ℕ, suc, ◌*◌, ◌<◌, ◌≤◌, Bool, true, false, cond, List, [], ◌∷◌, length, get_or, drop, Some, None, Option, unwrap_or, sym, refl, ap, ◌∙◌, arith, length-drop}
use Rattle.byte_string.specs.Bytes.{Bytes}
use Rattle.field.specs.Systems.{System}
use Rattle.field.proofs.Sizes.{per_some}
use Rattle.code.specs.Codewords.{Symbols, differences, count, distance}
use Rattle.code.specs.Acceptance.{Near, Accepted}
use Rattle.code.proofs.Apartness.{alike}
use Rattle.code.proofs.Reach.{accepted_sent}
use Rattle.code.proofs.Trying.{nearest_accepted}
use Rattle.grid.specs.Grids.{row_symbols, check_symbols}
use Rattle.block.specs.Layouts.{shape_of, row_count, block_width}
use Rattle.block.specs.Identification.{right_id}
use Rattle.block.specs.Conditions.{first_true, symbols_in, judgement, accepted_word, word_of, condition, is_lost, is_clean}
use Rattle.block.specs.declared.layout.Layout.{Layout}
use Rattle.block.specs.declared.layout.Layout.TheVariants.{Audio, Video, Subcode}
use Rattle.block.specs.declared.condition.Condition.{Condition}
use Rattle.block.specs.declared.condition.Condition.TheVariants.{Blank, WrongId, Clean, Corrected, OutOfReach}
use Rattle.sector.specs.Bodies.{Closed}
use Rattle.sector.specs.declared.terms.Terms.{Terms}
use Rattle.sector.proofs.Strings.{length_symbols_in, same_bytes}
use Rattle.sector.proofs.Words.{length_word}

-- every row has at least two check symbols
pub two_checks : (s : System) (l : Layout) → 2 ≤ check_symbols s (shape_of l)
two_checks s Audio = omega (arith, per_some s)
two_checks s Video = omega (arith, per_some s)
two_checks s Subcode = omega (arith, per_some s)

none_later : (o : Option ℕ) → ◌≡◌ {A = Option ℕ} (elim o [ Some p ↦ Some (suc p) | None ↦ None ]) None → o ≡ None
none_later (Some p) e = cc
none_later None e = refl

none_true : (bs : List Bool) → first_true bs ≡ None → count bs ≡ 0
none_true [] e = refl
none_true (true ∷ bs) e = cc
none_true (false ∷ bs) e = none_true bs (none_later (first_true bs) e)

found_none : (o : Option ℕ) → is_clean (elim o [ Some p ↦ Corrected p | None ↦ Clean ]) ≡ true → o ≡ None
found_none (Some p) e = cc
found_none None e = refl

-- a whole row is not lost
pub clean_kept : (c : Condition) → is_clean c ≡ true → is_lost c ≡ false
clean_kept Blank e = cc
clean_kept WrongId e = cc
clean_kept Clean e = refl
clean_kept (Corrected p) e = cc
clean_kept OutOfReach e = cc

module _ (s : System) (t : Terms) (bodies : List (List ℕ)) where
  -- the symbols of a row's closed body
  abbrev pub sent : ℕ → Symbols s
  sent r = symbols_in s (get_or bodies r [])

  -- a block of the layout's width whose body differs from the row's closed one in fewer symbols than a row has check symbols
  pub record Close (r : ℕ) (b : List ℕ) : Type 0 where
    pub long : length b ≡ block_width t.layout
    pub bytes : Bytes (drop 3 b)
    pub near : distance (symbols_in s (drop 3 b)) (sent r) < check_symbols s (shape_of t.layout)

  -- a place that is blank or holds such a block
  abbrev pub Held : ℕ → Option (List ℕ) → Type 0
  Held r None = Unit {0}
  Held r (Some b) = Close r b

  -- every row's place is one
  abbrev pub Good : (ℕ → Option (List ℕ)) → Type 0
  Good P = (r : ℕ) → r < row_count t.layout → Held r (P r)

  module _ (rows : ℕ → List ℕ) (closed : Closed s t.layout rows bodies) (short : row_symbols s (shape_of t.layout) < s.order)
      (r : ℕ) (lr : r < row_count t.layout) where
    abbrev c : ℕ
    c = check_symbols s (shape_of t.layout)

    long_body : (b : List ℕ) → Close r b → length (drop 3 b) ≡ length (get_or bodies r [])
    long_body b h = let e = h.long in let f = (closed.each r lr).long in let d = length-drop 3 b in omega arith

    long_symbols : (b : List ℕ) → Close r b → length (symbols_in s (drop 3 b)) ≡ length (sent r)
    long_symbols b h =
        length_symbols_in s (drop 3 b) ∙ ap (λ n. n * s.per) (long_body b h) ∙ sym (length_symbols_in s (get_or bodies r []))

    accepted_right : (b : List ℕ) → Close r b → Accepted s 1 c (symbols_in s (drop 3 b)) (accepted_word s c (drop 3 b))
    accepted_right b h =
        let e = long_symbols b h in
        let f = length_word s t.layout rows bodies closed r lr in
        nearest_accepted s 1 c (symbols_in s (drop 3 b)) (omega arith) (omega (arith, two_checks s t.layout))

    -- any codeword within one symbol is the closed body
    word_is : (b : List ℕ) → Close r b → (w : Symbols s) → Near s 1 c (symbols_in s (drop 3 b)) w → w ≡ sent r
    word_is b h w n =
        let e = long_symbols b h in
        let f = length_word s t.layout rows bodies closed r lr in
        let close = h.near in
        accepted_sent s 1 c (symbols_in s (drop 3 b)) (sent r) w (omega arith) (omega (arith, two_checks s t.layout))
        (record { long = sym e; codeword = (closed.each r lr).codeword; near = omega arith })
        n

    row_word : (b : List ℕ) → Close r b → (right : Bool) (o : Option (Symbols s)) → Accepted s 1 c (symbols_in s (drop 3 b)) o
        → is_lost (cond right (judgement s (symbols_in s (drop 3 b)) o) WrongId) ≡ false → unwrap_or o [] ≡ sent r
    row_word b h true (Some w) a e = word_is b h w a.0
    row_word b h true None a e = cc
    row_word b h false o a e = cc

    -- what is accepted of a row that is not lost
    pub word_sent : (o : Option (List ℕ)) → Held r o → is_lost (condition s t.layout t.pair r o) ≡ false → word_of s t.layout o ≡ sent r
    word_sent None h e = cc
    word_sent (Some b) h e =
        row_word b h (right_id t.layout t.pair r b) (accepted_word s c (drop 3 b)) (accepted_right b h) e

    clean_word : (b : List ℕ) → Close r b → (right : Bool) (o : Option (Symbols s)) → Accepted s 1 c (symbols_in s (drop 3 b)) o
        → is_clean (cond right (judgement s (symbols_in s (drop 3 b)) o) WrongId) ≡ true → (right ≡ true) × (symbols_in s (drop 3 b) ≡ sent r)
    clean_word b h true (Some w) a e =
        let xs = symbols_in s (drop 3 b) in
        let n = a.0 in
        let none : distance xs w ≡ 0 = none_true (differences xs w) (found_none (first_true (differences xs w)) e) in
        (refl, alike xs w (sym n.long) (omega arith) ∙ word_is b h w n)
    clean_word b h true None a e = cc
    clean_word b h false o a e = cc

    -- a whole row holds its closed body under a right identification
    pub clean_body : (o : Option (List ℕ)) → Held r o → is_clean (condition s t.layout t.pair r o) ≡ true
        → (b : List ℕ) × (o ≡ Some b) × (right_id t.layout t.pair r b ≡ true) × (drop 3 b ≡ get_or bodies r [])
    clean_body None h e = cc
    clean_body (Some b) h e =
        let both = clean_word b h (right_id t.layout t.pair r b) (accepted_word s c (drop 3 b)) (accepted_right b h) e in
        let body = closed.each r lr in
        (b, refl, both.0, same_bytes s (drop 3 b) (get_or bodies r []) h.bytes body.bytes (long_body b h) both.1)
