-- What writing, closing and discarding an open sector leave in its store.
use Rattle.std.specs.Prelude.{◌≡◌, ℕ, ◌<◌, ◌≤◌, Bool, true, false, cond, List, [], take, drop, replicate, Some, None, MatchBool, Option, slice_index_or, slice_set}
use Rattle.field.specs.Systems.{System}
use Rattle.store.specs.Store.{Store, at, with_at}
use Rattle.block.specs.Layouts.{row_count, data_bytes}
use Rattle.block.specs.declared.layout.Layout.{Layout}
use Rattle.sector.specs.Answers.{Answer, is_taken}
use Rattle.sector.specs.Terms.{fits, data_guards}
use Rattle.sector.specs.Bodies.{Body, Closed, block_of}
use Rattle.sector.specs.declared.terms.Terms.{Terms}

-- what each row's place holds
abbrev pub Contents : Type 0
Contents = ℕ → Option (List ℕ)

-- the data bytes of a row that was not written
abbrev pub filler : Layout → List ℕ
filler l = replicate (data_bytes l) 255

-- the data bytes of a block, and filler of a blank place
abbrev pub data_in : Layout → Option (List ℕ) → List ℕ
data_in l (Some b) = take (data_bytes l) (drop 3 b)
data_in l None = filler l

-- the data bytes of a row of an open sector: those at its place if it was written, and filler if not
abbrev pub open_data : Layout → List Bool → Contents → ℕ → List ℕ
open_data l marks P r = cond (slice_index_or marks r false) (data_in l (P r)) (filler l)

-- some places of a store changed, and only below n
pub record SameFrom (n : ℕ) (old new : Store) : Type 0 where
  pub places : new.places ≡ old.places
  pub width : new.width ≡ old.width
  pub others : (k : ℕ) → n ≤ k → at new k ≡ at old k

module _ (s : System) (t : Terms) where
  -- a data row lies at its place, under its identification and with its check bytes, and is marked
  pub record RowStored (row : ℕ) (bytes : List ℕ) (old new : Store) (marks marked : List Bool) : Type 0 where
    pub body : List ℕ
    pub is : Body s t.layout body
    pub front : take (data_bytes t.layout) body ≡ bytes
    pub after : new ≡ with_at old row (Some (block_of t.layout t.pair row body))
    pub mark : marked ≡ slice_set marks row true

  -- what writing answers and leaves
  abbrev pub Writing : ℕ → List ℕ → Store → Store → List Bool → List Bool → Answer → Type 0
  Writing row bytes old new marks marked a =
      (a ≡ data_guards s t old row bytes)
      × MatchBool (is_taken (data_guards s t old row bytes)) (RowStored row bytes old new marks marked) ((new ≡ old) × (marked ≡ marks))

  -- every row's place holds its closed body under its identification, and no other place changed
  pub record Written (rows : ℕ → List ℕ) (old new : Store) : Type 0 where
    pub bodies : List (List ℕ)
    pub closed : Closed s t.layout rows bodies
    pub places : (r : ℕ) → r < row_count t.layout → at new r ≡ Some (block_of t.layout t.pair r (slice_index_or bodies r []))
    pub same : SameFrom (row_count t.layout) old new

  -- what closing leaves: nothing is written where the terms do not fit
  abbrev pub Closes : List Bool → Store → Store → Type 0
  Closes marks old new = MatchBool (fits s t old) (Written (open_data t.layout marks (at old)) old new) (new ≡ old)

  -- every row's place is blank, and no other place changed
  pub record Cleared (old new : Store) : Type 0 where
    pub blank : (r : ℕ) → r < row_count t.layout → at new r ≡ None
    pub same : SameFrom (row_count t.layout) old new

  -- what discarding leaves
  abbrev pub Discards : Store → Store → Type 0
  Discards old new = MatchBool (fits s t old) (Cleared old new) (new ≡ old)
