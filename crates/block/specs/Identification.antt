-- The three identification bytes of a block: ID0, ID1 and their parity IDP.
use Rattle.std.specs.Prelude.{◌≡◌, ℕ, ◌+◌, ◌*◌, ◌/◌, ◌%◌, ◌^◌, Bool, true, cond, ◌&&◌, ◌||◌, List, [], ◌∷◌, ◌++◌, ◌==◌, nat_lt, slice_index}
use Rattle.block.specs.Layouts.{first_block, data_rows}
use Rattle.block.specs.declared.layout.Layout.{Layout}
use Rattle.block.specs.declared.layout.Layout.TheVariants.{Audio, Video, Subcode}

-- bit i of a number
abbrev pub bit : ℕ → ℕ → ℕ
bit n i = n / 2 ^ i % 2

-- the sum modulo 2 of some bits of a number
abbrev pub parity : ℕ → List ℕ → ℕ
parity n [] = 0
parity n (i ∷ is) = (bit n i + parity n is) % 2

-- the number with the given bits, the first on top
abbrev pub with_bits : List ℕ → ℕ → ℕ
with_bits [] n = n
with_bits (b ∷ bs) n = with_bits bs (2 * n + b)

-- IDP, its bits from the top: each is the parity of some of the sixteen bits of ID0 and ID1
unfoldable pub id_parity : ℕ → ℕ → ℕ
id_parity id0 id1 =
    let c = 256 * id0 + id1 in
    with_bits
    (parity c (15 ∷ 11 ∷ 7 ∷ 5 ∷ [])
    ∷ parity c (14 ∷ 10 ∷ 6 ∷ 4 ∷ [])
    ∷ parity c (15 ∷ 13 ∷ 9 ∷ 5 ∷ 3 ∷ [])
    ∷ parity c (14 ∷ 12 ∷ 8 ∷ 4 ∷ 2 ∷ [])
    ∷ parity c (15 ∷ 13 ∷ 11 ∷ 7 ∷ 3 ∷ 1 ∷ [])
    ∷ parity c (14 ∷ 12 ∷ 10 ∷ 6 ∷ 2 ∷ 0 ∷ [])
    ∷ parity c (13 ∷ 9 ∷ 7 ∷ 1 ∷ [])
    ∷ parity c (12 ∷ 8 ∷ 6 ∷ 0 ∷ [])
    ∷ []) 0

-- ID0 as it is written: the track pair in the low four bits, and 001 on top in check rows; 0 in subcode
abbrev pub written_id0 : Layout → ℕ → ℕ → ℕ
written_id0 Subcode pair row = 0
written_id0 Audio pair row = pair % 16 + cond (nat_lt row (data_rows Audio)) 0 32
written_id0 Video pair row = pair % 16 + cond (nat_lt row (data_rows Video)) 0 32

-- ID1 as it is written: the block number
abbrev pub written_id1 : Layout → ℕ → ℕ
written_id1 l row = (first_block l + row) % 256

-- the three bytes as they are written
abbrev pub id_of : Layout → ℕ → ℕ → List ℕ
id_of l pair row =
    written_id0 l pair row ∷ written_id1 l row ∷ id_parity (written_id0 l pair row) (written_id1 l row) ∷ []

-- the judged bits of ID0 and ID1 are those due
abbrev pub judged_right : Layout → ℕ → ℕ → ℕ → ℕ → Bool
judged_right Subcode pair row id0 id1 = id1 % 16 == written_id1 Subcode row % 16
judged_right Audio pair row id0 id1 =
    (id1 == written_id1 Audio row) && (id0 % 16 == pair % 16 && (nat_lt row (data_rows Audio) || id0 / 32 == 1))
judged_right Video pair row id0 id1 =
    (id1 == written_id1 Video row) && (id0 % 16 == pair % 16 && (nat_lt row (data_rows Video) || id0 / 32 == 1))

-- an identification is right when its parity agrees with the bytes as read and every judged bit is the one due
abbrev pub right_id : Layout → ℕ → ℕ → List ℕ → Bool
right_id l pair row block =
    (slice_index block 2 == id_parity (slice_index block 0) (slice_index block 1)) && judged_right l pair row (slice_index block 0) (slice_index block 1)

-- the identification as it is written is right, whatever body follows it
abbrev pub WrittenIsRight : Type 0
WrittenIsRight = (l : Layout) (pair row : ℕ) (body : List ℕ) → right_id l pair row (id_of l pair row ++ body) ≡ true
