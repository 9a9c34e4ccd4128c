-- Parts of a memory.
use Rattle.std.proofs.Common.{◌≡◌, ℕ, ◌+◌, ◌-◌, ◌<◌, ◌≤◌, Bool, true, false, ◌&&◌, leb, ◌⊎◌, List, [], ◌++◌, length, take, drop, sym, ap, ◌∙◌, ⊎_elim, arith}
use borrow.Rule.Slice.PartMut.{put_mid}
use Rattle.std.proofs.lemmas.List.{drop-drop}
use Rattle.std.proofs.lemmas.List.Edits.{split_between}
use Rattle.std.proofs.lemmas.Bool.Decides.{nat_tests}
use Rattle.std.proofs.lemmas.Bool.{cases_Bool, and_parts, leb-true, cond-true}
use Rattle.replay.specs.Model.{part_of, with_part}

module _ (memory : List ℕ) (from to : ℕ) where
  -- whether there is such a part
  abbrev within : Bool
  within = leb from to && leb to (length memory)

  pub part_there : from ≤ to → to ≤ length memory → within ≡ true
  part_there h k = grind (arith, nat_tests)

  pub part_missing : ((from ≤ to) × (length memory < to)) ⊎ (to < from) → within ≡ false
  part_missing h = grind (arith, nat_tests)

  pub part_is : within ≡ true → part_of memory from to ≡ take (to - from) (drop from memory)
  part_is e = rw e

  pub no_part : within ≡ false → part_of memory from to ≡ []
  no_part e = rw e

  -- a write to the part, as a write to a slice leaves it
  pub part_written : (bytes : List ℕ) → from ≤ to → to ≤ length memory → put_mid from (to - from) memory bytes ≡ with_part memory from to bytes
  part_written bytes h k =
      let e : from + (to - from) ≡ to = omega arith in
      rw (drop-drop, e, part_there h k)

  pub none_written : (bytes : List ℕ) → within ≡ false → with_part memory from to bytes ≡ memory
  none_written bytes e = rw e

  -- the old bytes in the part leave the memory as it is
  pub part_kept : with_part memory from to (part_of memory from to) ≡ memory
  part_kept =
      ⊎_elim
      (λ (e : within ≡ true).
      let le = leb-true from to (and_parts (leb from to) (leb to (length memory)) e).0 in
      ap (with_part memory from to) (part_is e)
      ∙ cond-true within (take from memory ++ (take (to - from) (drop from memory) ++ drop to memory)) memory e
      ∙ sym (split_between memory from to le))
      (λ (e : within ≡ false). none_written (part_of memory from to) e)
      (cases_Bool within)
