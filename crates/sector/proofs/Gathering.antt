-- The data bytes of rows as they are collected.
use Rattle.std.proofs.Common.{◌≡◌, ℕ, ◌+◌, ◌-◌, ◌*◌, ◌<◌, ◌≤◌, List, length, take, drop, sym, ap, ◌∙◌, subst, arith, length-drop, length-take-le}
use native.Mathlib.Decide.{ℕ_discrete}
use borrow.Rule.Slice.PartMut.{put_mid}
use Rattle.std.proofs.lemmas.List.{take-take}
use Rattle.block.specs.Layouts.{row_count, data_rows, data_bytes, body_bytes}
use Rattle.block.specs.declared.layout.Layout.{Layout}
use Rattle.sector.specs.Flat.{body_at}
use Rattle.sector.proofs.Flat.{body_within, body_front, body_other}

-- one more row's data bytes are written, to the front of its body
module _ (l : Layout) (f : ℕ → List ℕ) (W b : List ℕ) (r n d : ℕ) (long : length W ≡ row_count l * body_bytes l) (h : r < data_rows l) (en : n ≡ body_bytes l) (ed : d ≡ data_bytes l)
    (kept : length b ≡ length (take (r * n + d - r * n) (drop (r * n) W))) where
  start_is : r * n ≡ r * body_bytes l
  start_is = ap (λ m. r * m) en

  within : r * n + body_bytes l ≤ length W
  within = subst (λ m. m + body_bytes l ≤ length W) (sym start_is) (body_within l W r long (omega arith))

  long_b : length b ≡ r * n + d - r * n
  long_b = let w = within in kept ∙ length-take-le (r * n + d - r * n) (drop (r * n) W) (omega (arith, length-drop (r * n) W))

  front : (X : List ℕ) (i : ℕ) → take (data_bytes l) (drop (i * body_bytes l) X) ≡ take (data_bytes l) (body_at l X i)
  unfolding body_at
  front X i = sym (take-take (data_bytes l) (body_bytes l) (drop (i * body_bytes l) X) (omega arith))

  pub gathered_more : b ≡ f r → ((i : ℕ) → i < r → take (data_bytes l) (drop (i * body_bytes l) W) ≡ f i)
      → (i : ℕ) → i < r + 1 → take (data_bytes l) (drop (i * body_bytes l) (put_mid (r * n) (r * n + d - r * n) W b)) ≡ f i
  gathered_more e before i li = go (ℕ_discrete i r)
    where
      k_is : r * n + d - r * n ≡ data_bytes l
      k_is = omega arith

      go : Dec (i ≡ r) → take (data_bytes l) (drop (i * body_bytes l) (put_mid (r * n) (r * n + d - r * n) W b)) ≡ f i
      go (yes z) =
          ap (λ j. take (data_bytes l) (drop (j * body_bytes l) (put_mid (r * n) (r * n + d - r * n) W b))) z ∙ front (put_mid (r * n) (r * n + d - r * n) W b) r
          ∙ ap (λ m. take m (body_at l (put_mid (r * n) (r * n + d - r * n) W b) r)) (sym k_is)
          ∙ body_front l W b r (r * n) (r * n + d - r * n) long (omega arith) start_is long_b (omega arith) ∙ e ∙ ap f (sym z)
      go (no ne) =
          front (put_mid (r * n) (r * n + d - r * n) W b) i ∙ ap (take (data_bytes l)) (body_other l W b r (r * n) (r * n + d - r * n) long (omega arith) start_is long_b (omega arith) i ne)
          ∙ sym (front W i) ∙ before i (omega arith)
