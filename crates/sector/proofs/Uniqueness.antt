-- Data rows have at most one closed sector.
use Rattle.std.proofs.Common.{◌≡◌, ℕ, ◌<◌, [], get_or, sym, ap, ◌∙◌, arith}
use Rattle.std.proofs.lemmas.List.{ext_get_or}
use Rattle.field.specs.Systems.{System, Symbol}
use Rattle.code.specs.Codewords.{Symbols}
use Rattle.grid.specs.Grids.{data_symbols}
use Rattle.block.specs.Layouts.{shape_of, row_count}
use Rattle.block.specs.Conditions.{symbols_in}
use Rattle.block.specs.declared.layout.Layout.{Layout}
use Rattle.sector.specs.Bodies.{column_in, ClosedIsOne}
use Rattle.sector.proofs.Strings.{same_bytes}
use Rattle.sector.proofs.Fronts.{length_column_in, same_row, same_column}
use Rattle.sector.proofs.Words.{words, length_words, length_word, in_column, data_symbol}

module _ (s : System) (l : Layout) where
  abbrev nil : Symbol s.order
  nil = s.on.nil

  pub closed_is_one : ClosedIsOne s l
  closed_is_one rows a b few short ca cb =
      let ma = ca.many in
      let mb = cb.many in
      ext_get_or [] a b (ma ∙ sym mb) (λ r lr. body r (omega arith))
    where
      column : (j : ℕ) → j < data_symbols s (shape_of l) → column_in s j (words s l a) ≡ column_in s j (words s l b)
      column j lj =
          same_column s l few (column_in s j (words s l a)) (column_in s j (words s l b))
          (length_column_in s j (words s l a) ∙ length_words s l rows a ca) (length_column_in s j (words s l b) ∙ length_words s l rows b cb)
          (ca.columns j lj) (cb.columns j lj)
          (λ p lp.
          in_column s l rows a ca j p (omega arith) ∙ data_symbol s l rows a ca j p lp lj
          ∙ sym (data_symbol s l rows b cb j p lp lj) ∙ sym (in_column s l rows b cb j p (omega arith)))

      word : (r : ℕ) → r < row_count l → symbols_in s (get_or a r []) ≡ symbols_in s (get_or b r [])
      word r lr =
          same_row s l short (symbols_in s (get_or a r [])) (symbols_in s (get_or b r [])) (length_word s l rows a ca r lr) (length_word s l rows b cb r lr)
          (ca.each r lr).codeword (cb.each r lr).codeword
          (λ j lj.
          sym (in_column s l rows a ca j r lr) ∙ ap (λ (xs : Symbols s). get_or xs r nil) (column j lj) ∙ in_column s l rows b cb j r lr)

      body : (r : ℕ) → r < row_count l → get_or a r [] ≡ get_or b r []
      body r lr =
          let ba = ca.each r lr in
          let bb = cb.each r lr in
          same_bytes s (get_or a r []) (get_or b r []) ba.bytes bb.bytes (ba.long ∙ sym bb.long) (word r lr)
