-- The symbols of a byte string, one by one.
use Rattle.std.proofs.Common.{◌≡◌, ℕ, ◌*◌, ◌/◌, ◌%◌, ◌<◌, ◌≤◌, List, length, get_or, take, sym, ap, ◌∙◌, subst, mul-le-mul_right, mod-eq_of_lt, arith}
use lib.ListN.{length-map}
use Rattle.std.proofs.lemmas.List.{ext_get_or, get_or-map, get_or-take, length-take-le}
use Rattle.byte_string.specs.Bytes.{Bytes}
use Rattle.field.specs.Systems.{System, Symbol, symbol}
use Rattle.field.proofs.Symbols.{symbol_path}
use Rattle.code.specs.Codewords.{Symbols}
use Rattle.grid.specs.Packing.{part, symbol_at, unpacked}
use Rattle.grid.proofs.Parts.{length_unpacked, get_or_unpacked, symbol_small, symbols_tell, byte_of}
use Rattle.block.specs.Conditions.{symbols_in}

module _ (s : System) where
  pub length_symbols_in : (bytes : List ℕ) → length (symbols_in s bytes) ≡ length bytes * s.per
  length_symbols_in bytes = length-map (unpacked s bytes) (symbol s) ∙ length_unpacked s bytes

  -- symbol p of the list has the code of symbol p of the string
  pub code_symbols_in : (bytes : List ℕ) (p : ℕ) → p < length bytes * s.per → (get_or (symbols_in s bytes) p s.on.nil).code ≡ symbol_at s bytes p
  code_symbols_in bytes p l =
      let lu = length_unpacked s bytes in
      ap (λ (x : Symbol s.order). x.code) (get_or-map (symbol s) (unpacked s bytes) p 0 s.on.nil (omega arith))
      ∙ ap (λ n. n % s.order) (get_or_unpacked s bytes p l) ∙ mod-eq_of_lt (symbol_small s bytes p)

  -- byte strings of one length with the same symbols are equal
  pub same_bytes : (a b : List ℕ) → Bytes a → Bytes b → length a ≡ length b → symbols_in s a ≡ symbols_in s b → a ≡ b
  same_bytes a b ba bb e h =
      symbols_tell s a b ba bb e
      (λ p l.
      sym (code_symbols_in a p l) ∙ ap (λ (xs : Symbols s). (get_or xs p s.on.nil).code) h
      ∙ code_symbols_in b p (subst (λ n. p < n * s.per) e l))

  symbol_take : (n : ℕ) (bytes : List ℕ) (p : ℕ) → p < n * s.per → symbol_at s (take n bytes) p ≡ symbol_at s bytes p
  unfolding symbol_at
  symbol_take n bytes p l = ap (λ b. part s b (p % s.per)) (get_or-take n bytes (p / s.per) 0 (byte_of s p n l))

  -- the symbols of the first bytes are the first symbols
  pub symbols_in_take : (n : ℕ) (bytes : List ℕ) → n ≤ length bytes → symbols_in s (take n bytes) ≡ take (n * s.per) (symbols_in s bytes)
  symbols_in_take n bytes h =
      let lb = length_symbols_in bytes in
      let lt : length (take n bytes) * s.per ≡ n * s.per = ap (λ m. m * s.per) (length-take-le n bytes h) in
      let l : length (symbols_in s (take n bytes)) ≡ n * s.per = length_symbols_in (take n bytes) ∙ lt in
      let fits : n * s.per ≤ length bytes * s.per = mul-le-mul_right {m = n} {n = length bytes} s.per h in
      ext_get_or s.on.nil (symbols_in s (take n bytes)) (take (n * s.per) (symbols_in s bytes))
      (l ∙ sym (length-take-le (n * s.per) (symbols_in s bytes) (omega arith)))
      (λ p lp.
      let small : p < n * s.per = omega arith in
      symbol_path (get_or (symbols_in s (take n bytes)) p s.on.nil) (get_or (symbols_in s bytes) p s.on.nil)
      (code_symbols_in (take n bytes) p (omega arith) ∙ symbol_take n bytes p small ∙ sym (code_symbols_in bytes p (omega arith)))
      ∙ sym (get_or-take (n * s.per) (symbols_in s bytes) p s.on.nil small))
