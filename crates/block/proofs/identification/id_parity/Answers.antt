use Rattle.std.proofs.Common.{◌≡◌, ℕ, ◌+◌, ◌*◌, ◌<◌, List, [], ◌∷◌, length, get_or, map, drop, drop-cons, add-one, refl, arith, lit<}
use Rattle.block.specs.Identification.{parity, with_bits, id_parity}
use Rattle.block.proofs.identification.id_parity.Goals as goal

parity-lt : (n : ℕ) (is : List ℕ) → parity n is < 2
parity-lt n [] = lit< tt
parity-lt n (i ∷ is) = omega arith

-- one more bit is read
with_bits-drop : {X : Type 0} (f : X → ℕ) (xs : List X) (k n p : ℕ) (d : X) (t : ℕ) → with_bits (map f (drop k xs)) n ≡ t → k < length xs → p ≡ f (get_or xs k d)
    → with_bits (map f (drop (k + 1) xs)) (2 * n + p) ≡ t
with_bits-drop f xs k n p d t h l e = rw (e, add-one) (rw (drop-cons xs k d) at h)

pub loop-bits-init : goal.loop-bits-init
unfolding id_parity
loop-bits-init c =
    let e : 256 * c.args.id0 + c.args.id1 ≡ c.from_be_bytes-c.result = omega arith in
    (lit< tt, rw e refl)

pub loop-bits-preserved : goal.loop-bits-preserved
loop-bits-preserved c = (
  grind (arith, parity-lt),
  with_bits-drop _ _ _ _ _ _ _ c.loop-bits.invariant.1 c.loop-bits-test.true c.parity_of.ensures,
)
