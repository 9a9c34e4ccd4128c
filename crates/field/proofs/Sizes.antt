-- How many symbols there can be, and how many in a byte.
use Rattle.std.proofs.Common.{◌≡◌, ℕ, zero, suc, ◌*◌, ◌^◌, ◌<◌, ◌≤◌, mul-le-mul_right, one-mul, pow-suc, arith}
use native.Mathlib.Nat.{pow-zero, one-le-pow}
use Rattle.field.specs.Systems.{System}

whole : (q m : ℕ) → 0 < q → q ^ m ≡ 256 → (q ≤ 256) × (0 < m)
whole q zero h e = absurd (let z : ⊥ = omega (arith, pow-zero q) in z)
whole q (suc m) h e =
    let l : 1 * q ≤ q ^ m * q = mul-le-mul_right {m = 1} {n = q ^ m} q (one-le-pow m q h) in
    (omega (arith, l, pow-suc q m, one-mul q), omega arith)

pub order_small : (s : System) → s.order ≤ 256
order_small s = (whole s.order s.per s.some s.whole_byte).0

pub per_some : (s : System) → 0 < s.per
per_some s = (whole s.order s.per s.some s.whole_byte).1
