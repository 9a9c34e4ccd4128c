-- A symbol is known by its code.
use Rattle.std.specs.Prelude.{◌≡◌, ℕ, suc, ◌<◌}
use Rattle.std.proofs.Common.{ap}
use mathlib.Core.HLevel.{Σ_prop_path}
use Rattle.std.proofs.Math.Bridge.{le_prop}
use Rattle.field.specs.Systems.{Symbol}

-- two symbols with one code are equal
pub symbol_path : {q : ℕ} (x y : Symbol q) → x.code ≡ y.code → x ≡ y
symbol_path {q} x y e = go x.code x.small y.code y.small e
  where
    made : (n : ℕ) → n < q → Symbol q
    made n h = record { code = n; small = h }

    go : (m : ℕ) (hm : m < q) (n : ℕ) (hn : n < q) → m ≡ n → made m hm ≡ made n hn
    go m hm n hn e = ap (λ (p : (i : ℕ) × (i < q)). made p.0 p.1) (Σ_prop_path (λ (i : ℕ). le_prop {n = suc i} {m = q}) {u = (m, hm)} {v = (n, hn)} e)
