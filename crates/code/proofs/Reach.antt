-- Codewords within a reach of a list.
use Rattle.std.proofs.Common.{◌≡◌, ℕ, ◌+◌, ◌-◌, ◌≤◌, length, sym, ◌∙◌, arith}
use Rattle.field.specs.Systems.{System}
use Rattle.code.specs.Codewords.{Symbols}
use Rattle.code.specs.Acceptance.{Near, AcceptanceIsOne, AcceptedIsSent}
use Rattle.code.proofs.Apartness.{triangle}
use Rattle.code.proofs.Distance.{codewords_apart}

module _ (s : System) where
  -- two codewords near one list, the reaches together at most c
  near_one : (t u c : ℕ) (received v w : Symbols s) → length received ≤ s.order - 1 → t + u ≤ c → Near s t c received v → Near s u c received w → v ≡ w
  near_one t u c received v w short reach a b =
      let la = a.long in
      let lb = b.long in
      codewords_apart s c v w (la ∙ sym lb) (omega arith) a.codeword b.codeword
      (omega (arith, triangle received v w (sym la) (sym lb), a.near, b.near))

  pub acceptance_one : AcceptanceIsOne s
  acceptance_one t c received short reach v w a b = near_one t t c received v w short reach a b

  pub accepted_sent : AcceptedIsSent s
  accepted_sent t c received sent w short reach a b = sym (near_one (c - t) t c received sent w short (omega arith) a b)
