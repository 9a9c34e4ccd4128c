use Rattle.std.proofs.Common.{◌≡◌, ◌<◌, ◌^◌, map, drop}
use Rattle.block.specs.Identification.{parity, id_parity, with_bits}
use Rattle.block.proofs.identification.id_parity.Given as goal

abbrev pub invariant-loop-bits : goal.invariant-loop-bits
invariant-loop-bits l =
    (l.idp < 2 ^ l.bits-index)
    × (with_bits (map (λ bits. parity l.c bits.now) (drop l.bits-index l.bits-items)) l.idp ≡ id_parity l.id0 l.id1)
