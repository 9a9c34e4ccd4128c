use Rattle.std.proofs.Common.{length, set, refl}
use Rattle.code.proofs.SingleErrors.{found_clean, found_one, found_none}
use Rattle.code.proofs.correct.correct_in.Goals as goal

pub returns-then-all_zero : goal.returns-then-all_zero
returns-then-all_zero g c =
    let old = c.args.symbols.now in
    found_clean g.F.NumberSystem.system old c.write_syndromes.new.out (length c.args.syndromes.now) c.write_syndromes.auto.out
    c.requires.0 c.requires.1 c.write_syndromes.ensures old refl c.if-all_zero.ensures

pub returns-in-Some : goal.returns-in-Some
returns-in-Some g c =
    let old = c.args.symbols.now in
    found_one g.F.NumberSystem.system old c.write_syndromes.new.out (length c.args.syndromes.now) c.write_syndromes.auto.out
    c.requires.0 c.requires.1 c.write_syndromes.ensures (set old c.in-Some.p c.sub.result) c.in-Some.p c.sub.result
    c.if-all_zero.ensures c.in-Some.ensures c.sub.ensures refl

pub returns-in-None : goal.returns-in-None
returns-in-None g c =
    let old = c.args.symbols.now in
    found_none g.F.NumberSystem.system old c.write_syndromes.new.out (length c.args.syndromes.now) c.write_syndromes.auto.out
    c.requires.0 c.requires.1 c.write_syndromes.ensures old refl c.if-all_zero.ensures c.in-None.ensures
