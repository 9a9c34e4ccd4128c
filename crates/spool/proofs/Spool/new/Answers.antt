use Rattle.std.proofs.Common.{[], ap, ◌∙◌}
use Rattle.spool.specs.Table.{spool_store}
use Rattle.spool.proofs.Table.{spool_blank}
use Rattle.spool.proofs.Spool.new.Goals as goal

pub returns-clause-store : goal.returns-clause-store
returns-clause-store c =
    ap (spool_store _ c.args.width) c.in_ok-table.ensures.items ∙ ap (λ n. spool_store n c.args.width []) c.places_for-places.ensures
    ∙ spool_blank _ c.args.width
