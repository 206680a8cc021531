use Rattle.std.proofs.Common.{ap, ◌∙◌}
use Rattle.ak_memory.specs.Places.{unchanged_count}
use Rattle.ak_memory.proofs.Counting.{unchanged-insert}
use Rattle.ak_memory.proofs.RowsUnder.{full_with}
use Rattle.ak_memory.proofs.by_name.add_place.Goals as goal

pub returns-clause-count : goal.returns-clause-count
returns-clause-count c = ap unchanged_count c.in_ok-insert.ensures.entries ∙ unchanged-insert c.args.name c.opened.result c.args.places.now.entries c.opened.ensures.changed c.requires

pub returns-clause-full : goal.returns-clause-full
returns-clause-full c = full_with c.args.name c.args.places.now.entries _ c.opened.result c.in_ok-insert.ensures.updates.0 c.opened.ensures.changed
