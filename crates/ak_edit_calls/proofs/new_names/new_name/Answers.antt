use Rattle.std.proofs.Common.{w64, SFits}
use Rattle.std.proofs.lemmas.Int.{to_z-of_z}
use Rattle.ak_edit_calls.proofs.NewNames.{found_in_range, found_in_table, name_answers, none_listed}
use Rattle.ak_edit_calls.specs.NewNames.{first_name}
use Rattle.ak_edit_calls.proofs.new_names.new_name.Goals as goal

pub returns-clause-new : goal.returns-clause-new
returns-clause-new g c =
    let fits : SFits w64 c.args.at = c.ranges.at in
    rw (c.first_name.ensures.name, to_z-of_z w64 c.args.at fits) at c.next_free.ensures.free

pub returns-clause-table : goal.returns-clause-table
returns-clause-table g c =
    let fits : SFits w64 c.args.at = c.ranges.at in
    found_in_table (first_name c.args.table c.args.at) c.next_free.result (rw (c.first_name.ensures.name, to_z-of_z w64 c.args.at fits) at c.next_free.ensures.range)

pub returns-clause-range : goal.returns-clause-range
returns-clause-range g c = found_in_range c.first_name.result c.next_free.result c.first_name.ensures.id c.next_free.ensures.range

pub returns-clause-refused : goal.returns-clause-refused
returns-clause-refused g c =
    let fits : SFits w64 c.args.at = c.ranges.at in
    name_answers (g.K.Lookup.keeping c.args.keeper.now) c.args.at c.args.table c.next_free.result
    (rw (c.first_name.ensures.name, to_z-of_z w64 c.args.at fits) at c.next_free.ensures.free)
    (rw (c.first_name.ensures.name, to_z-of_z w64 c.args.at fits) at c.next_free.ensures.none)

pub returns-clause-listed : goal.returns-clause-listed
returns-clause-listed g c = none_listed (g.K.Lookup.keeping c.args.keeper.now) c.first_name.result c.next_free.result c.next_free.ensures.none
