use Rattle.std.proofs.Common.{◌≡◌, ◌∷◌, rules}
use Rattle.std.specs.BTreeMap.{get_by_text}
use Rattle.std.specs.Option.{option_or}
use Rattle.ak_imports.specs.Guids.{first_id}
use Rattle.ak_imports.proofs.GuidsRead.{one_more}
use Rattle.ak_imports.proofs.guids.take_rows.Goals as goal

pub loop-row-preserved : goal.loop-row-preserved
loop-row-preserved c = λ guid.
    let rest : c.loop-row.rest.now ≡ c.in-Some.row.now ∷ c.in-Some.others.now = search rules in
    one_more guid (get_by_text c.loop-row.guids guid) (get_by_text c.take_row.new.guids guid) (option_or (get_by_text c.args.guids.now guid) (first_id guid c.args.rows.now)) c.in-Some.row.now c.in-Some.others.now
    (rw rest at c.loop-row.invariant guid) (c.in_ok-take_row.ensures guid)
