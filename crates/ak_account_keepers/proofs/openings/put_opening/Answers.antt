use Rattle.std.proofs.Common.{rules, false, w64, SFits}
use Rattle.std.proofs.lemmas.Int.{to_z-of_z}
use Rattle.ak_account_keepers.proofs.OpenedLists.{opened}
use Rattle.ak_openings.specs.Openings.{IsOpening}
use Rattle.ak_account_keepers.proofs.openings.put_opening.Goals as goal

pub returns-clause-ok : goal.returns-clause-ok
returns-clause-ok g c =
    let now : SFits w64 c.args.now = search rules in
    let made : IsOpening c.args.now false c.in_ok-made.made = rw (to_z-of_z w64 c.args.now now) at c.in_ok-made.ensures.is in
    opened _ _ c.args.now c.in_ok-made.made (g.K.Lookup.keeping c.args.keeper.now) (g.K.Lookup.keeping c.mark.new.self) (g.K.Lookup.keeping c.replace_all-put.new.self)
    (g.K.Lookup.keeping c.keep_or_back.new.keeper) made c.in_ok-mark.ensures.ok c.replace_all-put.ensures.ok c.keep_or_back.ensures.ok c.keep_or_back.ensures.made
