use Rattle.std.proofs.Common.{sym, subst}
use Rattle.std.proofs.lemmas.List.Elements.{All-push}
use Rattle.std.specs.List.{All}
use Rattle.ak_account_keepers.specs.Makers.{IsNew}
use Rattle.cases_server_runs.proofs.makers.maker_of.Goals as goal

pub loop-keeper-preserved : goal.loop-keeper-preserved
loop-keeper-preserved c =
    subst (All IsNew) (sym c.in_ok-push.ensures.ok)
    (All-push IsNew c.loop-keeper.checked c.in_ok-new_one.field-0 c.loop-keeper.invariant c.in_ok-new_one.ensures)
