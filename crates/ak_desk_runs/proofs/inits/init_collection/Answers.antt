use Rattle.std.proofs.Common.{rules, sym, ◌∙◌, w64, SFits}
use Rattle.std.proofs.lemmas.Int.{to_z-of_z}
use Rattle.ak_desk_runs.proofs.Opened.{init_done}
use Rattle.ak_desk_runs.proofs.inits.init_collection.Goals as goal

pub returns-in-Ok-clause-ends : goal.returns-in-Ok-clause-ends
returns-in-Ok-clause-ends g c =
    let at : SFits w64 c.now-at.result = search rules in (
      c.now-at.result,
      c.now-at.ensures.range,
      c.now-at.ensures.given,
      init_done _ _ _ _ (sym c.held.ensures.held ∙ c.if-held.false) (rw (to_z-of_z w64 c.now-at.result at) at c.in-Ok.ensures.ok),
    )
