use Rattle.std.proofs.Common.{◌∙◌}
use Rattle.std.proofs.lemmas.Result.{IfOk-weaker}
use Rattle.ak_search.proofs.Levels.{matches_whole}
use Rattle.ak_search.proofs.texts.path_matches.Goals as goal

pub returns-in-None : goal.returns-in-None
returns-in-None c =
    IfOk-weaker c.matches.result _ _ (λ _ is. is ∙ matches_whole c.args.pattern.now c.args.name.now c.in-None.ensures.one) c.matches.ensures
