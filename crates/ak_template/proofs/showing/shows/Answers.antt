use Rattle.ak_template.proofs.ShownTrees.{shows_tree}
use Rattle.ak_template.proofs.showing.shows.Goals as goal

pub returns : goal.returns
returns c = λ tree h. rw (← shows_tree c.args.face.now tree c.args.template.now.steps h, ← c.as_slice.ensures) c.shows_steps.ensures
