use Rattle.ak_keep.specs.Walks.{most_pages}
use Rattle.cases_runs.proofs.twins.hold_the_same_rows.Given as goal

abbrev pub decreases-pages : goal.decreases-pages
decreases-pages g l = most_pages l.walk
