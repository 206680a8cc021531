use Rattle.ak_cli.proofs.Telling.{input_told, keeper_told, tells_first}
use Rattle.ak_cli.proofs.program_runs.run.Goals as goal

pub returns-clause-ends : goal.returns-clause-ends
returns-clause-ends g c = (
  c.run_words-status.result,
  c.run_words-status.ensures.ends,
  tells_first c.run_words-status.result c.told-after_input.result c.told-after_keeper.result c.told.result c.told-after_input.ensures.either
      c.told-after_keeper.ensures.either c.told.ensures.either,
)

pub returns-clause-failed_keeper : goal.returns-clause-failed_keeper
returns-clause-failed_keeper g c = λ rose.
    keeper_told c.told-after_keeper.result c.told.result
    (c.told-after_keeper.ensures.rose (rw (c.faults-kept.ensures, c.faults-2.ensures) rose)) c.told.ensures.either

pub returns-clause-failed_input : goal.returns-clause-failed_input
returns-clause-failed_input g c = λ rose.
    input_told c.told-after_input.result c.told-after_keeper.result c.told.result
    (c.told-after_input.ensures.rose (rw (c.faults-read.ensures, c.faults.ensures) rose)) c.told-after_keeper.ensures.either c.told.ensures.either
