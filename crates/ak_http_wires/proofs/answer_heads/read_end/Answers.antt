use Rattle.ak_http_wires.proofs.AnswerSteps.{no_line_feed, grown}
use Rattle.ak_http_wires.proofs.answer_heads.read_end.Goals as goal

pub returns-then-bytes-ne10 : goal.returns-then-bytes-ne10
returns-then-bytes-ne10 c = no_line_feed c.args.bytes.now c.requires.none c.if-bytes-ne10.true

pub returns : goal.returns
returns c = grown c.args.bytes.now c.parse.result c.requires.size c.requires.none c.parse.ensures
