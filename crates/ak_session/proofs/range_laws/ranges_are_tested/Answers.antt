use Rattle.ak_session.proofs.Accepting.{number_decides, row_decides, conf_decides, name_decides, tag_decides}
use Rattle.ak_session.proofs.range_laws.ranges_are_tested.Goals as goal

pub returns : goal.returns
returns c = record { number = number_decides; row = row_decides; conf = conf_decides; name = name_decides; tag = tag_decides }
