use Rattle.std.proofs.Common.{sym, subst}
use Rattle.ak_json.specs.Ranges.{AreMinutes}
use Rattle.ak_json.proofs.Migration.{new_minutes, lapse_minutes}
use Rattle.ak_json.proofs.versions.from_minutes.Goals as goal

pub seconds_of-requires : goal.seconds_of-requires
seconds_of-requires c = subst AreMinutes (sym c.as_slice.ensures) (new_minutes c.args.options c.requires)

pub seconds_of-requires-2 : goal.seconds_of-requires-2
seconds_of-requires-2 c = subst AreMinutes (sym c.as_slice-2.ensures) (lapse_minutes c.args.options c.requires)
