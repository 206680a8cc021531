use Rattle.ak_openings.proofs.OpeningLaws.{openings_are_checked, openings_are_distinct, openings_are_in_range, openings_are_lawful, openings_are_sound}
use Rattle.ak_openings.proofs.opening_laws.openings_are_sound_and_lawful.Goals as goal

pub returns : goal.returns
returns c = record {
  checked = openings_are_checked;
  distinct = openings_are_distinct;
  range = openings_are_in_range;
  sound = openings_are_sound;
  lawful = openings_are_lawful;
}
