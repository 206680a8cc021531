use Rattle.ak_merge.proofs.JoinLaws.{first_settings_stand, second_settings_stand}
use Rattle.ak_merge.proofs.join_laws.last_settings_stand.Goals as goal

pub returns : goal.returns
returns c = record { first = first_settings_stand; second = second_settings_stand }
