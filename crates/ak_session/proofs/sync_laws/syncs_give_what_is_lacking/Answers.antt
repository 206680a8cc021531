use Rattle.std.proofs.Common.{ap}
use Rattle.ak_merge.specs.Commits.{Received}
use Rattle.ak_session.proofs.Sums.{given_in_parts}
use Rattle.ak_session.proofs.SyncLaws.{device_sends, server_gives, tags_given}
use Rattle.ak_session.proofs.sync_laws.syncs_give_what_is_lacking.Goals as goal

pub returns : goal.returns
returns c = record {
  sends = λ d s may. (device_sends d s may).each;
  gives = server_gives;
  tags_given = λ d s name may. tags_given d s may name;
  gives_settings = λ d s may. ap (λ (r : Received). r.settings) (given_in_parts d s may);
}
