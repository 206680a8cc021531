use Rattle.ak_protocol.proofs.Calls.{metas_open_syncs, metas_are_read}
use Rattle.ak_protocol.proofs.sync_laws.metas_open_syncs.Goals as goal

pub returns : goal.returns
returns c = record {
  opens = λ request s old growth may u meta reply place ok. metas_open_syncs request s old growth may reply place u.opening u meta ok;
  base = λ request s old growth may u meta reply place ok. metas_are_read request s old growth may reply place u.opening u meta ok;
}
