use Rattle.std.proofs.Common.{sym, subst}
use Rattle.ak_transfers.proofs.Rows.{plain_may}
use Rattle.ak_transfers.specs.UploadParts.{MayBePut}
use Rattle.ak_transfers.proofs.device_rows.plain_rows.Goals as goal

pub returns-clause-may : goal.returns-clause-may
returns-clause-may g c = subst MayBePut (sym c.in_ok-without_graves.ensures) (plain_may c.in_ok-rows.rows.items c.in_ok-rows.ensures.may)
