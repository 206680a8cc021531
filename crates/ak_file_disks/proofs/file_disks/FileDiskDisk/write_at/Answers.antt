-- Any image may be left, before as after.
use Rattle.std.proofs.Common.{length}
use Rattle.ak_disks.proofs.Torn.{torn_nothing}
use Rattle.ak_file_disks.proofs.file_disks.FileDiskDisk.write_at.Goals as goal

pub returns-clause-crash : goal.returns-clause-crash
returns-clause-crash c image left = (image, tt, torn_nothing c.args.place (length c.args.from.now) image)
