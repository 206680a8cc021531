-- Any image may be left, before as after.
use Rattle.std.proofs.Common.{inl, refl}
use Rattle.ak_file_disks.proofs.file_disks.FileDiskDisk.cut.Goals as goal

pub returns-clause-crash : goal.returns-clause-crash
returns-clause-crash c image left = (image, tt, inl refl)
