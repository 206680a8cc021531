-- What a fault of a file is to a keeper.
use Rattle.ak_keep.specs.declared.keepers.KeepFault.{KeepFault}
use Rattle.ak_keep.specs.declared.keepers.KeepFault.TheVariants as keeper
use Rattle.ak_sqlite.specs.declared.faults.FileFault.{FileFault}
use Rattle.ak_sqlite.specs.declared.faults.FileFault.TheVariants.{Failed, Memory}

-- a failure stays one, and so does running out of memory
abbrev pub fault_of : FileFault → KeepFault
fault_of Failed = keeper.Failed
fault_of Memory = keeper.Memory
