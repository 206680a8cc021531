-- What a fault becomes where a journal is opened.
use Rattle.ak_journal_forms.specs.declared.frames.FormFault.{FormFault}
use Rattle.ak_journal_forms.specs.declared.frames.FormFault.TheVariants as forms
use Rattle.ak_journals.specs.declared.faults.DiskFault.{DiskFault}
use Rattle.ak_journals.specs.declared.faults.DiskFault.TheVariants as disks
use Rattle.ak_journals.specs.declared.openings.JournalFault.{JournalFault}
use Rattle.ak_journals.specs.declared.openings.JournalFault.TheVariants as journals

-- a fault of a call over the disk
abbrev pub of_disk : DiskFault → JournalFault
of_disk disks.Failed = journals.Failed
of_disk disks.Memory = journals.Memory

-- a fault of what was read
abbrev pub of_form : FormFault → JournalFault
of_form (forms.Damaged place) = journals.Damaged place
of_form forms.Memory = journals.Memory
