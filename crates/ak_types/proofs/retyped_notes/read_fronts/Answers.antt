use Rattle.ak_types.proofs.Fronts.{fronts_are_read}
use Rattle.ak_types.proofs.retyped_notes.read_fronts.Goals as goal

pub unreachable-requires : goal.unreachable-requires
unreachable-requires c =
    fronts_are_read c.args.note_type.now c.in-Err-Template.field-0-0 c.requires (rw c.in-Err-Template.field-0-is at c.in-Err-Template.ensures.fault)
