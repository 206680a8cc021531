use Rattle.ak_line_runs.proofs.Pieces.{fault_part, fault_written}
use Rattle.ak_line_runs.proofs.answer_pieces.put_fault.Goals as goal

pub returns-in-NoteNoCard-clause-part : goal.returns-in-NoteNoCard-clause-part
returns-in-NoteNoCard-clause-part g c = fault_part c.put_between-in-NoteNoCard.result _ _ _ _ c.in-NoteNoCard.is c.put_between-in-NoteNoCard.ensures.part

pub returns-in-NoteNoType-clause-ok : goal.returns-in-NoteNoType-clause-ok
returns-in-NoteNoType-clause-ok g c = fault_written c.put_between-in-NoteNoType.result _ _ _ _ c.in-NoteNoType.is c.put_between-in-NoteNoType.ensures.ok

pub returns-in-NoteNoType-clause-part : goal.returns-in-NoteNoType-clause-part
returns-in-NoteNoType-clause-part g c = fault_part c.put_between-in-NoteNoType.result _ _ _ _ c.in-NoteNoType.is c.put_between-in-NoteNoType.ensures.part

pub returns-in-CardNoTemplate-clause-ok : goal.returns-in-CardNoTemplate-clause-ok
returns-in-CardNoTemplate-clause-ok g c = fault_written c.put_between-in-CardNoTemplate.result _ _ _ _ c.in-CardNoTemplate.is c.put_between-in-CardNoTemplate.ensures.ok

pub returns-in-CardNoTemplate-clause-part : goal.returns-in-CardNoTemplate-clause-part
returns-in-CardNoTemplate-clause-part g c = fault_part c.put_between-in-CardNoTemplate.result _ _ _ _ c.in-CardNoTemplate.is c.put_between-in-CardNoTemplate.ensures.part
