use Rattle.ak_content_laws.proofs.CallEnds.{note_added}
use Rattle.ak_content_laws.proofs.Keepings.{ends_keeps, where_told}
use Rattle.ak_notes.specs.Additions.{DoesAdd, IsAdded}
use Rattle.ak_content_laws.proofs.note_laws.added_notes_keep_sound.Goals as goal

pub returns : goal.returns
returns c = λ at new before now steps left result ends held. ends_keeps (DoesAdd at new before now steps left) before now steps left result ends
    (λ value _ done held. note_added at new before now steps left value held (where_told before held.c (λ c. IsAdded at new c before now steps left value) held.told done)) held
