use Rattle.ak_filtered.proofs.AdmittedEdits.{buildings_are_admitted, emptyings_are_admitted, makings_are_admitted, sendings_are_admitted}
use Rattle.ak_filtered.proofs.filtered_laws.filtered_edits_are_admitted.Goals as goal

pub returns-clause-home : goal.returns-clause-home
returns-clause-home c = sendings_are_admitted

pub returns-clause-emptied : goal.returns-clause-emptied
returns-clause-emptied c = emptyings_are_admitted

pub returns-clause-built : goal.returns-clause-built
returns-clause-built c = buildings_are_admitted

pub returns-clause-made : goal.returns-clause-made
returns-clause-made c = makings_are_admitted
