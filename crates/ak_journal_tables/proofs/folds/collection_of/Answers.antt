use Rattle.std.proofs.Common.{ap, ◌∙◌, sym}
use Rattle.std.specs.Prelude.{Err}
use Rattle.ak_journal_folds.specs.declared.folds.FoldFault.{FoldFault}
use Rattle.ak_journal_tables.proofs.Gates.{gate_told, other_of, place_within}
use Rattle.ak_journal_tables.proofs.folds.collection_of.Goals as goal

pub gate_of-requires-clause-within : goal.gate_of-requires-clause-within
gate_of-requires-clause-within c =
    place_within c.args.payloads.now c.in-Err-NotOfForm.place (c.in-Err-NotOfForm.ensures.refused c.in-Err-NotOfForm.place (ap (λ (fault : FoldFault). Err fault) c.in-Err-NotOfForm.field-0-is))

pub returns-in-Err-NotOfForm-clause-damaged : goal.returns-in-Err-NotOfForm-clause-damaged
returns-in-Err-NotOfForm-clause-damaged c = λ gate is.
    other_of c.args.payloads.now c.in-Err-NotOfForm.place gate (c.in-Err-NotOfForm.ensures.refused c.in-Err-NotOfForm.place (ap (λ (fault : FoldFault). Err fault) c.in-Err-NotOfForm.field-0-is))
    (sym (gate_told c.gate_of.result gate is) ∙ c.gate_of.ensures)
