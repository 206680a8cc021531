use Rattle.std.proofs.Common.{refl, sym, ◌∙◌, w64, SFits, rules}
use Rattle.std.proofs.lemmas.Int.{to_z-of_z}
use Rattle.ak_cli.proofs.KeptCollections.{same_keeping}
use Rattle.ak_cli.proofs.LabEnds.{keeper_status, lab_ended}
use Rattle.ak_cli.proofs.program_runs.run_command.Goals as goal

pub returns-in-Lab-clause-ends : goal.returns-in-Lab-clause-ends
returns-in-Lab-clause-ends g c = rw c.in-Lab.is
    (_, c.command_status.ensures, lab_ended _ _ _ _ _ _ c.run_lab.ensures.runs)

pub returns-in-Lab-clause-keep : goal.returns-in-Lab-clause-keep
returns-in-Lab-clause-keep g c = λ is. absurd (c.run_lab.ensures.unkept (keeper_status _ (sym c.command_status.ensures ∙ is)))

pub returns-in-Init-clause-ends : goal.returns-in-Init-clause-ends
returns-in-Init-clause-ends g c = let e = c.init_collection.ensures.ends in
    rw c.in-Init.is (e.0, _, e.1, e.2, e.3, c.command_status-in-Init.ensures)

pub returns-in-Desk-clause-ends : goal.returns-in-Desk-clause-ends
returns-in-Desk-clause-ends g c = rw c.in-Desk.is (_, c.run_desk-end.ensures.ends, c.command_status-in-Desk.ensures)

pub returns-in-Sync-clause-ends : goal.returns-in-Sync-clause-ends
returns-in-Sync-clause-ends g c = rw c.in-Sync.is (_, refl, c.run_sync.ensures.ends)

pub returns-in-Upload-clause-ends : goal.returns-in-Upload-clause-ends
returns-in-Upload-clause-ends g c = rw c.in-Upload.is (_, refl, c.run_upload.ensures.ends)

pub returns-in-Download-clause-ends : goal.returns-in-Download-clause-ends
returns-in-Download-clause-ends g c = rw c.in-Download.is (_, refl, c.run_download.ensures.ends)

pub returns-in-Import-clause-ends : goal.returns-in-Import-clause-ends
returns-in-Import-clause-ends g c = rw c.in-Import.is c.run_import.ensures.ends

pub returns-in-Export-clause-ends : goal.returns-in-Export-clause-ends
returns-in-Export-clause-ends g c =
    let fits : SFits w64 c.in-Export.note_type = search rules in
    rw c.in-Export.is (rw (to_z-of_z w64 c.in-Export.note_type fits) at c.run_export.ensures.ends)

pub returns-in-Make-clause-ends : goal.returns-in-Make-clause-ends
returns-in-Make-clause-ends g c = rw c.in-Make.is c.make.ensures.ends

pub returns-in-Lab-clause-leaves : goal.returns-in-Lab-clause-leaves
returns-in-Lab-clause-leaves g c = rw c.in-Lab.is refl

pub returns-in-Init-clause-leaves : goal.returns-in-Init-clause-leaves
returns-in-Init-clause-leaves g c = rw c.in-Init.is refl

pub returns-in-Desk-clause-leaves : goal.returns-in-Desk-clause-leaves
returns-in-Desk-clause-leaves g c = rw c.in-Desk.is refl

pub returns-in-Sync-clause-leaves : goal.returns-in-Sync-clause-leaves
returns-in-Sync-clause-leaves g c = rw c.in-Sync.is refl

pub returns-in-Upload-clause-leaves : goal.returns-in-Upload-clause-leaves
returns-in-Upload-clause-leaves g c = rw c.in-Upload.is refl

pub returns-in-Download-clause-leaves : goal.returns-in-Download-clause-leaves
returns-in-Download-clause-leaves g c = rw c.in-Download.is refl

pub returns-in-Import-clause-leaves : goal.returns-in-Import-clause-leaves
returns-in-Import-clause-leaves g c = rw c.in-Import.is refl

pub returns-in-Export-clause-leaves : goal.returns-in-Export-clause-leaves
returns-in-Export-clause-leaves g c = rw c.in-Export.is (same_keeping _ _ _ _ _ _ _ _ _ _ c.run_export.ensures.same)

pub returns-in-Make-clause-leaves : goal.returns-in-Make-clause-leaves
returns-in-Make-clause-leaves g c = rw c.in-Make.is refl
