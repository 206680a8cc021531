use Rattle.ak_content_laws.proofs.ImportCalls.{notes_imported}
use Rattle.ak_content_laws.proofs.Keepings.{ends_keeps, where_told}
use Rattle.ak_imports.specs.Imports.{DoesImport, IsImported}
use Rattle.ak_content_laws.proofs.import_laws.imports_keep_sound.Goals as goal

pub returns : goal.returns
returns c = λ at given before now steps left result ends held. ends_keeps (DoesImport at given before now steps left) before now steps left result ends
    (λ counts _ done held. notes_imported at given before now steps left counts held (where_told before held.c (λ c. IsImported at given c before now steps left counts) held.told done)) held
