use Rattle.std.proofs.Common.{⊎_elim, ◌++◌, ◌∷◌, []}
use Rattle.ak_journal_forms.proofs.Readings.{not_damaged}
use Rattle.ak_journals.proofs.laws.no_image_is_damaged.Goals as goal

pub returns-clause-kept : goal.returns-clause-kept
returns-clause-kept c payloads image place left damaged = not_damaged payloads place image left damaged

pub returns-clause-under_way : goal.returns-clause-under_way
returns-clause-under_way c payloads payload image place left damaged =
    ⊎_elim (λ kept. not_damaged payloads place image kept damaged) (λ more. not_damaged (payloads ++ payload ∷ []) place image more damaged) left
