use Rattle.std.proofs.Common.{inl, inr, ⊎_elim, sym, ◌∙◌, ◌++◌, ◌∷◌, []}
use Rattle.ak_journal_forms.proofs.Readings.{payloads_in_file}
use Rattle.ak_journals.proofs.laws.what_is_opened_was_kept_or_under_way.Goals as goal

pub returns-clause-kept : goal.returns-clause-kept
returns-clause-kept c payloads opened image left read = sym (payloads_in_file opened image read) ∙ payloads_in_file payloads image left

pub returns-clause-under_way : goal.returns-clause-under_way
returns-clause-under_way c payloads opened payload image left read =
    ⊎_elim
    (λ kept. inl (sym (payloads_in_file opened image read) ∙ payloads_in_file payloads image kept))
    (λ more. inr (sym (payloads_in_file opened image read) ∙ payloads_in_file (payloads ++ payload ∷ []) image more)) left
