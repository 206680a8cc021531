-- The one collection for which a file stands.
use Rattle.std.proofs.Common.{◌≡◌, ◌⊎◌, inl, inr, ⊎_elim, ℕ, List, ◌∷◌, ◌++◌, sym, ◌∙◌, subst}
use Rattle.ak_journal_forms.proofs.Readings.{not_damaged, payloads_in_file}
use Rattle.ak_journal_forms.specs.Frames.{IsDamagedAt}
use Rattle.ak_journal_rows.proofs.Folds.{each_is_read}
use Rattle.ak_journal_rows.proofs.OneChange.{one_end}
use Rattle.ak_journal_rows.specs.Changes.{nothing_held}
use Rattle.ak_journal_rows.specs.Texts.{LeadTo}
use Rattle.ak_keep.specs.Collections.{Holding}
use Rattle.ak_journal_tables.specs.Holdings.{HoldsOf, IsOtherAt}

pub one_holding : (one other : Holding) (file : List ℕ) → HoldsOf one file → HoldsOf other file → one ≡ other
one_holding one other file (payloads, stands, led) (others, so, ends) =
    one_end payloads nothing_held one other led
    (subst (λ (these : List (List ℕ)). LeadTo nothing_held these other) (sym (payloads_in_file others file so) ∙ payloads_in_file payloads file stands) ends)

pub opened_one : (was now opened : Holding) (image : List ℕ) → HoldsOf was image ⊎ HoldsOf now image → HoldsOf opened image → (opened ≡ was) ⊎ (opened ≡ now)
opened_one was now opened image left held = ⊎_elim (λ w. inl (one_holding opened was image held w)) (λ n. inr (one_holding opened now image held n)) left

pub not_cut_off : (held : Holding) (file : List ℕ) (place : ℕ) → HoldsOf held file → IsDamagedAt place file → ⊥
not_cut_off held file place (payloads, stands, led) damaged = not_damaged payloads place file stands damaged

pub not_other : (held : Holding) (file : List ℕ) (place : ℕ) → HoldsOf held file → IsOtherAt place file → ⊥
not_other held file place (payloads, stands, led) (others, so, gate) =
    let same : payloads ≡ gate.before ++ gate.payload ∷ gate.behind = sym (payloads_in_file payloads file stands) ∙ (payloads_in_file others file so ∙ gate.whole) in
    let found = each_is_read gate.before gate.behind gate.payload nothing_held held (subst (λ (these : List (List ℕ)). LeadTo nothing_held these held) same led) in
    gate.other found.0 found.1
