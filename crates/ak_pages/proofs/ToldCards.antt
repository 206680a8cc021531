-- What is told of a card and what is made of it, taken together.
use Rattle.std.specs.Prelude.{◌≡◌, ◌⊎◌, ℕ, ℤ, Bool, List, Some, Result, Ok, Err, IfErr, IfOk}
use Rattle.std.proofs.Common.{refl, sym, subst, inl, inr}
use Rattle.ak_base.specs.declared.cards.Card.{Card}
use Rattle.ak_base.specs.declared.names.Name.{Name}
use Rattle.ak_edit.proofs.Planning.{where_both}
use Rattle.ak_edit.specs.Refusals.{IsFromOutside}
use Rattle.ak_edit.specs.declared.desk_faults.DeskFault.{DeskFault}
use Rattle.ak_edit.specs.declared.desk_faults.DeskFault.TheVariants as faults
use Rattle.ak_filters.specs.Meanings.{Meaning}
use Rattle.ak_keep.proofs.Told.{where_told-map}
use Rattle.ak_keep.specs.Collections.{Holding, Rows}
use Rattle.ak_keep.specs.Keepers.{Keeping, WhereTold}
use Rattle.ak_keep.specs.Lookups.{card_at, note_at}
use Rattle.ak_pages.specs.CardFaces.{shown_card, shown_of_note}
use Rattle.ak_pages.specs.CardPages.{AnswersAs, IsPageRefusal, RefusesCard, RefusesShown, ShowsCard, ShowsSide}
use Rattle.ak_pages.specs.declared.shown_cards.ShownCard.{ShownCard}

shows : (k : Keeping) (card : ℤ) (back : Bool) (shown : ShownCard) (before after : List Meaning) (text : List ℕ)
    → WhereTold k (λ h. AnswersAs (shown_card h.rows card) (Ok shown)) → ShowsSide back shown before after text
    → WhereTold k (λ h. ShowsCard h.rows card back before after text)
shows k card back shown before after text told side =
    where_told-map k (λ h. AnswersAs (shown_card h.rows card) (Ok shown)) (λ h. ShowsCard h.rows card back before after text)
    (λ h answers. (shown, answers.shown, side)) told

pub told_shown : (k : Keeping) (asked card : ℤ) (back : Bool) (shown : ShownCard) (before after : List Meaning) (result : Result (List ℕ) DeskFault)
    → WhereTold k (λ h. AnswersAs (shown_card h.rows asked) (Ok shown)) → asked ≡ card → IfOk result (ShowsSide back shown before after)
    → IfOk result (λ text. WhereTold k (λ h. ShowsCard h.rows card back before after text))
told_shown k asked card back shown before after (Ok text) told same side =
    shows k card back shown before after text (subst (λ (id : ℤ). WhereTold k (λ h. AnswersAs (shown_card h.rows id) (Ok shown))) same told) side
told_shown k asked card back shown before after (Err fault) told same side = tt

refuses : (k : Keeping) (card : ℤ) (back : Bool) (shown : ShownCard) (before after : List Meaning) (fault : DeskFault)
    → WhereTold k (λ h. AnswersAs (shown_card h.rows card) (Ok shown)) → RefusesShown back shown before after fault
    → WhereTold k (λ h. RefusesCard h.rows card back before after fault)
refuses k card back shown before after fault told side =
    where_told-map k (λ h. AnswersAs (shown_card h.rows card) (Ok shown)) (λ h. RefusesCard h.rows card back before after fault)
    (λ h answers. inr (inr (shown, answers.shown, side))) told

pub told_refused : (k : Keeping) (asked card : ℤ) (back : Bool) (shown : ShownCard) (before after : List Meaning) (result : Result (List ℕ) DeskFault)
    → WhereTold k (λ h. AnswersAs (shown_card h.rows asked) (Ok shown)) → asked ≡ card → IfErr result (RefusesShown back shown before after)
    → IfErr result (λ fault. WhereTold k (λ h. RefusesCard h.rows card back before after fault))
told_refused k asked card back shown before after (Ok text) told same side = tt
told_refused k asked card back shown before after (Err fault) told same side =
    refuses k card back shown before after fault (subst (λ (id : ℤ). WhereTold k (λ h. AnswersAs (shown_card h.rows id) (Ok shown))) same told) side

absent : (told : Result ShownCard Name) (before : List Meaning) (fault : DeskFault)
    → IsFromOutside fault ⊎ ((name : Name) × (told ≡ Err name) × (fault ≡ faults.NoSuch name))
    → (IsFromOutside fault × (before ≡ before)) ⊎ ((name : Name) × (told ≡ Err name) × (fault ≡ faults.NoSuch name) × (before ≡ before))
absent told before fault (inl outside) = inl (outside, refl)
absent told before fault (inr missing) = inr (missing.0, missing.1, missing.2, refl)

either : (held : Result ShownCard Name) (A B C : Type 0) → A ⊎ B → A ⊎ B ⊎ C
either held A B C (inl a) = inl a
either held A B C (inr b) = inr (inl b)

pub told_absent : (k : Keeping) (card : ℤ) (back : Bool) (before : List Meaning) (fault : DeskFault)
    → WhereTold k (λ h. AnswersAs (shown_card h.rows card) (Err fault)) → WhereTold k (λ h. RefusesCard h.rows card back before before fault)
told_absent k card back before fault told =
    where_told-map k (λ h. AnswersAs (shown_card h.rows card) (Err fault)) (λ h. RefusesCard h.rows card back before before fault)
    (λ h answers. either (shown_card h.rows card) _ _ _ (absent (shown_card h.rows card) before fault answers.missing)) told

-- ---- the card that was found
card_found : (held : Rows) (id : ℤ) (card : Card) (result : Result ShownCard DeskFault) → Some card ≡ card_at held id
    → AnswersAs (shown_of_note held card (note_at held card.nid)) result → AnswersAs (shown_card held id) result
card_found held id card result found answers = rw (sym found) answers

pub told_card : (k : Keeping) (id : ℤ) (card : Card) (result : Result ShownCard DeskFault) → WhereTold k (λ h. Some card ≡ card_at h.rows id)
    → WhereTold k (λ h. AnswersAs (shown_of_note h.rows card (note_at h.rows card.nid)) result) → WhereTold k (λ h. AnswersAs (shown_card h.rows id) result)
told_card k id card result =
    where_both k (λ h. Some card ≡ card_at h.rows id) (λ h. AnswersAs (shown_of_note h.rows card (note_at h.rows card.nid)) result)
    (λ h. AnswersAs (shown_card h.rows id) result) (λ h. card_found h.rows id card result)

-- ---- what the call may answer
listed : (back : Bool) (shown : ShownCard) (before after : List Meaning) (fault : DeskFault) → RefusesShown back shown before after fault → IsPageRefusal fault
listed back shown before after fault (inl unread) = inr (inr (inl (unread.0, unread.2)))
listed back shown before after fault (inr (inl faulty)) = inr (inr (inr (faulty.0, faulty.1)))
listed back shown before after fault (inr (inr halted)) = inl (inr halted.0)

pub side_listed : (back : Bool) (shown : ShownCard) (before after : List Meaning) (result : Result (List ℕ) DeskFault) → IfErr result (RefusesShown back shown before after) → IfErr result IsPageRefusal
side_listed back shown before after (Ok text) side = tt
side_listed back shown before after (Err fault) side = listed back shown before after fault side
