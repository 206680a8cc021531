use Rattle.std.proofs.Common.{refl, rules, w64, SFits}
use Rattle.std.proofs.lemmas.Int.{to_z-of_z}
use Rattle.ak_desk_lines.proofs.ObeyedLines.{ends_as, filters_as}
use Rattle.ak_desk_lines.proofs.obeying.obey.Goals as goal

pub returns-in-AddNote-clause-ends : goal.returns-in-AddNote-clause-ends
returns-in-AddNote-clause-ends g c =
    let note_type : SFits w64 c.in-AddNote.note_type = search rules in
    let deck : SFits w64 c.in-AddNote.deck = search rules in
    ends_as _ _ _ _ _ _ c.in-AddNote.is (rw (to_z-of_z w64 c.in-AddNote.note_type note_type, to_z-of_z w64 c.in-AddNote.deck deck) at c.add_note.ensures.ends)

pub returns-in-AddNote-clause-filters : goal.returns-in-AddNote-clause-filters
returns-in-AddNote-clause-filters g c = filters_as _ _ _ _ _ _ c.in-AddNote.is refl

pub returns-in-SetFields-clause-ends : goal.returns-in-SetFields-clause-ends
returns-in-SetFields-clause-ends g c =
    let note : SFits w64 c.in-SetFields.note = search rules in
    ends_as _ _ _ _ _ _ c.in-SetFields.is (rw (to_z-of_z w64 c.in-SetFields.note note) at c.set_fields.ensures.ends)

pub returns-in-SetFields-clause-filters : goal.returns-in-SetFields-clause-filters
returns-in-SetFields-clause-filters g c = filters_as _ _ _ _ _ _ c.in-SetFields.is refl

pub returns-in-SetTags-clause-ends : goal.returns-in-SetTags-clause-ends
returns-in-SetTags-clause-ends g c =
    let note : SFits w64 c.in-SetTags.note = search rules in
    ends_as _ _ _ _ _ _ c.in-SetTags.is (rw (to_z-of_z w64 c.in-SetTags.note note) at c.set_tags.ensures.ends)

pub returns-in-SetTags-clause-filters : goal.returns-in-SetTags-clause-filters
returns-in-SetTags-clause-filters g c = filters_as _ _ _ _ _ _ c.in-SetTags.is refl

pub returns-in-DeleteNotes-clause-ends : goal.returns-in-DeleteNotes-clause-ends
returns-in-DeleteNotes-clause-ends g c =
    ends_as _ _ _ _ _ _ c.in-DeleteNotes.is c.delete_notes.ensures.ends

pub returns-in-DeleteNotes-clause-filters : goal.returns-in-DeleteNotes-clause-filters
returns-in-DeleteNotes-clause-filters g c = filters_as _ _ _ _ _ _ c.in-DeleteNotes.is refl

pub returns-in-DeleteDeck-clause-ends : goal.returns-in-DeleteDeck-clause-ends
returns-in-DeleteDeck-clause-ends g c =
    let deck : SFits w64 c.in-DeleteDeck.deck = search rules in
    ends_as _ _ _ _ _ _ c.in-DeleteDeck.is (rw (to_z-of_z w64 c.in-DeleteDeck.deck deck) at c.delete_deck.ensures.ends)

pub returns-in-DeleteDeck-clause-filters : goal.returns-in-DeleteDeck-clause-filters
returns-in-DeleteDeck-clause-filters g c = filters_as _ _ _ _ _ _ c.in-DeleteDeck.is refl

pub returns-in-RenameDeck-clause-ends : goal.returns-in-RenameDeck-clause-ends
returns-in-RenameDeck-clause-ends g c =
    let deck : SFits w64 c.in-RenameDeck.deck = search rules in
    ends_as _ _ _ _ _ _ c.in-RenameDeck.is (rw (to_z-of_z w64 c.in-RenameDeck.deck deck) at c.rename_deck.ensures.ends)

pub returns-in-RenameDeck-clause-filters : goal.returns-in-RenameDeck-clause-filters
returns-in-RenameDeck-clause-filters g c = filters_as _ _ _ _ _ _ c.in-RenameDeck.is refl

pub returns-in-MoveCards-clause-ends : goal.returns-in-MoveCards-clause-ends
returns-in-MoveCards-clause-ends g c =
    let deck : SFits w64 c.in-MoveCards.deck = search rules in
    ends_as _ _ _ _ _ _ c.in-MoveCards.is (rw (to_z-of_z w64 c.in-MoveCards.deck deck) at c.move_cards.ensures.ends)

pub returns-in-MoveCards-clause-filters : goal.returns-in-MoveCards-clause-filters
returns-in-MoveCards-clause-filters g c = filters_as _ _ _ _ _ _ c.in-MoveCards.is refl

pub returns-in-UseOptions-clause-ends : goal.returns-in-UseOptions-clause-ends
returns-in-UseOptions-clause-ends g c =
    let deck : SFits w64 c.in-UseOptions.deck = search rules in
    let options : SFits w64 c.in-UseOptions.options = search rules in
    ends_as _ _ _ _ _ _ c.in-UseOptions.is (rw (to_z-of_z w64 c.in-UseOptions.deck deck, to_z-of_z w64 c.in-UseOptions.options options) at c.use_options.ensures.ends)

pub returns-in-UseOptions-clause-filters : goal.returns-in-UseOptions-clause-filters
returns-in-UseOptions-clause-filters g c = filters_as _ _ _ _ _ _ c.in-UseOptions.is refl

pub returns-in-SetSpread-clause-ends : goal.returns-in-SetSpread-clause-ends
returns-in-SetSpread-clause-ends g c =
    let spread : SFits w64 c.in-SetSpread.spread = search rules in
    ends_as _ _ _ _ _ _ c.in-SetSpread.is (rw (to_z-of_z w64 c.in-SetSpread.spread spread) at c.set_spread.ensures.ends)

pub returns-in-SetSpread-clause-filters : goal.returns-in-SetSpread-clause-filters
returns-in-SetSpread-clause-filters g c = filters_as _ _ _ _ _ _ c.in-SetSpread.is refl

pub returns-in-AddDeck-clause-ends : goal.returns-in-AddDeck-clause-ends
returns-in-AddDeck-clause-ends g c =
    ends_as _ _ _ _ _ _ c.in-AddDeck.is c.add_deck.ensures.ends

pub returns-in-AddDeck-clause-filters : goal.returns-in-AddDeck-clause-filters
returns-in-AddDeck-clause-filters g c = filters_as _ _ _ _ _ _ c.in-AddDeck.is refl

pub returns-in-AddOptions-clause-ends : goal.returns-in-AddOptions-clause-ends
returns-in-AddOptions-clause-ends g c =
    ends_as _ _ _ _ _ _ c.in-AddOptions.is c.add_options.ensures.ends

pub returns-in-AddOptions-clause-filters : goal.returns-in-AddOptions-clause-filters
returns-in-AddOptions-clause-filters g c = filters_as _ _ _ _ _ _ c.in-AddOptions.is refl

pub returns-in-SetOptions-clause-ends : goal.returns-in-SetOptions-clause-ends
returns-in-SetOptions-clause-ends g c =
    ends_as _ _ _ _ _ _ c.in-SetOptions.is c.set_options.ensures.ends

pub returns-in-SetOptions-clause-filters : goal.returns-in-SetOptions-clause-filters
returns-in-SetOptions-clause-filters g c = filters_as _ _ _ _ _ _ c.in-SetOptions.is refl

pub returns-in-DeleteOptions-clause-ends : goal.returns-in-DeleteOptions-clause-ends
returns-in-DeleteOptions-clause-ends g c =
    let options : SFits w64 c.in-DeleteOptions.options = search rules in
    ends_as _ _ _ _ _ _ c.in-DeleteOptions.is (rw (to_z-of_z w64 c.in-DeleteOptions.options options) at c.delete_options.ensures.ends)

pub returns-in-DeleteOptions-clause-filters : goal.returns-in-DeleteOptions-clause-filters
returns-in-DeleteOptions-clause-filters g c = filters_as _ _ _ _ _ _ c.in-DeleteOptions.is refl

pub returns-in-AddType-clause-ends : goal.returns-in-AddType-clause-ends
returns-in-AddType-clause-ends g c =
    ends_as _ _ _ _ _ _ c.in-AddType.is c.add_type.ensures.ends

pub returns-in-AddType-clause-filters : goal.returns-in-AddType-clause-filters
returns-in-AddType-clause-filters g c = filters_as _ _ _ _ _ _ c.in-AddType.is refl

pub returns-in-EditType-clause-ends : goal.returns-in-EditType-clause-ends
returns-in-EditType-clause-ends g c =
    ends_as _ _ _ _ _ _ c.in-EditType.is c.edit_type.ensures.ends

pub returns-in-EditType-clause-filters : goal.returns-in-EditType-clause-filters
returns-in-EditType-clause-filters g c = filters_as _ _ _ _ _ _ c.in-EditType.is refl

pub returns-in-DeleteType-clause-ends : goal.returns-in-DeleteType-clause-ends
returns-in-DeleteType-clause-ends g c =
    let note_type : SFits w64 c.in-DeleteType.note_type = search rules in
    ends_as _ _ _ _ _ _ c.in-DeleteType.is (rw (to_z-of_z w64 c.in-DeleteType.note_type note_type) at c.delete_type.ensures.ends)

pub returns-in-DeleteType-clause-filters : goal.returns-in-DeleteType-clause-filters
returns-in-DeleteType-clause-filters g c = filters_as _ _ _ _ _ _ c.in-DeleteType.is refl

pub returns-in-Answer-clause-ends : goal.returns-in-Answer-clause-ends
returns-in-Answer-clause-ends g c =
    let card : SFits w64 c.in-Answer.card = search rules in
    ends_as _ _ _ _ _ _ c.in-Answer.is (rw (to_z-of_z w64 c.in-Answer.card card) at c.answer_card.ensures.ends)

pub returns-in-Answer-clause-filters : goal.returns-in-Answer-clause-filters
returns-in-Answer-clause-filters g c = filters_as _ _ _ _ _ _ c.in-Answer.is refl

pub returns-in-Next-clause-ends : goal.returns-in-Next-clause-ends
returns-in-Next-clause-ends g c =
    let deck : SFits w64 c.in-Next.deck = search rules in
    ends_as _ _ _ _ _ _ c.in-Next.is (rw (to_z-of_z w64 c.in-Next.deck deck) at c.ask_next.ensures.ends)

pub returns-in-Next-clause-filters : goal.returns-in-Next-clause-filters
returns-in-Next-clause-filters g c = filters_as _ _ _ _ _ _ c.in-Next.is refl

pub returns-in-Counts-clause-ends : goal.returns-in-Counts-clause-ends
returns-in-Counts-clause-ends g c =
    let deck : SFits w64 c.in-Counts.deck = search rules in
    ends_as _ _ _ _ _ _ c.in-Counts.is (rw (to_z-of_z w64 c.in-Counts.deck deck) at c.ask_counts.ensures.ends)

pub returns-in-Counts-clause-filters : goal.returns-in-Counts-clause-filters
returns-in-Counts-clause-filters g c = filters_as _ _ _ _ _ _ c.in-Counts.is refl

pub returns-in-Find-clause-ends : goal.returns-in-Find-clause-ends
returns-in-Find-clause-ends g c =
    ends_as _ _ _ _ _ _ c.in-Find.is c.find_cards.ensures.ends

pub returns-in-Find-clause-filters : goal.returns-in-Find-clause-filters
returns-in-Find-clause-filters g c = filters_as _ _ _ _ _ _ c.in-Find.is refl

pub returns-in-Page-clause-ends : goal.returns-in-Page-clause-ends
returns-in-Page-clause-ends g c =
    let card : SFits w64 c.in-Page.card = search rules in
    ends_as _ _ _ _ _ _ c.in-Page.is (rw (to_z-of_z w64 c.in-Page.card card) at c.show_page.ensures.ends)

pub returns-in-Page-clause-filters : goal.returns-in-Page-clause-filters
returns-in-Page-clause-filters g c =
    let card : SFits w64 c.in-Page.card = search rules in
    filters_as _ _ _ _ _ _ c.in-Page.is (rw (to_z-of_z w64 c.in-Page.card card) at c.show_page.ensures.shows)

pub returns-in-Mute-clause-ends : goal.returns-in-Mute-clause-ends
returns-in-Mute-clause-ends g c =
    ends_as _ _ _ _ _ _ c.in-Mute.is c.mute_filter.ensures.ends

pub returns-in-Mute-clause-filters : goal.returns-in-Mute-clause-filters
returns-in-Mute-clause-filters g c = filters_as _ _ _ _ _ _ c.in-Mute.is c.mute_filter.ensures.drops

pub returns-in-Suspend-clause-ends : goal.returns-in-Suspend-clause-ends
returns-in-Suspend-clause-ends g c =
    ends_as _ _ _ _ _ _ c.in-Suspend.is c.suspend.ensures.ends

pub returns-in-Suspend-clause-filters : goal.returns-in-Suspend-clause-filters
returns-in-Suspend-clause-filters g c = filters_as _ _ _ _ _ _ c.in-Suspend.is refl

pub returns-in-Unsuspend-clause-ends : goal.returns-in-Unsuspend-clause-ends
returns-in-Unsuspend-clause-ends g c =
    ends_as _ _ _ _ _ _ c.in-Unsuspend.is c.unsuspend.ensures.ends

pub returns-in-Unsuspend-clause-filters : goal.returns-in-Unsuspend-clause-filters
returns-in-Unsuspend-clause-filters g c = filters_as _ _ _ _ _ _ c.in-Unsuspend.is refl

pub returns-in-Bury-clause-ends : goal.returns-in-Bury-clause-ends
returns-in-Bury-clause-ends g c =
    ends_as _ _ _ _ _ _ c.in-Bury.is c.bury.ensures.ends

pub returns-in-Bury-clause-filters : goal.returns-in-Bury-clause-filters
returns-in-Bury-clause-filters g c = filters_as _ _ _ _ _ _ c.in-Bury.is refl

pub returns-in-Flag-clause-ends : goal.returns-in-Flag-clause-ends
returns-in-Flag-clause-ends g c =
    let value : SFits w64 c.in-Flag.value = search rules in
    ends_as _ _ _ _ _ _ c.in-Flag.is (rw (to_z-of_z w64 c.in-Flag.value value) at c.flag.ensures.ends)

pub returns-in-Flag-clause-filters : goal.returns-in-Flag-clause-filters
returns-in-Flag-clause-filters g c = filters_as _ _ _ _ _ _ c.in-Flag.is refl

pub returns-in-Undo-clause-ends : goal.returns-in-Undo-clause-ends
returns-in-Undo-clause-ends g c =
    ends_as _ _ _ _ _ _ c.in-Undo.is c.undo_latest.ensures.ends

pub returns-in-Undo-clause-filters : goal.returns-in-Undo-clause-filters
returns-in-Undo-clause-filters g c = filters_as _ _ _ _ _ _ c.in-Undo.is refl

pub returns-in-Check-clause-ends : goal.returns-in-Check-clause-ends
returns-in-Check-clause-ends g c =
    ends_as _ _ _ _ _ _ c.in-Check.is c.check_all.ensures.ends

pub returns-in-Check-clause-filters : goal.returns-in-Check-clause-filters
returns-in-Check-clause-filters g c = filters_as _ _ _ _ _ _ c.in-Check.is refl
