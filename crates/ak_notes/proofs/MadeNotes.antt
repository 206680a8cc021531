-- The edit that the changes for a note and its cards ask for.
use Rattle.std.specs.Prelude.{◌≡◌, ℕ, ℤ, List, [], ◌∷◌, Result, Ok, Err}
use Rattle.std.proofs.Common.{refl, sym, ap, subst, inl, inr, ◌∙◌, append_assoc, append-nil}
use Rattle.ak_base.specs.declared.cards.Card.{Card}
use Rattle.ak_base.specs.declared.rows.Row.TheVariants as rows
use Rattle.ak_edit.proofs.Building.{nothing_asked, put_asked}
use Rattle.ak_edit.specs.Ends.{RefusesEnd}
use Rattle.ak_edit.specs.Overlays.{Overlay, conf_over, edit_of, put_over, tag_over, unchanged}
use Rattle.ak_edit.specs.Refusals.{AnswersBy}
use Rattle.ak_edit.specs.declared.desk_faults.DeskFault.{DeskFault}
use Rattle.ak_keep.specs.Collections.{Collection}
use Rattle.ak_merge.specs.EditBuilding.{unedited, with_conf, with_row, with_tags}
use Rattle.ak_merge.specs.Edits.{Edit}
use Rattle.ak_notes.specs.MadeNotes.{RefusesMade, cards_over, made_edit, made_over, tags_over, with_cards}
use Rattle.ak_notes.specs.declared.made_notes.MadeNote.{MadeNote}

cards_asked : (cards : List Card) (o : Overlay) (c : Collection) → edit_of (cards_over cards o) c ≡ with_cards cards (edit_of o c)
cards_asked [] o c = refl
cards_asked (card ∷ cards) o c = cards_asked cards (put_over (rows.Card card) o) c ∙ ap (with_cards cards) (put_asked c o (rows.Card card))

tags_asked : (tags : List (List ℕ)) (o : Overlay) (c : Collection) → edit_of (tags_over tags o) c ≡ with_tags tags (edit_of o c)
tags_asked [] o c = ap (λ (names : List (List ℕ)). let e : Edit = record (edit_of o c) { tags = names } in e) (sym (append-nil o.tags))
tags_asked (tag ∷ tags) o c =
    tags_asked tags (tag_over tag o) c
    ∙ ap (λ (names : List (List ℕ)). let e : Edit = record (edit_of o c) { tags = names } in e) (append_assoc o.tags (tag ∷ []) tags)

-- the changes ask for the edit of what is made
pub made_asked : (tags : List (List ℕ)) (made : MadeNote) (c : Collection) → edit_of (made_over tags made unchanged) c ≡ made_edit tags made c
made_asked tags made c =
    let noted : Overlay = put_over (rows.Note made.note) unchanged in
    let note : edit_of noted c ≡ with_row (rows.Note made.note) (unedited c) = put_asked c unchanged (rows.Note made.note) ∙ ap (with_row (rows.Note made.note)) (nothing_asked c) in
    tags_asked tags (conf_over made.conf (cards_over made.cards noted)) c
    ∙ ap (λ (e : Edit). with_tags tags (with_conf made.conf e)) (cards_asked made.cards noted c ∙ ap (with_cards made.cards) note)

-- ---- the end of what is made
-- the tests of the end of the edit of what is made are those of the call, if it is made in one way
pub made_answer : {T : Type 0} (at : ℤ) (tags : List (List ℕ)) (c : Collection) (IsMade : MadeNote → Type 0) (made : MadeNote) (result : Result T DeskFault)
    → ((other : MadeNote) → IsMade other → other ≡ made) → IsMade made → AnswersBy (RefusesEnd at c (made_edit tags made c)) result → AnswersBy (RefusesMade at tags c IsMade) result
made_answer at tags c IsMade made (Ok value) once is answers = record {
  accepted = λ fault refuses. answers.accepted fault (subst (λ (m : MadeNote). RefusesEnd at c (made_edit tags m c) fault) (once refuses.0 refuses.1) refuses.2);
  refused = tt;
}
made_answer at tags c IsMade made (Err fault) once is answers = record {
  accepted = tt;
  refused = elim answers.refused [ inl outside ↦ inl outside | inr refuses ↦ inr (made, is, refuses) ];
}
