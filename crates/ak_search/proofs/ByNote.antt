-- A search that asks for notes alone does the same of all cards of a note.
use Rattle.std.proofs.Common.{◌≡◌, Bool, true, false, not, ℤ, List, [], Option, Some, None, IfSome, cond, refl, ap, sym, ◌∙◌, arith}
use Rattle.std.proofs.lemmas.Option.{none-some, same_Some}
use Rattle.std.specs.Cmp.{signed_Decides}
use Rattle.std.specs.Ordering.{int_eq}
use Rattle.ak_base.specs.declared.cards.Card.{Card}
use Rattle.ak_keep.specs.Collections.{Rows}
use Rattle.ak_keep.specs.Lookups.{note_at, deck_of_card}
use Rattle.ak_search.specs.ByNote.{ask_notes_alone, asks_note_alone, known_of, verdict_of}
use Rattle.ak_search.specs.CardFacts.{Seen, type_of}
use Rattle.ak_search.specs.Holds.{holds}
use Rattle.ak_search.specs.Passes.{asked, is_shown, tested}
use Rattle.ak_search.specs.declared.holds.SearchContext.{SearchContext}
use Rattle.ak_search.specs.declared.searches.Verdict.{Verdict}
use Rattle.ak_search.specs.declared.terms.Term.TheVariants as terms
use Rattle.ak_search.specs.declared.terms.Term.{Term}
use Rattle.ak_search.specs.declared.tokens.Piece.{Piece}
use Rattle.ak_search.proofs.Answering.{same_walk}

-- what is seen of a card, if its note were another
abbrev seen_of_note : SearchContext → Rows → Card → ℤ → Seen
seen_of_note context held c note = record { card = record c { nid = note }; note = note_at held note; note_type = type_of held (note_at held note); deck = deck_of_card held c; answered = is_shown context.answers c.id }

same_of_note : (context : SearchContext) (held : Rows) (one other : Card) (term : Term) → one.nid ≡ other.nid → asks_note_alone term ≡ true → tested context held one term ≡ tested context held other term
same_of_note context held one other (terms.Contains pattern) e h = ap (λ note. holds context.day (seen_of_note context held other note) (terms.Contains pattern)) e
same_of_note context held one other (terms.Word pattern) e h = ap (λ note. holds context.day (seen_of_note context held other note) (terms.Word pattern)) e
same_of_note context held one other (terms.Field name pattern) e h = ap (λ note. holds context.day (seen_of_note context held other note) (terms.Field name pattern)) e
same_of_note context held one other (terms.Deck pattern) e h = absurd (grind (arith, h))
same_of_note context held one other (terms.Tag pattern) e h = ap (λ note. holds context.day (seen_of_note context held other note) (terms.Tag pattern)) e
same_of_note context held one other terms.Untagged e h = ap (λ note. holds context.day (seen_of_note context held other note) terms.Untagged) e
same_of_note context held one other (terms.NoteType pattern) e h = ap (λ note. holds context.day (seen_of_note context held other note) (terms.NoteType pattern)) e
same_of_note context held one other (terms.Template pattern) e h = absurd (grind (arith, h))
same_of_note context held one other (terms.InState state) e h = absurd (grind (arith, h))
same_of_note context held one other (terms.Prop what comparison bound) e h = absurd (grind (arith, h))
same_of_note context held one other (terms.Flag number) e h = absurd (grind (arith, h))
same_of_note context held one other (terms.Rated days) e h = absurd (grind (arith, h))
same_of_note context held one other (terms.RatedWith days ease) e h = absurd (grind (arith, h))
same_of_note context held one other (terms.Added days) e h = absurd (grind (arith, h))
same_of_note context held one other (terms.Edited days) e h = ap (λ note. holds context.day (seen_of_note context held other note) (terms.Edited days)) e
same_of_note context held one other (terms.NoteIds ids) e h = ap (λ note. holds context.day (seen_of_note context held other note) (terms.NoteIds ids)) e
same_of_note context held one other (terms.CardIds ids) e h = absurd (grind (arith, h))

not_false : (v : Bool) → not v ≡ false → v ≡ true
not_false true h = refl
not_false false h = absurd (grind (arith, h))

not_true : (v : Bool) → not v ≡ true → v ≡ false
not_true true h = absurd (grind (arith, h))
not_true false h = refl

asked_alike : (context : SearchContext) (held : Rows) (one other : Card) (ps : List Piece) → one.nid ≡ other.nid → ask_notes_alone ps ≡ true → asked ps (tested context held one) ≡ asked ps (tested context held other)
asked_alike context held one other ps e h =
    same_walk (λ (term : Term). not (asks_note_alone term)) (tested context held one) (tested context held other) (λ term apart. same_of_note context held one other term e (not_false _ apart)) [] false true ps (not_true _ h)

-- what is kept of a note is so of all its cards
pub verdict_kept : (context : SearchContext) (held : Rows) (c : Card) (ps : List Piece) (by_note does : Bool) → by_note ≡ ask_notes_alone ps → does ≡ asked ps (tested context held c)
    → IfSome (cond by_note (Some (verdict_of c.nid does)) None) (λ v. (other : Card) → other.nid ≡ v.note → asked ps (tested context held other) ≡ v.does)
verdict_kept context held c ps true does by is = λ other e. asked_alike context held other c ps e (sym by) ∙ sym is
verdict_kept context held c ps false does by is = tt

-- what is known was found of the note
pub known_so : (verdict : Option Verdict) (note : ℤ) (does : Bool) → known_of verdict note ≡ Some does → verdict ≡ Some (verdict_of note does)
known_so None note does h = absurd (none-some does h)
known_so (Some verdict) note does h =
    elim (int_eq verdict.note note) as (λ b. int_eq verdict.note note ≡ b → cond b (Some verdict.does) None ≡ Some does → Some verdict ≡ Some (verdict_of note does)) [
      | true ↦ λ own e. ap (λ n. Some (verdict_of n verdict.does)) ((signed_Decides verdict.note note).0 own) ∙ ap (λ d. Some (verdict_of note d)) (same_Some verdict.does does e)
      | false ↦ λ _ e. absurd (none-some does e)
    ] refl h
