-- What is known where a keeper tells its collection: one more row, one more page.
use Rattle.std.proofs.Common.{◌≡◌, true, false, cond, ◌||◌, ◌∙◌, ap, refl, subst, sym, arith, Bool, ℤ, pos, int_lt, ◌≤ℤ◌, ◌<ℤ◌, ◌⊎◌, List, [], ◌∷◌, ◌++◌, map, Option, Some, None, Result, Ok, Err, IfOk, IfSome, append-nil, length}
use Rattle.std.proofs.Math.Bool.{or-false}
use Rattle.std.proofs.lemmas.List.{nil_from_length}
use Rattle.std.proofs.lemmas.Option.{none-some, same_Some}
use Rattle.std.specs.BTreeMap.{get}
use Rattle.std.specs.Cmp.{signed_Decides}
use Rattle.std.specs.Option.{option_map, option_or}
use Rattle.std.specs.Ordering.{int_cmp, int_eq, is_eq}
use Rattle.ak_base.specs.Rows.{name_of}
use Rattle.ak_base.specs.declared.cards.Card.{Card}
use Rattle.ak_base.specs.declared.days.Day.{Day}
use Rattle.ak_base.specs.declared.decks.Deck.{Deck}
use Rattle.ak_base.specs.declared.names.Table.TheVariants as tables
use Rattle.ak_base.specs.declared.note_types.NoteType.{NoteType}
use Rattle.ak_base.specs.declared.notes.Note.{Note}
use Rattle.ak_base.specs.declared.rows.Row.TheVariants as rows
use Rattle.ak_base.specs.declared.rows.Row.{Row}
use Rattle.ak_keep.specs.Collections.{Holding, Rows, StandsUnderNames, rows_past}
use Rattle.ak_keep.specs.Lookups.{note_at, note_type_at, deck_at, deck_of_card}
use Rattle.ak_keep.specs.Marks.{WithMark}
use Rattle.ak_keep.specs.Walks.{ahead}
use Rattle.ak_keep.specs.declared.keepers.KeepFault.{KeepFault}
use Rattle.ak_keep.specs.declared.walks.Walk.{Walk}
use Rattle.ak_search.specs.ByNote.{ask_notes_alone, known_of, verdict_of}
use Rattle.ak_search.specs.CardFacts.{Seen, is_answer_in, is_answered, seen, type_of}
use Rattle.ak_search.specs.Grammar.{pieces_in}
use Rattle.ak_search.specs.Holds.{asked_by, holds, is_hit, ids_of_hits, hits}
use Rattle.ak_search.specs.Meanings.{meets, walk}
use Rattle.ak_search.specs.Passes.{AreAnswersFor, AreAnswersFrom, AreLatest, AreTypesOf, HasNoteOf, HasTexts, HasTypeOf, KeepsTexts, Serves, Stays, Suits, Tells, asked, asks_before, holds_by, needs_texts, evaluated_from, is_shown, needs_deck, needs_note, some_term, tested}
use Rattle.ak_search.specs.Searching.{SearchStays, SearchesBy}
use Rattle.ak_search.specs.Trees.{Tree, pieces_of}
use Rattle.ak_search.specs.declared.answers.Answers.{Answers}
use Rattle.ak_search.specs.declared.evaluator.Evaluator.{Evaluator}
use Rattle.ak_search.specs.declared.evaluator.Group.{Group}
use Rattle.ak_search.specs.declared.holds.SearchContext.{SearchContext}
use Rattle.ak_search.specs.declared.kept_types.KeptTypes.{KeptTypes}
use Rattle.ak_search.specs.declared.related.Latest.{Latest}
use Rattle.ak_search.specs.declared.searches.Search.{Search}
use Rattle.ak_search.specs.declared.searches.Verdict.{Verdict}
use Rattle.ak_search.specs.declared.terms.Term.TheVariants as terms
use Rattle.ak_search.specs.declared.terms.Term.{Term}
use Rattle.ak_search.specs.declared.tokens.Piece.TheVariants.{Test}
use Rattle.ak_search.specs.declared.tokens.Piece.{Piece}
use Rattle.ak_search.proofs.Answering.{page_added, serves, tests_as}
use Rattle.ak_search.proofs.ByNote.{known_so, verdict_kept}
use Rattle.ak_search.proofs.LaterAnswers.{later_answers}
use Rattle.ak_search.proofs.Passing.{page_taken, row_taken}
use Rattle.ak_search.proofs.Walking.{walked}

some_same : (one other : ℤ) → Some one ≡ Some other → one ≡ other
some_same one other e = cc

no_some : (one : ℤ) → None ≡ Some one → ⊥
no_some one e = cc

true_false : {b : Bool} → b ≡ true → b ≡ false → ⊥
true_false h g = cc

not_both : (term : Term) → needs_note term ≡ true → needs_deck term ≡ true → ⊥
not_both (terms.Contains pattern) h g = true_false g refl
not_both (terms.Word pattern) h g = true_false g refl
not_both (terms.Field name pattern) h g = true_false g refl
not_both (terms.Deck pattern) h g = true_false h refl
not_both (terms.Tag pattern) h g = true_false g refl
not_both terms.Untagged h g = true_false g refl
not_both (terms.NoteType pattern) h g = true_false g refl
not_both (terms.Template pattern) h g = true_false g refl
not_both (terms.InState state) h g = true_false h refl
not_both (terms.Prop what comparison bound) h g = true_false h refl
not_both (terms.Flag number) h g = true_false h refl
not_both (terms.Rated days) h g = true_false h refl
not_both (terms.RatedWith days ease) h g = true_false h refl
not_both (terms.Added days) h g = true_false h refl
not_both (terms.Edited days) h g = true_false g refl
not_both (terms.NoteIds ids) h g = true_false h refl
not_both (terms.CardIds ids) h g = true_false h refl

-- ---- one card, piece by piece
-- a piece that is a term
pub term_tells : (told : Option (WithMark Holding)) (context : SearchContext) (c : Card) (old new : Latest) (piece : Piece) (negated : Bool) (term : Term) (does : Bool) → piece ≡ Test negated term
    → IfSome told (λ held. Stays old new held.current.rows (does ≡ tested context held.current.rows c term))
    → IfSome told (λ held. Stays old new held.current.rows (Tells piece (tested context held.current.rows c) does))
term_tells None context c old new piece negated term does is tests = tt
term_tells (Some held) context c old new piece negated term does is tests = λ latest.
    let one = tests latest in
    (one.0, subst (λ (p : Piece). Tells p (tested context held.current.rows c) does) (sym is) one.1)

-- before the first piece
pub no_piece_told : (told : Option (WithMark Holding)) (context : SearchContext) (c : Card) (latest : Latest) (e : Evaluator) (ps : List Piece) → e.outer.items ≡ [] → e.either ≡ false → e.all ≡ true
    → IfSome told (λ held. Stays latest latest held.current.rows (evaluated_from e (tested context held.current.rows c) ps ≡ asked ps (tested context held.current.rows c)))
no_piece_told None context c latest e ps outer either all = tt
no_piece_told (Some held) context c latest e ps outer either all = λ is. (
  is,
  ap (λ (groups : List Group). walk (tested context held.current.rows c) groups e.either e.all ps) outer
      ∙ ap (λ v. walk (tested context held.current.rows c) [] v e.all ps) either ∙ ap (λ v. walk (tested context held.current.rows c) [] false v ps) all,
)

-- a term was tested with what was looked up for it
pub tests_told : (told : Option (WithMark Holding)) (context : SearchContext) (c : Card) (old new : Latest) (term : Term) (does : Bool) → does ≡ holds_by context.day context.answers c new term
    → IfSome told (λ held. Stays old new held.current.rows (Suits new held.current.rows c term))
    → IfSome told (λ held. Stays old new held.current.rows (does ≡ tested context held.current.rows c term))
tests_told None context c old new term does is suits = tt
tests_told (Some held) context c old new term does is suits = λ latest.
    let one = suits latest in
    (one.0, tests_as context held.current.rows c new term does is one.1)

-- ---- what was looked up last
abbrev pub NoteStays : Latest → Latest → ℤ → Rows → Type 0
NoteStays old new id held = Stays old new held (new.related.note ≡ note_at held id)

pub note_known : (told : Option (WithMark Holding)) (latest : Latest) (id : ℤ) → latest.nid ≡ Some id → IfSome told (λ held. NoteStays latest latest id held.current.rows)
note_known None latest id by = tt
note_known (Some held) latest id by = λ is. (is, is.note id by)

pub note_read : (told : Option (WithMark Holding)) (old new : Latest) (id : ℤ) (note : Option Note) → new ≡ record { nid = Some id; mid = old.mid; did = old.did; related = record { note = note; note_type = old.related.note_type; deck = old.related.deck }; texts = None; types = old.types }
    → IfSome told (λ held. note ≡ note_at held.current.rows id) → IfSome told (λ held. NoteStays old new id held.current.rows)
note_read None old new id found is read = tt
note_read (Some held) old new id found is read = λ latest. subst (λ (l : Latest). AreLatest l held.current.rows × (l.related.note ≡ note_at held.current.rows id)) (sym is)
    (record { note = λ own e. read ∙ ap (note_at held.current.rows) (some_same id own e); note_type = latest.note_type; deck = latest.deck; texts = λ e. absurd (true_false e refl); types = latest.types }, read)

pub deck_known : (told : Option (WithMark Holding)) (latest : Latest) (c : Card) → latest.did ≡ Some c.did → IfSome told (λ held. Stays latest latest held.current.rows (latest.related.deck ≡ deck_of_card held.current.rows c))
deck_known None latest c by = tt
deck_known (Some held) latest c by = λ is. (is, is.deck c.did by)

pub deck_read : (told : Option (WithMark Holding)) (old new : Latest) (c : Card) (deck : Option Deck) → new ≡ record { nid = old.nid; mid = old.mid; did = Some c.did; related = record { note = old.related.note; note_type = old.related.note_type; deck = deck }; texts = old.texts; types = old.types }
    → IfSome told (λ held. deck ≡ deck_of_card held.current.rows c) → IfSome told (λ held. Stays old new held.current.rows (new.related.deck ≡ deck_of_card held.current.rows c))
deck_read None old new c deck is read = tt
deck_read (Some held) old new c deck is read = λ latest. subst (λ (l : Latest). AreLatest l held.current.rows × (l.related.deck ≡ deck_of_card held.current.rows c)) (sym is)
    (record { note = latest.note; note_type = latest.note_type; deck = λ own e. read ∙ ap (λ id. option_or (deck_at held.current.rows id) (deck_at held.current.rows (pos 1))) (some_same c.did own e); texts = latest.texts; types = latest.types }, read)

-- the type of the note that was looked up last
abbrev pub TypeStays : Latest → Latest → Rows → Type 0
TypeStays old new held = Stays old new held (HasTypeOf old new held)

type_by_id : (held : Rows) (note : Option Note) (id : ℤ) → option_map (λ (n : Note). n.mid) note ≡ Some id → note_type_at held id ≡ type_of held note
type_by_id held None id e = absurd (grind (arith, e))
type_by_id held (Some n) id e = ap (note_type_at held) (sym (some_same n.mid id e))

no_type : (held : Rows) (note : Option Note) → option_map (λ (n : Note). n.mid) note ≡ None → None ≡ type_of held note
no_type held None e = refl
no_type held (Some n) e = absurd (grind (arith, e))

pub type_known : (told : Option (WithMark Holding)) (latest : Latest) (id : ℤ) → latest.mid ≡ Some id → option_map (λ (n : Note). n.mid) latest.related.note ≡ Some id → IfSome told (λ held. TypeStays latest latest held.current.rows)
type_known None latest id by of = tt
type_known (Some held) latest id by of = λ is. (is, (refl, is.note_type id by ∙ type_by_id held.current.rows latest.related.note id of))

-- this type was turned to
abbrev pub with_type : Latest → ℤ → Option NoteType → KeptTypes → Latest
with_type l id note_type types = record { nid = l.nid; mid = Some id; did = l.did; related = record { note = l.related.note; note_type = note_type; deck = l.related.deck }; texts = None; types = types }

pub type_turned : (old kept : Latest) (own id : ℤ) (note_type : Option NoteType) (types : KeptTypes)
    → kept ≡ record { nid = old.nid; mid = None; did = old.did; related = record { note = old.related.note; note_type = None; deck = old.related.deck }; texts = old.texts; types = kept.types }
    → own ≡ id → with_type kept own note_type types ≡ with_type old id note_type types
type_turned old kept own id note_type types is same = ap (λ (l : Latest). with_type l own note_type types) is ∙ ap (λ i. with_type old i note_type types) same

pub type_read : (told : Option (WithMark Holding)) (old new : Latest) (id : ℤ) (note_type : Option NoteType) (kept : KeptTypes)
    → new ≡ record { nid = old.nid; mid = Some id; did = old.did; related = record { note = old.related.note; note_type = note_type; deck = old.related.deck }; texts = None; types = new.types }
    → option_map (λ (n : Note). n.mid) old.related.note ≡ Some id → ((held : Rows) → AreLatest old held → AreTypesOf kept held)
    → IfSome told (λ held. AreTypesOf kept held.current.rows → AreTypesOf new.types held.current.rows × (note_type ≡ note_type_at held.current.rows id)) → IfSome told (λ held. TypeStays old new held.current.rows)
type_read None old new id note_type kept is of keeps takes = tt
type_read (Some held) old new id note_type kept is of keeps takes = λ latest.
    let taken = takes (keeps held.current.rows latest) in
    let read : note_type ≡ note_type_at held.current.rows id = taken.1 in
    subst (λ (l : Latest). AreTypesOf l.types held.current.rows → AreLatest l held.current.rows × ((l.related.note ≡ old.related.note) × (l.related.note_type ≡ type_of held.current.rows old.related.note))) (sym is)
    (λ types. (
      record { note = latest.note; note_type = λ own e. read ∙ ap (note_type_at held.current.rows) (some_same id own e); deck = latest.deck; texts = λ e. absurd (true_false e refl); types = types },
      (refl, read ∙ type_by_id held.current.rows old.related.note id of),
    )) taken.0

-- one more type is kept, and one is taken out
pub type_kept : (old new : KeptTypes) (id key : ℤ) (note_type : Option NoteType) → key ≡ id → ((q : ℤ) → get int_cmp new.by_id q ≡ cond (is_eq (int_cmp key q)) (Some note_type) (get int_cmp old.by_id q))
    → (held : Rows) → note_type ≡ note_type_at held id → AreTypesOf old held → AreTypesOf new held
type_kept old new id key note_type same puts held read are = λ q other e.
    elim (int_eq id q) as (λ b. int_eq id q ≡ b → cond b (Some note_type) (get int_cmp old.by_id q) ≡ Some other → other ≡ note_type_at held q) [
      | true ↦ λ own e. sym (same_Some note_type other e) ∙ read ∙ ap (note_type_at held) ((signed_Decides id q).0 own)
      | false ↦ λ _ e. are q other e
    ] refl (sym (puts q ∙ ap (λ k. cond (is_eq (int_cmp k q)) (Some note_type) (get int_cmp old.by_id q)) same) ∙ e)

still_kept : (old new : KeptTypes) (key : ℤ) (held : Rows) → ((q : ℤ) → get int_cmp new.by_id q ≡ cond (is_eq (int_cmp key q)) None (get int_cmp old.by_id q)) → AreTypesOf old held → AreTypesOf new held
still_kept old new key held takes are = λ q other e.
    elim (is_eq (int_cmp key q)) as (λ b. cond b None (get int_cmp old.by_id q) ≡ Some other → other ≡ note_type_at held q) [
      | true ↦ λ e. absurd (none-some other e)
      | false ↦ λ e. are q other e
    ] (sym (takes q) ∙ e)

pub type_taken : (told : Option (WithMark Holding)) (old new : KeptTypes) (id key : ℤ) (note_type : Option NoteType) → key ≡ id → Some note_type ≡ get int_cmp old.by_id key
    → ((q : ℤ) → get int_cmp new.by_id q ≡ cond (is_eq (int_cmp key q)) None (get int_cmp old.by_id q))
    → IfSome told (λ held. AreTypesOf old held.current.rows → AreTypesOf new held.current.rows × (note_type ≡ note_type_at held.current.rows id))
type_taken None old new id key note_type same there takes = tt
type_taken (Some held) old new id key note_type same there takes = λ are.
    (still_kept old new key held.current.rows takes are, are id note_type (ap (get int_cmp old.by_id) (sym same) ∙ sym there))

pub type_looked_up : (told : Option (WithMark Holding)) (old new : KeptTypes) (id key : ℤ) (result : Result (Option NoteType) KeepFault)
    → ((q : ℤ) → get int_cmp new.by_id q ≡ cond (is_eq (int_cmp key q)) None (get int_cmp old.by_id q)) → IfOk result (λ note_type. IfSome told (λ held. note_type ≡ note_type_at held.current.rows id))
    → IfOk result (λ note_type. IfSome told (λ held. AreTypesOf old held.current.rows → AreTypesOf new held.current.rows × (note_type ≡ note_type_at held.current.rows id)))
type_looked_up told old new id key (Err fault) takes read = tt
type_looked_up None old new id key (Ok note_type) takes read = tt
type_looked_up (Some held) old new id key (Ok note_type) takes read = λ are. (still_kept old new key held.current.rows takes are, read)

pub type_none : (told : Option (WithMark Holding)) (old new : Latest) → new ≡ record { nid = old.nid; mid = None; did = old.did; related = record { note = old.related.note; note_type = None; deck = old.related.deck }; texts = None; types = old.types }
    → option_map (λ (n : Note). n.mid) old.related.note ≡ None → IfSome told (λ held. TypeStays old new held.current.rows)
type_none None old new is of = tt
type_none (Some held) old new is of = λ latest. subst (λ (l : Latest). AreLatest l held.current.rows × ((l.related.note ≡ old.related.note) × (l.related.note_type ≡ type_of held.current.rows old.related.note))) (sym is)
    (record { note = latest.note; note_type = λ own e. absurd (no_some own e); deck = latest.deck; texts = λ e. absurd (true_false e refl); types = latest.types }, (refl, no_type held.current.rows old.related.note of))

-- the note, and then its type
pub both_told : (told : Option (WithMark Holding)) (old now new : Latest) (c : Card) → IfSome told (λ held. NoteStays old now c.nid held.current.rows) → IfSome told (λ held. TypeStays now new held.current.rows)
    → IfSome told (λ held. Stays old new held.current.rows (HasNoteOf new held.current.rows c))
both_told None old now new c one two = tt
both_told (Some held) old now new c one two = λ latest.
    let first = one latest in
    let then = two first.0 in
    (then.0, (then.1.0 ∙ first.1, then.1.1 ∙ ap (type_of held.current.rows) first.1))

-- and then its texts
pub texts_told : (told : Option (WithMark Holding)) (old now new : Latest) (c : Card) → new ≡ record now { texts = new.texts }
    → (KeepsTexts now → HasTexts new) → IfSome told (λ held. Stays old now held.current.rows (HasNoteOf now held.current.rows c))
    → IfSome told (λ held. Stays old new held.current.rows (HasNoteOf new held.current.rows c × HasTexts new))
texts_told None old now new c is strips turned = tt
texts_told (Some held) old now new c is strips turned = λ latest.
    let one = turned latest in
    subst (λ (l : Latest). HasTexts l → AreLatest l held.current.rows × (HasNoteOf l held.current.rows c × HasTexts l)) (sym is)
    (λ texts. (record { note = one.0.note; note_type = one.0.note_type; deck = one.0.deck; texts = λ _. texts; types = one.0.types }, (one.1, texts))) (strips one.0.texts)

-- what a term asks for
texts_of_note : (term : Term) → needs_texts term ≡ true → needs_note term ≡ true
texts_of_note (terms.Contains pattern) h = refl
texts_of_note (terms.Word pattern) h = refl
texts_of_note (terms.Field name pattern) h = refl
texts_of_note (terms.Deck pattern) h = absurd (true_false h refl)
texts_of_note (terms.Tag pattern) h = absurd (true_false h refl)
texts_of_note terms.Untagged h = absurd (true_false h refl)
texts_of_note (terms.NoteType pattern) h = absurd (true_false h refl)
texts_of_note (terms.Template pattern) h = absurd (true_false h refl)
texts_of_note (terms.InState state) h = absurd (true_false h refl)
texts_of_note (terms.Prop what comparison bound) h = absurd (true_false h refl)
texts_of_note (terms.Flag number) h = absurd (true_false h refl)
texts_of_note (terms.Rated days) h = absurd (true_false h refl)
texts_of_note (terms.RatedWith days ease) h = absurd (true_false h refl)
texts_of_note (terms.Added days) h = absurd (true_false h refl)
texts_of_note (terms.Edited days) h = absurd (true_false h refl)
texts_of_note (terms.NoteIds ids) h = absurd (true_false h refl)
texts_of_note (terms.CardIds ids) h = absurd (true_false h refl)

pub texts_suit : (told : Option (WithMark Holding)) (old new : Latest) (c : Card) (term : Term) → needs_texts term ≡ true
    → IfSome told (λ held. Stays old new held.current.rows (HasNoteOf new held.current.rows c × HasTexts new))
    → IfSome told (λ held. Stays old new held.current.rows (Suits new held.current.rows c term))
texts_suit None old new c term asks is = tt
texts_suit (Some held) old new c term asks is = λ latest.
    let one = is latest in
    (one.0, record { note = λ _. one.1.0; deck = λ too. absurd (not_both term (texts_of_note term asks) too); texts = λ _. one.1.1 })

pub note_suits : (told : Option (WithMark Holding)) (old new : Latest) (c : Card) (term : Term) → needs_texts term ≡ false → needs_note term ≡ true
    → IfSome told (λ held. Stays old new held.current.rows (HasNoteOf new held.current.rows c))
    → IfSome told (λ held. Stays old new held.current.rows (Suits new held.current.rows c term))
note_suits None old new c term no_texts asks is = tt
note_suits (Some held) old new c term no_texts asks is = λ latest.
    let one = is latest in
    (one.0, record { note = λ _. one.1; deck = λ too. absurd (not_both term asks too); texts = λ too. absurd (true_false too no_texts) })

pub deck_suits : (told : Option (WithMark Holding)) (old new : Latest) (c : Card) (term : Term) → needs_texts term ≡ false → needs_note term ≡ false
    → IfSome told (λ held. Stays old new held.current.rows (new.related.deck ≡ deck_of_card held.current.rows c))
    → IfSome told (λ held. Stays old new held.current.rows (Suits new held.current.rows c term))
deck_suits None old new c term no_texts no_note is = tt
deck_suits (Some held) old new c term no_texts no_note is = λ latest.
    let one = is latest in
    (one.0, record { note = λ too. absurd (true_false too no_note); deck = λ _. one.1; texts = λ too. absurd (true_false too no_texts) })

pub none_suits : (told : Option (WithMark Holding)) (latest : Latest) (c : Card) (term : Term) → needs_texts term ≡ false → needs_note term ≡ false → needs_deck term ≡ false
    → IfSome told (λ held. Stays latest latest held.current.rows (Suits latest held.current.rows c term))
none_suits None latest c term no_texts no_note no_deck = tt
none_suits (Some held) latest c term no_texts no_note no_deck = λ is.
    (is, record { note = λ too. absurd (true_false too no_note); deck = λ too. absurd (true_false too no_deck); texts = λ too. absurd (true_false too no_texts) })

-- ---- a search under way
-- the answers that it was made with serve it, and nothing was looked up yet
pub search_made : (told : Option (WithMark Holding)) (search : Search) (ps : List Piece) → pieces_in search.tokens.now ≡ ps → ((held : Rows) → AreLatest search.latest held)
    → search.by_note ≡ ask_notes_alone (pieces_in search.tokens.now) → search.verdict ≡ None → IfSome told (λ held. Serves search.context ps held.current.rows)
    → IfSome told (λ held. (tree : Tree) → ps ≡ pieces_of tree → SearchesBy search held.current.rows search.context.day tree)
search_made None search ps are latest by_note none answered = tt
search_made (Some held) search ps are latest by_note none answered = λ tree is. record {
  pieces = are ∙ is;
  on = refl;
  serves = subst (λ (qs : List Piece). Serves search.context qs held.current.rows) (sym are) answered;
  latest = latest held.current.rows;
  by_note = by_note;
  verdict = subst (λ (verdict : Option Verdict). IfSome verdict (λ v. (c : Card) → c.nid ≡ v.note → asked (pieces_in search.tokens.now) (tested search.context held.current.rows c) ≡ v.does)) (sym none) tt;
}

-- what the pieces ask of a card is what the tree asks
asks_tree : (search : Search) (held : Rows) (day : Day) (tree : Tree) (c : Card) → SearchesBy search held day tree → asked (pieces_in search.tokens.now) (tested search.context held c) ≡ meets (holds day (seen held c)) tree
asks_tree search held day tree c by =
    let seen_now : Seen = seen held c in
    serves search.context held c (pieces_in search.tokens.now) by.serves
    ∙ ap (λ (ps : List Piece). asked ps (holds search.context.day seen_now)) by.pieces
    ∙ walked (holds search.context.day seen_now) tree
    ∙ ap (λ (d : Day). meets (holds d seen_now) tree) by.on

-- it was found of the card's note before
pub known_told : (told : Option (WithMark Holding)) (search : Search) (c : Card) (does : Bool) → known_of search.verdict c.nid ≡ Some does
    → IfSome told (λ held. SearchStays search search held.current.rows (λ day tree. does ≡ meets (holds day (seen held.current.rows c)) tree))
known_told None search c does known = tt
known_told (Some held) search c does known = λ day tree by.
    let found = subst (λ (verdict : Option Verdict). IfSome verdict (λ v. (other : Card) → other.nid ≡ v.note → asked (pieces_in search.tokens.now) (tested search.context held.current.rows other) ≡ v.does)) (known_so search.verdict c.nid does known) by.verdict in
    (by, sym (found c refl) ∙ asks_tree search held.current.rows day tree c by)

-- one more card was asked
pub card_told : (told : Option (WithMark Holding)) (search new : Search) (c : Card) (latest : Latest) (does : Bool)
    → new ≡ record search { latest = latest; verdict = cond search.by_note (Some (verdict_of c.nid does)) None }
    → IfSome told (λ held. Stays search.latest latest held.current.rows (does ≡ asked (pieces_in search.tokens.now) (tested search.context held.current.rows c)))
    → IfSome told (λ held. SearchStays search new held.current.rows (λ day tree. does ≡ meets (holds day (seen held.current.rows c)) tree))
card_told None search new c latest does is asks = tt
card_told (Some held) search new c latest does is asks = λ day tree by.
    let one = asks by.latest in
    let kept = verdict_kept search.context held.current.rows c (pieces_in search.tokens.now) search.by_note does by.by_note one.1 in (
      subst (λ (s : Search). SearchesBy s held.current.rows day tree) (sym is) (record { pieces = by.pieces; on = by.on; serves = by.serves; latest = one.0; by_note = by.by_note; verdict = kept }),
      one.1 ∙ asks_tree search held.current.rows day tree c by,
    )

-- what was looked up last was forgotten
pub forgotten : (told : Option (WithMark Holding)) (search : Search) (latest : Latest) → ((held : Rows) → AreLatest latest held)
    → IfSome told (λ held. (day : Day) (tree : Tree) → SearchesBy search held.current.rows day tree → SearchesBy (record search { latest = latest }) held.current.rows day tree)
forgotten None search latest are = tt
forgotten (Some held) search latest are = λ day tree by. record { pieces = by.pieces; on = by.on; serves = by.serves; latest = are held.current.rows; by_note = by.by_note; verdict = by.verdict }

-- a row that is no card is no hit
no_card_hits : (asks : (Term → Bool) → Bool) (held : Rows) (day : Day) (row : Row) → ((c : Card) → row ≡ rows.Card c → ⊥) → false ≡ is_hit asks held day row
no_card_hits asks held day (rows.Note x) none = refl
no_card_hits asks held day (rows.Card x) none = absurd (none x refl)
no_card_hits asks held day (rows.Review x) none = refl
no_card_hits asks held day (rows.NoteType x) none = refl
no_card_hits asks held day (rows.Deck x) none = refl
no_card_hits asks held day (rows.Options x) none = refl
no_card_hits asks held day (rows.Grave x) none = refl

id_taken : (found : List ℤ) (row : Row) (is : Bool) → cond is (found ++ ((name_of row).id ∷ [])) found ≡ found ++ map (λ (r : Row). (name_of r).id) (cond is (row ∷ []) [])
id_taken found row true = refl
id_taken found row false = sym (append-nil found)

-- whether a row is a hit
pub hit_told : (told : Option (WithMark Holding)) (old new : Search) (row : Row) (c : Card) (is : Bool) → row ≡ rows.Card c
    → IfSome told (λ held. SearchStays old new held.current.rows (λ day tree. is ≡ meets (holds day (seen held.current.rows c)) tree))
    → IfSome told (λ held. SearchStays old new held.current.rows (λ day tree. is ≡ is_hit (asked_by tree) held.current.rows day row))
hit_told None old new row c is card does = tt
hit_told (Some held) old new row c is card does = λ day tree by.
    let one = does day tree by in
    (one.0, one.1 ∙ ap (is_hit (asked_by tree) held.current.rows day) (sym card))

pub no_hit_told : (told : Option (WithMark Holding)) (search : Search) (row : Row) → ((c : Card) → row ≡ rows.Card c → ⊥)
    → IfSome told (λ held. SearchStays search search held.current.rows (λ day tree. false ≡ is_hit (asked_by tree) held.current.rows day row))
no_hit_told None search row none = tt
no_hit_told (Some held) search row none = λ day tree by. (by, no_card_hits (asked_by tree) held.current.rows day row none)

-- the id of a row was taken if it is a hit
pub row_told : (told : Option (WithMark Holding)) (old new : Search) (found more : List ℤ) (row : Row) (is : Bool) → more ≡ cond is (found ++ ((name_of row).id ∷ [])) found
    → IfSome told (λ held. SearchStays old new held.current.rows (λ day tree. is ≡ is_hit (asked_by tree) held.current.rows day row))
    → IfSome told (λ held. SearchStays old new held.current.rows (λ day tree. more ≡ found ++ ids_of_hits (asked_by tree) held.current.rows day (row ∷ [])))
row_told None old new found more row is then tested_as = tt
row_told (Some held) old new found more row is then tested_as = λ day tree by.
    let one = tested_as day tree by in
    (one.0, then ∙ id_taken found row is ∙ ap (λ b. found ++ map (λ (r : Row). (name_of r).id) (cond b (row ∷ []) [])) one.1)

-- one more row was taken
pub rows_told : (told : Option (WithMark Holding)) (old now new : Search) (first found more : List ℤ) (all rest : List Row) (row : Row)
    → IfSome told (λ held. SearchStays old now held.current.rows (λ day tree. first ++ ids_of_hits (asked_by tree) held.current.rows day all ≡ found ++ ids_of_hits (asked_by tree) held.current.rows day (row ∷ rest)))
    → IfSome told (λ held. SearchStays now new held.current.rows (λ day tree. more ≡ found ++ ids_of_hits (asked_by tree) held.current.rows day (row ∷ [])))
    → IfSome told (λ held. SearchStays old new held.current.rows (λ day tree. first ++ ids_of_hits (asked_by tree) held.current.rows day all ≡ more ++ ids_of_hits (asked_by tree) held.current.rows day rest))
rows_told None old now new first found more all rest row so_far step = tt
rows_told (Some held) old now new first found more all rest row so_far step = λ day tree by.
    let before = so_far day tree by in
    let after = step day tree before.0 in
    (after.0, row_taken (asked_by tree) held.current.rows day (first ++ ids_of_hits (asked_by tree) held.current.rows day all) found more row rest before.1 after.1)

-- no row is left
pub no_row_told : (told : Option (WithMark Holding)) (old new : Search) (first found : List ℤ) (all rest : List Row) → length rest ≡ 0
    → IfSome told (λ held. SearchStays old new held.current.rows (λ day tree. first ++ ids_of_hits (asked_by tree) held.current.rows day all ≡ found ++ ids_of_hits (asked_by tree) held.current.rows day rest))
    → IfSome told (λ held. SearchStays old new held.current.rows (λ day tree. found ≡ first ++ ids_of_hits (asked_by tree) held.current.rows day all))
no_row_told None old new first found all rest none so_far = tt
no_row_told (Some held) old new first found all rest none so_far = λ day tree by.
    let before = so_far day tree by in
    (before.0, sym (before.1 ∙ ap (λ left. found ++ ids_of_hits (asked_by tree) held.current.rows day left) (nil_from_length rest none) ∙ append-nil found))

-- what was found, with the hits ahead, is all hits
abbrev pub HasFound : List Piece → Day → Search → List ℤ → Walk → Rows → Type 0
HasFound ps day search found walk held = (tree : Tree) → ps ≡ pieces_of tree
    → SearchesBy search held day tree × (hits held day tree ≡ found ++ ids_of_hits (asked_by tree) held day (ahead walk held))

-- before the first page nothing was found
pub none_told : (told : Option (WithMark Holding)) (ps : List Piece) (day : Day) (search : Search) (found : List ℤ) (walk : Walk) → found ≡ [] → walk ≡ record { past = record { table = tables.Card; id = pos 0 }; done = false }
    → IfSome told (λ held. (tree : Tree) → ps ≡ pieces_of tree → SearchesBy search held.current.rows day tree)
    → IfSome told (λ held. HasFound ps day search found walk held.current.rows)
none_told None ps day search found walk none is by = tt
none_told (Some held) ps day search found walk none is by = λ tree are. (
  by tree are,
  sym (ap (λ (ids : List ℤ). ids ++ ids_of_hits (asked_by tree) held.current.rows day (ahead walk held.current.rows)) none
      ∙ ap (λ (w : Walk). ids_of_hits (asked_by tree) held.current.rows day (ahead w held.current.rows)) is),
)

-- one more page was taken
pub page_told : (told : Option (WithMark Holding)) (ps : List Piece) (day : Day) (old new : Search) (found more : List ℤ) (walk next : Walk) (page : List Row)
    → IfSome told (λ held. HasFound ps day old found walk held.current.rows)
    → IfSome told (λ held. ahead walk held.current.rows ≡ page ++ ahead next held.current.rows)
    → IfSome told (λ held. SearchStays old new held.current.rows (λ day tree. more ≡ found ++ ids_of_hits (asked_by tree) held.current.rows day page))
    → IfSome told (λ held. HasFound ps day new more next held.current.rows)
page_told None ps day old new found more walk next page so_far split step = tt
page_told (Some held) ps day old new found more walk next page so_far split step = λ tree are.
    let before = so_far tree are in
    let after = step day tree before.0 in
    (after.0, page_taken (asked_by tree) held.current.rows day (hits held.current.rows day tree) found more (ahead walk held.current.rows) page (ahead next held.current.rows) before.1 split after.1)

-- if no page is ahead, all hits were found
pub all_told : (told : Option (WithMark Holding)) (ps : List Piece) (day : Day) (search : Search) (found : List ℤ) (walk : Walk) → walk.done ≡ true
    → IfSome told (λ held. HasFound ps day search found walk held.current.rows)
    → IfSome told (λ held. (tree : Tree) → ps ≡ pieces_of tree → found ≡ hits held.current.rows day tree)
all_told None ps day search found walk done so_far = tt
all_told (Some held) ps day search found walk done so_far = λ tree are.
    sym ((so_far tree are).1 ∙ ap (λ b. found ++ ids_of_hits (asked_by tree) held.current.rows day (cond b [] (rows_past walk.past.table walk.past.id held.current.rows))) done ∙ append-nil found)

-- what is shown, with the reviews ahead, is what all reviews show from an id on
abbrev pub ShowsFrom : ℤ → Answers → Walk → Rows → Type 0
ShowsFrom id answers walk held = (card ease least : ℤ) → int_lt least id ≡ false → (is_shown answers card ease least || is_answer_in card ease least (ahead walk held)) ≡ is_answered held card ease least

-- one more page of reviews was read
pub reviews_told : (told : Option (WithMark Holding)) (id : ℤ) (answers more : Answers) (walk next : Walk) (page : List Row) → IfSome told (λ held. ShowsFrom id answers walk held.current.rows)
    → IfSome told (λ held. ahead walk held.current.rows ≡ page ++ ahead next held.current.rows)
    → ((card ease least : ℤ) → is_shown more card ease least ≡ (is_shown answers card ease least || is_answer_in card ease least page))
    → IfSome told (λ held. ShowsFrom id more next held.current.rows)
reviews_told None id answers more walk next page so_far split step = tt
reviews_told (Some held) id answers more walk next page so_far split step = λ card ease least later.
    page_added (is_shown answers card ease least) (is_shown more card ease least) (is_answered held.current.rows card ease least) card ease least (ahead walk held.current.rows) page (ahead next held.current.rows)
    (step card ease least) split (so_far card ease least later)

-- before the first page, past an id before which nothing is asked
pub none_shown_told : (told : Option (WithMark Holding)) (id past : ℤ) (answers : Answers) (walk : Walk) → walk ≡ record { past = record { table = tables.Review; id = past }; done = false }
    → pos 0 ≤ℤ past → (past ≡ pos 0) ⊎ (past <ℤ id) → ((card ease least : ℤ) → is_shown answers card ease least ≡ false)
    → IfSome told (λ held. StandsUnderNames held.current.rows) → IfSome told (λ held. ShowsFrom id answers walk held.current.rows)
none_shown_told None id past answers walk is low before none named = tt
none_shown_told (Some held) id past answers walk is low before none named = λ card ease least later.
    ap (λ b. b || is_answer_in card ease least (ahead walk held.current.rows)) (none card ease least)
    ∙ ap (λ (w : Walk). is_answer_in card ease least (ahead w held.current.rows)) is
    ∙ later_answers id past card ease least held.current.rows low before later named

-- no page is ahead
pub all_shown_told : (told : Option (WithMark Holding)) (id : ℤ) (answers : Answers) (walk : Walk) → walk.done ≡ true → IfSome told (λ held. ShowsFrom id answers walk held.current.rows)
    → IfSome told (λ held. AreAnswersFrom id answers held.current.rows)
all_shown_told None id answers walk done shows = tt
all_shown_told (Some held) id answers walk done shows = λ card ease least later.
    sym (or-false (is_shown answers card ease least))
    ∙ sym (ap (λ b. is_shown answers card ease least || is_answer_in card ease least (cond b [] (rows_past walk.past.table walk.past.id held.current.rows))) done)
    ∙ shows card ease least later

-- if they are those from an id on before which none is asked, they serve
pub answers_serve : (told : Option (WithMark Holding)) (day : Day) (ps : List Piece) (id : ℤ) (result : Result Answers KeepFault) → some_term (asks_before day id) ps ≡ false
    → IfOk result (λ answers. IfSome told (λ held. AreAnswersFrom id answers held.current.rows)) → IfOk result (λ answers. IfSome told (λ held. AreAnswersFor day ps answers held.current.rows))
answers_serve told day ps id (Err fault) none from = tt
answers_serve None day ps id (Ok answers) none from = tt
answers_serve (Some held) day ps id (Ok answers) none from = λ _. (id, none, from)
