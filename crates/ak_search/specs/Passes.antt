-- What one pass over the cards keeps.
use Rattle.std.specs.Prelude.{◌≡◌, ℕ, zero, suc, Bool, true, false, ◌&&◌, ◌||◌, ℤ, pos, int_lt, IsTrue, List, [], ◌∷◌, ◌++◌, map, Option, Some, None, is_some, ⊤}
use Rattle.std.specs.BTreeMap.{get}
use Rattle.std.specs.Ordering.{int_cmp, ordering_then}
use Rattle.std.specs.declared.cmp.Ordering.{Ordering}
use Rattle.std.specs.List.{list_any}
use Rattle.std.specs.Option.{option_map, option_or}
use Rattle.std.specs.Str.{str_eq_ignore_ascii_case}
use Rattle.ak_base.specs.declared.cards.Card.{Card}
use Rattle.ak_base.specs.declared.days.Day.{Day}
use Rattle.ak_base.specs.declared.note_types.FieldDef.{FieldDef}
use Rattle.ak_base.specs.declared.note_types.NoteType.{NoteType}
use Rattle.ak_base.specs.declared.notes.Note.{Note}
use Rattle.ak_filters.specs.Strips.{stripped}
use Rattle.ak_keep.specs.Collections.{Rows}
use Rattle.ak_keep.specs.Lookups.{note_at, note_type_at, deck_at, deck_of_card}
use Rattle.ak_search.specs.CardFacts.{Seen, fields_seen, type_of, is_answered, is_since}
use Rattle.ak_search.specs.Holds.{held_and, holds, id_back, passes}
use Rattle.ak_search.specs.Meanings.{walk}
use Rattle.ak_search.specs.Patterns.{matches}
use Rattle.ak_search.specs.declared.answers.Answers.{Answers}
use Rattle.ak_search.specs.declared.evaluator.Evaluator.{Evaluator}
use Rattle.ak_search.specs.declared.holds.SearchContext.{SearchContext}
use Rattle.ak_search.specs.declared.kept_types.KeptTypes.{KeptTypes}
use Rattle.ak_search.specs.declared.patterns.PatternItem.{PatternItem}
use Rattle.ak_search.specs.declared.related.Latest.{Latest}
use Rattle.ak_search.specs.declared.related.Related.{Related}
use Rattle.ak_search.specs.declared.terms.Term.TheVariants as terms
use Rattle.ak_search.specs.declared.terms.Term.{Term}
use Rattle.ak_search.specs.declared.texts.MatchMode.TheVariants as modes
use Rattle.ak_search.specs.declared.tokens.Piece.TheVariants.{Test, BadValue, Open, Close, Or, And, OpenQuote}
use Rattle.ak_search.specs.declared.tokens.Piece.{Piece}

-- the order of cards with an ease
abbrev pub pair_cmp : ℤ × ℤ → ℤ × ℤ → Ordering
pair_cmp one other = ordering_then (int_cmp one.0 other.0) (int_cmp one.1 other.1)

-- whether the answers show a review of that card with that ease and at least that id
abbrev pub is_shown : Answers → ℤ → ℤ → ℤ → Bool
is_shown answers card ease least = held_and (λ (last : ℤ). is_since last least) (get pair_cmp answers.last (card, ease))

-- what a card belongs to
abbrev pub related_in : Rows → Card → Related
related_in held c = record { note = note_at held c.nid; note_type = type_of held (note_at held c.nid); deck = deck_of_card held c }

-- what is seen of a card by what was read
abbrev pub seen_by : Answers → Card → Related → Seen
seen_by answers c related = record { card = c; note = related.note; note_type = related.note_type; deck = related.deck; answered = is_shown answers c.id }

-- what the pieces that are left ask, for an evaluator that came so far
abbrev pub evaluated_from : Evaluator → (Term → Bool) → List Piece → Bool
evaluated_from evaluator holds ps = walk holds evaluator.outer.items evaluator.either evaluator.all ps

-- what is left behind the `)` of a group in which so many more are open; none if it is not closed
abbrev pub behind_group : ℕ → List Piece → Option (List Piece)
behind_group depth [] = None
behind_group depth (Test negated term ∷ ps) = behind_group depth ps
behind_group depth (BadValue ∷ ps) = behind_group depth ps
behind_group depth (Open negated ∷ ps) = behind_group (suc depth) ps
behind_group zero (Close ∷ ps) = Some ps
behind_group (suc depth) (Close ∷ ps) = behind_group depth ps
behind_group depth (Or ∷ ps) = behind_group depth ps
behind_group depth (And ∷ ps) = behind_group depth ps
behind_group depth (OpenQuote ∷ ps) = behind_group depth ps

-- whether the truth value is what the piece does, where it is a term
abbrev pub Tells : Piece → (Term → Bool) → Bool → Type 0
Tells (Test negated term) holds does = does ≡ holds term
Tells piece holds does = ⊤

-- what the pieces of a search ask
abbrev pub asked : List Piece → (Term → Bool) → Bool
asked ps holds = walk holds [] false true ps

-- whether some term of the pieces passes
abbrev pub some_term : (Term → Bool) → List Piece → Bool
some_term test [] = false
some_term test (Test negated term ∷ ps) = test term || some_term test ps
some_term test (BadValue ∷ ps) = some_term test ps
some_term test (Open negated ∷ ps) = some_term test ps
some_term test (Close ∷ ps) = some_term test ps
some_term test (Or ∷ ps) = some_term test ps
some_term test (And ∷ ps) = some_term test ps
some_term test (OpenQuote ∷ ps) = some_term test ps

-- whether a term asks for reviews
abbrev pub needs_answers : Term → Bool
needs_answers (terms.Rated days) = true
needs_answers (terms.RatedWith days ease) = true
needs_answers term = false

-- whether a term asks for answers before an id
abbrev pub asks_before : Day → ℤ → Term → Bool
asks_before day id (terms.Rated days) = int_lt (id_back day days) id
asks_before day id (terms.RatedWith days ease) = int_lt (id_back day days) id
asks_before day id term = false

-- whether a term asks for the texts of a note's fields
abbrev pub needs_texts : Term → Bool
needs_texts (terms.Contains pattern) = true
needs_texts (terms.Word pattern) = true
needs_texts (terms.Field name pattern) = true
needs_texts term = false

-- whether a term asks for the note of a card, and for its type
abbrev pub needs_note : Term → Bool
needs_note (terms.Contains pattern) = true
needs_note (terms.Word pattern) = true
needs_note (terms.Field name pattern) = true
needs_note (terms.Tag pattern) = true
needs_note terms.Untagged = true
needs_note (terms.NoteType pattern) = true
needs_note (terms.Template pattern) = true
needs_note (terms.Edited days) = true
needs_note term = false

-- whether a term asks for the deck of a card
abbrev pub needs_deck : Term → Bool
needs_deck (terms.Deck pattern) = true
needs_deck term = false

-- the answers from an id on are those of the collection
abbrev pub AreAnswersFrom : ℤ → Answers → Rows → Type 0
AreAnswersFrom id answers held = (card ease least : ℤ) → int_lt least id ≡ false → is_shown answers card ease least ≡ is_answered held card ease least

-- the answers serve the pieces: where a term asks for some, they are those of the collection from an id on before which none asks
abbrev pub AreAnswersFor : Day → List Piece → Answers → Rows → Type 0
AreAnswersFor day ps answers held = some_term needs_answers ps ≡ true → (id : ℤ) × (some_term (asks_before day id) ps ≡ false) × AreAnswersFrom id answers held

-- the stripped texts of the fields that are seen of a note
abbrev pub texts_seen : Option NoteType → Note → List (List ℕ)
texts_seen note_type n = map stripped (fields_seen note_type n)

-- the stripped texts are those of the note that was looked up last, none without a note
abbrev pub HasTexts : Latest → Type 0
HasTexts latest = latest.texts ≡ option_map (texts_seen latest.related.note_type) latest.related.note

-- texts that are kept are those of the note that was looked up last
abbrev pub KeepsTexts : Latest → Type 0
KeepsTexts latest = is_some latest.texts ≡ true → HasTexts latest

-- types that are kept are those that the collection has under their ids
abbrev pub AreTypesOf : KeptTypes → Rows → Type 0
AreTypesOf types held = (id : ℤ) (note_type : Option NoteType) → get int_cmp types.by_id id ≡ Some note_type → note_type ≡ note_type_at held id

-- what was looked up last is what the collection has under the ids that it was looked up by
pub record AreLatest (latest : Latest) (held : Rows) : Type 0 where
  pub note : (id : ℤ) → latest.nid ≡ Some id → latest.related.note ≡ note_at held id
  pub note_type : (id : ℤ) → latest.mid ≡ Some id → latest.related.note_type ≡ note_type_at held id
  pub deck : (id : ℤ) → latest.did ≡ Some id → latest.related.deck ≡ option_or (deck_at held id) (deck_at held (pos 1))
  pub texts : KeepsTexts latest
  pub types : AreTypesOf latest.types held

-- what was looked up last stays that of the collection, if it was, and this is true
abbrev pub Stays : Latest → Latest → Rows → Type 0 → Type 0
Stays old new held P = AreLatest old held → AreLatest new held × P

-- the card's note was looked up last, and its type
abbrev pub HasNoteOf : Latest → Rows → Card → Type 0
HasNoteOf latest held c = (latest.related.note ≡ note_at held c.nid) × (latest.related.note_type ≡ type_of held (note_at held c.nid))

-- the note stayed, and its type was looked up last
abbrev pub HasTypeOf : Latest → Latest → Rows → Type 0
HasTypeOf old new held = (new.related.note ≡ old.related.note) × (new.related.note_type ≡ type_of held old.related.note)

-- what was looked up last is the card's, as far as the term asks for it
pub record Suits (latest : Latest) (held : Rows) (c : Card) (term : Term) : Type 0 where
  pub note : needs_note term ≡ true → HasNoteOf latest held c
  pub deck : needs_deck term ≡ true → latest.related.deck ≡ deck_of_card held c
  pub texts : needs_texts term ≡ true → HasTexts latest

-- what is asked with serves the pieces
abbrev pub Serves : SearchContext → List Piece → Rows → Type 0
Serves context ps held = AreAnswersFor context.day ps context.answers held

-- whether the text of a field of that name passes, the ASCII case of names aside
abbrev pub named_text : List ℕ → (List ℕ → Bool) → List FieldDef → List (List ℕ) → Bool
named_text name test [] texts = false
named_text name test (field ∷ fields) [] = false
named_text name test (field ∷ fields) (text ∷ texts) = (str_eq_ignore_ascii_case field.name name && test text) || named_text name test fields texts

-- whether it does in a type and among the texts of a note, where both are held
abbrev pub field_passes : List ℕ → List PatternItem → Option NoteType → Option (List (List ℕ)) → Bool
field_passes name pattern (Some t) (Some texts) = named_text name (matches pattern) t.fields texts
field_passes name pattern (Some t) None = false
field_passes name pattern None texts = false

-- whether a term holds of a card, by what was looked up for it
abbrev pub holds_by : Day → Answers → Card → Latest → Term → Bool
holds_by day answers c latest (terms.Contains pattern) = held_and (list_any (passes modes.Whole pattern)) latest.texts
holds_by day answers c latest (terms.Word pattern) = held_and (list_any (passes modes.Spaced pattern)) latest.texts
holds_by day answers c latest (terms.Field name pattern) = field_passes name pattern latest.related.note_type latest.texts
holds_by day answers c latest term = holds day (seen_by answers c latest.related) term

-- what the terms do of a card
abbrev pub tested : SearchContext → Rows → Card → Term → Bool
tested context held c term = holds context.day (seen_by context.answers c (related_in held c)) term

-- ids ascend from over `past`
abbrev pub AscendFrom : ℤ → List ℤ → Type 0
AscendFrom past [] = ⊤
AscendFrom past (id ∷ ids) = IsTrue (int_lt past id) × AscendFrom id ids

-- whatever ascends from over `past` may come behind the ids found
abbrev pub TakesFrom : List ℤ → ℤ → Type 0
TakesFrom found past = (ids : List ℤ) → AscendFrom past ids → AscendFrom (pos 0) (found ++ ids)
