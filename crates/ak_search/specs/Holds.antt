-- When each term of a search holds of a card.
use Rattle.std.specs.Prelude.{ℕ, ◌==◌, Bool, true, false, ◌&&◌, ◌||◌, not, if◌then◌else◌, ℤ, pos, negsuc, ◌+ℤ◌, ◌-ℤ◌, ◌*ℤ◌, int_lt, List, [], ◌∷◌, map, filter, length, Option, Some, None}
use Rattle.std.specs.Fmt.{signed_decimal}
use Rattle.std.specs.Int.{int_rem_euclid}
use Rattle.std.specs.List.{list_any}
use Rattle.std.specs.Ordering.{int_eq}
use Rattle.ak_base.specs.NoteTexts.{tags_in}
use Rattle.ak_base.specs.Paths.{ancestors}
use Rattle.ak_base.specs.Rows.{name_of}
use Rattle.ak_base.specs.declared.cards.Card.{Card}
use Rattle.ak_base.specs.declared.days.Day.{Day}
use Rattle.ak_base.specs.declared.decks.Deck.{Deck}
use Rattle.ak_base.specs.declared.names.Table.TheVariants as tables
use Rattle.ak_base.specs.declared.note_types.CardTemplate.{CardTemplate}
use Rattle.ak_base.specs.declared.note_types.NoteType.{NoteType}
use Rattle.ak_base.specs.declared.notes.Note.{Note}
use Rattle.ak_base.specs.declared.rows.Row.{Row}
use Rattle.ak_base.specs.declared.rows.Row.TheVariants as rows
use Rattle.ak_keep.specs.Collections.{Rows, rows_past}
use Rattle.ak_search.specs.declared.patterns.PatternItem.{PatternItem}
use Rattle.ak_search.specs.declared.terms.Comparison.{Comparison}
use Rattle.ak_search.specs.declared.terms.Comparison.TheVariants as comparisons
use Rattle.ak_search.specs.declared.terms.Property.{Property}
use Rattle.ak_search.specs.declared.terms.Property.TheVariants as properties
use Rattle.ak_search.specs.declared.terms.State.{State}
use Rattle.ak_search.specs.declared.terms.State.TheVariants as states
use Rattle.ak_search.specs.declared.terms.Term.{Term}
use Rattle.ak_search.specs.declared.terms.Term.TheVariants as terms
use Rattle.ak_search.specs.declared.texts.MatchMode.{MatchMode}
use Rattle.ak_search.specs.declared.texts.MatchMode.TheVariants as modes
use Rattle.ak_search.specs.CardFacts.{Seen, seen, is_since, some_field, named_field, fields_seen, template_of, template_place}
use Rattle.ak_search.specs.Meanings.{meets}
use Rattle.ak_search.specs.Patterns.{are_letters, matches, matches_spaced}
use Rattle.ak_search.specs.Trees.{Tree}

-- whether what may be held is held and passes
abbrev pub held_and : {A : Type 0} → (A → Bool) → Option A → Bool
held_and test None = false
held_and test (Some value) = test value

-- ---- the card alone

-- whether a number is one of two
abbrev pub is_either : ℤ → ℤ → ℤ → Bool
is_either one other number = int_eq number one || int_eq number other

-- whether a number is at most so much
abbrev pub is_at_most : ℤ → ℤ → Bool
is_at_most most number = not (int_lt most number)

-- due by the day, or learned today and due by the first second of the next day
abbrev pub is_due : Day → Card → Bool
is_due day c = (is_either (pos 2) (pos 3) c.queue && is_at_most day.number c.due) || (int_eq c.queue (pos 1) && is_at_most day.cutoff c.due)

-- whether a card is in a state, on that day
abbrev pub in_state : Day → State → Card → Bool
in_state day states.New c = int_eq c.kind (pos 0)
in_state day states.Learn c = is_either (pos 1) (pos 3) c.queue
in_state day states.Review c = is_either (pos 2) (pos 3) c.kind
in_state day states.Due c = is_due day c
in_state day states.Suspended c = int_eq c.queue (negsuc 0)
in_state day states.Buried c = is_either (negsuc 1) (negsuc 2) c.queue
in_state day states.BuriedManually c = int_eq c.queue (negsuc 2)
in_state day states.BuriedSibling c = int_eq c.queue (negsuc 1)

-- the number of a card, if it has it: days from today of a card that is due by the day, the place of a new one
abbrev pub property : Day → Property → Card → Option ℤ
property day properties.Interval c = Some c.ivl
property day properties.Reps c = Some c.reps
property day properties.Lapses c = Some c.lapses
property day properties.Ease c = Some c.factor
property day properties.Due c = if is_either (pos 2) (pos 3) c.queue then Some (c.due -ℤ day.number) else None
property day properties.Position c = if int_eq c.kind (pos 0) then Some c.due else None

-- whether a number compares so with the bound
abbrev pub compares : Comparison → ℤ → ℤ → Bool
compares comparisons.Equal bound number = int_eq number bound
compares comparisons.Differs bound number = not (int_eq number bound)
compares comparisons.Below bound number = int_lt number bound
compares comparisons.Above bound number = int_lt bound number
compares comparisons.AtMost bound number = is_at_most bound number
compares comparisons.AtLeast bound number = is_since number bound

-- whether an id is in a list
abbrev pub is_listed : ℤ → List ℤ → Bool
is_listed id ids = list_any (λ listed. int_eq listed id) ids

-- ---- days back from the end of today

-- the second at which the last so many days began
abbrev pub second_back : Day → ℤ → ℤ
second_back day days = day.cutoff -ℤ pos 86_400 *ℤ days

-- the id of a row that was made at that second: its milliseconds
abbrev pub id_back : Day → ℤ → ℤ
id_back day days = second_back day days *ℤ pos 1000

-- whether a card was answered with one of those eases, in a review with at least that id
abbrev pub answered_since : (ℤ → ℤ → Bool) → ℤ → List ℤ → Bool
answered_since answered least eases = list_any (λ ease. answered ease least) eases

-- ---- texts

-- whether the pattern stands for a text as it is looked through
abbrev pub passes : MatchMode → List PatternItem → List ℕ → Bool
passes modes.Whole pattern text = matches pattern text
passes modes.Spaced pattern text = matches_spaced pattern text

-- whether the stripped text of a field of that name matches whole
abbrev pub field_matches : List ℕ → List PatternItem → Option Note → Option NoteType → Bool
field_matches name pattern (Some n) (Some t) = named_field name (matches pattern) t.fields (fields_seen (Some t) n)
field_matches name pattern (Some n) None = false
field_matches name pattern None note_type = false

-- whether the name of a deck or tag matches, or that of one that it is below
abbrev pub path_matches : List PatternItem → List ℕ → Bool
path_matches pattern name = list_any (matches pattern) (ancestors name)

-- whether some tag matches, or one that it is below
abbrev pub has_tag : List PatternItem → Note → Bool
has_tag pattern n = list_any (path_matches pattern) (tags_in n.tags)

-- whether a note has no tag
abbrev pub is_untagged : Note → Bool
is_untagged n = length (tags_in n.tags) == 0

-- whether the name of a type matches
abbrev pub is_type : List PatternItem → NoteType → Bool
is_type pattern t = matches pattern t.name

-- whether the pattern is a place in decimal, counted from 1
abbrev pub is_place : List PatternItem → ℤ → Bool
is_place pattern place = are_letters pattern (signed_decimal (place +ℤ pos 1))

-- whether the type has the card's template, and the pattern is its place or matches its name
abbrev pub is_template : List PatternItem → Card → NoteType → Bool
is_template pattern c t = held_and (λ (template : CardTemplate). is_place pattern (template_place t c) || matches pattern template.name) (template_of t c)

-- whether the note was changed in the last so many days
abbrev pub is_edited : Day → ℤ → Note → Bool
is_edited day days n = is_since n.stamp (second_back day days)

-- ---- the terms

-- whether a term holds of what is seen of a card, on that day
abbrev pub holds : Day → Seen → Term → Bool
holds day s (terms.Contains pattern) = held_and (some_field (passes modes.Whole pattern) s.note_type) s.note
holds day s (terms.Word pattern) = held_and (some_field (passes modes.Spaced pattern) s.note_type) s.note
holds day s (terms.Field name pattern) = field_matches name pattern s.note s.note_type
holds day s (terms.Deck pattern) = held_and (λ (d : Deck). path_matches pattern d.name) s.deck
holds day s (terms.Tag pattern) = held_and (has_tag pattern) s.note
holds day s terms.Untagged = held_and is_untagged s.note
holds day s (terms.NoteType pattern) = held_and (is_type pattern) s.note_type
holds day s (terms.Template pattern) = held_and (is_template pattern s.card) s.note_type
holds day s (terms.InState state) = in_state day state s.card
holds day s (terms.Prop what comparison bound) = held_and (compares comparison bound) (property day what s.card)
holds day s (terms.Flag number) = int_eq (int_rem_euclid s.card.flags (pos 8)) number
holds day s (terms.Rated days) = answered_since s.answered (id_back day days) (pos 1 ∷ pos 2 ∷ pos 3 ∷ pos 4 ∷ [])
holds day s (terms.RatedWith days ease) = s.answered ease (id_back day days)
holds day s (terms.Added days) = is_since s.card.id (id_back day days)
holds day s (terms.Edited days) = held_and (is_edited day days) s.note
holds day s (terms.NoteIds ids) = is_listed s.card.nid ids
holds day s (terms.CardIds ids) = is_listed s.card.id ids

-- ---- the cards that meet a search

-- whether a row is a card
abbrev pub is_card : Row → Bool
is_card (rows.Card c) = true
is_card row = false

-- the ids of all cards, ascending
abbrev pub cards : Rows → List ℤ
cards held = map (λ (row : Row). (name_of row).id) (filter is_card (rows_past tables.Card (pos 0) held))

-- whether a row is a card, and the terms that hold of it meet what is asked
abbrev pub is_hit : ((Term → Bool) → Bool) → Rows → Day → Row → Bool
is_hit asks held day (rows.Card c) = asks (holds day (seen held c))
is_hit asks held day row = false

-- the ids of those rows
abbrev pub ids_of_hits : ((Term → Bool) → Bool) → Rows → Day → List Row → List ℤ
ids_of_hits asks held day cards = map (λ (row : Row). (name_of row).id) (filter (is_hit asks held day) cards)

-- what a tree asks of the terms that hold
abbrev pub asked_by : Tree → (Term → Bool) → Bool
asked_by tree holds = meets holds tree

-- the ids of the cards that meet a tree, ascending
abbrev pub hits : Rows → Day → Tree → List ℤ
hits held day tree = ids_of_hits (asked_by tree) held day (rows_past tables.Card (pos 0) held)
