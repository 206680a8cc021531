-- A term tries the stripped texts of a note's fields as it would the fields.
use Rattle.std.proofs.Common.{◌≡◌, true, ◌&&◌, ◌||◌, Bool, ℕ, Option, None, Some, List, [], ◌∷◌, map, refl, ap, ◌∙◌}
use Rattle.std.specs.List.{list_any}
use Rattle.std.specs.Option.{option_map}
use Rattle.std.specs.Str.{str_eq_ignore_ascii_case}
use Rattle.ak_base.specs.declared.cards.Card.{Card}
use Rattle.ak_base.specs.declared.days.Day.{Day}
use Rattle.ak_base.specs.declared.note_types.FieldDef.{FieldDef}
use Rattle.ak_base.specs.declared.note_types.NoteType.{NoteType}
use Rattle.ak_base.specs.declared.notes.Note.{Note}
use Rattle.ak_filters.specs.Strips.{stripped}
use Rattle.ak_search.specs.CardFacts.{fields_seen, named_field, some_field}
use Rattle.ak_search.specs.Holds.{field_matches, held_and, holds, passes}
use Rattle.ak_search.specs.Passes.{HasTexts, field_passes, holds_by, named_text, needs_texts, seen_by, texts_seen}
use Rattle.ak_search.specs.Patterns.{matches}
use Rattle.ak_search.specs.declared.answers.Answers.{Answers}
use Rattle.ak_search.specs.declared.patterns.PatternItem.{PatternItem}
use Rattle.ak_search.specs.declared.related.Latest.{Latest}
use Rattle.ak_search.specs.declared.terms.Term.{Term}
use Rattle.ak_search.specs.declared.terms.Term.TheVariants as terms
use Rattle.ak_search.specs.declared.texts.MatchMode.TheVariants as modes

any_stripped : (test : List ℕ → Bool) (texts : List (List ℕ)) → list_any test (map stripped texts) ≡ list_any (λ text. test (stripped text)) texts
any_stripped test [] = refl
any_stripped test (text ∷ texts) = ap (λ v. test (stripped text) || v) (any_stripped test texts)

some_stripped : (test : List ℕ → Bool) (note_type : Option NoteType) (note : Option Note) → held_and (list_any test) (option_map (texts_seen note_type) note) ≡ held_and (some_field test note_type) note
some_stripped test note_type None = refl
some_stripped test note_type (Some n) = any_stripped test (fields_seen note_type n)

named_stripped : (name : List ℕ) (test : List ℕ → Bool) (fields : List FieldDef) (texts : List (List ℕ)) → named_text name test fields (map stripped texts) ≡ named_field name test fields texts
named_stripped name test [] texts = refl
named_stripped name test (field ∷ fields) [] = refl
named_stripped name test (field ∷ fields) (text ∷ texts) = ap (λ v. (str_eq_ignore_ascii_case field.name name && test (stripped text)) || v) (named_stripped name test fields texts)

field_stripped : (name : List ℕ) (pattern : List PatternItem) (note_type : Option NoteType) (note : Option Note) → field_passes name pattern note_type (option_map (texts_seen note_type) note) ≡ field_matches name pattern note note_type
field_stripped name pattern None None = refl
field_stripped name pattern None (Some n) = refl
field_stripped name pattern (Some t) None = refl
field_stripped name pattern (Some t) (Some n) = named_stripped name (matches pattern) t.fields (fields_seen (Some t) n)

pub by_texts : (day : Day) (answers : Answers) (c : Card) (one : Latest) (term : Term) → (needs_texts term ≡ true → HasTexts one) → holds_by day answers c one term ≡ holds day (seen_by answers c one.related) term
by_texts day answers c one (terms.Contains pattern) h = ap (held_and (list_any (passes modes.Whole pattern))) (h refl) ∙ some_stripped (passes modes.Whole pattern) one.related.note_type one.related.note
by_texts day answers c one (terms.Word pattern) h = ap (held_and (list_any (passes modes.Spaced pattern))) (h refl) ∙ some_stripped (passes modes.Spaced pattern) one.related.note_type one.related.note
by_texts day answers c one (terms.Field name pattern) h = ap (field_passes name pattern one.related.note_type) (h refl) ∙ field_stripped name pattern one.related.note_type one.related.note
by_texts day answers c one (terms.Deck pattern) h = refl
by_texts day answers c one (terms.Tag pattern) h = refl
by_texts day answers c one terms.Untagged h = refl
by_texts day answers c one (terms.NoteType pattern) h = refl
by_texts day answers c one (terms.Template pattern) h = refl
by_texts day answers c one (terms.InState state) h = refl
by_texts day answers c one (terms.Prop what comparison bound) h = refl
by_texts day answers c one (terms.Flag number) h = refl
by_texts day answers c one (terms.Rated days) h = refl
by_texts day answers c one (terms.RatedWith days ease) h = refl
by_texts day answers c one (terms.Added days) h = refl
by_texts day answers c one (terms.Edited days) h = refl
by_texts day answers c one (terms.NoteIds ids) h = refl
by_texts day answers c one (terms.CardIds ids) h = refl
