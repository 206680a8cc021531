-- The collection that `init` opens is sound: it has no notes and no cards, and each of its types has a template.
use Rattle.std.specs.Prelude.{◌≡◌, ◌≤◌, ℕ, ℤ, Bool, true, false, ⊤, is_some, List, [], ◌∷◌, length, map, Option, Some, None, option_and_then}
use Rattle.std.specs.FinMap.{get, get-from_entries}
use Rattle.std.specs.List.{AllByRecursion}
use Rattle.std.specs.Option.{option_map}
use Rattle.std.proofs.Common.{arith, refl, sym, ap, subst, ◌∙◌}
use Rattle.ak_base.specs.Names.{names_total}
use Rattle.ak_base.specs.Rows.{name_of}
use Rattle.ak_base.specs.declared.heads.Head.{Head}
use Rattle.ak_base.specs.declared.names.Name.{Name}
use Rattle.ak_base.specs.declared.names.Table.TheVariants as tables
use Rattle.ak_base.specs.declared.note_types.CardTemplate.{CardTemplate}
use Rattle.ak_base.specs.declared.rows.Row.{Row}
use Rattle.ak_base.specs.declared.rows.Row.TheVariants as rows
use Rattle.ak_desk_runs.specs.Inits.{EndsInit, EndsInitOn, IsOpened}
use Rattle.ak_keep.proofs.RowsByName.{all_find}
use Rattle.ak_keep.specs.Collections.{Holding, collection_of, made_of, rows_of}
use Rattle.ak_keep.specs.Keepers.{Keeping}
use Rattle.ak_keep.specs.Marks.{WithMark}
use Rattle.ak_line_runs.specs.declared.command_ends.CommandEnd.TheVariants as ends
use Rattle.ak_merge.proofs.EditFacts.{false_true}
use Rattle.ak_merge.specs.Holdings.{name_in, row_under}
use Rattle.ak_openings.specs.Openings.{AreOpeningRows, template_texts}
use Rattle.ak_content_laws.proofs.RetypedNotes.{nil_cons}
use Rattle.ak_content_laws.specs.SoundCalls.{HoldsSound, IsSoundInRange, collection_told}

-- a row of a collection without notes and cards, whose types have templates
abbrev IsStart : Row → Type 0
IsStart (rows.Note note) = ⊥
IsStart (rows.Card card) = ⊥
IsStart (rows.NoteType type) = 1 ≤ length type.templates
IsStart (rows.Review review) = ⊤
IsStart (rows.Deck deck) = ⊤
IsStart (rows.Options options) = ⊤
IsStart (rows.Grave grave) = ⊤

abbrev entries_of : List Row → List (Name × Row)
entries_of made = map (λ (row : Row). (name_of row, row)) made

each_entry : (made : List Row) → AllByRecursion IsStart made → AllByRecursion (λ (entry : Name × Row). IsStart entry.1) (entries_of made)
each_entry [] all = tt
each_entry (row ∷ made) all = (all.0, each_entry made all.1)

stands_so : (made : List Row) → AllByRecursion IsStart made → (name : Name) (row : Row) → get (rows_of made) name ≡ Some row → IsStart row
stands_so made all name row is =
    all_find (λ (entry : Name × Row). IsStart entry.1) name row (entries_of made) (each_entry made all) (sym (get-from_entries names_total (entries_of made) name) ∙ is)

start_sound : (made : List Row) (head : Head) → AllByRecursion IsStart made → IsSoundInRange (row_under (record { rows = rows_of made; head = head }))
start_sound made head all = record {
  sound = record {
    card_note = λ card is. absurd (stands_so made all (name_in tables.Card card.id) (rows.Card card) is);
    note_card = λ note is. absurd (stands_so made all (name_in tables.Note note.id) (rows.Note note) is);
    note_type = λ note is. absurd (stands_so made all (name_in tables.Note note.id) (rows.Note note) is);
    template = λ card note type is _ _ _. absurd (stands_so made all (name_in tables.Card card.id) (rows.Card card) is);
  };
  templates = λ id type is _. stands_so made all (name_in tables.NoteType id) (rows.NoteType type) is;
  ids = λ id note is. absurd (stands_so made all (name_in tables.Note id) (rows.Note note) is);
}

-- ---- the five rows
some_of : (templates : List CardTemplate) (text : List ℕ × List ℕ × List ℕ × List ℕ) (texts : List (List ℕ × List ℕ × List ℕ × List ℕ)) → map template_texts templates ≡ text ∷ texts → 1 ≤ length templates
some_of [] text texts are = nil_cons are
some_of (template ∷ templates) text texts are = omega arith

all_start : (second number : ℤ) (made : List Row) → AreOpeningRows second number made → AllByRecursion IsStart made
all_start second number made opening =
    let (basic, cloze, reversed, deck, options, are, five) = opening.are in
    let first : 1 ≤ length basic.templates = some_of basic.templates _ _ five.is_basic.templates_are in
    let second_one : 1 ≤ length cloze.templates = some_of cloze.templates _ _ five.is_cloze.templates_are in
    let third : 1 ≤ length reversed.templates = some_of reversed.templates _ _ five.is_reversed.templates_are in
    subst (AllByRecursion IsStart) (sym are) (first, (second_one, (third, (tt, (tt, tt)))))

-- ---- what `init` leaves
opened_sound : (at : ℤ) (before after : Keeping) → IsOpened at before after → is_some before.told ≡ true → HoldsSound after []
opened_sound at before after (made, opening, holds) told = by before.told refl told
  where
    by : (x : Option (WithMark Holding)) → before.told ≡ x → is_some x ≡ true → HoldsSound after []
    by None is some = false_true some
    by (Some w) is some = record {
      c = record { rows = rows_of made.rows; head = made.head };
      told =
          ap collection_told holds
          ∙ ap (λ (x : Option (WithMark Holding)). option_and_then (λ (v : WithMark Holding). collection_of v.current) (option_map (λ (v : WithMark Holding). record { current = made_of made.rows made.head; mark = None }) x)) is;
      sound = start_sound made.rows made.head (all_start _ _ made.rows opening.rows_are);
    }

pub init_sound : (at : ℤ) (before after : Keeping) (old new : Option (List ℕ)) → EndsInit at ends.Done before after old new → is_some before.told ≡ true → HoldsSound after []
init_sound at before after old new ended told = by before.headed.current ended
  where
    by : (b : Bool) → EndsInitOn b at ends.Done before after old new → HoldsSound after []
    by true (same, refused) = absurd refused
    by false (opens, keeps) = opened_sound at before after opens told
