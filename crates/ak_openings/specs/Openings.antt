-- The collection that a learner or a server begins with: a deck, a group of options and three note types.
use Rattle.std.specs.Prelude.{◌≡◌, ℕ, ℤ, pos, negsuc, Bool, true, false, int_div, ◌*ℤ◌, if◌then◌else◌, List, [], ◌∷◌, map, codes}
use Rattle.ak_base.specs.OptionGroups.{AreOpeningOptions}
use Rattle.ak_base.specs.declared.decks.Count.{Count}
use Rattle.ak_base.specs.declared.decks.Deck.{Deck}
use Rattle.ak_base.specs.declared.heads.Conf.{Conf}
use Rattle.ak_base.specs.declared.heads.Head.{Head}
use Rattle.ak_base.specs.declared.note_types.CardTemplate.{CardTemplate}
use Rattle.ak_base.specs.declared.note_types.FieldDef.{FieldDef}
use Rattle.ak_base.specs.declared.note_types.NoteType.{NoteType}
use Rattle.ak_base.specs.declared.option_groups.Options.{Options}
use Rattle.ak_base.specs.declared.rows.Row.{Row}
use Rattle.ak_base.specs.declared.rows.Row.TheVariants as rows
use Rattle.ak_openings.specs.declared.whole_collections.Opening.{Opening}

-- ---- the numbers
-- the usn of a row: -1 if it is to be sent
abbrev pub row_usn : Bool → ℤ
row_usn true = negsuc 0
row_usn false = pos 0

-- that of the head: a device's first sync gives it the server's, and a server begins at 1
abbrev pub head_usn : Bool → ℤ
head_usn true = pos 0
head_usn false = pos 1

-- ---- the deck
-- a count of day 0
abbrev pub nothing_taken : Count
nothing_taken = record { day = pos 0; count = pos 0 }

-- deck 1, with the options 1
pub record IsDefaultDeck (second number : ℤ) (d : Deck) : Type 0 where
  pub id : d.id ≡ pos 1
  pub stamp : d.stamp ≡ second
  pub usn : d.usn ≡ number
  pub name : d.name ≡ codes "Default"
  pub options : d.options ≡ pos 1
  pub filtered : d.filtered ≡ false
  pub new_today : d.new_today ≡ nothing_taken
  pub rev_today : d.rev_today ≡ nothing_taken
  pub rest : d.rest.text ≡ codes "{}"

-- ---- the group of options
-- the opening group, with this number
pub record AreDefaultOptions (second number : ℤ) (o : Options) : Type 0 where
  pub opening : AreOpeningOptions second (record o { usn = negsuc 0 })
  pub usn : o.usn ≡ number

-- ---- the note types
-- what a field says: its name, and no other keys
abbrev pub field_texts : FieldDef → List ℕ × List ℕ
field_texts field = (field.name, field.rest.text)

-- what a template says: its name, its front, its back, and no other keys
abbrev pub template_texts : CardTemplate → List ℕ × List ℕ × List ℕ × List ℕ
template_texts template = (template.name, template.front, template.back, template.rest.text)

-- a field of this name
abbrev pub field_of : List ℕ → List ℕ × List ℕ
field_of name = (name, codes "{}")

-- a note type of this id, name, kind, with these fields and templates, sorted by its first field
pub record IsType (id second number : ℤ) (name : List ℕ) (cloze : Bool) (fields : List (List ℕ × List ℕ)) (templates : List (List ℕ × List ℕ × List ℕ × List ℕ)) (t : NoteType) : Type 0 where
  pub id_is : t.id ≡ id
  pub stamp : t.stamp ≡ second
  pub usn : t.usn ≡ number
  pub name_is : t.name ≡ name
  pub cloze_is : t.cloze ≡ cloze
  pub sortf : t.sortf ≡ pos 0
  pub fields_are : map field_texts t.fields ≡ fields
  pub templates_are : map template_texts t.templates ≡ templates
  pub rest : t.rest.text ≡ codes "{}"

-- the fields of the two standard types
abbrev pub front_and_back : List (List ℕ × List ℕ)
front_and_back = field_of (codes "Front") ∷ field_of (codes "Back") ∷ []

-- the card that asks for the back
abbrev pub forward_card : List ℕ × List ℕ × List ℕ × List ℕ
forward_card = (codes "Card 1", codes "{{Front}}", codes "{{FrontSide}}<hr id=answer>{{Back}}", codes "{}")

-- the card that asks for the front
abbrev pub reversed_card : List ℕ × List ℕ × List ℕ × List ℕ
reversed_card = (codes "Card 2", codes "{{Back}}", codes "{{FrontSide}}<hr id=answer>{{Front}}", codes "{}")

-- the cards of the clozes in a text
abbrev pub cloze_card : List ℕ × List ℕ × List ℕ × List ℕ
cloze_card = (codes "Cloze", codes "{{cloze:Text}}", codes "{{cloze:Text}}<br>{{Extra}}", codes "{}")

-- type 1
abbrev pub IsBasic : ℤ → ℤ → NoteType → Type 0
IsBasic second number = IsType (pos 1) second number (codes "Basic") false front_and_back (forward_card ∷ [])

-- type 2
abbrev pub IsCloze : ℤ → ℤ → NoteType → Type 0
IsCloze second number = IsType (pos 2) second number (codes "Cloze") true (field_of (codes "Text") ∷ field_of (codes "Extra") ∷ []) (cloze_card ∷ [])

-- type 3
abbrev pub IsReversed : ℤ → ℤ → NoteType → Type 0
IsReversed second number =
    IsType (pos 3) second number (codes "Basic (and reversed card)") false front_and_back (forward_card ∷ reversed_card ∷ [])

-- ---- the head
-- the settings: new cards among reviews, learning cards up to 20 minutes ahead, the first new card at place 1
pub record IsOpeningConf (conf : Conf) : Type 0 where
  pub new_spread : conf.new_spread ≡ pos 0
  pub collapse : conf.collapse ≡ pos 1_200
  pub day_learn_first : conf.day_learn_first ≡ false
  pub next_pos : conf.next_pos ≡ pos 1
  pub last_unburied : conf.last_unburied ≡ pos 0
  pub rest : conf.rest.text ≡ codes "{}"

-- the collection's days begin at midnight of the moment's day, in universal time; nothing was synced yet, and there are no tags
pub record IsOpeningHead (ms : ℤ) (unsent : Bool) (head : Head) : Type 0 where
  pub crt : head.crt ≡ int_div ms (pos 86_400_000) *ℤ pos 86_400
  pub moment : head.moment ≡ ms
  pub schema : head.schema ≡ ms
  pub usn : head.usn ≡ head_usn unsent
  pub last_sync : head.last_sync ≡ pos 0
  pub conf : IsOpeningConf head.conf
  pub tags : head.tags ≡ []

-- ---- all of it
-- the five rows, by table and id
abbrev pub five_rows : NoteType → NoteType → NoteType → Deck → Options → List Row
five_rows basic cloze reversed deck options =
    rows.NoteType basic ∷ rows.NoteType cloze ∷ rows.NoteType reversed ∷ rows.Deck deck ∷ rows.Options options ∷ []

-- what each of five rows is
pub record AreFive (second number : ℤ) (basic cloze reversed : NoteType) (deck : Deck) (options : Options) : Type 0 where
  pub is_basic : IsBasic second number basic
  pub is_cloze : IsCloze second number cloze
  pub is_reversed : IsReversed second number reversed
  pub is_deck : IsDefaultDeck second number deck
  pub are_options : AreDefaultOptions second number options

-- the rows: the note types, the deck and the options
pub record AreOpeningRows (second number : ℤ) (made : List Row) : Type 0 where
  pub are :
      (basic : NoteType) × (cloze : NoteType) × (reversed : NoteType) × (deck : Deck) × (options : Options)
      × (made ≡ five_rows basic cloze reversed deck options) × AreFive second number basic cloze reversed deck options

-- the opening collection of a moment in milliseconds: its rows are stamped with the moment's second
pub record IsOpening (ms : ℤ) (unsent : Bool) (made : Opening) : Type 0 where
  pub head : IsOpeningHead ms unsent made.head
  pub rows_are : AreOpeningRows (int_div ms (pos 1_000)) (row_usn unsent) made.rows
