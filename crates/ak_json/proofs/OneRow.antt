-- A value stands for one row at most, and is refused by one fault.
use Rattle.std.proofs.Common.{◌≡◌, ℕ, List, [], ◌∷◌, map, Option, Some, None, Ok, Err, ◌⊎◌, inl, inr, refl, sym, ap, ◌∙◌}
use Rattle.serde_json.specs.Data.{Data}
use Rattle.ak_base.specs.Rests.{lacks, lacks_options, note_type_keys, deck_keys, conf_keys}
use Rattle.ak_base.specs.declared.cards.Card.{Card}
use Rattle.ak_base.specs.declared.decks.Deck.{Deck}
use Rattle.ak_base.specs.declared.errors.RowFault.{RowFault}
use Rattle.ak_base.specs.declared.graves.Grave.{Grave}
use Rattle.ak_base.specs.declared.heads.Conf.{Conf}
use Rattle.ak_base.specs.declared.names.Table.{Table}
use Rattle.ak_base.specs.declared.names.Table.TheVariants as tables
use Rattle.ak_base.specs.declared.notes.Note.{Note}
use Rattle.ak_base.specs.declared.note_types.CardTemplate.{CardTemplate}
use Rattle.ak_base.specs.declared.note_types.FieldDef.{FieldDef}
use Rattle.ak_base.specs.declared.note_types.NoteType.{NoteType}
use Rattle.ak_base.specs.declared.option_groups.Options.{Options}
use Rattle.ak_base.specs.declared.reviews.Review.{Review}
use Rattle.ak_base.specs.declared.rows.Row.{Row}
use Rattle.ak_base.specs.declared.rows.Row.TheVariants as rows
use Rattle.ak_base.proofs.Resting.{same_proof}
use Rattle.ak_base.proofs.SameRows.{one_field, one_template}
use Rattle.ak_json.specs.Confs.{ReadsConf, conf_fault}
use Rattle.ak_json.specs.Decks.{IsDeck}
use Rattle.ak_json.specs.Faults.{Tells}
use Rattle.ak_json.specs.Groups.{IsOptions}
use Rattle.ak_json.specs.NoteTypes.{IsNoteType, field_of, template_of}
use Rattle.ak_json.specs.Rows.{IsRow, stored_check, kept_row, form_refusal, MissesRange, ReadsRow, RefusesRow}
use Rattle.ak_json.specs.declared.faults.JsonFault.{JsonFault}
use Rattle.ak_json.specs.declared.faults.JsonFault.TheVariants as faults

-- ---- equal records

one_deck : (d : Data) (a b : Deck) → IsDeck d a → IsDeck d b → a ≡ b
one_deck d a b x y =
    let text : a.rest.text ≡ b.rest.text = x.rest ∙ sym y.rest in
    λ i. record {
      id = (x.id ∙ sym y.id) i;
      stamp = (x.stamp ∙ sym y.stamp) i;
      usn = (x.usn ∙ sym y.usn) i;
      name = (x.name ∙ sym y.name) i;
      options = (x.options ∙ sym y.options) i;
      filtered = (x.filtered ∙ sym y.filtered) i;
      new_today = (x.new_today ∙ sym y.new_today) i;
      rev_today = (x.rev_today ∙ sym y.rev_today) i;
      rest = record {
        text = text i;
        owner = record {};
        unknown = same_proof (lacks deck_keys) text a.rest.unknown b.rest.unknown i;
      };
    }

same_field : (a b : FieldDef) → field_of a ≡ field_of b → a ≡ b
same_field a b e = one_field a b (ap (λ (f : List ℕ × List ℕ). f.0) e) (ap (λ (f : List ℕ × List ℕ). f.1) e)

same_template : (a b : CardTemplate) → template_of a ≡ template_of b → a ≡ b
same_template a b e =
    let part : (List ℕ × List ℕ × List ℕ × List ℕ → List ℕ) → Type 0 = λ f. f (template_of a) ≡ f (template_of b) in
    let name : part (λ t. t.0) = ap (λ (t : List ℕ × List ℕ × List ℕ × List ℕ). t.0) e in
    let front : part (λ t. t.1) = ap (λ (t : List ℕ × List ℕ × List ℕ × List ℕ). t.1) e in
    let back : part (λ t. t.2) = ap (λ (t : List ℕ × List ℕ × List ℕ × List ℕ). t.2) e in
    let rest : part (λ t. t.3) = ap (λ (t : List ℕ × List ℕ × List ℕ × List ℕ). t.3) e in
    one_template a b name front back rest

-- lists are one where a function that tells their elements apart finds the same in both
same_list : {A B : Type 0} (f : A → B) → ((a b : A) → f a ≡ f b → a ≡ b) → (xs ys : List A) → map f xs ≡ map f ys → xs ≡ ys
same_list f one [] [] e = refl
same_list f one [] (y ∷ ys) e = cc
same_list f one (x ∷ xs) [] e = cc
same_list f one (x ∷ xs) (y ∷ ys) e =
    let first : f x ≡ f y = cc in
    let later : map f xs ≡ map f ys = cc in
    let here : x ≡ y = one x y first in
    let behind : xs ≡ ys = same_list f one xs ys later in
    cc

one_note_type : (d : Data) (a b : NoteType) → IsNoteType d a → IsNoteType d b → a ≡ b
one_note_type d a b x y =
    let text : a.rest.text ≡ b.rest.text = x.rest ∙ sym y.rest in
    let fields : a.fields ≡ b.fields = same_list field_of same_field a.fields b.fields (x.fields ∙ sym y.fields) in
    let templates : a.templates ≡ b.templates = same_list template_of same_template a.templates b.templates (x.templates ∙ sym y.templates) in
    λ i. record {
      id = (x.id ∙ sym y.id) i;
      stamp = (x.stamp ∙ sym y.stamp) i;
      usn = (x.usn ∙ sym y.usn) i;
      name = (x.name ∙ sym y.name) i;
      cloze = (x.cloze ∙ sym y.cloze) i;
      sortf = (x.sortf ∙ sym y.sortf) i;
      fields = fields i;
      templates = templates i;
      rest = record {
        text = text i;
        owner = record {};
        unknown = same_proof (lacks note_type_keys) text a.rest.unknown b.rest.unknown i;
      };
    }

one_group : (d : Data) (a b : Options) → IsOptions d a → IsOptions d b → a ≡ b
one_group d a b x y =
    let text : a.rest.text ≡ b.rest.text = x.rest ∙ sym y.rest in
    λ i. record {
      id = (x.id ∙ sym y.id) i;
      stamp = (x.stamp ∙ sym y.stamp) i;
      usn = (x.usn ∙ sym y.usn) i;
      name = (x.name ∙ sym y.name) i;
      max_taken = (x.max_taken ∙ sym y.max_taken) i;
      new_steps = (x.new_steps ∙ sym y.new_steps) i;
      grad_ivl = (x.grad_ivl ∙ sym y.grad_ivl) i;
      easy_ivl = (x.easy_ivl ∙ sym y.easy_ivl) i;
      initial_factor = (x.initial_factor ∙ sym y.initial_factor) i;
      new_per_day = (x.new_per_day ∙ sym y.new_per_day) i;
      new_bury = (x.new_bury ∙ sym y.new_bury) i;
      rev_per_day = (x.rev_per_day ∙ sym y.rev_per_day) i;
      ease4 = (x.ease4 ∙ sym y.ease4) i;
      ivl_fct = (x.ivl_fct ∙ sym y.ivl_fct) i;
      max_ivl = (x.max_ivl ∙ sym y.max_ivl) i;
      hard_factor = (x.hard_factor ∙ sym y.hard_factor) i;
      rev_bury = (x.rev_bury ∙ sym y.rev_bury) i;
      lapse_steps = (x.lapse_steps ∙ sym y.lapse_steps) i;
      mult = (x.mult ∙ sym y.mult) i;
      min_int = (x.min_int ∙ sym y.min_int) i;
      leech_fails = (x.leech_fails ∙ sym y.leech_fails) i;
      leech_action = (x.leech_action ∙ sym y.leech_action) i;
      rest = record {
        text = text i;
        owner = record {};
        unknown = same_proof lacks_options text a.rest.unknown b.rest.unknown i;
      };
    }

-- an object is read as the same settings each time
pub one_conf : (d : Data) (a b : Conf) → ReadsConf d a → ReadsConf d b → a ≡ b
one_conf d a b x y =
    let text : a.rest.text ≡ b.rest.text = x.rest ∙ sym y.rest in
    λ i. record {
      new_spread = (x.new_spread ∙ sym y.new_spread) i;
      collapse = (x.collapse ∙ sym y.collapse) i;
      day_learn_first = (x.day_learn_first ∙ sym y.day_learn_first) i;
      next_pos = (x.next_pos ∙ sym y.next_pos) i;
      last_unburied = (x.last_unburied ∙ sym y.last_unburied) i;
      rest = record {
        text = text i;
        owner = record {};
        unknown = same_proof (lacks conf_keys) text a.rest.unknown b.rest.unknown i;
      };
    }

-- ---- a value stands for one row

same_note : (table : Table) (d : Data) (n : Note) (row : Row) → IsRow table d (rows.Note n) → IsRow table d row → rows.Note n ≡ row
same_note tables.Note d n (rows.Note b) x y = ap rows.Note (x.1 ∙ sym y.1)
same_note tables.Note d n row x y = absurd y.0
same_note table d n row x y = absurd x.0

same_card : (table : Table) (d : Data) (c : Card) (row : Row) → IsRow table d (rows.Card c) → IsRow table d row → rows.Card c ≡ row
same_card tables.Card d c (rows.Card b) x y = ap rows.Card (x.1 ∙ sym y.1)
same_card tables.Card d c row x y = absurd y.0
same_card table d c row x y = absurd x.0

same_review : (table : Table) (d : Data) (r : Review) (row : Row) → IsRow table d (rows.Review r) → IsRow table d row → rows.Review r ≡ row
same_review tables.Review d r (rows.Review b) x y = ap rows.Review (x.1 ∙ sym y.1)
same_review tables.Review d r row x y = absurd y.0
same_review table d r row x y = absurd x.0

same_note_type : (table : Table) (d : Data) (n : NoteType) (row : Row) → IsRow table d (rows.NoteType n) → IsRow table d row → rows.NoteType n ≡ row
same_note_type tables.NoteType d n (rows.NoteType b) x y = ap rows.NoteType (one_note_type d n b x.1 y.1)
same_note_type tables.NoteType d n row x y = absurd y.0
same_note_type table d n row x y = absurd x.0

same_deck : (table : Table) (d : Data) (k : Deck) (row : Row) → IsRow table d (rows.Deck k) → IsRow table d row → rows.Deck k ≡ row
same_deck tables.Deck d k (rows.Deck b) x y = ap rows.Deck (one_deck d k b x.1 y.1)
same_deck tables.Deck d k row x y = absurd y.0
same_deck table d k row x y = absurd x.0

same_options : (table : Table) (d : Data) (o : Options) (row : Row) → IsRow table d (rows.Options o) → IsRow table d row → rows.Options o ≡ row
same_options tables.Options d o (rows.Options b) x y = ap rows.Options (one_group d o b x.1 y.1)
same_options tables.Options d o row x y = absurd y.0
same_options table d o row x y = absurd x.0

same_grave : (table : Table) (d : Data) (g : Grave) (row : Row) → IsRow table d (rows.Grave g) → IsRow table d row → rows.Grave g ≡ row
same_grave tables.NoteGrave d g (rows.Grave b) x y = ap rows.Grave (x.1 ∙ sym y.1)
same_grave tables.NoteGrave d g row x y = absurd y.0
same_grave tables.CardGrave d g (rows.Grave b) x y = ap rows.Grave (x.1 ∙ sym y.1)
same_grave tables.CardGrave d g row x y = absurd y.0
same_grave tables.DeckGrave d g (rows.Grave b) x y = ap rows.Grave (x.1 ∙ sym y.1)
same_grave tables.DeckGrave d g row x y = absurd y.0
same_grave table d g row x y = absurd x.0

pub one_row : (table : Table) (d : Data) (a b : Row) → IsRow table d a → IsRow table d b → a ≡ b
one_row table d (rows.Note n) row x y = same_note table d n row x y
one_row table d (rows.Card c) row x y = same_card table d c row x y
one_row table d (rows.Review r) row x y = same_review table d r row x y
one_row table d (rows.NoteType n) row x y = same_note_type table d n row x y
one_row table d (rows.Deck k) row x y = same_deck table d k row x y
one_row table d (rows.Options o) row x y = same_options table d o row x y
one_row table d (rows.Grave g) row x y = same_grave table d g row x y

-- a value is read as the same row each time
pub one_row_read : (table : Table) (d : Data) (a b : Row) → ReadsRow table d a → ReadsRow table d b → a ≡ b
one_row_read table d a b x y = x.kept ∙ ap (kept_row d) (one_row table d x.stored y.stored x.is y.is) ∙ sym y.kept

-- ---- a value has one fault

-- a row in its ranges has no column out of its range
in_and_out : (table : Table) (d : Data) (a b : Row) (fault : RowFault) → a ≡ b → stored_check table d a ≡ Ok tt → stored_check table d b ≡ Err fault → ⊥
in_and_out table d a b fault e good bad = let same : stored_check table d a ≡ stored_check table d b = ap (stored_check table d) e in cc

-- a value that is read is refused only if memory runs out
pub read_or_refused : (table : Table) (d : Data) (row : Row) (fault : JsonFault) → ReadsRow table d row → RefusesRow table d fault → fault ≡ faults.Memory
read_or_refused table d row faults.NotJson x y = absurd y
read_or_refused table d row (faults.Missing text) x y = let none : form_refusal table d ≡ None = x.form in cc
read_or_refused table d row (faults.WrongKind text) x y = let none : form_refusal table d ≡ None = x.form in cc
read_or_refused table d row (faults.Row fault) x y = absurd (in_and_out table d x.stored y.0 fault (one_row table d x.stored y.0 x.is y.1.is) x.good y.1.bad)
read_or_refused table d row faults.Memory x y = refl

form_first : (table : Table) (d : Data) (a b : JsonFault) → form_refusal table d ≡ Some a → RefusesRow table d b → (a ≡ b) ⊎ (b ≡ faults.Memory)
form_first table d a faults.NotJson x y = absurd y
form_first table d a (faults.Missing text) x y = inl cc
form_first table d a (faults.WrongKind text) x y = inl cc
form_first table d a (faults.Row fault) x y = let none : form_refusal table d ≡ None = y.1.form in absurd cc
form_first table d a faults.Memory x y = inr refl

-- rows that are one have one first column out of its range
one_range : (table : Table) (d : Data) (a b : Row) (one other : RowFault) → a ≡ b → stored_check table d a ≡ Err one → stored_check table d b ≡ Err other → one ≡ other
one_range table d a b one other e x y = let same : stored_check table d a ≡ stored_check table d b = ap (stored_check table d) e in cc

range_first : (table : Table) (d : Data) (row : Row) (fault : RowFault) (b : JsonFault) → MissesRange table d fault row → RefusesRow table d b
    → (faults.Row fault ≡ b) ⊎ (b ≡ faults.Memory)
range_first table d row fault faults.NotJson x y = absurd y
range_first table d row fault (faults.Missing text) x y = let none : form_refusal table d ≡ None = x.form in absurd cc
range_first table d row fault (faults.WrongKind text) x y = let none : form_refusal table d ≡ None = x.form in absurd cc
range_first table d row fault (faults.Row other) x y =
    inl (ap faults.Row (one_range table d row y.0 fault other (one_row table d row y.0 x.is y.1.is) x.bad y.1.bad))
range_first table d row fault faults.Memory x y = inr refl

or_memory : {a b : JsonFault} → (a ≡ b) ⊎ (b ≡ faults.Memory) → (a ≡ b) ⊎ ((a ≡ faults.Memory) ⊎ (b ≡ faults.Memory))
or_memory (inl same) = inl same
or_memory (inr memory) = inr (inr memory)

-- of two faults that refuse a value, which are not one, one is out of memory
pub one_fault : (table : Table) (d : Data) (a b : JsonFault) → RefusesRow table d a → RefusesRow table d b → (a ≡ b) ⊎ ((a ≡ faults.Memory) ⊎ (b ≡ faults.Memory))
one_fault table d faults.NotJson b x y = absurd x
one_fault table d (faults.Missing text) b x y = or_memory (form_first table d (faults.Missing text) b x y)
one_fault table d (faults.WrongKind text) b x y = or_memory (form_first table d (faults.WrongKind text) b x y)
one_fault table d (faults.Row fault) b x y = or_memory (range_first table d x.0 fault b x.1 y)
one_fault table d faults.Memory b x y = inr (inl refl)

-- ---- the same of the settings

pub conf_read_or_refused : (d : Data) (c : Conf) (fault : JsonFault) → ReadsConf d c → Tells (conf_fault d) fault → fault ≡ faults.Memory
conf_read_or_refused d c faults.NotJson x y = absurd y
conf_read_or_refused d c (faults.Missing text) x y = let none : conf_fault d ≡ None = x.form in cc
conf_read_or_refused d c (faults.WrongKind text) x y = let none : conf_fault d ≡ None = x.form in cc
conf_read_or_refused d c (faults.Row fault) x y = absurd y
conf_read_or_refused d c faults.Memory x y = refl

told_first : (wanted : Option JsonFault) (a b : JsonFault) → wanted ≡ Some a → Tells wanted b → (a ≡ b) ⊎ (b ≡ faults.Memory)
told_first wanted a faults.NotJson x y = absurd y
told_first wanted a (faults.Missing text) x y = inl cc
told_first wanted a (faults.WrongKind text) x y = inl cc
told_first wanted a (faults.Row fault) x y = absurd y
told_first wanted a faults.Memory x y = inr refl

pub one_told : (wanted : Option JsonFault) (a b : JsonFault) → Tells wanted a → Tells wanted b → (a ≡ b) ⊎ ((a ≡ faults.Memory) ⊎ (b ≡ faults.Memory))
one_told wanted faults.NotJson b x y = absurd x
one_told wanted (faults.Missing text) b x y = or_memory (told_first wanted (faults.Missing text) b x y)
one_told wanted (faults.WrongKind text) b x y = or_memory (told_first wanted (faults.WrongKind text) b x y)
one_told wanted (faults.Row fault) b x y = absurd x
one_told wanted faults.Memory b x y = inr (inl refl)
