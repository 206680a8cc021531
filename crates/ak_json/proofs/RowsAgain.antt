-- What was written of a row in its ranges is read again.
use Rattle.std.proofs.Common.{◌≡◌, zero, suc, ◌≤◌, ℤ, pos, negsuc, Bool, true, false, Option, Some, None, Result, Ok, Err, refl, sym, ap, subst, ◌∙◌, arith}
use Rattle.std.specs.Prelude.{if◌then◌else◌, option_map}
use Rattle.std.specs.Option.{option_or, option_map_or, option_and_then, unwrap_or}
use Rattle.ak_base.specs.Cards.{card_faults}
use Rattle.ak_base.specs.Decks.{deck_faults}
use Rattle.ak_base.specs.Graves.{grave_faults, grave_table}
use Rattle.ak_base.specs.Notes.{note_faults}
use Rattle.ak_base.specs.NoteTypes.{note_type_faults}
use Rattle.serde_json.specs.Data.{Data}
use Rattle.ak_base.specs.OptionGroups.{options_faults, options_faults_by}
use Rattle.ak_base.specs.Reviews.{review_faults}
use Rattle.std.specs.Ordering.{int_eq}
use Rattle.ak_base.specs.Columns.{first_fault, code_fault}
use Rattle.ak_base.specs.Rows.{check_of, name_of}
use Rattle.ak_base.specs.declared.cards.Card.{Card}
use Rattle.ak_base.specs.declared.decks.Deck.{Deck}
use Rattle.ak_base.specs.declared.errors.RowFault.{RowFault}
use Rattle.ak_base.specs.declared.errors.RowFault.TheVariants.{BadCode}
use Rattle.ak_base.specs.declared.graves.Grave.{Grave}
use Rattle.ak_base.specs.declared.names.Table.{Table}
use Rattle.ak_base.specs.declared.names.Table.TheVariants as tables
use Rattle.ak_base.specs.declared.notes.Note.{Note}
use Rattle.ak_base.specs.declared.note_types.NoteType.{NoteType}
use Rattle.ak_base.specs.declared.option_groups.Options.{Options}
use Rattle.ak_base.specs.declared.reviews.Review.{Review}
use Rattle.ak_base.specs.declared.rows.Row.{Row}
use Rattle.ak_base.specs.declared.rows.Row.TheVariants as rows
use Rattle.ak_base.specs.Tables.{graves_of, stored_code}
use Rattle.ak_json.specs.Rows.{StandsIn, checked_then, code_check, row_check, row_json, ReadsRow}
use Rattle.ak_json.specs.Decks.{deck_json}
use Rattle.ak_json.specs.Faults.{told}
use Rattle.ak_json.specs.Groups.{options_kept_by, IsOptionsBy, options_json}
use Rattle.ak_json.specs.Objects.{object_form_fault}
use Rattle.ak_json.specs.Versions.{version_of, whole_form, longest_step, in_seconds}
use Rattle.ak_json.specs.NoteTypes.{note_type_json}
use Rattle.ak_json.specs.Rests.{deep_key, deep_fault}
use Rattle.ak_json.specs.declared.faults.JsonFault.{JsonFault}
use Rattle.ak_json.specs.declared.form_faults.FormFault.{FormFault}
use Rattle.ak_json.specs.declared.versions.Version.{Version}
use Rattle.ak_json.specs.declared.versions.Version.TheVariants.{First, Second}
use Rattle.ak_base.proofs.OpeningOptions.{faults_in_seconds}
use Rattle.ak_json.specs.Forms.{deck_form, note_type_form}
use Rattle.ak_json.proofs.DecksAgain.{IsDeckAgain, deck_again}
use Rattle.ak_json.proofs.OptionsAgain.{IsOptionsAgain, options_again}
use Rattle.ak_json.proofs.NoteTypesAgain.{IsNoteTypeAgain, note_type_again}
use Rattle.ak_json.proofs.Again.{AllNone, all_none, at_most, below, IsNote, IsCard, IsReview, IsGrave, note_again, card_again, review_again, grave_again}

in_range : (first later : Result (Unit {0}) RowFault) → checked_then first later ≡ Ok tt → first ≡ Ok tt
in_range (Ok good) later h = refl
in_range (Err fault) later h = cc

note_in : (table : Table) (n : Note) → StandsIn table (rows.Note n) → row_check table (rows.Note n) ≡ Ok tt → ReadsRow table (row_json (rows.Note n)) (rows.Note n)
note_in tables.Note n s h =
    let read : IsNote n = note_again n tt (in_range (first_fault (note_faults n)) (Ok tt) h) in
    record { form = rw read.form refl; stands = tt; stored = rows.Note n; is = (tt, sym read.row); good = h; kept = refl }
note_in table n s h = absurd s

card_in : (table : Table) (c : Card) → StandsIn table (rows.Card c) → row_check table (rows.Card c) ≡ Ok tt → ReadsRow table (row_json (rows.Card c)) (rows.Card c)
card_in tables.Card c s h =
    let read : IsCard c = card_again c tt (in_range (first_fault (card_faults c)) (Ok tt) h) in
    record { form = rw read.form refl; stands = tt; stored = rows.Card c; is = (tt, sym read.row); good = h; kept = refl }
card_in table c s h = absurd s

review_in : (table : Table) (r : Review) → StandsIn table (rows.Review r) → row_check table (rows.Review r) ≡ Ok tt → ReadsRow table (row_json (rows.Review r)) (rows.Review r)
review_in tables.Review r s h =
    let read : IsReview r = review_again r tt (in_range (first_fault (review_faults r)) (Ok tt) h) in
    record { form = rw read.form refl; stands = tt; stored = rows.Review r; is = (tt, sym read.row); good = h; kept = refl }
review_in table r s h = absurd s

grave_in : (table : Table) (g : Grave) → StandsIn table (rows.Grave g) → row_check table (rows.Grave g) ≡ Ok tt → ReadsRow table (row_json (rows.Grave g)) (rows.Grave g)
grave_in tables.NoteGrave g s h =
    let read : IsGrave g = grave_again g tt (in_range (first_fault (grave_faults g)) (code_check tables.NoteGrave g) h) in
    record { form = rw read.form refl; stands = tt; stored = rows.Grave g; is = (tt, sym read.row); good = h; kept = refl }
grave_in tables.CardGrave g s h =
    let read : IsGrave g = grave_again g tt (in_range (first_fault (grave_faults g)) (code_check tables.CardGrave g) h) in
    record { form = rw read.form refl; stands = tt; stored = rows.Grave g; is = (tt, sym read.row); good = h; kept = refl }
grave_in tables.DeckGrave g s h =
    let read : IsGrave g = grave_again g tt (in_range (first_fault (grave_faults g)) (code_check tables.DeckGrave g) h) in
    record { form = rw read.form refl; stands = tt; stored = rows.Grave g; is = (tt, sym read.row); good = h; kept = refl }
grave_in table g s h = absurd s

deck_in : (table : Table) (k : Deck) → StandsIn table (rows.Deck k) → row_check table (rows.Deck k) ≡ Ok tt → ReadsRow table (row_json (rows.Deck k)) (rows.Deck k)
deck_in tables.Deck k s h =
    let read : IsDeckAgain k = deck_again k tt (in_range (first_fault (deck_faults k)) (Ok tt) h) in
    record {
      form = ap (λ (o : Option FormFault). option_or (option_map told o) (deep_key deck_form (deck_json k))) read.fault ∙ read.deep;
      stands = tt;
      stored = rows.Deck k;
      is = (tt, read.row);
      good = h;
      kept = refl;
    }
deck_in table k s h = absurd s

note_type_in : (table : Table) (n : NoteType) → StandsIn table (rows.NoteType n) → row_check table (rows.NoteType n) ≡ Ok tt → ReadsRow table (row_json (rows.NoteType n)) (rows.NoteType n)
note_type_in tables.NoteType n s h =
    let read : IsNoteTypeAgain n = note_type_again n tt (in_range (first_fault (note_type_faults n)) (Ok tt) h) in
    record {
      form = ap (λ (o : Option FormFault). option_or (option_map told o) (deep_key note_type_form (note_type_json n))) read.fault ∙ read.deep;
      stands = tt;
      stored = rows.NoteType n;
      is = (tt, read.row);
      good = h;
      kept = refl;
    }
note_type_in table n s h = absurd s

-- the fault of the form of an option group's object of that version
abbrev refusal_by : Version → Data → Option JsonFault
refusal_by v d = option_or (option_map told (object_form_fault (whole_form v) d)) (deep_fault (options_kept_by v d))

options_in : (table : Table) (o : Options) → StandsIn table (rows.Options o) → row_check table (rows.Options o) ≡ Ok tt → ReadsRow table (row_json (rows.Options o)) (rows.Options o)
options_in tables.Options o s h =
    let d : Data = options_json o in
    let read : IsOptionsAgain o = options_again o tt (in_range (first_fault (options_faults o)) (Ok tt) h) in
    let new : version_of d ≡ Second = ap (λ (old : Bool). if old then First else Second) read.old in
    record {
      form =
          ap (λ (v : Version). refusal_by v d) new
          ∙ (ap (λ (fault : Option FormFault). option_or (option_map told fault) (deep_fault (options_kept_by Second d))) read.fault ∙ read.deep);
      stands = tt;
      stored = rows.Options o;
      is = (tt, subst (λ (v : Version). IsOptionsBy v d o) (sym new) read.row);
      good =
          ap (λ (v : Version). checked_then (first_fault (options_faults_by (longest_step v) o)) (Ok tt)) new
          ∙ (ap (λ (check : Result (Unit {0}) RowFault). checked_then check (Ok tt)) (faults_in_seconds o) ∙ h);
      kept = ap (λ (v : Version). rows.Options (in_seconds v o)) (sym new);
    }
options_in table o s h = absurd s

-- what was written of a row in its ranges is read as that row
pub rows_again : (table : Table) (row : Row) → StandsIn table row → row_check table row ≡ Ok tt → ReadsRow table (row_json row) row
rows_again table (rows.Note n) s h = note_in table n s h
rows_again table (rows.Card c) s h = card_in table c s h
rows_again table (rows.Review r) s h = review_in table r s h
rows_again table (rows.NoteType n) s h = note_type_in table n s h
rows_again table (rows.Deck k) s h = deck_in table k s h
rows_again table (rows.Grave g) s h = grave_in table g s h
rows_again table (rows.Options o) s h = options_in table o s h

-- ---- a row in the table of its own name

-- a grave in its ranges is of the kind of its own table
own_code : (kind : ℤ) → code_fault 2 kind (pos 0) (pos 2) ≡ None → option_map_or (int_eq kind) (stored_code (grave_table kind)) false ≡ true
unfolding code_fault
own_code (pos zero) e = refl
own_code (pos (suc zero)) e = refl
own_code (pos (suc (suc zero))) e = refl
own_code (pos (suc (suc (suc n)))) e = let few : suc (suc (suc n)) ≤ 2 = at_most 2 (suc (suc (suc n))) (below _ _ _ e) in absurd (omega (arith, few))
own_code (negsuc n) e = cc

among_graves : (g : Grave) (card note deck : Bool)
    → StandsIn (unwrap_or (option_and_then graves_of (if card then Some tables.Card else if note then Some tables.Note else if deck then Some tables.Deck else None)) tables.DeckGrave) (rows.Grave g)
among_graves g true note deck = tt
among_graves g false true deck = tt
among_graves g false false true = tt
among_graves g false false false = tt

own_grave : (g : Grave) → first_fault (grave_faults g) ≡ Ok tt → row_check (grave_table g.kind) (rows.Grave g) ≡ Ok tt
own_grave g h =
    let all : AllNone (grave_faults g) = all_none (grave_faults g) tt h in
    ap (λ c. checked_then c (code_check (grave_table g.kind) g)) h
    ∙ ap (λ (own : Bool). if own then Ok tt else Err (BadCode 2 g.kind)) (own_code g.kind all.1.1.0)

free : (check : Result (Unit {0}) RowFault) → check ≡ Ok tt → checked_then check (Ok tt) ≡ Ok tt
free check h = ap (λ c. checked_then c (Ok tt)) h

-- what was written of a row that passes its check is read in its own table as that row
pub own_again : (row : Row) → check_of row ≡ Ok tt → ReadsRow (name_of row).table (row_json row) row
own_again (rows.Note n) h = note_in tables.Note n tt (free (first_fault (note_faults n)) h)
own_again (rows.Card c) h = card_in tables.Card c tt (free (first_fault (card_faults c)) h)
own_again (rows.Review r) h = review_in tables.Review r tt (free (first_fault (review_faults r)) h)
own_again (rows.NoteType n) h = note_type_in tables.NoteType n tt (free (first_fault (note_type_faults n)) h)
own_again (rows.Deck k) h = deck_in tables.Deck k tt (free (first_fault (deck_faults k)) h)
own_again (rows.Options o) h = options_in tables.Options o tt (free (first_fault (options_faults o)) h)
own_again (rows.Grave g) h =
    grave_in (grave_table g.kind) g (among_graves g (int_eq g.kind (pos 0)) (int_eq g.kind (pos 1)) (int_eq g.kind (pos 2))) (own_grave g h)
