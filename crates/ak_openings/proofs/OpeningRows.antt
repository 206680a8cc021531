-- The rows of an opening collection pass their check, and have names of their own.
use Rattle.std.proofs.Common.{◌≡◌, ℕ, ℤ, pos, negsuc, Bool, true, false, ◌≤ℤ◌, List, [], ◌∷◌, length, map, Option, None, Ok, refl, sym, ap, ◌∙◌, subst, arith, codes}
use Rattle.std.proofs.lemmas.Int.{ints}
use Rattle.std.proofs.lemmas.List.{length-map}
use Rattle.std.proofs.lemmas.List.Elements.{All-from_recursion}
use Rattle.std.specs.List.{All, AllByRecursion, IsDistinct}
use Rattle.std.specs.Option.{option_or}
use Rattle.std.specs.Ordering.{eq_by_cmp}
use Rattle.ak_base.proofs.FirstFaults.{fault_behind}
use Rattle.ak_base.proofs.OpeningOptions.{opening_passes}
use Rattle.ak_base.specs.Columns.{code_fault, first_fault, id_fault, long_fault, stamp_fault}
use Rattle.ak_base.specs.Decks.{IsCheckedDeck, taken_faults}
use Rattle.ak_base.specs.Decks.{title_faults as deck_title_faults}
use Rattle.ak_base.specs.Heads.{IsWithin}
use Rattle.ak_base.specs.Limits.{last_stamp}
use Rattle.ak_base.specs.Names.{name_cmp}
use Rattle.ak_base.specs.NoteTypes.{IsCheckedNoteType, bad_field, bad_template, entries_fault, field_fault, fields_fault, form_faults, place_fault, template_fault, templates_fault, title_faults}
use Rattle.ak_base.specs.OptionGroups.{IsCheckedOptions, general_faults, lapse_faults, new_faults, rev_faults}
use Rattle.ak_base.specs.Rows.{IsChecked, name_of}
use Rattle.ak_base.specs.declared.decks.Deck.{Deck}
use Rattle.ak_base.specs.declared.errors.RowFault.{RowFault}
use Rattle.ak_base.specs.declared.note_types.CardTemplate.{CardTemplate}
use Rattle.ak_base.specs.declared.note_types.FieldDef.{FieldDef}
use Rattle.ak_base.specs.declared.note_types.NoteType.{NoteType}
use Rattle.ak_base.specs.declared.option_groups.Options.{Options}
use Rattle.ak_base.specs.declared.rows.Row.{Row}
use Rattle.ak_base.specs.declared.rows.Row.TheVariants as rows
use Rattle.ak_openings.specs.Openings.{AreDefaultOptions, AreFive, AreOpeningRows, IsBasic, IsCloze, IsDefaultDeck, IsReversed, five_rows, field_texts, row_usn, template_texts}

-- ---- fields and templates by their texts
abbrev field_fault_of : List ℕ × List ℕ → Option RowFault
field_fault_of texts = option_or (long_fault 6 (length texts.0) 512) (long_fault 6 (length texts.1) 262_144)

abbrev bad_field_of : List (List ℕ × List ℕ) → Option RowFault
bad_field_of [] = None
bad_field_of (f ∷ fs) = option_or (field_fault_of f) (bad_field_of fs)

fields_by_texts : (fs : List FieldDef) → bad_field fs ≡ bad_field_of (map field_texts fs)
fields_by_texts [] = refl
fields_by_texts (f ∷ fs) = ap (λ o. option_or (field_fault f) o) (fields_by_texts fs)

abbrev template_fault_of : List ℕ × List ℕ × List ℕ × List ℕ → Option RowFault
template_fault_of (name, front, back, rest) =
    option_or (long_fault 7 (length name) 512)
    (option_or (long_fault 7 (length front) 65_536)
    (option_or (long_fault 7 (length back) 65_536)
    (long_fault 7 (length rest) 262_144)))

abbrev bad_template_of : List (List ℕ × List ℕ × List ℕ × List ℕ) → Option RowFault
bad_template_of [] = None
bad_template_of (t ∷ ts) = option_or (template_fault_of t) (bad_template_of ts)

templates_by_texts : (ts : List CardTemplate) → bad_template ts ≡ bad_template_of (map template_texts ts)
templates_by_texts [] = refl
templates_by_texts (t ∷ ts) = ap (λ o. option_or (template_fault t) o) (templates_by_texts ts)

fields_pass : (fs : List FieldDef) (texts : List (List ℕ × List ℕ)) → map field_texts fs ≡ texts
    → option_or (entries_fault 6 (length texts)) (bad_field_of texts) ≡ None → fields_fault fs ≡ None
fields_pass fs texts are passes =
    ap (λ n. option_or (entries_fault 6 n) (bad_field fs)) (sym (length-map fs field_texts) ∙ ap length are)
    ∙ ap (λ o. option_or (entries_fault 6 (length texts)) o) (fields_by_texts fs ∙ ap bad_field_of are) ∙ passes

templates_pass : (ts : List CardTemplate) (texts : List (List ℕ × List ℕ × List ℕ × List ℕ)) → map template_texts ts ≡ texts
    → option_or (entries_fault 7 (length texts)) (bad_template_of texts) ≡ None → templates_fault ts ≡ None
templates_pass ts texts are passes =
    ap (λ n. option_or (entries_fault 7 n) (bad_template ts)) (sym (length-map ts template_texts) ∙ ap length are)
    ∙ ap (λ o. option_or (entries_fault 7 (length texts)) o) (templates_by_texts ts ∙ ap bad_template_of are) ∙ passes

-- ---- note types
title_passes : (unsent : Bool) (t : NoteType) → id_fault t.id ≡ None → stamp_fault t.stamp ≡ None → t.usn ≡ row_usn unsent → long_fault 3 (length t.name) 512 ≡ None
    → first_fault (title_faults t) ≡ Ok tt
unfolding title_faults code_fault
title_passes true t id stamp usn name = rw (id, stamp, usn, name) refl
title_passes false t id stamp usn name = rw (id, stamp, usn, name) refl

form_passes : (t : NoteType) → length t.fields ≡ 2 → t.sortf ≡ pos 0 → fields_fault t.fields ≡ None → templates_fault t.templates ≡ None → t.rest.text ≡ codes "{}"
    → first_fault (form_faults t) ≡ Ok tt
unfolding form_faults place_fault code_fault long_fault
form_passes t size sortf fields templates rest = rw (fields, templates, size, sortf, rest) refl

type_passes : (t : NoteType) → first_fault (title_faults t) ≡ Ok tt → first_fault (form_faults t) ≡ Ok tt → IsCheckedNoteType t
type_passes t title form = fault_behind (title_faults t) (form_faults t) tt title ∙ form

two_fields : (t : NoteType) (a b : List ℕ × List ℕ) → map field_texts t.fields ≡ a ∷ b ∷ [] → length t.fields ≡ 2
two_fields t a b are = sym (length-map t.fields field_texts) ∙ ap length are

basic_passes : (unsent : Bool) (second : ℤ) (t : NoteType) → stamp_fault second ≡ None → IsBasic second (row_usn unsent) t → IsCheckedNoteType t
unfolding id_fault long_fault entries_fault
basic_passes unsent second t passes is =
    type_passes t
    (title_passes unsent t (rw is.id_is refl) (rw is.stamp passes) is.usn (rw is.name_is refl))
    (form_passes t (two_fields t _ _ is.fields_are) is.sortf (fields_pass t.fields _ is.fields_are refl) (templates_pass t.templates _ is.templates_are refl) is.rest)

cloze_passes : (unsent : Bool) (second : ℤ) (t : NoteType) → stamp_fault second ≡ None → IsCloze second (row_usn unsent) t → IsCheckedNoteType t
unfolding id_fault long_fault entries_fault
cloze_passes unsent second t passes is =
    type_passes t
    (title_passes unsent t (rw is.id_is refl) (rw is.stamp passes) is.usn (rw is.name_is refl))
    (form_passes t (two_fields t _ _ is.fields_are) is.sortf (fields_pass t.fields _ is.fields_are refl) (templates_pass t.templates _ is.templates_are refl) is.rest)

reversed_passes : (unsent : Bool) (second : ℤ) (t : NoteType) → stamp_fault second ≡ None → IsReversed second (row_usn unsent) t → IsCheckedNoteType t
unfolding id_fault long_fault entries_fault
reversed_passes unsent second t passes is =
    type_passes t
    (title_passes unsent t (rw is.id_is refl) (rw is.stamp passes) is.usn (rw is.name_is refl))
    (form_passes t (two_fields t _ _ is.fields_are) is.sortf (fields_pass t.fields _ is.fields_are refl) (templates_pass t.templates _ is.templates_are refl) is.rest)

-- ---- the deck and the options
deck_title_passes : (unsent : Bool) (second : ℤ) (d : Deck) → stamp_fault second ≡ None → IsDefaultDeck second (row_usn unsent) d → first_fault (deck_title_faults d) ≡ Ok tt
unfolding deck_title_faults id_fault code_fault long_fault
deck_title_passes true second d passes is = rw (is.id, is.stamp, is.usn, is.name, is.options, passes) refl
deck_title_passes false second d passes is = rw (is.id, is.stamp, is.usn, is.name, is.options, passes) refl

deck_taken_passes : (unsent : Bool) (second : ℤ) (d : Deck) → IsDefaultDeck second (row_usn unsent) d → first_fault (taken_faults d) ≡ Ok tt
unfolding taken_faults code_fault long_fault
deck_taken_passes unsent second d is = rw (is.new_today, is.rev_today, is.rest) refl

deck_passes : (unsent : Bool) (second : ℤ) (d : Deck) → stamp_fault second ≡ None → IsDefaultDeck second (row_usn unsent) d → IsCheckedDeck d
deck_passes unsent second d passes is =
    fault_behind (deck_title_faults d) (taken_faults d) tt (deck_title_passes unsent second d passes is) ∙ deck_taken_passes unsent second d is

-- options that pass with a row that is to be sent pass with one that was
options_sent : (o : Options) → IsCheckedOptions (record o { usn = negsuc 0 }) → IsCheckedOptions (record o { usn = pos 0 })
unfolding general_faults new_faults rev_faults lapse_faults code_fault
options_sent o passes = passes

options_numbered : (unsent : Bool) (o : Options) → IsCheckedOptions (record o { usn = negsuc 0 }) → IsCheckedOptions (record o { usn = row_usn unsent })
options_numbered true o passes = passes
options_numbered false o passes = options_sent o passes

options_pass : (unsent : Bool) (second : ℤ) (o : Options) → IsWithin (pos 0) last_stamp second → AreDefaultOptions second (row_usn unsent) o → IsCheckedOptions o
options_pass unsent second o within are =
    subst (λ u. IsCheckedOptions (record o { usn = u })) (sym are.usn)
    (options_numbered unsent o (opening_passes second (record o { usn = negsuc 0 }) within are.opening))

-- ---- all of them
stamp_passes : (second : ℤ) → pos 0 ≤ℤ second → second ≤ℤ last_stamp → stamp_fault second ≡ None
unfolding stamp_fault
stamp_passes second low high = grind (arith, ints)

five_pass : (unsent : Bool) (second : ℤ) (b c r : NoteType) (d : Deck) (o : Options) → IsWithin (pos 0) last_stamp second
    → AreFive second (row_usn unsent) b c r d o → AllByRecursion IsChecked (five_rows b c r d o)
five_pass unsent second b c r d o within five =
    let passes = stamp_passes second within.low within.high in
    let last : AllByRecursion IsChecked (rows.Deck d ∷ rows.Options o ∷ []) =
    (deck_passes unsent second d passes five.is_deck, (options_pass unsent second o within five.are_options, tt)) in (
      basic_passes unsent second b passes five.is_basic,
      (cloze_passes unsent second c passes five.is_cloze, (reversed_passes unsent second r passes five.is_reversed, last)),
    )

-- their names
five_names : (second number : ℤ) (b c r : NoteType) (d : Deck) (o : Options) → AreFive second number b c r d o
    → IsDistinct (eq_by_cmp name_cmp) (map name_of (five_rows b c r d o))
unfolding IsDistinct
five_names second number b c r d o five =
    rw (five.is_basic.id_is, five.is_cloze.id_is, five.is_reversed.id_is)
    ((refl, (refl, (refl, (refl, tt)))), ((refl, (refl, (refl, tt))), ((refl, (refl, tt)), ((refl, tt), (tt, tt)))))

-- each passes its check
pub rows_pass : (unsent : Bool) (second : ℤ) (made : List Row) → IsWithin (pos 0) last_stamp second → AreOpeningRows second (row_usn unsent) made → All IsChecked made
rows_pass unsent second made within are =
    let (b, c, r, d, o, is, five) = are.are in
    All-from_recursion IsChecked made (subst (λ l. AllByRecursion IsChecked l) (sym is) (five_pass unsent second b c r d o within five))

-- no two have one name
pub rows_are_apart : (second number : ℤ) (made : List Row) → AreOpeningRows second number made → IsDistinct (eq_by_cmp name_cmp) (map name_of made)
rows_are_apart second number made are =
    let (b, c, r, d, o, is, five) = are.are in
    subst (λ l. IsDistinct (eq_by_cmp name_cmp) (map name_of l)) (sym is) (five_names second number b c r d o five)
