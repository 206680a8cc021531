-- A text says one line at most.
use Rattle.std.proofs.Common.{◌≡◌, ℕ, ℤ, pos, ◌<◌, Bool, true, false, List, [], ◌∷◌, length, Option, Some, None, refl, sym, ap, subst, ◌∙◌, arith}
use Rattle.std.proofs.lemmas.Option.{same_Some}
use Rattle.std.specs.Option.{MatchOption}
use Rattle.std.specs.Prelude.{codes}
use Rattle.serde_json.specs.Data.{Data}
use Rattle.serde_json.specs.Read.{read}
use Rattle.ak_base.specs.declared.names.Table.TheVariants as tables
use Rattle.ak_base.specs.declared.note_types.NoteType.{NoteType}
use Rattle.ak_base.specs.declared.option_groups.Options.{Options}
use Rattle.ak_base.specs.declared.rows.Row.{Row}
use Rattle.ak_base.specs.declared.rows.Row.TheVariants as rows
use Rattle.ak_json.proofs.OneRow.{one_row_read}
use Rattle.ak_json.specs.Rows.{ReadsRow}
use Rattle.ak_search.proofs.Grammars.{one_tree}
use Rattle.ak_search.specs.Grammar.{pieces_in}
use Rattle.ak_search.specs.Trees.{Tree, pieces_of}
use Rattle.ak_search.specs.declared.parses.Expr.{Expr}
use Rattle.ak_desk_language.specs.declared.desk_lines.DeskLine.{DeskLine}
use Rattle.ak_desk_language.specs.declared.desk_lines.DeskLine.TheVariants as lines
use Rattle.ak_desk_language.specs.declared.verbs.Verb.{Verb}
use Rattle.ak_desk_language.specs.declared.verbs.Verb.TheVariants as verbs
use Rattle.ak_desk_language.specs.Contents.{InJson, map_of, part_of, has_id_zero, options_value, IsTypeWithMaps}
use Rattle.ak_desk_language.specs.DeskLines.{HasVerb, HasIds, HasTexts, HasOptions, HasSearch, HasSide, MeansLine, SaysLine, AreSameLines}
use Rattle.ak_desk_language.specs.LineForms.{LineForm, HasForm, Tail, Nothing, Ids, AnyText, end_text}
use Rattle.ak_desk_language.specs.Reading.{form_of}
use Rattle.ak_desk_language.proofs.FormsRead.{form_read}
use Rattle.ak_desk_language.proofs.VerbWords.{verb_code}

-- ---- verbs differ
-- the verb of a line
abbrev verb_in : DeskLine → Verb
verb_in (lines.AddNote note_type deck fields) = verbs.Note
verb_in (lines.SetFields note fields) = verbs.Fields
verb_in (lines.SetTags note tags) = verbs.Tags
verb_in (lines.DeleteNotes notes) = verbs.Delete
verb_in (lines.DeleteDeck deck) = verbs.Drop
verb_in (lines.RenameDeck deck name) = verbs.Rename
verb_in (lines.MoveCards deck cards) = verbs.Move
verb_in (lines.UseOptions deck options) = verbs.Adopt
verb_in (lines.SetSpread spread) = verbs.Spread
verb_in (lines.AddDeck name) = verbs.Deck
verb_in (lines.AddOptions options) = verbs.Options
verb_in (lines.SetOptions options) = verbs.Options
verb_in (lines.AddType note_type) = verbs.Type
verb_in (lines.EditType allow note_type fields templates) = verbs.Retype
verb_in (lines.DeleteType allow note_type) = verbs.Untype
verb_in (lines.DeleteOptions allow options) = verbs.Unoptions
verb_in (lines.Answer card button taken) = verbs.Answer
verb_in (lines.Next deck) = verbs.Next
verb_in (lines.Counts deck) = verbs.Counts
verb_in (lines.Find search) = verbs.Find
verb_in (lines.Page card back) = verbs.Page
verb_in (lines.Mute filter) = verbs.Mute
verb_in (lines.Suspend cards) = verbs.Suspend
verb_in (lines.Unsuspend cards) = verbs.Unsuspend
verb_in (lines.Bury cards) = verbs.Bury
verb_in (lines.Flag value cards) = verbs.Flag
verb_in lines.Undo = verbs.Undo
verb_in lines.Check = verbs.Check

verb_meant : (f : LineForm) (line : DeskLine) → MeansLine f line → f.verb ≡ verb_in line
verb_meant f (lines.AddNote note_type deck fields) m = m.0.0
verb_meant f (lines.SetFields note fields) m = m.0.0
verb_meant f (lines.SetTags note tags) m = m.0.0
verb_meant f (lines.DeleteNotes notes) m = m.0.0
verb_meant f (lines.DeleteDeck deck) m = m.0
verb_meant f (lines.RenameDeck deck name) m = m.0.0
verb_meant f (lines.MoveCards deck cards) m = m.0.0
verb_meant f (lines.UseOptions deck options) m = m.0
verb_meant f (lines.SetSpread spread) m = m.0
verb_meant f (lines.AddDeck name) m = m.0.0
verb_meant f (lines.AddOptions options) m = m.0.0
verb_meant f (lines.SetOptions options) m = m.0.0
verb_meant f (lines.AddType note_type) m = m.0.0
verb_meant f (lines.EditType allow note_type fields templates) m = m.0.0
verb_meant f (lines.DeleteType allow note_type) m = m.0.0
verb_meant f (lines.DeleteOptions allow options) m = m.0.0
verb_meant f (lines.Answer card button taken) m = m.0
verb_meant f (lines.Next deck) m = m.0
verb_meant f (lines.Counts deck) m = m.0
verb_meant f (lines.Find search) m = m.0.0
verb_meant f (lines.Page card back) m = m.0.0
verb_meant f (lines.Mute filter) m = m.0.0
verb_meant f (lines.Suspend cards) m = m.0.0
verb_meant f (lines.Unsuspend cards) m = m.0.0
verb_meant f (lines.Bury cards) m = m.0.0
verb_meant f (lines.Flag value cards) m = m.0.0
verb_meant f lines.Undo m = m
verb_meant f lines.Check m = m

same_code : (f : LineForm) (a b : DeskLine) → MeansLine f a → MeansLine f b → verb_code (verb_in a) ≡ verb_code (verb_in b)
same_code f a b m n = ap verb_code (sym (verb_meant f a m) ∙ verb_meant f b n)

-- ---- the texts at the end of a line
-- a text is the JSON of one value at most
pub same_json : {A : Type 0} (text : List ℕ) (P Q : Data → Type 0) → InJson text P → InJson text Q → ((d : Data) → P d → Q d → A) → A
same_json {A} text P Q p q goes =
    elim (read text) as (λ o. MatchOption o ⊥ P → MatchOption o ⊥ Q → A) [
      | None ↦ λ p q. absurd p
      | Some d ↦ λ p q. goes d p q
    ] p q

same_texts : (f : LineForm) (a b : List (List ℕ)) → HasTexts f a → HasTexts f b → a ≡ b
same_texts f a b m n = same_json (end_text f.tail) _ _ m n (λ d p q. same_Some a b (sym p ∙ q))

abbrev option_group : Row → Options → Options
option_group (rows.Options o) other = o
option_group row other = other

same_options : (d : Data) (a b : Options) → ReadsRow tables.Options d (rows.Options a) → ReadsRow tables.Options d (rows.Options b) → a ≡ b
same_options d a b m n = ap (λ row. option_group row a) (one_row_read tables.Options d (rows.Options a) (rows.Options b) m n)

abbrev note_type_in : Row → NoteType → NoteType
note_type_in (rows.NoteType n) other = n
note_type_in row other = other

same_type : (d : Data) (a b : NoteType) → ReadsRow tables.NoteType d (rows.NoteType a) → ReadsRow tables.NoteType d (rows.NoteType b) → a ≡ b
same_type d a b m n = ap (λ row. note_type_in row a) (one_row_read tables.NoteType d (rows.NoteType a) (rows.NoteType b) m n)

same_group : (f : LineForm) (x y : Bool) (a b : Options) → HasOptions f x a → HasOptions f y b → (x ≡ y) × (a ≡ b)
same_group f x y a b m n = same_json (end_text f.tail) _ _ m n (λ d p q. (sym p.0 ∙ q.0, same_options (options_value d) a b p.1 q.1))

same_search : (f : LineForm) (a b : Expr) → HasSearch f a → HasSearch f b → pieces_in a.tokens.items ≡ pieces_in b.tokens.items
same_search f a b m n = m.2 ∙ ap pieces_of (one_tree (end_text f.tail) m.0 n.0 m.1 n.1) ∙ sym n.2

sides_differ : (t : Tail) → t ≡ AnyText (codes "back") → t ≡ AnyText (codes "front") → {A : Type 0} → A
sides_differ t m n {A} = absurd (omega (arith, ap (λ x. length (end_text x)) (sym m ∙ n)))

same_side : (f : LineForm) (a b : Bool) → HasSide f a → HasSide f b → a ≡ b
same_side f true true m n = refl
same_side f true false m n = sides_differ f.tail m n
same_side f false true m n = sides_differ f.tail n m
same_side f false false m n = refl

-- ---- each line
same_add_note : (f : LineForm) (note_type1 : ℤ) (deck1 : ℤ) (fields1 : List (List ℕ)) (b : DeskLine) → MeansLine f (lines.AddNote note_type1 deck1 fields1) → MeansLine f b → AreSameLines (lines.AddNote note_type1 deck1 fields1) b
same_add_note f note_type1 deck1 fields1 (lines.AddNote note_type2 deck2 fields2) m n = let t : fields1 ≡ fields2 = same_texts f fields1 fields2 m.1 n.1 in let e = m.0.1 in let g = n.0.1 in cc
same_add_note f note_type1 deck1 fields1 b m n = absurd (omega (arith, same_code f (lines.AddNote note_type1 deck1 fields1) b m n))

same_set_fields : (f : LineForm) (note1 : ℤ) (fields1 : List (List ℕ)) (b : DeskLine) → MeansLine f (lines.SetFields note1 fields1) → MeansLine f b → AreSameLines (lines.SetFields note1 fields1) b
same_set_fields f note1 fields1 (lines.SetFields note2 fields2) m n = let t : fields1 ≡ fields2 = same_texts f fields1 fields2 m.1 n.1 in let e = m.0.1 in let g = n.0.1 in cc
same_set_fields f note1 fields1 b m n = absurd (omega (arith, same_code f (lines.SetFields note1 fields1) b m n))

same_set_tags : (f : LineForm) (note1 : ℤ) (tags1 : List (List ℕ)) (b : DeskLine) → MeansLine f (lines.SetTags note1 tags1) → MeansLine f b → AreSameLines (lines.SetTags note1 tags1) b
same_set_tags f note1 tags1 (lines.SetTags note2 tags2) m n = let t : tags1 ≡ tags2 = same_texts f tags1 tags2 m.1 n.1 in let e = m.0.1 in let g = n.0.1 in cc
same_set_tags f note1 tags1 b m n = absurd (omega (arith, same_code f (lines.SetTags note1 tags1) b m n))

same_delete_notes : (f : LineForm) (notes1 : List ℤ) (b : DeskLine) → MeansLine f (lines.DeleteNotes notes1) → MeansLine f b → AreSameLines (lines.DeleteNotes notes1) b
same_delete_notes f notes1 (lines.DeleteNotes notes2) m n = let e = m.0.1 in let g = n.0.1 in let t = m.1 in let u = n.1 in cc
same_delete_notes f notes1 b m n = absurd (omega (arith, same_code f (lines.DeleteNotes notes1) b m n))

same_delete_deck : (f : LineForm) (deck1 : ℤ) (b : DeskLine) → MeansLine f (lines.DeleteDeck deck1) → MeansLine f b → AreSameLines (lines.DeleteDeck deck1) b
same_delete_deck f deck1 (lines.DeleteDeck deck2) m n = let e = m.1 in let g = n.1 in cc
same_delete_deck f deck1 b m n = absurd (omega (arith, same_code f (lines.DeleteDeck deck1) b m n))

same_rename_deck : (f : LineForm) (deck1 : ℤ) (name1 : List ℕ) (b : DeskLine) → MeansLine f (lines.RenameDeck deck1 name1) → MeansLine f b → AreSameLines (lines.RenameDeck deck1 name1) b
same_rename_deck f deck1 name1 (lines.RenameDeck deck2 name2) m n = let e = m.0.1 in let g = n.0.1 in let t = m.1 in let u = n.1 in cc
same_rename_deck f deck1 name1 b m n = absurd (omega (arith, same_code f (lines.RenameDeck deck1 name1) b m n))

same_move_cards : (f : LineForm) (deck1 : ℤ) (cards1 : List ℤ) (b : DeskLine) → MeansLine f (lines.MoveCards deck1 cards1) → MeansLine f b → AreSameLines (lines.MoveCards deck1 cards1) b
same_move_cards f deck1 cards1 (lines.MoveCards deck2 cards2) m n = let e = m.0.1 in let g = n.0.1 in let t = m.1 in let u = n.1 in cc
same_move_cards f deck1 cards1 b m n = absurd (omega (arith, same_code f (lines.MoveCards deck1 cards1) b m n))

same_use_options : (f : LineForm) (deck1 : ℤ) (options1 : ℤ) (b : DeskLine) → MeansLine f (lines.UseOptions deck1 options1) → MeansLine f b → AreSameLines (lines.UseOptions deck1 options1) b
same_use_options f deck1 options1 (lines.UseOptions deck2 options2) m n = let e = m.1 in let g = n.1 in cc
same_use_options f deck1 options1 b m n = absurd (omega (arith, same_code f (lines.UseOptions deck1 options1) b m n))

same_set_spread : (f : LineForm) (spread1 : ℤ) (b : DeskLine) → MeansLine f (lines.SetSpread spread1) → MeansLine f b → AreSameLines (lines.SetSpread spread1) b
same_set_spread f spread1 (lines.SetSpread spread2) m n = let e = m.1 in let g = n.1 in cc
same_set_spread f spread1 b m n = absurd (omega (arith, same_code f (lines.SetSpread spread1) b m n))

same_add_deck : (f : LineForm) (name1 : List ℕ) (b : DeskLine) → MeansLine f (lines.AddDeck name1) → MeansLine f b → AreSameLines (lines.AddDeck name1) b
same_add_deck f name1 (lines.AddDeck name2) m n = let e = m.0.1 in let g = n.0.1 in let t = m.1 in let u = n.1 in cc
same_add_deck f name1 b m n = absurd (omega (arith, same_code f (lines.AddDeck name1) b m n))

same_add_options : (f : LineForm) (options1 : Options) (b : DeskLine) → MeansLine f (lines.AddOptions options1) → MeansLine f b → AreSameLines (lines.AddOptions options1) b
same_add_options f options1 (lines.AddOptions options2) m n = ap lines.AddOptions (same_group f true true options1 options2 m.1 n.1).1
same_add_options f options1 (lines.SetOptions options2) m n = absurd (let e = (same_group f true false options1 options2 m.1 n.1).0 in cc)
same_add_options f options1 b m n = absurd (omega (arith, same_code f (lines.AddOptions options1) b m n))

same_set_options : (f : LineForm) (options1 : Options) (b : DeskLine) → MeansLine f (lines.SetOptions options1) → MeansLine f b → AreSameLines (lines.SetOptions options1) b
same_set_options f options1 (lines.SetOptions options2) m n = ap lines.SetOptions (same_group f false false options1 options2 m.1 n.1).1
same_set_options f options1 (lines.AddOptions options2) m n = absurd (let e = (same_group f false true options1 options2 m.1 n.1).0 in cc)
same_set_options f options1 b m n = absurd (omega (arith, same_code f (lines.SetOptions options1) b m n))

same_add_type : (f : LineForm) (note_type1 : NoteType) (b : DeskLine) → MeansLine f (lines.AddType note_type1) → MeansLine f b → AreSameLines (lines.AddType note_type1) b
same_add_type f note_type1 (lines.AddType note_type2) m n = ap lines.AddType (same_json (end_text f.tail) _ _ m.1 n.1 (λ d p q. same_type d note_type1 note_type2 p q))
same_add_type f note_type1 b m n = absurd (omega (arith, same_code f (lines.AddType note_type1) b m n))

same_edit_type : (f : LineForm) (allow1 : Bool) (note_type1 : NoteType) (fields1 : List (Option ℕ)) (templates1 : List (Option ℕ)) (b : DeskLine) → MeansLine f (lines.EditType allow1 note_type1 fields1 templates1) → MeansLine f b → AreSameLines (lines.EditType allow1 note_type1 fields1 templates1) b
same_edit_type f allow1 note_type1 fields1 templates1 (lines.EditType allow2 note_type2 fields2 templates2) m n = same_json (end_text f.tail) _ _ m.2 n.2 (λ d p q. let t : note_type1 ≡ note_type2 = same_type (part_of 0 d) note_type1 note_type2 p.row q.row in let fs : fields1 ≡ fields2 = same_Some _ _ (sym p.field_places ∙ q.field_places) in let ts : templates1 ≡ templates2 = same_Some _ _ (sym p.template_places ∙ q.template_places) in let e = m.1 in let g = n.1 in cc)
same_edit_type f allow1 note_type1 fields1 templates1 b m n = absurd (omega (arith, same_code f (lines.EditType allow1 note_type1 fields1 templates1) b m n))

same_delete_type : (f : LineForm) (allow1 : Bool) (note_type1 : ℤ) (b : DeskLine) → MeansLine f (lines.DeleteType allow1 note_type1) → MeansLine f b → AreSameLines (lines.DeleteType allow1 note_type1) b
same_delete_type f allow1 note_type1 (lines.DeleteType allow2 note_type2) m n = let e = m.0.1 in let g = n.0.1 in let t = m.1 in let u = n.1 in cc
same_delete_type f allow1 note_type1 b m n = absurd (omega (arith, same_code f (lines.DeleteType allow1 note_type1) b m n))

same_delete_options : (f : LineForm) (allow1 : Bool) (options1 : ℤ) (b : DeskLine) → MeansLine f (lines.DeleteOptions allow1 options1) → MeansLine f b → AreSameLines (lines.DeleteOptions allow1 options1) b
same_delete_options f allow1 options1 (lines.DeleteOptions allow2 options2) m n = let e = m.0.1 in let g = n.0.1 in let t = m.1 in let u = n.1 in cc
same_delete_options f allow1 options1 b m n = absurd (omega (arith, same_code f (lines.DeleteOptions allow1 options1) b m n))

same_answer : (f : LineForm) (card1 : ℤ) (button1 : ℕ) (taken1 : ℕ) (b : DeskLine) → MeansLine f (lines.Answer card1 button1 taken1) → MeansLine f b → AreSameLines (lines.Answer card1 button1 taken1) b
same_answer f card1 button1 taken1 (lines.Answer card2 button2 taken2) m n = let e = m.1 in let g = n.1 in cc
same_answer f card1 button1 taken1 b m n = absurd (omega (arith, same_code f (lines.Answer card1 button1 taken1) b m n))

same_next : (f : LineForm) (deck1 : ℤ) (b : DeskLine) → MeansLine f (lines.Next deck1) → MeansLine f b → AreSameLines (lines.Next deck1) b
same_next f deck1 (lines.Next deck2) m n = let e = m.1 in let g = n.1 in cc
same_next f deck1 b m n = absurd (omega (arith, same_code f (lines.Next deck1) b m n))

same_counts : (f : LineForm) (deck1 : ℤ) (b : DeskLine) → MeansLine f (lines.Counts deck1) → MeansLine f b → AreSameLines (lines.Counts deck1) b
same_counts f deck1 (lines.Counts deck2) m n = let e = m.1 in let g = n.1 in cc
same_counts f deck1 b m n = absurd (omega (arith, same_code f (lines.Counts deck1) b m n))

same_find : (f : LineForm) (search1 : Expr) (b : DeskLine) → MeansLine f (lines.Find search1) → MeansLine f b → AreSameLines (lines.Find search1) b
same_find f search1 (lines.Find search2) m n = same_search f search1 search2 m.1 n.1
same_find f search1 b m n = absurd (omega (arith, same_code f (lines.Find search1) b m n))

same_page : (f : LineForm) (card1 : ℤ) (back1 : Bool) (b : DeskLine) → MeansLine f (lines.Page card1 back1) → MeansLine f b → AreSameLines (lines.Page card1 back1) b
same_page f card1 back1 (lines.Page card2 back2) m n = let t : back1 ≡ back2 = same_side f back1 back2 m.1 n.1 in let e = m.0.1 in let g = n.0.1 in cc
same_page f card1 back1 b m n = absurd (omega (arith, same_code f (lines.Page card1 back1) b m n))

same_mute : (f : LineForm) (filter1 : List ℕ) (b : DeskLine) → MeansLine f (lines.Mute filter1) → MeansLine f b → AreSameLines (lines.Mute filter1) b
same_mute f filter1 (lines.Mute filter2) m n = let e = m.0.1 in let g = n.0.1 in let t = m.1 in let u = n.1 in cc
same_mute f filter1 b m n = absurd (omega (arith, same_code f (lines.Mute filter1) b m n))

same_suspend : (f : LineForm) (cards1 : List ℤ) (b : DeskLine) → MeansLine f (lines.Suspend cards1) → MeansLine f b → AreSameLines (lines.Suspend cards1) b
same_suspend f cards1 (lines.Suspend cards2) m n = let e = m.0.1 in let g = n.0.1 in let t = m.1 in let u = n.1 in cc
same_suspend f cards1 b m n = absurd (omega (arith, same_code f (lines.Suspend cards1) b m n))

same_unsuspend : (f : LineForm) (cards1 : List ℤ) (b : DeskLine) → MeansLine f (lines.Unsuspend cards1) → MeansLine f b → AreSameLines (lines.Unsuspend cards1) b
same_unsuspend f cards1 (lines.Unsuspend cards2) m n = let e = m.0.1 in let g = n.0.1 in let t = m.1 in let u = n.1 in cc
same_unsuspend f cards1 b m n = absurd (omega (arith, same_code f (lines.Unsuspend cards1) b m n))

same_bury : (f : LineForm) (cards1 : List ℤ) (b : DeskLine) → MeansLine f (lines.Bury cards1) → MeansLine f b → AreSameLines (lines.Bury cards1) b
same_bury f cards1 (lines.Bury cards2) m n = let e = m.0.1 in let g = n.0.1 in let t = m.1 in let u = n.1 in cc
same_bury f cards1 b m n = absurd (omega (arith, same_code f (lines.Bury cards1) b m n))

same_flag : (f : LineForm) (value1 : ℤ) (cards1 : List ℤ) (b : DeskLine) → MeansLine f (lines.Flag value1 cards1) → MeansLine f b → AreSameLines (lines.Flag value1 cards1) b
same_flag f value1 cards1 (lines.Flag value2 cards2) m n = let e = m.0.1 in let g = n.0.1 in let t = m.1 in let u = n.1 in cc
same_flag f value1 cards1 b m n = absurd (omega (arith, same_code f (lines.Flag value1 cards1) b m n))

same_undo : (f : LineForm) (b : DeskLine) → MeansLine f lines.Undo → MeansLine f b → AreSameLines lines.Undo b
same_undo f lines.Undo m n = refl
same_undo f b m n = absurd (omega (arith, same_code f lines.Undo b m n))

same_check : (f : LineForm) (b : DeskLine) → MeansLine f lines.Check → MeansLine f b → AreSameLines lines.Check b
same_check f lines.Check m n = refl
same_check f b m n = absurd (omega (arith, same_code f lines.Check b m n))

one_meaning : (f : LineForm) (a b : DeskLine) → MeansLine f a → MeansLine f b → AreSameLines a b
one_meaning f (lines.AddNote note_type deck fields) b m n = same_add_note f note_type deck fields b m n
one_meaning f (lines.SetFields note fields) b m n = same_set_fields f note fields b m n
one_meaning f (lines.SetTags note tags) b m n = same_set_tags f note tags b m n
one_meaning f (lines.DeleteNotes notes) b m n = same_delete_notes f notes b m n
one_meaning f (lines.DeleteDeck deck) b m n = same_delete_deck f deck b m n
one_meaning f (lines.RenameDeck deck name) b m n = same_rename_deck f deck name b m n
one_meaning f (lines.MoveCards deck cards) b m n = same_move_cards f deck cards b m n
one_meaning f (lines.UseOptions deck options) b m n = same_use_options f deck options b m n
one_meaning f (lines.SetSpread spread) b m n = same_set_spread f spread b m n
one_meaning f (lines.AddDeck name) b m n = same_add_deck f name b m n
one_meaning f (lines.AddOptions options) b m n = same_add_options f options b m n
one_meaning f (lines.SetOptions options) b m n = same_set_options f options b m n
one_meaning f (lines.AddType note_type) b m n = same_add_type f note_type b m n
one_meaning f (lines.EditType allow note_type fields templates) b m n = same_edit_type f allow note_type fields templates b m n
one_meaning f (lines.DeleteType allow note_type) b m n = same_delete_type f allow note_type b m n
one_meaning f (lines.DeleteOptions allow options) b m n = same_delete_options f allow options b m n
one_meaning f (lines.Answer card button taken) b m n = same_answer f card button taken b m n
one_meaning f (lines.Next deck) b m n = same_next f deck b m n
one_meaning f (lines.Counts deck) b m n = same_counts f deck b m n
one_meaning f (lines.Find search) b m n = same_find f search b m n
one_meaning f (lines.Page card back) b m n = same_page f card back b m n
one_meaning f (lines.Mute filter) b m n = same_mute f filter b m n
one_meaning f (lines.Suspend cards) b m n = same_suspend f cards b m n
one_meaning f (lines.Unsuspend cards) b m n = same_unsuspend f cards b m n
one_meaning f (lines.Bury cards) b m n = same_bury f cards b m n
one_meaning f (lines.Flag value cards) b m n = same_flag f value cards b m n
one_meaning f lines.Undo b m n = same_undo f b m n
one_meaning f lines.Check b m n = same_check f b m n

-- a text says one line at most
pub one_line : (text : List ℕ) (a b : DeskLine) → SaysLine text a → SaysLine text b → AreSameLines a b
one_line text a b m n =
    let same : m.0 ≡ n.0 = same_Some m.0 n.0 (sym (form_read text m.0 m.1) ∙ form_read text n.0 n.1) in
    one_meaning n.0 a b (subst (λ f. MeansLine f a) same m.2) n.2
