-- What desk lines say, and why others are refused.
use Rattle.std.specs.Prelude.{◌≡◌, ◌⊎◌, ℕ, ℤ, pos, Bool, true, false, ◌==◌, List, [], ◌∷◌, Option, Some, codes, ⊤}
use Rattle.ak_base.specs.Heads.{IsWithin}
use Rattle.ak_base.specs.declared.names.Table.TheVariants as tables
use Rattle.ak_base.specs.declared.note_types.NoteType.{NoteType}
use Rattle.ak_base.specs.declared.option_groups.Options.{Options}
use Rattle.ak_base.specs.declared.rows.Row.TheVariants as rows
use Rattle.ak_json.specs.Rows.{ReadsRow}
use Rattle.ak_search.specs.Grammar.{pieces_in}
use Rattle.ak_search.specs.declared.parses.Expr.{Expr}
use Rattle.ak_desk_language.specs.declared.desk_lines.DeskLine.{DeskLine}
use Rattle.ak_desk_language.specs.declared.desk_lines.DeskLine.TheVariants as lines
use Rattle.ak_desk_language.specs.declared.line_faults.LineFault.{LineFault}
use Rattle.ak_desk_language.specs.declared.line_faults.LineFault.TheVariants as faults
use Rattle.ak_desk_language.specs.declared.verbs.Verb.{Verb}
use Rattle.ak_desk_language.specs.declared.verbs.Verb.TheVariants as verbs
use Rattle.ak_desk_language.specs.Contents.{InJson, texts_in_array, IsGroup, IsSearch, IsTypeWithMaps, RefusesContent}
use Rattle.ak_desk_language.specs.Faults.{OrMemory}
use Rattle.ak_desk_language.specs.LineForms.{LineForm, HasForm, Tail, Ids, AnyText, end_text}
use Rattle.ak_desk_language.specs.Verbs.{content_of}

-- empty lines and those that begin with `#` are skipped
abbrev pub is_skipped : List ℕ → Bool
is_skipped [] = true
is_skipped (byte ∷ bytes) = byte == 35

-- ---- what a line says
-- the form has this verb and these numbers
abbrev pub HasVerb : LineForm → Verb → List ℤ → Type 0
HasVerb f verb numbers = (f.verb ≡ verb) × (f.numbers ≡ numbers)

-- it ends with the ids
abbrev pub HasIds : LineForm → List ℤ → Type 0
HasIds f ids = f.tail ≡ Ids ids

-- it ends with the texts
abbrev pub HasTexts : LineForm → List (List ℕ) → Type 0
HasTexts f texts = InJson (end_text f.tail) (λ d. texts_in_array d ≡ Some texts)

-- it ends with an option group; the truth value says whether its id is 0
abbrev pub HasOptions : LineForm → Bool → Options → Type 0
HasOptions f zero options = InJson (end_text f.tail) (IsGroup zero options)

-- it ends with a note type
abbrev pub HasType : LineForm → NoteType → Type 0
HasType f note_type = InJson (end_text f.tail) (λ d. ReadsRow tables.NoteType d (rows.NoteType note_type))

-- it ends with a note type and the maps of its fields and templates
abbrev pub HasTypeWithMaps : LineForm → NoteType → List (Option ℕ) → List (Option ℕ) → Type 0
HasTypeWithMaps f note_type fields templates =
    InJson (end_text f.tail) (λ d. IsTypeWithMaps d note_type fields templates)

-- it ends with a search
abbrev pub HasSearch : LineForm → Expr → Type 0
HasSearch f search = IsSearch (end_text f.tail) search

-- it ends with the word for the side of a card
abbrev pub HasSide : LineForm → Bool → Type 0
HasSide f true = f.tail ≡ AnyText (codes "back")
HasSide f false = f.tail ≡ AnyText (codes "front")

-- a form means this
abbrev pub MeansLine : LineForm → DeskLine → Type 0
MeansLine f (lines.AddNote note_type deck fields) = HasVerb f verbs.Note (note_type ∷ deck ∷ []) × HasTexts f fields
MeansLine f (lines.SetFields note fields) = HasVerb f verbs.Fields (note ∷ []) × HasTexts f fields
MeansLine f (lines.SetTags note tags) = HasVerb f verbs.Tags (note ∷ []) × HasTexts f tags
MeansLine f (lines.DeleteNotes notes) = HasVerb f verbs.Delete [] × HasIds f notes
MeansLine f (lines.DeleteDeck deck) = HasVerb f verbs.Drop (deck ∷ [])
MeansLine f (lines.RenameDeck deck name) = HasVerb f verbs.Rename (deck ∷ []) × (f.tail ≡ AnyText name)
MeansLine f (lines.MoveCards deck cards) = HasVerb f verbs.Move (deck ∷ []) × HasIds f cards
MeansLine f (lines.UseOptions deck options) = HasVerb f verbs.Adopt (deck ∷ options ∷ [])
MeansLine f (lines.SetSpread spread) = HasVerb f verbs.Spread (spread ∷ [])
MeansLine f (lines.AddDeck name) = HasVerb f verbs.Deck [] × (f.tail ≡ AnyText name)
MeansLine f (lines.AddOptions options) = HasVerb f verbs.Options [] × HasOptions f true options
MeansLine f (lines.SetOptions options) = HasVerb f verbs.Options [] × HasOptions f false options
MeansLine f (lines.AddType note_type) = HasVerb f verbs.Type [] × HasType f note_type
MeansLine f (lines.EditType allow note_type fields templates) =
    HasVerb f verbs.Retype [] × (f.allow ≡ allow) × HasTypeWithMaps f note_type fields templates
MeansLine f (lines.DeleteType allow note_type) = HasVerb f verbs.Untype (note_type ∷ []) × (f.allow ≡ allow)
MeansLine f (lines.DeleteOptions allow options) = HasVerb f verbs.Unoptions (options ∷ []) × (f.allow ≡ allow)
MeansLine f (lines.Answer card button taken) = HasVerb f verbs.Answer (card ∷ pos button ∷ pos taken ∷ [])
MeansLine f (lines.Next deck) = HasVerb f verbs.Next (deck ∷ [])
MeansLine f (lines.Counts deck) = HasVerb f verbs.Counts (deck ∷ [])
MeansLine f (lines.Find search) = HasVerb f verbs.Find [] × HasSearch f search
MeansLine f (lines.Page card back) = HasVerb f verbs.Page (card ∷ []) × HasSide f back
MeansLine f (lines.Mute filter) = HasVerb f verbs.Mute [] × (f.tail ≡ AnyText filter)
MeansLine f (lines.Suspend cards) = HasVerb f verbs.Suspend [] × HasIds f cards
MeansLine f (lines.Unsuspend cards) = HasVerb f verbs.Unsuspend [] × HasIds f cards
MeansLine f (lines.Bury cards) = HasVerb f verbs.Bury [] × HasIds f cards
MeansLine f (lines.Flag value cards) = HasVerb f verbs.Flag (value ∷ []) × HasIds f cards
MeansLine f lines.Undo = f.verb ≡ verbs.Undo
MeansLine f lines.Check = f.verb ≡ verbs.Check

-- the text has a form that means this line
abbrev pub SaysLine : List ℕ → DeskLine → Type 0
SaysLine text line = (f : LineForm) × HasForm text f × MeansLine f line

-- the numbers that a call of the desk wants in a range are in it
abbrev pub IsInRange : DeskLine → Type 0
IsInRange (lines.SetSpread spread) = IsWithin (pos 0) (pos 2) spread
IsInRange (lines.Flag value cards) = IsWithin (pos 0) (pos 7) value
IsInRange (lines.Answer card button taken) = IsWithin (pos 1) (pos 4) (pos button)
IsInRange line = ⊤

-- two lines are the same: of searches, if they have the same pieces
abbrev pub AreSameLines : DeskLine → DeskLine → Type 0
AreSameLines (lines.Find a) (lines.Find b) = pieces_in a.tokens.items ≡ pieces_in b.tokens.items
AreSameLines a b = a ≡ b

-- ---- why a text says no line
-- the text has no form of a desk line
abbrev pub HasNoForm : List ℕ → Type 0
HasNoForm text = (f : LineForm) → HasForm text f → ⊥

-- the text has a form, and the text at its end has this fault
abbrev pub RefusesEnd : List ℕ → LineFault → Type 0
RefusesEnd text fault = (f : LineForm) × HasForm text f × RefusesContent (content_of f.verb) (end_text f.tail) fault

-- the text has no form, or the text at its end has a fault; or memory was out
abbrev pub RefusesLine : List ℕ → LineFault → Type 0
RefusesLine text = OrMemory (λ fault. ((fault ≡ faults.BadLine) × HasNoForm text) ⊎ RefusesEnd text fault)
