-- The words that desk lines begin with, and the arguments that each takes.
use Rattle.std.specs.Prelude.{ℕ, Bool, true, false, ◌==◌, if◌then◌else◌, List, [], ◌∷◌, Option, Some, None, codes}
use Rattle.std.specs.Cmp.Lexicographic.{pointwise}
use Rattle.ak_desk_language.specs.declared.verbs.Verb.{Verb}
use Rattle.ak_desk_language.specs.declared.verbs.Verb.TheVariants as verbs

-- the word of a verb
abbrev pub verb_text : Verb → List ℕ
verb_text verbs.Note = codes "note"
verb_text verbs.Fields = codes "fields"
verb_text verbs.Tags = codes "tags"
verb_text verbs.Delete = codes "delete"
verb_text verbs.Drop = codes "drop"
verb_text verbs.Rename = codes "rename"
verb_text verbs.Move = codes "move"
verb_text verbs.Adopt = codes "adopt"
verb_text verbs.Spread = codes "spread"
verb_text verbs.Deck = codes "deck"
verb_text verbs.Options = codes "options"
verb_text verbs.Type = codes "type"
verb_text verbs.Retype = codes "retype"
verb_text verbs.Untype = codes "untype"
verb_text verbs.Unoptions = codes "unoptions"
verb_text verbs.Answer = codes "answer"
verb_text verbs.Next = codes "next"
verb_text verbs.Counts = codes "counts"
verb_text verbs.Find = codes "find"
verb_text verbs.Page = codes "page"
verb_text verbs.Mute = codes "mute"
verb_text verbs.Suspend = codes "suspend"
verb_text verbs.Unsuspend = codes "unsuspend"
verb_text verbs.Bury = codes "bury"
verb_text verbs.Flag = codes "flag"
verb_text verbs.Undo = codes "undo"
verb_text verbs.Check = codes "check"

-- `allow` may stand before it
abbrev pub may_allow : Verb → Bool
may_allow verbs.Retype = true
may_allow verbs.Untype = true
may_allow verbs.Unoptions = true
may_allow verb = false

-- a number of a line: from the first number to the second
abbrev pub Range : Type 0
Range = ℕ × ℕ

-- a number from 0 to the last one that fits 64 bits with its sign: whether it is the id of a row is not asked here
abbrev pub any_id : Range
any_id = (0, 9_223_372_036_854_775_807)

-- the numbers that follow a verb
abbrev pub ranges_of : Verb → List Range
ranges_of verbs.Note = any_id ∷ any_id ∷ []
ranges_of verbs.Fields = any_id ∷ []
ranges_of verbs.Tags = any_id ∷ []
ranges_of verbs.Delete = []
ranges_of verbs.Drop = any_id ∷ []
ranges_of verbs.Rename = any_id ∷ []
ranges_of verbs.Move = any_id ∷ []
ranges_of verbs.Adopt = any_id ∷ any_id ∷ []
ranges_of verbs.Spread = (0, 2) ∷ []
ranges_of verbs.Deck = []
ranges_of verbs.Options = []
ranges_of verbs.Type = []
ranges_of verbs.Retype = []
ranges_of verbs.Untype = any_id ∷ []
ranges_of verbs.Unoptions = any_id ∷ []
ranges_of verbs.Answer = any_id ∷ (1, 4) ∷ (0, 4_294_967_295) ∷ []
ranges_of verbs.Next = any_id ∷ []
ranges_of verbs.Counts = any_id ∷ []
ranges_of verbs.Find = []
ranges_of verbs.Page = any_id ∷ []
ranges_of verbs.Mute = []
ranges_of verbs.Suspend = []
ranges_of verbs.Unsuspend = []
ranges_of verbs.Bury = []
ranges_of verbs.Flag = (0, 7) ∷ []
ranges_of verbs.Undo = []
ranges_of verbs.Check = []

-- how a line ends after its numbers: at once, with one id or more, with the word `front` or `back`, or with any text
pub data Ending : Type 0 where
  AtOnce : Ending
  WithIds : Ending
  WithSide : Ending
  WithText : Ending

-- how the line of a verb ends
abbrev pub ending_of : Verb → Ending
ending_of verbs.Note = WithText
ending_of verbs.Fields = WithText
ending_of verbs.Tags = WithText
ending_of verbs.Delete = WithIds
ending_of verbs.Drop = AtOnce
ending_of verbs.Rename = WithText
ending_of verbs.Move = WithIds
ending_of verbs.Adopt = AtOnce
ending_of verbs.Spread = AtOnce
ending_of verbs.Deck = WithText
ending_of verbs.Options = WithText
ending_of verbs.Type = WithText
ending_of verbs.Retype = WithText
ending_of verbs.Untype = AtOnce
ending_of verbs.Unoptions = AtOnce
ending_of verbs.Answer = AtOnce
ending_of verbs.Next = AtOnce
ending_of verbs.Counts = AtOnce
ending_of verbs.Find = WithText
ending_of verbs.Page = WithSide
ending_of verbs.Mute = WithText
ending_of verbs.Suspend = WithIds
ending_of verbs.Unsuspend = WithIds
ending_of verbs.Bury = WithIds
ending_of verbs.Flag = WithIds
ending_of verbs.Undo = AtOnce
ending_of verbs.Check = AtOnce

-- what is read of the end of a line: nothing more, the JSON of a list of texts, of an option group, of a note type, or
-- of a note type with two maps, or a search
pub data Content : Type 0 where
  Plain : Content
  ListOfTexts : Content
  OptionGroup : Content
  TypeAlone : Content
  TypeWithMaps : Content
  Searching : Content

-- of the line of a verb
abbrev pub content_of : Verb → Content
content_of verbs.Note = ListOfTexts
content_of verbs.Fields = ListOfTexts
content_of verbs.Tags = ListOfTexts
content_of verbs.Options = OptionGroup
content_of verbs.Type = TypeAlone
content_of verbs.Retype = TypeWithMaps
content_of verbs.Find = Searching
content_of verb = Plain
