-- The keys of an object that a row's columns do not know, kept as the compact text of an object.
use Rattle.std.specs.Prelude.{ℕ, nat_le, Bool, false, not, is_none, ◌&&◌, ◌==◌, if◌then◌else◌, List, [], ◌∷◌, Option, None, option_and_then, true, codes}
use Rattle.std.specs.Cmp.Lexicographic.{pointwise}
use Rattle.std.specs.List.{list_all}
use Rattle.std.specs.Option.{option_map_or}
use Rattle.serde_json.specs.Data.{Data, Members, no_members, member, object, depth}
use Rattle.serde_json.specs.Find.{as_object, get_member}
use Rattle.serde_json.specs.Read.{read}
use Rattle.serde_json.specs.Written.{compact_text, has_float}

-- the value is written as that text
abbrev pub is_written_as : List ℕ → Data → Bool
is_written_as text value = pointwise ◌==◌ (compact_text value) text

-- the members of the object that a text writes, if it writes one
unfoldable pub members_of : List ℕ → Option Members
members_of text = option_and_then (λ value. if is_written_as text value then as_object value else None) (read text)

-- none of the keys is a member's
abbrev pub lacks : List (List ℕ) → Members → Bool
lacks keys members = list_all (λ key. is_none (get_member key members)) keys

-- nested at most 64 deep, itself counted, and all its numbers whole
abbrev pub is_plain : Members → Bool
is_plain members = nat_le (depth (object members)) 64 && not (has_float (object members))

-- a plain object's text, whose members pass a test
unfoldable pub is_rest : (Members → Bool) → List ℕ → Bool
is_rest passes text = option_map_or (λ members. is_plain members && passes members) (members_of text) false

-- ---- the keys that each object knows
-- of a field of a note type
abbrev pub field_keys : List (List ℕ)
field_keys = codes "name" ∷ codes "ord" ∷ []

-- of a template
abbrev pub template_keys : List (List ℕ)
template_keys = codes "name" ∷ codes "qfmt" ∷ codes "afmt" ∷ codes "ord" ∷ []

-- of a note type
abbrev pub note_type_keys : List (List ℕ)
note_type_keys = codes "id" ∷ codes "mod" ∷ codes "usn" ∷ codes "name" ∷ codes "type" ∷ codes "sortf" ∷ codes "flds" ∷ codes "tmpls" ∷ []

-- of a deck
abbrev pub deck_keys : List (List ℕ)
deck_keys = codes "id" ∷ codes "mod" ∷ codes "usn" ∷ codes "name" ∷ codes "conf" ∷ codes "dyn" ∷ codes "newToday" ∷ codes "revToday" ∷ []

-- of the settings
abbrev pub conf_keys : List (List ℕ)
conf_keys = codes "newSpread" ∷ codes "collapseTime" ∷ codes "dayLearnFirst" ∷ codes "nextPos" ∷ codes "lastUnburied" ∷ []

-- of an option group, at its top
abbrev pub options_keys : List (List ℕ)
options_keys = codes "id" ∷ codes "mod" ∷ codes "usn" ∷ codes "name" ∷ codes "maxTaken" ∷ []

-- inside `new`; `delays` there marks a document of version 1, so no rest holds it
abbrev pub new_keys : List (List ℕ)
new_keys = codes "steps" ∷ codes "ints" ∷ codes "initialFactor" ∷ codes "perDay" ∷ codes "bury" ∷ codes "delays" ∷ []

-- inside `rev`
abbrev pub rev_keys : List (List ℕ)
rev_keys = codes "perDay" ∷ codes "ease4" ∷ codes "ivlFct" ∷ codes "maxIvl" ∷ codes "hardFactor" ∷ codes "bury" ∷ []

-- inside `lapse`
abbrev pub lapse_keys : List (List ℕ)
lapse_keys = codes "steps" ∷ codes "mult" ∷ codes "minInt" ∷ codes "leechFails" ∷ codes "leechAction" ∷ []

-- some member, and none of these keys
abbrev pub lacks_but_some : List (List ℕ) → Members → Bool
lacks_but_some keys no_members = false
lacks_but_some keys (member key value members) = lacks keys (member key value members)

-- what a group keeps under `new`, `rev` or `lapse`: nothing, or an object of some members, of which it knows none
abbrev pub keeps_unknown : List ℕ → List (List ℕ) → Members → Bool
keeps_unknown key keys members =
    option_map_or (λ value. option_map_or (lacks_but_some keys) (as_object value) false) (get_member key members) true

-- none of a group's known keys, inside `new`, `rev` and `lapse` either
abbrev pub lacks_options : Members → Bool
lacks_options members =
    lacks options_keys members && (keeps_unknown (codes "new") new_keys members
    && (keeps_unknown (codes "rev") rev_keys members && keeps_unknown (codes "lapse") lapse_keys members))
