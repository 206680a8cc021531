-- What an object holds under its keys.
use Rattle.std.specs.Prelude.{◌≡◌, ℕ, ℤ, List, [], ◌∷◌, Bool, Option, Some, option_and_then}
use Rattle.serde_json.specs.Data.{Data, boolean, string, array, object, Items, Members, no_members, member}
use Rattle.serde_json.specs.Find.{get, at, as_str}
use Rattle.ak_base.specs.declared.heads.Tag.{Tag}
use Rattle.ak_json.specs.Kinds.{integer_of}
use Rattle.ak_messages.specs.declared.replies.Word.{Word}
use Rattle.ak_messages.specs.declared.requests.SanityCounts.{SanityCounts}
use Rattle.ak_wire.specs.Faults.{ReadsEach}
use Rattle.ak_wire.specs.Kinds.{unsigned_at}
use Rattle.ak_wire.specs.Words.{word_of}

-- a whole number is held under a key
abbrev pub HasInteger : List ℕ → Data → ℤ → Type 0
HasInteger key d z = option_and_then integer_of (get key d) ≡ Some z

-- a truth value is
abbrev pub HasBool : List ℕ → Data → Bool → Type 0
HasBool key d truth = get key d ≡ Some (boolean truth)

-- a text is
abbrev pub HasText : List ℕ → Data → List ℕ → Type 0
HasText key d text = get key d ≡ Some (string text)

-- the word of a refusal is
abbrev pub HasWord : List ℕ → Data → Word → Type 0
HasWord key d word = option_and_then word_of (option_and_then as_str (get key d)) ≡ Some word

-- a value is, and it is read so
abbrev pub Under : {A : Type 0} → List ℕ → (Data → A → Type 0) → Data → A → Type 0
Under key reads d made = (value : Data) × (get key d ≡ Some value) × reads value made

-- a value at a place of a list is read so
abbrev pub AtPlace : {A : Type 0} → ℕ → (Data → A → Type 0) → Data → A → Type 0
AtPlace place reads d made = (value : Data) × (at place d ≡ Some value) × reads value made

-- a value is a list, of which each value is read as the one at its place
abbrev pub ReadsList : {A : Type 0} → (Data → A → Type 0) → Data → List A → Type 0
ReadsList reads d parts = (ds : Items) × (d ≡ array ds) × ReadsEach reads ds parts

-- a value is this whole number
abbrev pub IsInteger : Data → ℤ → Type 0
IsInteger d z = integer_of d ≡ Some z

-- a value is this text
abbrev pub IsText : Data → List ℕ → Type 0
IsText d text = d ≡ string text

-- a count that stands at a place of a list
abbrev pub CountAt : ℕ → Data → ℕ → Type 0
CountAt place d n = unsigned_at place d ≡ Some n

-- the counts of a side are those of a list, after what is due
pub record ReadsCounts (d : Data) (c : SanityCounts) : Type 0 where
  pub cards : CountAt 1 d c.cards
  pub notes : CountAt 2 d c.notes
  pub reviews : CountAt 3 d c.reviews
  pub graves : CountAt 4 d c.graves
  pub models : CountAt 5 d c.models
  pub decks : CountAt 6 d c.decks
  pub options : CountAt 7 d c.options

-- each member is a tag: its key the name, its value the usn
abbrev pub ReadsMembers : Members → List Tag → Type 0
ReadsMembers no_members [] = Unit {0}
ReadsMembers no_members (tag ∷ tags) = ⊥
ReadsMembers (member k d ms) [] = ⊥
ReadsMembers (member k d ms) (tag ∷ tags) = (tag.name ≡ k) × IsInteger d tag.usn × ReadsMembers ms tags

-- the tags are those of an object of them
abbrev pub ReadsTags : Data → List Tag → Type 0
ReadsTags d tags = (ms : Members) × (d ≡ object ms) × ReadsMembers ms tags
