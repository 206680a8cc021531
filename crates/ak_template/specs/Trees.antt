-- The tree of a template, and the steps that a page takes through it from front to back.
use Rattle.std.specs.Prelude.{ℕ, suc, ◌<◌, Bool, if◌then◌else◌, List, [], ◌∷◌, ◌++◌, codes, ⊤}
use Rattle.ak_template.specs.declared.steps.Step.{Step}
use Rattle.ak_template.specs.declared.steps.Step.TheVariants.{Words, Field, Open, Close}

-- the parts of a template, or of a section, in order: nothing more, or a part and those after it. A field has its filters in the order
-- in which they are written. A section has parts of its own; it is shown if its field is not empty, an inverted one if it is
pub data Tree : Type 0 where
  End : Tree
  Plain : List ℕ → Tree → Tree
  Value : List (List ℕ) → List ℕ → Tree → Tree
  Section : Bool → List ℕ → Tree → Tree → Tree

-- from front to back: a section is opened, then comes its inside, and it is closed by its name
abbrev pub tree_steps : Tree → List Step
tree_steps End = []
tree_steps (Plain words after) = Words words ∷ tree_steps after
tree_steps (Value filters name after) = Field filters name ∷ tree_steps after
tree_steps (Section inverted name inside after) = Open inverted name ∷ (tree_steps inside ++ (Close name ∷ tree_steps after))

-- below that many open sections none is opened while 32 are open
abbrev pub Nests : ℕ → Tree → Type 0
Nests depth End = ⊤
Nests depth (Plain words after) = Nests depth after
Nests depth (Value filters name after) = Nests depth after
Nests depth (Section inverted name inside after) = (depth < 32) × Nests (suc depth) inside × Nests depth after

-- ---- a tree written out

-- a tag with that inside. The spaces belong to no inside, and part its end from the braces: an inside may end in `}`
abbrev pub tagged : List ℕ → List ℕ
tagged inside = codes "{{ " ++ (inside ++ codes " }}")

-- the inside of a field's tag: its filters, each with a colon, and its name
abbrev pub field_inside : List (List ℕ) → List ℕ → List ℕ
field_inside [] name = name
field_inside (filter ∷ filters) name = filter ++ (codes ":" ++ field_inside filters name)

-- the inside of the tag that opens a section
abbrev pub open_inside : Bool → List ℕ → List ℕ
open_inside inverted name = (if inverted then codes "^" else codes "#") ++ name

-- the inside of the tag that closes a section
abbrev pub close_inside : List ℕ → List ℕ
close_inside name = codes "/" ++ name

-- the text of a tree
abbrev pub written : Tree → List ℕ
written End = []
written (Plain words after) = words ++ written after
written (Value filters name after) = tagged (field_inside filters name) ++ written after
written (Section inverted name inside after) = tagged (open_inside inverted name) ++ (written inside ++ (tagged (close_inside name) ++ written after))
