-- What the program `anki` prints, and the statuses with which it ends.
use Rattle.std.specs.Cmp.Lexicographic.{pointwise}
use Rattle.std.specs.Prelude.{◌≡◌, ◌⊎◌, ◌==◌, ℕ, ℤ, Bool, if◌then◌else◌, List, [], ◌∷◌, ◌++◌, Option, Some, None, String, string_bytes, codes}
use Rattle.std.specs.Option.{option_and_then, option_map}
use Rattle.std.specs.declared.alloc.Global.{Global}
use Rattle.ak_base.specs.Decimals.{number_of}
use Rattle.ak_base.specs.Keys.{host_digits}
use Rattle.ak_cli.specs.declared.program_commands.ProgramCommand.{ProgramCommand}
use Rattle.ak_cli.specs.declared.program_commands.ProgramCommand.TheVariants as programs
use Rattle.ak_desk_language.specs.Reading.{number_in}
use Rattle.ak_line_runs.specs.declared.command_ends.CommandEnd.{CommandEnd}
use Rattle.ak_line_runs.specs.declared.command_ends.CommandEnd.TheVariants as commands
use Rattle.ak_made_collections.specs.Sizes.{size_in}
use Rattle.ak_note_files.specs.declared.places.ImportPlace.{ImportPlace}

-- the commands as words name them. Those of a sync and of whole collections have the digits of their host key, and `make` has its seed and how
-- many notes there are to be
pub data Named : Type 0 where
  Lab : Named
  Init : Named
  Desk : Named
  Sync : List ℕ → Named
  Upload : List ℕ → Named
  Download : List ℕ → Named
  Import : ImportPlace → Named
  Export : ℤ → Named
  Make : ℕ → ℕ → Named

-- how a command is named
abbrev pub named_by : ProgramCommand → Named
named_by programs.Lab = Lab
named_by programs.Init = Init
named_by programs.Desk = Desk
named_by (programs.Sync host) = Sync host.digits
named_by (programs.Upload host) = Upload host.digits
named_by (programs.Download host) = Download host.digits
named_by (programs.Import place) = Import place
named_by (programs.Export note_type) = Export note_type
named_by (programs.Make plan) = Make plan.seed plan.size.notes

-- the two texts are one
abbrev pub same_text : List ℕ → List ℕ → Bool
same_text = pointwise ◌==◌

-- the id that a word is: decimal digits without sign or leading zero, at most 9,223,372,036,854,775,807
abbrev pub id_of : List ℕ → Option ℤ
id_of = number_in (0, 9_223_372_036_854_775_807)

-- the command of a single word
abbrev pub command_named : List ℕ → Option Named
command_named word =
    if same_text word (codes "lab") then Some Lab
    else if same_text word (codes "init") then Some Init
    else if same_text word (codes "desk") then Some Desk
    else None

-- the command of two words: `sync`, `upload` or `download` and 32 lower-case hexadecimal digits; or `export` and the id of a type
abbrev pub valued_named : List ℕ → List ℕ → Option Named
valued_named word value =
    if same_text word (codes "sync") then option_map Sync (host_digits value)
    else if same_text word (codes "upload") then option_map Upload (host_digits value)
    else if same_text word (codes "download") then option_map Download (host_digits value)
    else if same_text word (codes "export") then option_map Export (id_of value)
    else None

-- an import to the type and the deck of these ids
abbrev pub import_to : ℤ → ℤ → Named
import_to note_type deck = Import (record { note_type = note_type; deck = deck })

-- the seed that a word is: decimal digits without sign or leading zero, at most 18,446,744,073,709,551,615
abbrev pub seed_named : List ℕ → Option ℕ
seed_named = number_of 18_446_744_073_709_551_615

-- how many notes a word asks for: a number in the same form, from 1 to 20,000
abbrev pub size_named : List ℕ → Option ℕ
size_named word = option_and_then size_in (number_of 18_446_744_073_709_551_615 word)

-- `make`, a seed and a size
abbrev pub make_named : List ℕ → List ℕ → Option Named
make_named seed size = option_and_then (λ n. option_map (Make n) (size_named size)) (seed_named seed)

-- `import`, the id of a type and that of a deck
abbrev pub import_named : List ℕ → List ℕ → List ℕ → Option Named
import_named word note_type deck =
    if same_text word (codes "import") then option_and_then (λ k. option_map (import_to k) (id_of deck)) (id_of note_type) else None

-- the command of three words
abbrev pub three_named : List ℕ → List ℕ → List ℕ → Option Named
three_named word first second =
    if same_text word (codes "make") then make_named first second else import_named word first second

-- the command of two words, and maybe a third
abbrev pub command_with : List ℕ → List ℕ → List (String Global) → Option Named
command_with word value [] = valued_named word value
command_with word value (second ∷ []) = three_named word value (string_bytes second)
command_with word value (second ∷ other ∷ others) = None

-- the command that the words name
abbrev pub command_of : List (String Global) → Option Named
command_of [] = None
command_of (word ∷ []) = command_named (string_bytes word)
command_of (word ∷ value ∷ more) = command_with (string_bytes word) (string_bytes value) more

-- `usage` and a line feed
abbrev pub usage_line : List ℕ
usage_line = codes "usage" ++ 10 ∷ []

-- the status of the end of `lab`, `init` or `desk`: 0 where the work is done, and the input read to its end; 3 where a line or the command was
-- refused, 4 where the input failed, 5 where the output failed, 6 where the keeper failed, 8 where memory ran out
abbrev pub command_status : CommandEnd → ℕ
command_status commands.Done = 0
command_status commands.Refused = 3
command_status commands.ReadFailed = 4
command_status commands.WriteFailed = 5
command_status commands.KeeperFailed = 6
command_status commands.Memory = 8

-- the status is this one; or it is 5, 6 or 4, for the output, the keeper or the input: by a clause for each only if that counted a fault meanwhile
abbrev pub Tells : ℕ → ℕ → Type 0
Tells wanted status = (status ≡ wanted) ⊎ (status ≡ 5) ⊎ (status ≡ 6) ⊎ (status ≡ 4)
