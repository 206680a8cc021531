-- Whether a device has something to send.
use Rattle.std.specs.List.{list_any}
use Rattle.std.specs.Ordering.{int_eq}
use Rattle.std.specs.Prelude.{◌==◌, ◌||◌, pos, negsuc, Bool, not, List, length}
use Rattle.ak_base.specs.Tables.{all_tables}
use Rattle.ak_base.specs.declared.heads.Tag.{Tag}
use Rattle.ak_base.specs.declared.names.Table.{Table}
use Rattle.ak_keep.specs.Collections.{Rows, wanted_past}
use Rattle.ak_keep.specs.declared.keepers.Wanted.TheVariants.{Unsent}

-- whether a row of this table was not sent yet
abbrev pub has_unsent_in : Rows → Table → Bool
has_unsent_in held table = not (length (wanted_past table Unsent (pos 0) held) == 0)

-- whether a row was not sent yet
abbrev pub has_unsent_row : Rows → Bool
has_unsent_row held = list_any (has_unsent_in held) all_tables

-- whether a tag was not sent yet
abbrev pub has_unsent_tag : List Tag → Bool
has_unsent_tag tags = list_any (λ (tag : Tag). int_eq tag.usn (negsuc 0)) tags

-- whether a row or a tag was not sent yet
abbrev pub has_unsent : Rows → List Tag → Bool
has_unsent held tags = has_unsent_tag tags || has_unsent_row held
