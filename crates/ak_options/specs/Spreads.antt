-- Where new cards come among reviews.
use Rattle.std.specs.Prelude.{ℤ}
use Rattle.ak_base.specs.declared.heads.Conf.{Conf}
use Rattle.ak_edit.specs.Ends.{RefusesStamp}
use Rattle.ak_edit.specs.Refusals.{Refusal}
use Rattle.ak_keep.specs.Collections.{Collection}
use Rattle.ak_merge.specs.EditBuilding.{unedited, with_conf}
use Rattle.ak_merge.specs.Edits.{Edit}

-- the settings with this spread of new cards
abbrev pub with_spread : ℤ → Conf → Conf
with_spread value conf = record conf { new_spread = value }

-- the edit that sets it
abbrev pub spreading : ℤ → Collection → Edit
spreading value c = with_conf (with_spread value c.head.conf) (unedited c)

-- the test of that edit: the moment ends
abbrev pub RefusesSpread : ℤ → ℤ → Collection → Refusal
RefusesSpread at value c = RefusesStamp at c (spreading value c)
