-- The changes of an edit under way, and the edit that they ask for.
use Rattle.std.specs.Prelude.{◌≡◌, cond, ℕ, ℤ, refl, Bool, false, true, List, [], ◌∷◌, ◌++◌, IfSome, Option, Some, None}
use Rattle.std.specs.List.{All}
use Rattle.std.specs.BTreeMap.{is_at}
use Rattle.std.specs.Map.{lookup}
use Rattle.std.specs.Coded.{Coded, code_by, coded×, coded_option, coded_list, coded_ℕ, coded_bool}
use Rattle.std.specs.FinMap.{FinMap, get, insert, empty}
use Rattle.std.specs.Option.{option_map, unwrap_or}
use Rattle.ak_base.specs.Heads.{IsConfInRange}
use Rattle.ak_base.specs.Names.{name_cmp}
use Rattle.ak_base.specs.Rows.{name_of, stamp_of}
use Rattle.ak_base.specs.declared.heads.Conf.{Conf}
use Rattle.ak_base.specs.declared.names.Name.{Name}
use Rattle.ak_base.specs.declared.rows.Row.{Row}
use Rattle.ak_keep.specs.Collections.{Collection, Holding}
use Rattle.ak_merge.specs.Edits.{Edit}
use Rattle.ak_merge.specs.Holdings.{row_under}
use Rattle.ak_merge.specs.Tags.{IsTagName}

-- what stands anew under each name that was changed, nothing if the row was removed; the settings if they were set; the
-- tags that came; whether the schema changes
pub record Overlay : Type 0 where
  pub rows : FinMap name_cmp (Option Row)
  pub conf : Option Conf
  pub tags : List (List ℕ)
  pub schema : Bool

-- each row that is to stand under a name bears it
abbrev pub BearNames : FinMap name_cmp (Option Row) → Type 0
BearNames rows = (name : Name) (row : Row) → get rows name ≡ Some (Some row) → name_of row ≡ name

-- what a collection can take: rows that bear their names, settings in their ranges, and names of tags
pub record IsFitting (o : Overlay) : Type 0 where
  pub rows : BearNames o.rows
  pub conf : IfSome o.conf IsConfInRange
  pub tags : All IsTagName o.tags

-- nothing was changed
abbrev pub unchanged : Overlay
unchanged = record { rows = empty; conf = None; tags = []; schema = false }

-- the row was put under its name
abbrev pub put_over : Row → Overlay → Overlay
put_over row o = record o { rows = insert o.rows (name_of row) (Some row) }

-- the row of this name was removed
abbrev pub removed_over : Name → Overlay → Overlay
removed_over name o = record o { rows = insert o.rows name None }

-- the settings were set
abbrev pub conf_over : Conf → Overlay → Overlay
conf_over conf o = record o { conf = Some conf }

-- a tag of this name came
abbrev pub tag_over : List ℕ → Overlay → Overlay
tag_over name o = record o { tags = o.tags ++ name ∷ [] }

-- the schema changes
abbrev pub schema_over : Overlay → Overlay
schema_over o = record o { schema = true }

-- what stands under a name of these rows with the changes over them
abbrev pub row_over : Overlay → (Name → Option Row) → Name → Option Row
row_over o at name = unwrap_or (get o.rows name) (at name)

-- the row of a name in what is held, with the changes over it
abbrev pub IsRowOver : Overlay → Name → Holding → Option Row → Type 0
IsRowOver o name h row = row ≡ row_over o (get h.rows) name

-- the stamp of the row of a name in what is held, with the changes over it
abbrev pub IsStampOver : Overlay → Name → Holding → Option ℤ → Type 0
IsStampOver o name h stamp = stamp ≡ option_map stamp_of (row_over o (get h.rows) name)

-- the settings in what is held, with the changes over them
abbrev pub IsConfOver : Overlay → Holding → Conf → Type 0
IsConfOver o h conf = IfSome h.head (λ head. conf ≡ unwrap_or o.conf head.conf)

-- what the changes ask for over a collection
abbrev pub edit_of : Overlay → Collection → Edit
edit_of o c =
    record { rows = row_over o (row_under c); conf = unwrap_or o.conf c.head.conf; tags = o.tags; schema = o.schema }

-- what stands under a name of entries
abbrev pub entry_at : List (Name × Option Row) → Name → Option (Option Row)
entry_at es name = lookup (is_at (name_cmp name)) es

-- entries that have this under this name, and are else the same
abbrev pub IsSet : List (Name × Option Row) → Name → Option Row → List (Name × Option Row) → Type 0
IsSet es name row fs = (q : Name) → entry_at fs q ≡ cond (is_at (name_cmp name) q) (Some row) (entry_at es q)

-- the code by which a model's values are told apart
abbrev pub overlay_code : Coded (FinMap name_cmp (Option Row)) → Coded Conf → Coded Overlay
overlay_code rows conf =
    code_by (FinMap name_cmp (Option Row) × (Option Conf × (List (List ℕ) × Bool)))
    (coded× rows (coded× (coded_option conf) (coded× (coded_list (coded_list coded_ℕ)) coded_bool)))
    (λ o. (o.rows, (o.conf, (o.tags, o.schema))))
    (λ p. record { rows = p.0; conf = p.1.0; tags = p.1.1.0; schema = p.1.1.1 }) (λ _. refl)
