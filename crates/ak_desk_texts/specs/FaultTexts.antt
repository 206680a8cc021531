-- The texts of refused desk lines.
use Rattle.std.specs.Prelude.{ℕ, ℤ, List, ◌++◌, Option, Some, None, codes, decimal}
use Rattle.std.specs.Fmt.{signed_decimal}
use Rattle.ak_base.specs.declared.errors.RowFault.{RowFault}
use Rattle.ak_base.specs.declared.errors.RowFault.TheVariants as rows
use Rattle.ak_base.specs.declared.names.Name.{Name}
use Rattle.ak_base.specs.declared.names.Table.{Table}
use Rattle.ak_base.specs.declared.names.Table.TheVariants as tables
use Rattle.ak_edit.specs.declared.desk_faults.DeskFault.{DeskFault}
use Rattle.ak_edit.specs.declared.desk_faults.DeskFault.TheVariants as desks
use Rattle.ak_json.specs.declared.faults.JsonFault.{JsonFault}
use Rattle.ak_json.specs.declared.faults.JsonFault.TheVariants as jsons
use Rattle.ak_desk_language.specs.declared.line_faults.LineFault.{LineFault}
use Rattle.ak_desk_language.specs.declared.line_faults.LineFault.TheVariants as lines
use Rattle.ak_search.specs.declared.faults.SearchFault.{SearchFault}
use Rattle.ak_search.specs.declared.faults.SearchFault.TheVariants as searches
use Rattle.ak_desk_texts.specs.declared.line_refusals.LineRefusal.{LineRefusal}
use Rattle.ak_desk_texts.specs.declared.line_refusals.LineRefusal.TheVariants as refusals
use Rattle.ak_template.specs.declared.faces.PageFault.{PageFault}
use Rattle.ak_template.specs.declared.faces.PageFault.TheVariants as pages
use Rattle.ak_template.specs.declared.faults.TemplateFault.{TemplateFault}
use Rattle.ak_template.specs.declared.faults.TemplateFault.TheVariants as templates

-- the word for a row of a table
abbrev pub table_text : Table → List ℕ
table_text tables.Note = codes "note"
table_text tables.Card = codes "card"
table_text tables.Review = codes "review"
table_text tables.NoteType = codes "type"
table_text tables.Deck = codes "deck"
table_text tables.Options = codes "options"
table_text tables.NoteGrave = codes "note grave"
table_text tables.CardGrave = codes "card grave"
table_text tables.DeckGrave = codes "deck grave"

-- `<table> <id>`
abbrev pub name_text : Name → List ℕ
name_text name = table_text name.table ++ codes " " ++ signed_decimal name.id

-- `<number> at <column>`: the column is 0 for a stamp and for an id
abbrev pub row_fault_text : RowFault → List ℕ
row_fault_text (rows.TooLong column length) = codes "row fault 1 at " ++ decimal column
row_fault_text rows.StampRange = codes "row fault 2 at 0"
row_fault_text rows.IdRange = codes "row fault 3 at 0"
row_fault_text (rows.BadCode column value) = codes "row fault 4 at " ++ decimal column

-- of a side of a template, with the byte place at which its tag opens
abbrev pub template_fault_text : TemplateFault → Option (List ℕ)
template_fault_text (templates.Unclosed place) = Some (codes "template fault 1 at " ++ decimal place)
template_fault_text (templates.WrongClose place) = Some (codes "template fault 2 at " ++ decimal place)
template_fault_text (templates.EmptyTag place) = Some (codes "template fault 3 at " ++ decimal place)
template_fault_text (templates.TooDeep place) = Some (codes "template fault 4 at " ++ decimal place)
template_fault_text templates.Memory = None

-- of a page
abbrev pub page_fault_text : PageFault → Option (List ℕ)
page_fault_text (pages.NoField name) = Some (codes "no field " ++ name)
page_fault_text (pages.NoFilter name) = Some (codes "no filter " ++ name)
page_fault_text pages.Memory = None

-- of a note with another number of fields than its type
abbrev pub field_count_text : ℕ → ℕ → List ℕ
field_count_text want got = codes "fields " ++ decimal got ++ codes ", wanted " ++ decimal want

-- of a call of the desk. A keeper that failed, and memory that ran out, end the run and have no text
abbrev pub desk_fault_text : DeskFault → Option (List ℕ)
desk_fault_text (desks.NoSuch name) = Some (codes "no such " ++ name_text name)
desk_fault_text (desks.FieldCount want got) = Some (field_count_text want got)
desk_fault_text (desks.DefaultKept name) = Some (codes "default kept")
desk_fault_text desks.StampEnd = Some (codes "stamp end")
desk_fault_text desks.IdEnd = Some (codes "id end")
desk_fault_text (desks.Row fault) = Some (row_fault_text fault)
desk_fault_text (desks.Template fault) = template_fault_text fault
desk_fault_text (desks.NotAnswerable queue) = Some (codes "not answerable: queue " ++ signed_decimal queue)
desk_fault_text desks.NothingToUndo = Some (codes "nothing to undo")
desk_fault_text desks.SchemaAsk = Some (codes "schema change not allowed")
desk_fault_text (desks.InUse name) = Some (codes "in use: " ++ name_text name)
desk_fault_text desks.Failed = None
desk_fault_text (desks.BadMap place) = Some (codes "bad map at " ++ decimal place)
desk_fault_text (desks.Page fault) = page_fault_text fault
desk_fault_text desks.Memory = None

-- of a JSON text, by the number of the fault
abbrev pub json_fault_text : JsonFault → Option (List ℕ)
json_fault_text jsons.NotJson = Some (codes "json fault 1")
json_fault_text (jsons.Missing text) = Some (codes "json fault 2")
json_fault_text (jsons.WrongKind text) = Some (codes "json fault 3")
json_fault_text (jsons.Row fault) = Some (codes "json fault 4")
json_fault_text jsons.Memory = None

-- of a search, with the byte place at which it goes wrong
abbrev pub search_fault_text : SearchFault → Option (List ℕ)
search_fault_text (searches.OpenQuote place) = Some (codes "search fault 1 at " ++ decimal place)
search_fault_text (searches.OpenGroup place) = Some (codes "search fault 2 at " ++ decimal place)
search_fault_text (searches.EmptyGroup place) = Some (codes "search fault 3 at " ++ decimal place)
search_fault_text (searches.LoneOr place) = Some (codes "search fault 4 at " ++ decimal place)
search_fault_text (searches.BadValue place) = Some (codes "search fault 5 at " ++ decimal place)
search_fault_text (searches.TooDeep place) = Some (codes "search fault 6 at " ++ decimal place)
search_fault_text searches.Memory = None

-- of a text that is no line
abbrev pub line_fault_text : LineFault → Option (List ℕ)
line_fault_text lines.BadLine = Some (codes "bad line")
line_fault_text (lines.Json fault) = json_fault_text fault
line_fault_text (lines.Search fault) = search_fault_text fault
line_fault_text lines.Memory = None

-- of a line at the desk. What ends the run has no text
abbrev pub refusal_text : LineRefusal → Option (List ℕ)
refusal_text (refusals.Desk fault) = desk_fault_text fault
refusal_text (refusals.NotFiltered deck) = Some (codes "not filtered: " ++ signed_decimal deck)
refusal_text (refusals.BadPlan deck) = Some (codes "bad plan: " ++ signed_decimal deck)
refusal_text (refusals.Search fault) = search_fault_text fault
