-- Rows of several tables, one table after the other.
use Rattle.std.proofs.Common.{◌≡◌, List, [], ◌∷◌, ◌++◌, length, Result, Ok, Err, OnOk, refl, sym, ap, ◌∙◌, subst, append_assoc, append-nil, arith, codes}
use Rattle.serde_json.specs.Data.{Data, Items}
use Rattle.ak_base.specs.declared.heads.Conf.{Conf}
use Rattle.ak_json.specs.Confs.{ReadsConf, conf_fault}
use Rattle.ak_json.specs.Faults.{Tells}
use Rattle.ak_wire.specs.Keys.{key_text}
use Rattle.ak_wire.specs.Parts.{OfJson}
use Rattle.ak_wire.specs.Values.{value_under, items_under}
use Rattle.ak_base.specs.declared.names.Table.{Table}
use Rattle.ak_base.specs.declared.rows.Row.{Row}
use Rattle.ak_wire.specs.Faults.{OrMemory}
use Rattle.ak_wire.specs.Wholes.{items_for, table_items, PartsFault, AddsTable, ReadsTable, TakesTables, AddsTables, TableFault, TablesFault}
use Rattle.ak_wire.specs.declared.keys.Key.{Key}
use Rattle.ak_wire.specs.declared.wire_faults.WireFault.{WireFault}
use Rattle.ak_wire.proofs.Refusals.{then_first, then_later}

pub tables_end : (columns : List (Table × Key)) (d : Data) (rows : List Row) → columns ≡ [] → AddsTables columns d rows rows
tables_end columns d rows none = subst (λ (cs : List (Table × Key)). AddsTables cs d rows rows) (sym none) ([], refl, sym (append-nil rows))

pub tables_more : (columns : List (Table × Key)) (column : Table × Key) (others : List (Table × Key)) (d : Data) (old mid new : List Row)
    → AddsTable column.0 (table_items column d) old mid → AddsTables others d mid new → columns ≡ column ∷ others → AddsTables columns d old new
tables_more columns column others d old mid new first rest is =
    subst (λ (cs : List (Table × Key)). AddsTables cs d old new) (sym is)
    (first.0 ++ rest.0, (first.0, rest.0, first.1, rest.1, refl), rest.2 ∙ ap (λ (rows : List Row). rows ++ rest.0) first.2 ∙ append_assoc old first.0 rest.0)

pub table_fails : (columns : List (Table × Key)) (column : Table × Key) (others : List (Table × Key)) (d : Data) (fault : WireFault)
    → OrMemory (TableFault column.0 (table_items column d)) fault → columns ≡ column ∷ others → OrMemory (TablesFault columns d) fault
table_fails columns column others d fault h is =
    subst (λ (cs : List (Table × Key)). OrMemory (TablesFault cs d) fault) (sym is) (then_first (TableFault column.0 (table_items column d)) (ReadsTable column.0 (table_items column d)) (TablesFault others d) fault h)

pub others_fail : (columns : List (Table × Key)) (column : Table × Key) (others : List (Table × Key)) (d : Data) (old mid : List Row) (fault : WireFault)
    → AddsTable column.0 (table_items column d) old mid → OrMemory (TablesFault others d) fault → columns ≡ column ∷ others → OrMemory (TablesFault columns d) fault
others_fail columns column others d old mid fault first h is =
    subst (λ (cs : List (Table × Key)). OrMemory (TablesFault cs d) fault) (sym is)
    (then_later (TableFault column.0 (table_items column d)) (ReadsTable column.0 (table_items column d)) (TablesFault others d) fault first.0 first.1 h)

pub all_rows : (columns : List (Table × Key)) (d : Data) (rows : List Row) → AddsTables columns d [] rows → TakesTables columns d rows
all_rows columns d rows added = subst (λ (made : List Row). TakesTables columns d made) (sym added.2) added.1

pub on_ok : {T E A B : Type 0} (r : Result T E) → (A → B) → OnOk r A → OnOk r B
on_ok (Ok x) goes h = goes h
on_ok (Err e) goes h = h

pub tables_none : (columns : List (Table × Key)) (d : Data) (rows : List Row) → length columns ≡ 0 → AddsTables columns d rows rows
tables_none [] d rows none = ([], refl, sym (append-nil rows))
tables_none (column ∷ columns) d rows none = absurd (omega (arith, none))

pub tables_step : (columns others : List (Table × Key)) (column : Table × Key) (d : Data) (items : Items) (old mid new : List Row)
    → columns ≡ column ∷ others → items ≡ items_under (key_text column.1) d → AddsTable column.0 (items_for column.0 items) old mid → AddsTables others d mid new → AddsTables columns d old new
tables_step columns others column d items old mid new is under first rest =
    tables_more columns column others d old mid new (subst (λ (ds : Items). AddsTable column.0 (items_for column.0 ds) old mid) under first) rest is

pub settings_read : (columns : List (Table × Key)) (d e : Data) (conf : Conf) (fault was : WireFault) → e ≡ value_under (codes "conf") d → ReadsConf e conf → fault ≡ was
    → OrMemory (TablesFault columns d) was → OrMemory (PartsFault columns d) fault
settings_read columns d e conf fault was under is same h =
    subst (λ (x : WireFault). OrMemory (PartsFault columns d) x) (sym same)
    (then_later (OfJson (Tells (conf_fault (value_under (codes "conf") d)))) (ReadsConf (value_under (codes "conf") d)) (TablesFault columns d) was conf (subst (λ (v : Data). ReadsConf v conf) under is) h)
