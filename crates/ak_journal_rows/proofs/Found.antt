-- What stands in a value is read as what was written there.
use Rattle.std.proofs.Common.{◌≡◌, Option, Some, Result, Ok, Err, sym, ap, ◌∙◌, subst, refl}
use Rattle.std.specs.Prelude.{IsErrAnd, slice_get, unwrap_or}
use Rattle.serde_json.specs.Data.{Data}
use Rattle.ak_base.specs.Heads.{AreConfNumbersInRange}
use Rattle.ak_base.specs.Names.{table_place}
use Rattle.ak_base.specs.Rows.{IsChecked, name_of}
use Rattle.ak_base.specs.Tables.{all_tables}
use Rattle.ak_base.specs.declared.heads.Conf.{Conf}
use Rattle.ak_base.specs.declared.names.Table.{Table}
use Rattle.ak_base.specs.declared.names.Table.TheVariants as tables
use Rattle.ak_base.specs.declared.rows.Row.{Row}
use Rattle.ak_json.specs.Confs.{ReadsConf, conf_json}
use Rattle.ak_json.specs.Rows.{ReadsRow, row_json}
use Rattle.ak_journal_rows.specs.Reads.{IsReadAsOrMemory}
use Rattle.ak_journal_rows.specs.declared.faults.ChangeFault.{ChangeFault}
use Rattle.ak_journal_rows.specs.declared.faults.ChangeFault.TheVariants.{Memory}
use Rattle.ak_json.proofs.ConfsAgain.{conf_again}
use Rattle.ak_json.proofs.RowsAgain.{own_again}

-- a table is found by its number
pub table_found : (table : Table) → slice_get all_tables (table_place table) ≡ Some table
table_found tables.Note = refl
table_found tables.Card = refl
table_found tables.Review = refl
table_found tables.NoteType = refl
table_found tables.Deck = refl
table_found tables.Options = refl
table_found tables.NoteGrave = refl
table_found tables.CardGrave = refl
table_found tables.DeckGrave = refl

-- what a checked row is written as is read as it
pub row_reads : (table : Table) (d : Data) (row : Row) → IsChecked row → table ≡ (name_of row).table → d ≡ row_json row → ReadsRow table d row
row_reads table d row good own is =
    subst (λ (t : Table). ReadsRow t d row) (sym own) (subst (λ (e : Data). ReadsRow (name_of row).table e row) (sym is) (own_again row good))

-- the two that stand in one place are one
pub some_same : {A : Type 0} (o : Option A) (x y : A) → o ≡ Some x → o ≡ Some y → x ≡ y
some_same {A} o x y one other = ap (λ (found : Option A). unwrap_or found x) (sym one ∙ other)

-- what settings in their ranges are written as is read as them
pub conf_reads : (o : Option Data) (d : Data) (conf : Conf) → o ≡ Some d → AreConfNumbersInRange conf → o ≡ Some (conf_json conf) → ReadsConf d conf
conf_reads o d conf found range is = subst (λ (e : Data). ReadsConf e conf) (sym (some_same o d (conf_json conf) found is)) (conf_again conf range)

-- a call that answers with the fault of another is read as that one is
pub faults_as : {T : Type 0} (made : T) (result : Result T ChangeFault) (fault : ChangeFault) → IsErrAnd result (λ other. other ≡ fault) → fault ≡ Memory → IsReadAsOrMemory made result
faults_as made (Ok read) fault is memory = absurd is
faults_as made (Err other) fault is memory = is ∙ memory
