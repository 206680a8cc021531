use Rattle.std.proofs.Common.{◌≡◌, ◌⊎◌, None, Some, sym, ◌∙◌, w64, SFits, rules}
use Rattle.std.proofs.lemmas.Int.{to_z-of_z}
use Rattle.std.specs.BTreeMap.{get_by_text}
use Rattle.ak_edit.specs.Refusals.{IsFromOutside}
use Rattle.ak_imports.proofs.Taking.{err_map, ok_map, record_added, record_changed, record_not_added, record_not_changed}
use Rattle.ak_imports.specs.Imports.{edit_of_record}
use Rattle.ak_imports.specs.UnderWay.{AddsRecord, ChangesNote, RefusesNew, RefusesToChange, RefusesUnderWay, TakesRecord}
use Rattle.ak_imports.proofs.works.take_record.Goals as goal

pub add_note-requires : goal.add_note-requires
add_note-requires g c = record { none = sym c.least_id.ensures ∙ c.in-None.is; marked = c.requires.marked; held = c.requires.held }

pub returns-in-None-clause-ok : goal.returns-in-None-clause-ok
returns-in-None-clause-ok g c =
    let k = g.K.Lookup.keeping c.args.keeper.now in
    let now = g.K.Lookup.keeping c.add_note.new.keeper in
    let none : get_by_text c.args.work.now.guids c.args.note_record.guid ≡ None = sym c.least_id.ensures ∙ c.in-None.is in
    ok_map c.add_note.result (λ how. AddsRecord c.args.arrival c.args.note_record how c.args.work.now k c.add_note.new.work now) (λ how. TakesRecord c.args.arrival c.args.note_record how c.args.work.now k c.add_note.new.work now)
    (λ how. record_added k now c.args.arrival c.args.note_record how c.args.work.now c.add_note.new.work none) c.add_note.ensures.ok

pub returns-in-None-clause-refused : goal.returns-in-None-clause-refused
returns-in-None-clause-refused g c =
    let k = g.K.Lookup.keeping c.args.keeper.now in
    let none : get_by_text c.args.work.now.guids c.args.note_record.guid ≡ None = sym c.least_id.ensures ∙ c.in-None.is in
    err_map c.add_note.result (λ fault. IsFromOutside fault ⊎ RefusesNew c.args.arrival c.args.note_record c.args.work.now k fault) (λ fault. IsFromOutside fault ⊎ RefusesUnderWay c.args.arrival c.args.note_record c.args.work.now k fault)
    (λ fault. record_not_added k c.args.arrival c.args.note_record c.args.work.now fault none) c.add_note.ensures.refused

pub returns-in-Some-clause-ok : goal.returns-in-Some-clause-ok
returns-in-Some-clause-ok g c =
    let k = g.K.Lookup.keeping c.args.keeper.now in
    let now = g.K.Lookup.keeping c.change_note.new.keeper in
    let id : SFits w64 c.in-Some.id = search rules in
    let some : get_by_text c.args.work.now.guids c.args.note_record.guid ≡ Some c.in-Some.id = sym c.least_id.ensures ∙ c.in-Some.is in
    ok_map c.change_note.result (λ how. ChangesNote c.args.arrival (edit_of_record c.in-Some.id c.args.note_record) how c.args.work.now k c.change_note.new.work now) (λ how. TakesRecord c.args.arrival c.args.note_record how c.args.work.now k c.change_note.new.work now)
    (λ how. record_changed k now c.args.arrival c.args.note_record c.in-Some.id how c.args.work.now c.change_note.new.work some) (rw (c.edit_of-edit.ensures, to_z-of_z w64 c.in-Some.id id) at c.change_note.ensures.ok)

pub returns-in-Some-clause-refused : goal.returns-in-Some-clause-refused
returns-in-Some-clause-refused g c =
    let k = g.K.Lookup.keeping c.args.keeper.now in
    let id : SFits w64 c.in-Some.id = search rules in
    let some : get_by_text c.args.work.now.guids c.args.note_record.guid ≡ Some c.in-Some.id = sym c.least_id.ensures ∙ c.in-Some.is in
    err_map c.change_note.result (λ fault. IsFromOutside fault ⊎ RefusesToChange c.args.arrival (edit_of_record c.in-Some.id c.args.note_record) c.args.work.now k fault) (λ fault. IsFromOutside fault ⊎ RefusesUnderWay c.args.arrival c.args.note_record c.args.work.now k fault)
    (λ fault. record_not_changed k c.args.arrival c.args.note_record c.in-Some.id c.args.work.now fault some) (rw (c.edit_of-edit.ensures, to_z-of_z w64 c.in-Some.id id) at c.change_note.ensures.refused)
