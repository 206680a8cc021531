use Rattle.std.proofs.Common.{◌⊎◌, w64, SFits, rules}
use Rattle.std.proofs.lemmas.Int.{to_z-of_z}
use Rattle.ak_edit.specs.Refusals.{IsFromOutside}
use Rattle.ak_imports.proofs.Taking.{change_refused, change_taken, err_map, ok_map, same_taken}
use Rattle.ak_imports.specs.UnderWay.{ChangesNote, RefusesToChange, RefusesToUpdate, UpdatesNote}
use Rattle.ak_merge.proofs.Finding.{not_both}
use Rattle.ak_imports.proofs.works.change_note.Goals as goal

pub returns-then-branch-clause-ok : goal.returns-then-branch-clause-ok
returns-then-branch-clause-ok g c =
    let id : SFits w64 c.args.edit.now.note = search rules in
    same_taken (g.K.Lookup.keeping c.args.keeper.now) (g.K.Lookup.keeping c.note_at.new.from) c.args.arrival c.args.edit.now c.args.work.now c.in_ok-note.note
    c.note_at.ensures.reads.same (rw (to_z-of_z w64 c.args.edit.now.note id) at c.in_ok-note.ensures.reads.told) (c.in_ok-is_same.ensures.0 c.if-branch.true)

pub returns-clause-ok : goal.returns-clause-ok
returns-clause-ok g c =
    let id : SFits w64 c.args.edit.now.note = search rules in
    let k = g.K.Lookup.keeping c.args.keeper.now in
    let now = g.K.Lookup.keeping c.update_note.new.keeper in
    ok_map c.update_note.result (λ how. UpdatesNote c.args.arrival c.args.edit.now how c.args.work.now k c.update_note.new.work now) (λ how. ChangesNote c.args.arrival c.args.edit.now how c.args.work.now k c.update_note.new.work now)
    (λ how. change_taken k now c.args.arrival c.args.edit.now how c.args.work.now c.update_note.new.work c.in_ok-note.note (rw (to_z-of_z w64 c.args.edit.now.note id) at c.in_ok-note.ensures.reads.told)
    (λ same. not_both (c.in_ok-is_same.ensures.1 same) c.if-branch.false))
    (rw c.note_at.ensures.reads.same at c.update_note.ensures.ok)

pub returns-clause-refused : goal.returns-clause-refused
returns-clause-refused g c =
    let id : SFits w64 c.args.edit.now.note = search rules in
    let k = g.K.Lookup.keeping c.args.keeper.now in
    err_map c.update_note.result (λ fault. IsFromOutside fault ⊎ RefusesToUpdate c.args.arrival c.args.edit.now c.args.work.now k fault) (λ fault. IsFromOutside fault ⊎ RefusesToChange c.args.arrival c.args.edit.now c.args.work.now k fault)
    (λ fault. change_refused k c.args.arrival c.args.edit.now c.args.work.now fault c.in_ok-note.note (rw (to_z-of_z w64 c.args.edit.now.note id) at c.in_ok-note.ensures.reads.told)
    (λ same. not_both (c.in_ok-is_same.ensures.1 same) c.if-branch.false))
    (rw c.note_at.ensures.reads.same at c.update_note.ensures.refused)
