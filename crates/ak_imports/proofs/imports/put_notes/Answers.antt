use Rattle.std.proofs.Common.{◌≡◌, w64, SFits, rules, subst, ◌∙◌, Err}
use Rattle.std.proofs.lemmas.Int.{to_z-of_z}
use Rattle.std.proofs.lemmas.Result.{err_from_is_err_and}
use Rattle.ak_edit.specs.Ends.{AnswersEnd, FinishedBy}
use Rattle.ak_keep.specs.Keepers.{Keeping}
use Rattle.ak_imports.proofs.TakingAll.{end_outside, import_refused, imports}
use Rattle.ak_imports.proofs.imports.put_notes.Goals as goal

pub returns-in-Ok-clause-ok : goal.returns-in-Ok-clause-ok
returns-in-Ok-clause-ok g c =
    let at : SFits w64 c.args.at = c.ranges.at in
    let note_type : SFits w64 c.args.given.note_type = search rules in
    let deck : SFits w64 c.args.given.deck = search rules in
    let k = g.K.Lookup.keeping c.args.keeper.now in
    let home : g.K.Lookup.keeping c.back.new.self ≡ k = c.back.ensures.back ∙ c.take_records-taken.ensures.stays.back ∙ c.in_ok-mark.ensures.marked.back ∙ c.guids_of.ensures.reads.same in
    imports k (g.K.Lookup.keeping c.mark.new.self) (g.K.Lookup.keeping c.take_records-taken.new.keeper) (g.K.Lookup.keeping c.finish.new.keeper) c.args.at c.args.given c.in_ok-counts.counts
    (record { change = c.new.result; guids = c.in_ok-guids.guids }) c.take_records-taken.new.work c.args.steps.now c.finish.new.steps
    c.in_ok-guids.ensures.reads.told c.new.ensures (rw c.guids_of.ensures.reads.same at c.in_ok-mark.ensures.ok)
    (rw (c.into_vec.ensures, to_z-of_z w64 c.args.at at, to_z-of_z w64 c.args.given.note_type note_type, to_z-of_z w64 c.args.given.deck deck) at c.in_ok-counts.ensures.ok)
    (subst (λ (before : Keeping). FinishedBy c.args.at c.take_records-taken.new.work.change before (g.K.Lookup.keeping c.finish.new.keeper) c.args.steps.now c.finish.new.steps) home (rw (to_z-of_z w64 c.args.at at) at c.in-Ok.ensures.ok))

pub returns-in-Err-clause-refused : goal.returns-in-Err-clause-refused
returns-in-Err-clause-refused g c =
    let at : SFits w64 c.args.at = c.ranges.at in
    let note_type : SFits w64 c.args.given.note_type = search rules in
    let deck : SFits w64 c.args.given.deck = search rules in
    let k = g.K.Lookup.keeping c.args.keeper.now in
    let home : g.K.Lookup.keeping c.back.new.self ≡ k = c.back.ensures.back ∙ c.take_records-taken.ensures.stays.back ∙ c.in_ok-mark.ensures.marked.back ∙ c.guids_of.ensures.reads.same in
    end_outside k (g.K.Lookup.keeping c.mark.new.self) (g.K.Lookup.keeping c.take_records-taken.new.keeper) c.args.at c.args.given c.in_ok-counts.counts
    (record { change = c.new.result; guids = c.in_ok-guids.guids }) c.take_records-taken.new.work c.in-Err.fault
    c.in_ok-guids.ensures.reads.told c.new.ensures (rw c.guids_of.ensures.reads.same at c.in_ok-mark.ensures.ok)
    (rw (c.into_vec.ensures, to_z-of_z w64 c.args.at at, to_z-of_z w64 c.args.given.note_type note_type, to_z-of_z w64 c.args.given.deck deck) at c.in_ok-counts.ensures.ok)
    (c.held-formed.ensures.formed c.marked-checks.ensures.checks).current
    (subst (λ (before : Keeping). AnswersEnd {T = Unit {0}} c.args.at c.take_records-taken.new.work.change before (Err c.in-Err.fault)) home (rw (to_z-of_z w64 c.args.at at) at c.in-Err.ensures.refused))

pub returns-in_err-counts-clause-refused : goal.returns-in_err-counts-clause-refused
returns-in_err-counts-clause-refused g c =
    let at : SFits w64 c.args.at = c.ranges.at in
    let note_type : SFits w64 c.args.given.note_type = search rules in
    let deck : SFits w64 c.args.given.deck = search rules in
    let k = g.K.Lookup.keeping c.args.keeper.now in
    let p = err_from_is_err_and c.from_residual-in_err-counts.result c.from_residual-in_err-counts.ensures.1 in
    rw (p.1, p.2)
    (import_refused k (g.K.Lookup.keeping c.mark.new.self) c.args.at c.args.given (record { change = c.new.result; guids = c.in_ok-guids.guids }) c.in_err-counts.field-0.0
    c.in_ok-guids.ensures.reads.told c.new.ensures (rw c.guids_of.ensures.reads.same at c.in_ok-mark.ensures.ok)
    (rw (c.into_vec.ensures, to_z-of_z w64 c.args.at at, to_z-of_z w64 c.args.given.note_type note_type, to_z-of_z w64 c.args.given.deck deck) at c.in_err-counts.ensures.refused))
