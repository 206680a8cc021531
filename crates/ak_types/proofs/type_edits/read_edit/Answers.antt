use Rattle.std.proofs.Common.{ℤ, rules, w64, SFits}
use Rattle.std.proofs.lemmas.Int.{to_z-of_z}
use Rattle.std.proofs.lemmas.Result.{err_from_is_err_and}
use Rattle.ak_edit.specs.Overlays.{Overlay}
use Rattle.ak_keep.specs.Keepers.{WhereHeld}
use Rattle.ak_keep.specs.Lookups.{note_type_at}
use Rattle.ak_types.proofs.Listing.{missing_in}
use Rattle.ak_edit_calls.proofs.Taking.{if_ok-map}
use Rattle.ak_types.proofs.TypeEditing.{over_there, type_missing, type_there}
use Rattle.ak_types.specs.TypeEdits.{IsEditOver, IsMadeIn}
use Rattle.ak_types.proofs.type_edits.read_edit.Goals as goal

pub returns-in_err-old-clause-refused : goal.returns-in_err-old-clause-refused
returns-in_err-old-clause-refused g c =
    let p = err_from_is_err_and c.from_residual.result c.from_residual.ensures.1 in
    let id : ℤ = c.args.given.now.note_type.id in
    let fits : SFits w64 id = search rules in
    rw (p.1, p.2) (type_missing Overlay (g.K.Lookup.keeping c.args.keeper.now) c.args.at c.args.given.now c.in_err-old.field-0.0 (rw (to_z-of_z w64 id fits) at c.in_err-old.ensures.missing))

pub returns-in_err-old-clause-listed : goal.returns-in_err-old-clause-listed
returns-in_err-old-clause-listed g c =
    let p = err_from_is_err_and c.from_residual.result c.from_residual.ensures.1 in
    let id : ℤ = c.args.given.now.note_type.id in
    let fits : SFits w64 id = search rules in
    rw (p.1, p.2) (missing_in (g.K.Lookup.keeping c.args.keeper.now) (λ held. note_type_at held id) id c.in_err-old.field-0.0 (rw (to_z-of_z w64 id fits) at c.in_err-old.ensures.missing))

pub returns-clause-refused : goal.returns-clause-refused
returns-clause-refused g c =
    let id : ℤ = c.args.given.now.note_type.id in
    let fits : SFits w64 id = search rules in
    let at : SFits w64 c.args.at = c.ranges.at in
    type_there (g.K.Lookup.keeping c.args.keeper.now) c.args.at c.args.given.now c.in_ok-old.old c.read_for_type.result (rw (to_z-of_z w64 id fits) at c.in_ok-old.ensures.found)
    (rw (c.held_type.ensures.same, to_z-of_z w64 c.args.at at) at c.read_for_type.ensures.refused)

pub returns-clause-made : goal.returns-clause-made
returns-clause-made g c =
    let k = g.K.Lookup.keeping c.args.keeper.now in
    let id : ℤ = c.args.given.now.note_type.id in
    let fits : SFits w64 id = search rules in
    let at : SFits w64 c.args.at = c.ranges.at in
    if_ok-map c.read_for_type.result (λ made. WhereHeld k (IsMadeIn c.args.at c.args.given.now c.in_ok-old.old made)) (λ made. WhereHeld k (λ c_. IsEditOver c.args.at c.args.given.now c_ made))
    (λ made. over_there k c.args.at c.args.given.now c.in_ok-old.old made (rw (to_z-of_z w64 id fits) at c.in_ok-old.ensures.found))
    (rw (c.held_type.ensures.same, to_z-of_z w64 c.args.at at) at c.read_for_type.ensures.made)
