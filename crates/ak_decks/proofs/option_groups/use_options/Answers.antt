use Rattle.std.proofs.Common.{ℤ, refl, ap, ◌∙◌, rules, w64, SFits, to_z, of_z}
use Rattle.std.proofs.lemmas.Int.{to_z-of_z}
use Rattle.std.proofs.lemmas.Result.{err_from_is_err_and}
use Rattle.ak_base.specs.declared.names.Table.TheVariants as tables
use Rattle.ak_base.specs.Tables.{buried_in}
use Rattle.ak_base.specs.declared.names.Name.{Name}
use Rattle.ak_edit_calls.proofs.CheckedRows.{checked_edited}
use Rattle.ak_edit_calls.proofs.Ids.{id_of_checked}
use Rattle.ak_decks.proofs.UsedOptions.{checked_using, second_cause, unheld_listed, use_ended, use_listed, use_refused, using_named}
use Rattle.ak_decks.specs.DeckOptions.{using_options}
use Rattle.ak_keep.specs.Collections.{IsId}
use Rattle.ak_keep.specs.Keepers.{Keeping}
use Rattle.ak_merge.specs.Holdings.{name_in}
use Rattle.ak_decks.proofs.option_groups.use_options.Goals as goal

pub returns-in_err-group-clause-edits : goal.returns-in_err-group-clause-edits
returns-in_err-group-clause-edits g c =
    let p = err_from_is_err_and c.from_residual-in_err-group.result c.from_residual-in_err-group.ensures.1 in
    let deck : ℤ = c.args.used.now.deck in
    let options : ℤ = c.args.used.now.options in
    let fits : SFits w64 deck = search rules in
    let also : SFits w64 options = search rules in
    let same = c.held_row-2.ensures.same ∙ c.held_row.ensures.same in
    rw (p.1, p.2) (record {
      done = tt;
      same = same;
      kept = refl;
      stays = ap (λ (k : Keeping). k.headed) same;
      answers = use_refused (g.K.Lookup.keeping c.args.keeper.now) c.args.at options deck c.in_ok-row.row c.in_err-group.field-0.0
          (rw (to_z-of_z w64 deck fits) at c.in_ok-row.ensures.refused) (rw (c.held_row.ensures.same, to_z-of_z w64 options also) at c.in_err-group.ensures.refused);
    })

pub returns-in_err-group-clause-listed : goal.returns-in_err-group-clause-listed
returns-in_err-group-clause-listed g c =
    let p = err_from_is_err_and c.from_residual-in_err-group.result c.from_residual-in_err-group.ensures.1 in
    rw (p.1, p.2) (unheld_listed (to_z w64 (of_z w64 c.args.used.now.options)) c.in_err-group.field-0.0 c.in_err-group.ensures.listed)

pub returns-in_err-group-clause-cause : goal.returns-in_err-group-clause-cause
returns-in_err-group-clause-cause g c =
    let p = err_from_is_err_and c.from_residual-in_err-group.result c.from_residual-in_err-group.ensures.1 in
    rw (p.1, p.2) (second_cause _ _ _ c.in_err-group.field-0.0 c.held_row.ensures.cause.goes c.in_err-group.ensures.cause)

pub edit_row-requires-clause-checked : goal.edit_row-requires-clause-checked
edit_row-requires-clause-checked g c =
    let options : ℤ = c.args.used.now.options in
    let fits : SFits w64 options = search rules in
    let range : IsId options = id_of_checked c.in_ok-group.group (name_in tables.Options options) c.in_ok-group.ensures.checked (rw (to_z-of_z w64 options fits) at c.in_ok-group.ensures.named) in
    rw (c.with_options.ensures, to_z-of_z w64 options fits)
    (checked_edited (using_options options c.in_ok-row.row) (checked_using options c.in_ok-row.row range c.in_ok-row.ensures.checked))

pub edit_row-requires-clause-plain : goal.edit_row-requires-clause-plain
edit_row-requires-clause-plain g c =
    rw c.with_options.ensures (ap (λ (name : Name). buried_in name.table) (using_named (to_z w64 (of_z w64 c.args.used.now.options)) c.in_ok-row.row ∙ c.in_ok-row.ensures.named))

pub returns-clause-edits : goal.returns-clause-edits
returns-clause-edits g c =
    let deck : ℤ = c.args.used.now.deck in
    let options : ℤ = c.args.used.now.options in
    let fits : SFits w64 deck = search rules in
    let also : SFits w64 options = search rules in
    let at : SFits w64 c.args.at = c.ranges.at in
    use_ended (g.K.Lookup.keeping c.args.keeper.now) (g.K.Lookup.keeping c.edit_row.new.keeper) c.args.at options deck c.in_ok-row.row c.in_ok-group.group
    c.args.steps.now c.edit_row.new.steps c.edit_row.result
    (rw (to_z-of_z w64 deck fits) at c.in_ok-row.ensures.held) (rw (to_z-of_z w64 deck fits) at c.in_ok-row.ensures.refused)
    (rw (c.held_row.ensures.same, to_z-of_z w64 options also) at c.in_ok-group.ensures.refused)
    (rw (c.held_row-2.ensures.same, c.held_row.ensures.same, c.with_options.ensures, to_z-of_z w64 options also, to_z-of_z w64 c.args.at at) at c.edit_row.ensures.edits)

pub returns-clause-listed : goal.returns-clause-listed
returns-clause-listed g c = use_listed c.edit_row.result c.edit_row.ensures.listed
