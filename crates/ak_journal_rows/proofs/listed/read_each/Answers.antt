use Rattle.std.proofs.Common.{◌≡◌, ap, length, rules}
use Rattle.std.proofs.lemmas.List.{nil_from_length}
use Rattle.serde_json.specs.Data.{item}
use Rattle.serde_json.specs.View.{items_view, view}
use Rattle.ak_journal_rows.proofs.Found.{faults_as}
use Rattle.ak_journal_rows.proofs.Listing.{read_all, read_fails, read_on}
use Rattle.ak_journal_rows.proofs.listed.read_each.Goals as goal

pub returns-in_err-entry : goal.returns-in_err-entry
returns-in_err-entry g c =
    let these : items_view c.loop-value.rest.now ≡ item (view c.in-Some.value.now) (items_view c.in-Some.others.now) = search rules in
    λ entries fit is.
    faults_as entries c.from_residual.result c.in_err-entry.field-0.0 c.from_residual.ensures.1
    (read_fails g.E.Entry.json g.E.Entry.fits entries c.loop-value.entries c.in_err-entry.field-0.0 _ _ _ c.in_err-entry.ensures these (c.loop-value.invariant entries fit is))

pub loop-value-preserved : goal.loop-value-preserved
loop-value-preserved g c =
    let these : items_view c.loop-value.rest.now ≡ item (view c.in-Some.value.now) (items_view c.in-Some.others.now) = search rules in
    λ entries fit is.
    read_on g.E.Entry.json g.E.Entry.fits entries c.loop-value.entries _ c.in_ok-entry.entry _ _ _ c.in_ok-entry.ensures c.in_ok-push.ensures.ok these (c.loop-value.invariant entries fit is)

pub returns : goal.returns
returns g c =
    let none : length c.loop-value.rest.now ≡ 0 = search rules in
    λ entries fit is. read_all g.E.Entry.json g.E.Entry.fits entries c.loop-value.entries _ (ap items_view (nil_from_length c.loop-value.rest.now none)) (c.loop-value.invariant entries fit is)
