use Rattle.std.proofs.Common.{sym, ap, ◌∙◌}
use Rattle.std.specs.List.{list_all}
use Rattle.ak_session.specs.Refusals.{has_twins, is_checked, same_names}
use Rattle.ak_transfers.proofs.Rows.{held_or_twins, not_checked, not_ranged}
use Rattle.ak_transfers.proofs.forms.may_be_held.Goals as goal

pub returns-then-not-is_in_range : goal.returns-then-not-is_in_range
returns-then-not-is_in_range c = not_ranged c.args.held.now.rows c.args.held.now.head c.is_in_range.result c.is_in_range.ensures c.if-not-is_in_range.true

pub returns-then-not-are_checked : goal.returns-then-not-are_checked
returns-then-not-are_checked c =
    not_checked c.args.held.now.rows c.args.held.now.head
    (ap (list_all is_checked) (sym c.as_slice.ensures) ∙ sym c.are_checked.ensures ∙ c.if-not-are_checked.true)

pub returns : goal.returns
returns c =
    held_or_twins c.args.held.now.rows c.args.held.now.head c.in_ok-has_twin_rows.field-0
    (c.is_in_range.ensures.0 c.if-not-is_in_range.false)
    (ap (list_all is_checked) (sym c.as_slice.ensures) ∙ sym c.are_checked.ensures ∙ c.if-not-are_checked.false)
    (c.in_ok-has_twin_rows.ensures ∙ ap (has_twins same_names) c.as_slice-2.ensures)
