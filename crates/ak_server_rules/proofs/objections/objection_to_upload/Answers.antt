use Rattle.std.proofs.Common.{sym, ap, ◌∙◌}
use Rattle.ak_keep.specs.HeadNumbers.{numbered}
use Rattle.ak_session.specs.Refusals.{has_twins, same_names, same_tags}
use Rattle.ak_server_rules.proofs.Uploads.{upload_last, upload_outside, upload_twin_rows, upload_twin_tags, upload_fits}
use Rattle.ak_server_rules.proofs.objections.objection_to_upload.Goals as goal

pub returns-then-has_last_moment : goal.returns-then-has_last_moment
returns-then-has_last_moment c = λ k. upload_last (numbered c.args.held.now k) c.args.whole.now
    (sym (c.has_last_moment.ensures k) ∙ c.if-has_last_moment.true)

pub returns-then-not-is_whole_in_range : goal.returns-then-not-is_whole_in_range
returns-then-not-is_whole_in_range c = λ k. upload_outside (numbered c.args.held.now k) c.args.whole.now
    (sym (c.has_last_moment.ensures k) ∙ c.if-has_last_moment.false) (sym c.is_whole_in_range.ensures ∙ c.if-not-is_whole_in_range.true)

pub returns-then-branch : goal.returns-then-branch
returns-then-branch c = λ k. upload_twin_rows (numbered c.args.held.now k) c.args.whole.now
    (sym (c.has_last_moment.ensures k) ∙ c.if-has_last_moment.false) (sym c.is_whole_in_range.ensures ∙ c.if-not-is_whole_in_range.false)
    (ap (has_twins same_names) (sym c.as_slice.ensures) ∙ sym c.in_ok-has_twin_rows.ensures ∙ c.if-branch.true)

pub returns-then-branch-2 : goal.returns-then-branch-2
returns-then-branch-2 c = λ k. upload_twin_tags (numbered c.args.held.now k) c.args.whole.now
    (sym (c.has_last_moment.ensures k) ∙ c.if-has_last_moment.false) (sym c.is_whole_in_range.ensures ∙ c.if-not-is_whole_in_range.false)
    (ap (has_twins same_names) (sym c.as_slice.ensures) ∙ sym c.in_ok-has_twin_rows.ensures ∙ c.if-branch.false)
    (ap (has_twins same_tags) (sym c.as_slice-2.ensures) ∙ sym c.in_ok-has_twin_tags.ensures ∙ c.if-branch-2.true)

pub returns : goal.returns
returns c = λ k. upload_fits (numbered c.args.held.now k) c.args.whole.now
    (sym (c.has_last_moment.ensures k) ∙ c.if-has_last_moment.false) (sym c.is_whole_in_range.ensures ∙ c.if-not-is_whole_in_range.false)
    (ap (has_twins same_names) (sym c.as_slice.ensures) ∙ sym c.in_ok-has_twin_rows.ensures ∙ c.if-branch.false)
    (ap (has_twins same_tags) (sym c.as_slice-2.ensures) ∙ sym c.in_ok-has_twin_tags.ensures ∙ c.if-branch-2.false)
