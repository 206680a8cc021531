use Rattle.std.proofs.Common.{◌≤◌, length, sym, ap, ◌∙◌, arith}
use Rattle.std.proofs.lemmas.List.{drop_all}
use Rattle.serde_json.specs.Data.{object}
use Rattle.serde_json.specs.View.{members_view}
use Rattle.serde_json.proofs.Views.{view-Object}
use Rattle.ak_journal_rows.proofs.TagObjects.{put_in_order, put_tags}
use Rattle.ak_journal_rows.proofs.heads.write_tags.Goals as goal

pub returns : goal.returns
returns c =
    let past : length c.args.tags.now ≤ c.loop-tag.tag-index = omega arith in
    λ ascend.
    view-Object c.loop-tag.members
    ∙ ap object (sym (ap (λ rest. put_tags rest (members_view c.loop-tag.members.entries)) (drop_all c.loop-tag.tag-index c.args.tags.now past))
    ∙ (c.loop-tag.invariant ∙ put_in_order c.args.tags.now ascend))
