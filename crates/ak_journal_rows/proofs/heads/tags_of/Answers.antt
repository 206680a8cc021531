use Rattle.std.proofs.Common.{◌≡◌, rules}
use Rattle.serde_json.specs.Data.{member, no_members}
use Rattle.serde_json.specs.View.{members_view, view}
use Rattle.ak_journal_rows.proofs.Found.{faults_as}
use Rattle.ak_journal_rows.proofs.TagObjects.{read_all, read_fails, read_on}
use Rattle.ak_journal_rows.proofs.heads.tags_of.Goals as goal

pub returns-in_err-tag : goal.returns-in_err-tag
returns-in_err-tag c =
    let these : members_view c.loop-name.name-iterator ≡ member c.as_str.result.now (view c.in-Some.value.now) (members_view c.next.new.self) = search rules in
    λ tags fit is.
    faults_as tags c.from_residual.result c.in_err-tag.field-0.0 c.from_residual.ensures.1
    (read_fails tags c.loop-name.tags c.in_err-tag.field-0.0 _ _ _ _ c.in_err-tag.ensures these (c.loop-name.invariant tags fit is))

pub loop-name-preserved : goal.loop-name-preserved
loop-name-preserved c =
    let these : members_view c.loop-name.name-iterator ≡ member c.as_str.result.now (view c.in-Some.value.now) (members_view c.next.new.self) = search rules in
    λ tags fit is. read_on tags c.loop-name.tags _ c.in_ok-tag.tag _ _ _ _ c.in_ok-tag.ensures c.in_ok-push.ensures.ok these (c.loop-name.invariant tags fit is)

pub returns : goal.returns
returns c =
    let none : members_view c.loop-name.name-iterator ≡ no_members = search rules in
    λ tags fit is. read_all tags c.loop-name.tags _ none (c.loop-name.invariant tags fit is)
