use Rattle.std.specs.Prelude.{ℕ, List}
use Rattle.std.proofs.Common.{sym, ◌∙◌, Bor}
use Rattle.std.proofs.lemmas.Map.Text.{is_eq-slice_cmp}
use Rattle.std.specs.BTreeMap.{is_at}
use Rattle.std.specs.Cmp.Lexicographic.{slice_cmp}
use Rattle.std.specs.Ordering.{nat_cmp}
use Rattle.ak_base.specs.declared.heads.Tag.{Tag}
use Rattle.ak_session.specs.Refusals.{has_twins, same_tags}
use Rattle.ak_server_rules.proofs.Twins.{meets_first, meets_next, meets_there, has_twins_alike}
use Rattle.ak_server_rules.proofs.objections.has_twin_tags.Goals as goal

abbrev key_name : Bor (List ℕ) → List ℕ
key_name key = key.now

abbrev tag_name : Tag → List ℕ
tag_name tag = tag.name

pub loop-tag-init : goal.loop-tag-init
loop-tag-init c = meets_first (slice_cmp nat_cmp) key_name tag_name c.new-names.result.keys c.args.tags.now c.new-names.ensures.empty
    ∙ has_twins_alike (λ x y. is_at (slice_cmp nat_cmp (tag_name x)) (tag_name y)) same_tags (λ x y. is_eq-slice_cmp (tag_name x) (tag_name y)) c.args.tags.now

pub loop-tag-preserved : goal.loop-tag-preserved
loop-tag-preserved c =
    meets_next (slice_cmp nat_cmp) key_name tag_name c.loop-tag.names.keys c.add_tag_name.new.names.keys c.args.tags.now c.loop-tag.tag-index
    c.tag-item.result c.as_str.result.now (has_twins same_tags c.args.tags.now) c.loop-tag-test.true c.tag-item.is c.as_str.ensures
    c.loop-tag.invariant (sym c.in_ok-add_tag_name.ensures.found ∙ c.if-branch.false) (λ other. c.in_ok-add_tag_name.ensures.added other)

pub returns-then-branch : goal.returns-then-branch
returns-then-branch c =
    meets_there (slice_cmp nat_cmp) key_name tag_name c.loop-tag.names.keys c.args.tags.now c.loop-tag.tag-index
    c.tag-item.result c.as_str.result.now (has_twins same_tags c.args.tags.now) c.loop-tag-test.true c.tag-item.is c.as_str.ensures
    c.loop-tag.invariant (sym c.in_ok-add_tag_name.ensures.found ∙ c.if-branch.true)
