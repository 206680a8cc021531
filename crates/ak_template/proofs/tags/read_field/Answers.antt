use Rattle.std.proofs.Common.{rules, ap, sym, ◌∙◌}
use Rattle.ak_template.specs.Pieces.{field_parts, field_tag}
use Rattle.ak_template.proofs.Colons.{colon_parts, filter_read, no_filter_read, name_read}
use Rattle.ak_template.proofs.tags.read_field.Goals as goal

pub returns-then-is_empty : goal.returns-then-is_empty
returns-then-is_empty c = no_filter_read c.loop-filter.filters c.loop-filter.rest.now c.in-Some.filter.now (field_tag c.args.inside.now) c.in-Some.ensures.has c.in-Some.ensures.front (sym c.is_empty.ensures ∙ c.if-is_empty.true) c.loop-filter.invariant.1

pub loop-filter-preserved : goal.loop-filter-preserved
loop-filter-preserved c = (search rules, ap (λ fs. field_parts fs (colon_parts c.in-Some.others.now)) c.in_ok-push.ensures.ok ∙ filter_read c.loop-filter.filters c.loop-filter.rest.now c.in-Some.filter.now c.in-Some.others.now c.in_ok-filter.filter (field_tag c.args.inside.now) c.in-Some.ensures.has c.in-Some.ensures.front c.in-Some.ensures.behind (sym c.is_empty.ensures ∙ c.if-is_empty.false) c.in_ok-filter.ensures c.loop-filter.invariant.1)

pub returns : goal.returns
returns c = name_read c.loop-filter.filters c.loop-filter.rest.now c.in_ok-name.name (field_tag c.args.inside.now) c.in_default.ensures.none (sym c.is_empty-2.ensures ∙ c.if-is_empty-2.false) c.in_ok-name.ensures c.loop-filter.invariant.1
