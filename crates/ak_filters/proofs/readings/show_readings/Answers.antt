use Rattle.std.proofs.Common.{rules, ◌≡◌, ◌++◌, string_bytes, ap, sym, ◌∙◌}
use Rattle.ak_filters.proofs.Reading.{segment_lacks, whole_segment, shows_on, unended_kept}
use Rattle.ak_filters.specs.Readings.{readings_shown}
use Rattle.ak_filters.proofs.readings.show_readings.Goals as goal

pub add_segment-requires : goal.add_segment-requires
add_segment-requires c = segment_lacks c.loop-segment.rest.now c.in-Some.segment.now c.in-Some.ensures.front

pub loop-segment-preserved : goal.loop-segment-preserved
loop-segment-preserved c = (search rules, shows_on c.args.part c.args.text.now c.loop-segment.rest.now c.in-Some.segment.now c.in-Some.others.now (string_bytes c.loop-segment.made) (string_bytes c.add_segment.new.made) (whole_segment c.loop-segment.rest.now c.in-Some.segment.now c.in-Some.others.now c.in-Some.ensures.has c.in-Some.ensures.front c.in-Some.ensures.behind) c.in_ok-add_segment.ensures c.loop-segment.invariant.1)

pub returns : goal.returns
returns c =
    let is : c.deref.result.now ≡ readings_shown c.args.part c.args.text.now =
    c.deref.ensures ∙ c.in_ok-push_str.ensures.bytes ∙ ap (λ xs. string_bytes c.loop-segment.made ++ xs) (sym (unended_kept c.args.part c.loop-segment.rest.now c.in_default.ensures.none)) ∙ c.loop-segment.invariant.1 in
    rw (← is) c.of.ensures
