use Rattle.std.proofs.Common.{rules, ◌+◌, string_bytes}
use Rattle.ak_filters.proofs.Reading.{at_bracket, line_behind, goes_past, ends_there, ends_plainly}
use Rattle.ak_filters.specs.Readings.{line_length}
use Rattle.ak_filters.proofs.readings.add_segment.Goals as goal

pub returns-then-is_reading : goal.returns-then-is_reading
returns-then-is_reading c =
    let at = at_bracket c.loop-before.rest.now c.in-Some.before.now c.in-Some.inside.now c.in-Some.ensures.has c.in-Some.ensures.front c.in-Some.ensures.behind c.loop-before.invariant.lacks in
    ends_there c.add_reading.result c.args.part c.loop-before.invariant.line.0 c.last_line_length-line.result c.loop-before.rest.now c.in-Some.before.now c.split_base.result.0.now c.split_base.result.1.now c.split_base.result.2.now c.in-Some.inside.now (string_bytes c.args.made.now) (string_bytes c.loop-before.made) (string_bytes c.push_str.new.self) (string_bytes c.add_reading.new.made) c.args.segment.now
    at c.loop-before.invariant.lacks c.loop-before.invariant.line.1 c.split_base.ensures.whole c.split_base.ensures.sign c.split_base.ensures.no_space c.split_base.ensures.no_mark (c.is_reading.ensures.yes c.if-is_reading.true) c.in_ok-push_str.ensures.bytes c.add_reading.ensures c.loop-before.invariant.so_far

pub loop-before-preserved : goal.loop-before-preserved
loop-before-preserved c =
    let at = at_bracket c.loop-before.rest.now c.in-Some.before.now c.in-Some.inside.now c.in-Some.ensures.has c.in-Some.ensures.front c.in-Some.ensures.behind c.loop-before.invariant.lacks in
    record {
      text = search rules;
      lacks = at.inside_ends;
      line = (line_length c.loop-before.invariant.line.0 c.in-Some.before.now + 1, line_behind c.loop-before.invariant.line.0 c.last_line_length-line.result c.loop-before.rest.now c.in-Some.before.now c.in-Some.inside.now at c.loop-before.invariant.line.1);
      so_far = goes_past c.args.part c.loop-before.invariant.line.0 c.last_line_length-line.result c.loop-before.rest.now c.in-Some.before.now c.split_base.result.0.now c.split_base.result.1.now c.split_base.result.2.now c.in-Some.inside.now (string_bytes c.args.made.now) (string_bytes c.loop-before.made) (string_bytes c.push_str-in-Some.new.self) (string_bytes c.push_str-in-Some-2.new.self) c.args.segment.now
          at c.loop-before.invariant.line.1 c.split_base.ensures.whole c.split_base.ensures.sign (c.is_reading.ensures.no c.if-is_reading.false) c.in_ok-push_str-2.ensures.bytes c.in_ok-push_str-3.ensures.bytes c.loop-before.invariant.so_far;
    }

pub returns : goal.returns
returns c = ends_plainly c.args.part c.loop-before.rest.now (string_bytes c.args.made.now) (string_bytes c.loop-before.made) (string_bytes c.push_str-2.new.self) (string_bytes c.push_str-3.new.self) c.args.segment.now c.in_default.ensures.none c.in_ok-push_str-4.ensures.bytes c.in_ok-push_str-5.ensures.bytes c.loop-before.invariant.so_far
