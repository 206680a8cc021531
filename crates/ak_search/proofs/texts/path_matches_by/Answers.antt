use Rattle.std.proofs.Common.{rules}
use Rattle.ak_search.proofs.Levels.{decides_below, decides_first, decides_here, decides_last}
use Rattle.ak_search.proofs.OnePass.{size_falses}
use Rattle.ak_search.proofs.texts.path_matches_by.Goals as goal

pub loop-level-init : goal.loop-level-init
loop-level-init c = record {
  utf8 = c.utf8.name;
  size = search (rules, size_falses);
  decides = decides_first c.args.pattern.now c.args.row.now c.args.name.now c.requires;
}

pub loop-level-preserved : goal.loop-level-preserved
loop-level-preserved c = record {
  utf8 = search rules;
  size = search rules;
  decides = decides_below c.args.pattern.now c.loop-level.row c.read_on.new.row c.read_on-in-Some.new.row c.loop-level.rest.now c.in-Some.level.now c.in-Some.below.now c.args.name.now c.may_end.result
      c.in-Some.ensures.first c.may_end.ensures c.if-may_end.false c.in_ok-read_on.ensures.row c.in_ok-read_on-2.ensures.row c.loop-level.invariant.decides;
}

pub returns-then-may_end : goal.returns-then-may_end
returns-then-may_end c =
    decides_here c.args.pattern.now c.loop-level.row c.read_on.new.row c.loop-level.rest.now c.in-Some.level.now c.in-Some.below.now c.args.name.now c.may_end.result
    c.in-Some.ensures.first c.may_end.ensures c.if-may_end.true c.in_ok-read_on.ensures.row c.loop-level.invariant.decides

pub returns : goal.returns
returns c =
    decides_last c.args.pattern.now c.loop-level.row c.read_on-2.new.row c.loop-level.rest.now c.args.name.now c.may_end-2.result
    c.in_default.ensures.one c.may_end-2.ensures c.in_ok-read_on-3.ensures.row c.loop-level.invariant.decides
