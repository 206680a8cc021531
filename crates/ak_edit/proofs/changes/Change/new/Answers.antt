use Rattle.std.proofs.Common.{sym, subst}
use Rattle.std.proofs.lemmas.List.Elements.{All-nil}
use Rattle.std.specs.List.{All}
use Rattle.ak_merge.specs.Tags.{IsTagName}
use Rattle.ak_edit.proofs.Noting.{bears_none}
use Rattle.ak_edit.proofs.changes.Change.new.Goals as goal

pub invariant_of-result : goal.invariant_of-result
invariant_of-result c = record {
  rows = bears_none c.new.result.entries c.new.ensures.empty;
  conf = tt;
  tags = subst (All IsTagName) (sym c.new-2.ensures.items) (All-nil IsTagName);
}
