use Rattle.std.proofs.Common.{drop}
use Rattle.serde_json.specs.View.{items_view}
use Rattle.ak_wire.proofs.EachPart.{Goes, Fails}
use Rattle.ak_wire.proofs.parts.read_each.Given as goal

-- what the values that are left are read as goes after the parts so far, and the first fault of them is that of all
abbrev pub invariant-loop-value : goal.invariant-loop-value
invariant-loop-value g l =
    record {
      goes : Goes g.P.Part.reads g.P.Part.refuses (items_view (drop l.value-index l.values)) (items_view l.values) l.parts;
      fails : Fails g.P.Part.reads g.P.Part.refuses (items_view (drop l.value-index l.values)) (items_view l.values);
    }
