use Rattle.std.proofs.Common.{not, sym, ap, ◌∙◌, List, arith}
use Rattle.ak_base.specs.declared.names.Name.{Name}
use Rattle.std.specs.BTreeMap.{is_at}
use Rattle.ak_base.specs.Names.{name_cmp}
use Rattle.ak_memory.specs.Places.{one_if, place_under, row_under, unchanged_count}
use Rattle.ak_memory.specs.declared.places.Place.{Place}
use Rattle.ak_memory.proofs.Counting.{unchanged-set}
use Rattle.ak_memory.proofs.RowsUnder.{full_but, place_under-set, placed_under}
use Rattle.ak_memory.proofs.by_name.settle_under.Goals as goal

pub returns-in-Some-clause-count : goal.returns-in-Some-clause-count
returns-in-Some-clause-count c =
    let set = ap unchanged_count (c.get_mut.follows.holds c.settle.new.self).0 in
    let counted = unchanged-set (is_at (name_cmp c.args.name)) c.args.places.now.entries c.in-Some.place.now c.settle.new.self (sym c.in-Some.ensures.value) in
    let changed = ap (λ b. one_if (not b)) c.settle.ensures.changed in
    omega (arith, set, counted, changed)

pub returns-in-Some-clause-rows : goal.returns-in-Some-clause-rows
returns-in-Some-clause-rows c = λ each q.
    ap (λ (es : List (Name × Place)). row_under each es q) (c.get_mut.follows.holds c.settle.new.self).0
    ∙ placed_under each c.args.version c.args.name c.args.places.now.entries c.in-Some.place.now c.settle.new.self (sym c.in-Some.ensures.value) (c.settle.ensures.row each) q

pub returns-in-Some-clause-full : goal.returns-in-Some-clause-full
returns-in-Some-clause-full c =
    full_but c.args.name c.args.places.now.entries _ c.settle.new.self
    (λ q. ap (λ (es : List (Name × Place)). place_under es q) (c.get_mut.follows.holds c.settle.new.self).0
    ∙ place_under-set c.args.name c.args.places.now.entries c.in-Some.place.now c.settle.new.self (sym c.in-Some.ensures.value) q)
