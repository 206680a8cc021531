use Rattle.std.proofs.Common.{not, sym, ap, ◌∙◌, List, arith}
use Rattle.ak_base.specs.declared.names.Name.{Name}
use Rattle.std.specs.BTreeMap.{is_at}
use Rattle.ak_base.specs.Names.{name_cmp}
use Rattle.ak_memory.specs.Places.{one_if, place_under, row_under, unchanged_count}
use Rattle.ak_memory.specs.declared.places.Place.{Place}
use Rattle.ak_memory.specs.declared.versions.Version.TheVariants.{Mark}
use Rattle.ak_memory.proofs.Counting.{unchanged-set}
use Rattle.ak_memory.proofs.RowsUnder.{full_with, kept_under, place_under-set}
use Rattle.ak_memory.proofs.by_name.hold_under.Goals as goal

pub returns-in-Some-clause-count : goal.returns-in-Some-clause-count
returns-in-Some-clause-count c =
    let set = ap unchanged_count (c.get_mut.follows.holds c.hold.new.self).0 in
    let counted = unchanged-set (is_at (name_cmp c.args.name)) c.args.places.now.entries c.in-Some.place.now c.hold.new.self (sym c.in-Some.ensures.value) in
    let first = ap one_if c.hold.ensures.first in
    let changed = ap (λ b. one_if (not b)) c.hold.ensures.changed in
    omega (arith, set, counted, first, changed)

pub returns-in-Some-clause-mark : goal.returns-in-Some-clause-mark
returns-in-Some-clause-mark c = λ q.
    ap (λ (es : List (Name × Place)). row_under Mark es q) (c.get_mut.follows.holds c.hold.new.self).0
    ∙ kept_under Mark c.args.name c.args.places.now.entries c.in-Some.place.now c.hold.new.self (sym c.in-Some.ensures.value) c.hold.ensures.mark q

pub returns-in-Some-clause-full : goal.returns-in-Some-clause-full
returns-in-Some-clause-full c =
    full_with c.args.name c.args.places.now.entries _ c.hold.new.self
    (λ q. ap (λ (es : List (Name × Place)). place_under es q) (c.get_mut.follows.holds c.hold.new.self).0
    ∙ place_under-set c.args.name c.args.places.now.entries c.in-Some.place.now c.hold.new.self (sym c.in-Some.ensures.value) q) c.hold.ensures.changed
