use Rattle.std.proofs.Common.{refl, rules, w64, SFits}
use Rattle.std.proofs.lemmas.Int.{to_z-of_z}
use Rattle.ak_any_lines.proofs.CalledEnds.{desk_cause}
use Rattle.ak_any_lines.proofs.FirstLines.{any_ends_as, any_filters_as}
use Rattle.ak_any_lines.proofs.any_lines.obey_any.Goals as goal

pub returns-in-Single-clause-ends : goal.returns-in-Single-clause-ends
returns-in-Single-clause-ends g c =
    any_ends_as _ _ _ _ _ _ c.in-Single.is (c.obey_single.result, c.obey_single.ensures.ends, c.by_desk.ensures)

pub returns-in-Single-clause-filters : goal.returns-in-Single-clause-filters
returns-in-Single-clause-filters g c =
    any_filters_as _ _ _ _ _ _ c.in-Single.is (c.obey_single.result, c.obey_single.ensures.filters, c.by_desk.ensures)

pub returns-in-Single-clause-cause : goal.returns-in-Single-clause-cause
returns-in-Single-clause-cause g c = rw (c.by_desk.ensures) (desk_cause c.obey_single.result _ _ c.obey_single.ensures.cause)

pub returns-in-Filter-clause-ends : goal.returns-in-Filter-clause-ends
returns-in-Filter-clause-ends g c =
    let limit : SFits w64 c.in-Filter.limit = search rules in
    let order : SFits w64 c.in-Filter.order = search rules in
    any_ends_as _ _ _ _ _ _ c.in-Filter.is (rw (to_z-of_z w64 c.in-Filter.limit limit, to_z-of_z w64 c.in-Filter.order order) at c.make_deck.ensures.ends)

pub returns-in-Filter-clause-filters : goal.returns-in-Filter-clause-filters
returns-in-Filter-clause-filters g c = any_filters_as _ _ _ _ _ _ c.in-Filter.is refl

pub returns-in-Build-clause-ends : goal.returns-in-Build-clause-ends
returns-in-Build-clause-ends g c =
    let deck : SFits w64 c.in-Build.deck = search rules in
    any_ends_as _ _ _ _ _ _ c.in-Build.is (rw (to_z-of_z w64 c.in-Build.deck deck) at c.build_deck.ensures.ends)

pub returns-in-Build-clause-filters : goal.returns-in-Build-clause-filters
returns-in-Build-clause-filters g c = any_filters_as _ _ _ _ _ _ c.in-Build.is refl

pub returns-in-Empty-clause-ends : goal.returns-in-Empty-clause-ends
returns-in-Empty-clause-ends g c =
    let deck : SFits w64 c.in-Empty.deck = search rules in
    any_ends_as _ _ _ _ _ _ c.in-Empty.is (rw (to_z-of_z w64 c.in-Empty.deck deck) at c.empty_deck.ensures.ends)

pub returns-in-Empty-clause-filters : goal.returns-in-Empty-clause-filters
returns-in-Empty-clause-filters g c = any_filters_as _ _ _ _ _ _ c.in-Empty.is refl
