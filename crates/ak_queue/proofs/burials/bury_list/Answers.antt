use Rattle.std.proofs.Common.{◌≡◌, ◌≢◌, ◌∷◌, ◌∙◌, ℤ, List, All, ap, filter, rules, w64}
use Rattle.std.proofs.lemmas.Int.{to_z-of_z}
use Rattle.std.proofs.lemmas.List.Elements.{All-from_recursion, recursion_from_All}
use mir.Val.{SFits}
use Rattle.ak_faults.proofs.Healths.{goes_further}
use Rattle.ak_keep.specs.Collections.{Holding, IsId, cards_of}
use Rattle.ak_queue.specs.Burials.{TakesOther, is_sibling_buried}
use Rattle.ak_queue.specs.declared.burials.Burial.{Burial}
use Rattle.ak_keep.proofs.Collecting.{filter-first, one_told}
use Rattle.ak_queue.proofs.PartLists.{IsPartOf, all_part, all_taken, one_taken, others_taken, sorted_part}
use Rattle.ak_queue.proofs.burials.bury_list.Goals as goal

pub loop-id-preserved : goal.loop-id-preserved
loop-id-preserved g c =
    let rest : c.loop-id.rest.now ≡ c.in-Some.id.now ∷ c.in-Some.others.now = search rules in
    let fits : SFits w64 c.in-Some.id.now = search rules in
    let burial : Burial = c.burial_of-burial.result in
    let rule : burial.answered ≡ c.args.card.now.id = ap (λ (b : Burial). b.answered) c.loop-id.invariant.rule in
    let taken : TakesOther c.args.card.now.id c.in-Some.id.now c.loop-id.buried c.take_sibling.new.buried =
    rw (← rule) (rw (to_z-of_z w64 c.in-Some.id.now fits) at c.in_ok-take_sibling.ensures.taken) in
    record {
      kept = c.in_ok-take_sibling.ensures.reads.kept ∙ c.loop-id.invariant.kept;
      same = c.in_ok-take_sibling.ensures.reads.same ∙ c.loop-id.invariant.same;
      goes = goes_further c.loop-id.invariant.goes c.in_ok-take_sibling.ensures.reads.cause.goes;
      rule = c.loop-id.invariant.rule;
      found = one_told (g.R.Lookup.keeping c.args.from.now).told (λ (h : Holding) (ids : List ℤ). filter (is_sibling_buried burial h.rows) ids) (λ (h : Holding). filter (is_sibling_buried burial h.rows) (cards_of c.args.card.now.nid h.rows))
          (λ h id ids. filter-first (is_sibling_buried burial h.rows) id ids) c.loop-id.buried c.take_sibling.new.buried c.in-Some.id.now c.in-Some.others.now
          (rw rest at c.loop-id.invariant.found) (rw (c.loop-id.invariant.same, to_z-of_z w64 c.in-Some.id.now fits) at c.in_ok-take_sibling.ensures.reads.told);
      parts = one_taken c.args.card.now.id c.in-Some.id.now c.loop-id.buried c.take_sibling.new.buried c.in-Some.others.now c.as_slice-rest.result.now (rw rest at c.loop-id.invariant.parts) taken;
      others = others_taken c.args.card.now.id c.in-Some.id.now c.loop-id.buried c.take_sibling.new.buried c.loop-id.invariant.others taken;
    }

pub returns-clause-ascend : goal.returns-clause-ascend
returns-clause-ascend g c =
    let part : IsPartOf c.loop-id.buried c.as_slice-rest.result.now = all_taken c.loop-id.buried c.loop-id.rest.now c.as_slice-rest.result.now c.loop-id.invariant.parts in
    sorted_part c.loop-id.buried c.as_slice-rest.result.now part (rw (← c.as_slice-rest.ensures) at c.in_ok-ids.ensures.ascend)

pub returns-clause-others : goal.returns-clause-others
returns-clause-others g c = All-from_recursion (λ id. id ≢ c.args.card.now.id) c.loop-id.buried c.loop-id.invariant.others

pub returns-clause-range : goal.returns-clause-range
returns-clause-range g c = λ checks.
    let part : IsPartOf c.loop-id.buried c.as_slice-rest.result.now = all_taken c.loop-id.buried c.loop-id.rest.now c.as_slice-rest.result.now c.loop-id.invariant.parts in
    let all : All IsId c.as_slice-rest.result.now = rw (← c.as_slice-rest.ensures) at (c.in_ok-ids.ensures.range checks) in
    All-from_recursion IsId c.loop-id.buried (all_part IsId c.loop-id.buried c.as_slice-rest.result.now part (recursion_from_All IsId c.as_slice-rest.result.now all))
