use Rattle.std.proofs.Common.{◌∷◌, [], pos, false, true, slice_index_or, slice_set, refl, sym, subst}
use Rattle.ak_merge.proofs.CheckedLinks.{kept_by_set, seen_known}
use Rattle.ak_merge.specs.CheckLinks.{AreKnown}
use Rattle.ak_merge.specs.declared.check_links.Link.{Link}
use Rattle.ak_merge.proofs.check_links.see_card.Goals as goal

none : Link
none = record { id = pos 0; to = pos 0; ord = pos 0; good = false }

pub returns-in-Some-place_of-clause-notes : goal.returns-in-Some-place_of-clause-notes
unfolding none
returns-in-Some-place_of-clause-notes c =
    let note : Link = slice_index_or c.args.notes.now c.in-Some.place none in
    kept_by_set c.args.notes.now c.in-Some.place none (record note { good = true }) refl

pub returns-in-Some-place_of-clause-known : goal.returns-in-Some-place_of-clause-known
unfolding none
returns-in-Some-place_of-clause-known c held known =
    let note : Link = slice_index_or c.args.notes.now c.in-Some.place none in
    let type : Link = slice_index_or c.args.types.now c.in-Some-place_of.held none in
    subst (λ good. AreKnown held c.args.types.now (slice_set c.args.notes.now c.in-Some.place (record note { good = true })) (record c.args.card.now { good = good } ∷ [])) (sym c.is_below-card.ensures)
    (seen_known held c.args.types.now c.args.notes.now c.args.card.now note type c.in-Some.place c.in-Some-place_of.held none none c.in-Some.ensures.0 c.in-Some-place_of.ensures.0 refl refl
    (c.in-Some.ensures.1 none) (c.in-Some-place_of.ensures.1 none) known)
