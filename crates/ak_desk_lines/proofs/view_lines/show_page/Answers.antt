use Rattle.std.proofs.Common.{refl, w64, SFits}
use Rattle.std.proofs.lemmas.Int.{to_z-of_z}
use Rattle.ak_desk_lines.proofs.ShownPages.{page_ends, page_line}
use Rattle.ak_desk_lines.specs.DeskStates.{state_of}
use Rattle.ak_desk_lines.proofs.view_lines.show_page.Goals as goal

pub returns-clause-ends : goal.returns-clause-ends
returns-clause-ends g c =
    rw (c.shown.ensures)
    (page_line c.args.turn c.args.card c.args.back (state_of g.K.Lookup c.args.desk.now) _ c.card_page.result c.card_page.ensures.listed c.card_page.ensures.same refl)

pub returns-clause-shows : goal.returns-clause-shows
returns-clause-shows g c =
    let card : SFits w64 c.args.card = c.ranges.card in
    rw (c.shown.ensures)
    (page_ends (g.K.Lookup.keeping c.args.desk.now.keeper.now) c.args.card c.args.back _ _ c.card_page.result
    (rw (to_z-of_z w64 c.args.card card) at c.card_page.ensures.ok) (rw (to_z-of_z w64 c.args.card card) at c.card_page.ensures.refused) c.card_page.ensures.kinds)
