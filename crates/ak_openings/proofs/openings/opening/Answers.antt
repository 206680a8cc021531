use Rattle.std.proofs.Common.{rules, w64, SFits, pos}
use Rattle.std.proofs.lemmas.Int.{to_z-of_z}
use Rattle.std.specs.Prelude.{int_div}
use Rattle.ak_openings.proofs.Numbered.{numbered}
use Rattle.ak_openings.proofs.OpeningHeads.{head_within, second_within}
use Rattle.ak_openings.proofs.OpeningRows.{rows_are_apart, rows_pass}
use Rattle.ak_openings.proofs.openings.opening.Goals as goal
use Rattle.ak_openings.specs.Openings.{AreOpeningRows, IsOpeningHead, row_usn}

pub returns-clause-is : goal.returns-clause-is
returns-clause-is c =
    record { head = search rules; rows_are = numbered _ _ _ _ _ c.in_ok-rows.ensures (search rules) (search rules) }

pub returns-clause-checked : goal.returns-clause-checked
returns-clause-checked c =
    let rows : AreOpeningRows (int_div c.args.ms (pos 1_000)) (row_usn c.args.unsent) c.in_ok-rows.rows =
    numbered _ _ _ _ _ c.in_ok-rows.ensures (search rules) (search rules) in
    rows_pass c.args.unsent _ _ (second_within c.args.ms c.requires.moment) rows

pub returns-clause-distinct : goal.returns-clause-distinct
returns-clause-distinct c = rows_are_apart _ _ _ c.in_ok-rows.ensures

pub returns-clause-range : goal.returns-clause-range
returns-clause-range c =
    let at : SFits w64 c.args.ms = search rules in
    let head : IsOpeningHead c.args.ms c.args.unsent c.in_ok-head.head = rw (to_z-of_z w64 c.args.ms at) at c.in_ok-head.ensures in
    head_within c.args.unsent c.args.ms _ c.requires.moment head
