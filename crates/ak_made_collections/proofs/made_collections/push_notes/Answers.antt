use Rattle.std.proofs.Common.{ℕ, pos, ◌≤ℤ◌, ap, subst, arith}
use Rattle.ak_base.specs.Rows.{IsChecked}
use Rattle.ak_base.specs.declared.notes.Note.{Note}
use Rattle.ak_base.specs.declared.rows.Row.TheVariants as rows
use Rattle.ak_base.specs.declared.rows.Row.{Row}
use Rattle.ak_made_collections.proofs.CheckedNotes.{note_passes}
use Rattle.ak_made_collections.proofs.Runs.{each_and_more, one_more}
use Rattle.ak_made_collections.proofs.made_collections.push_notes.Goals as goal
use Rattle.ak_made_collections.specs.MadeNotes.{made_note}

pub loop-number-preserved : goal.loop-number-preserved
loop-number-preserved c =
    let make : ℕ → Row = λ number. rows.Note (made_note c.args.seed number) in
    let sum = subst (λ (note : Note). note.csum ≤ℤ pos 4_294_967_295) c.in_ok-note.ensures.is c.in_ok-note.ensures.sum in (
      one_more make c.loop-number.number c.args.rows.now.items c.loop-number.rows.items c.push.new.self.items (rows.Note c.in_ok-note.note)
          c.in_ok-push.ensures.items (ap rows.Note c.in_ok-note.ensures.is) c.loop-number.invariant.0,
      each_and_more IsChecked make c.loop-number.number c.loop-number.invariant.1
          (note_passes c.args.seed c.loop-number.number (omega (arith, c.loop-number-test.true, c.requires)) sum),
    )
