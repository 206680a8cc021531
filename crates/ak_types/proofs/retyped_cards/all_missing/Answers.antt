use Rattle.std.proofs.Common.{refl, ◌∙◌}
use Rattle.std.proofs.lemmas.Result.{err_from_is_err_and}
use Rattle.ak_faults.proofs.Healths.{goes_further, goes_nowhere}
use Rattle.ak_notes.specs.declared.lacking_notes.MissingCards.{MissingCards}
use Rattle.ak_types.proofs.MissingAll.{all_answers, all_start, place_end, place_lacks, place_one}
use Rattle.ak_types.proofs.retyped_cards.all_missing.Goals as goal

pub loop-note-init : goal.loop-note-init
loop-note-init g c =
    let made : MissingCards = record { cards = c.new.result; next = c.args.next } in
    record {
      same = refl;
      ready = c.requires.ready;
      more = all_start (g.K.Lookup.keeping c.args.keeper.now) c.args.lacking.now made c.new.ensures;
      goes = goes_nowhere (g.K.Lookup.health c.args.keeper.now);
    }

pub loop-note-preserved : goal.loop-note-preserved
loop-note-preserved g c = record {
  same = c.add_missing.ensures.same ∙ c.loop-note.invariant.same;
  ready = c.in_ok-made.ensures.ready;
  more = place_one (g.K.Lookup.keeping c.args.keeper.now) c.args.lacking.now c.args.next c.note-item.result c.loop-note.note-index c.loop-note.made c.in_ok-made.made
      (rw c.as_slice-note-items.ensures at c.loop-note-test.true) (rw c.as_slice-note-items.ensures at c.note-item.is) c.loop-note.invariant.more (rw c.loop-note.invariant.same at c.in_ok-made.ensures.made);
  goes = goes_further c.loop-note.invariant.goes c.add_missing.ensures.cause.goes;
}

pub returns-in_err-made-clause-refused : goal.returns-in_err-made-clause-refused
returns-in_err-made-clause-refused g c =
    let p = err_from_is_err_and c.from_residual.result c.from_residual.ensures.1 in
    rw (p.1, p.2) (place_lacks (g.K.Lookup.keeping c.args.keeper.now) c.args.lacking.now c.args.next c.note-item.result c.loop-note.note-index c.loop-note.made c.in_err-made.field-0.0
    (rw c.as_slice-note-items.ensures at c.loop-note-test.true) (rw c.as_slice-note-items.ensures at c.note-item.is) c.loop-note.invariant.more (rw c.loop-note.invariant.same at c.in_err-made.ensures.refused))

pub returns-clause-made : goal.returns-clause-made
returns-clause-made g c =
    place_end (g.K.Lookup.keeping c.args.keeper.now) c.args.lacking.now c.args.next c.loop-note.note-index c.loop-note.made (rw c.as_slice-note-items.ensures at c.loop-note-test.false) c.loop-note.invariant.more

pub returns-clause-refused : goal.returns-clause-refused
returns-clause-refused g c =
    let k = g.K.Lookup.keeping c.args.keeper.now in
    all_answers k c.args.lacking.now c.args.next c.loop-note.made
    (place_end k c.args.lacking.now c.args.next c.loop-note.note-index c.loop-note.made (rw c.as_slice-note-items.ensures at c.loop-note-test.false) c.loop-note.invariant.more)
