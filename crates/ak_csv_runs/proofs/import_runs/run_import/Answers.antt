use Rattle.std.proofs.Common.{◌≡◌, true, w64, SFits, rules}
use Rattle.std.proofs.lemmas.Int.{to_z-of_z}
use Rattle.ak_csv_runs.proofs.ImportEnds.{comes, ran}
use Rattle.ak_csv_runs.specs.FileRuns.{FileOutside, file_outside}
use Rattle.ak_csv_runs.proofs.import_runs.run_import.Goals as goal

pub returns-clause-ends : goal.returns-clause-ends
returns-clause-ends g c =
    let fits : SFits w64 c.now-at.result = search rules in
    let a : FileOutside = file_outside (g.I.Source.left c.args.input.now) (g.K.Lookup.keeping c.args.keeper.now) (g.C.Clock.to_come c.args.clock.now) (g.O.Sink.written c.args.out.now) in
    let b : FileOutside = file_outside (g.I.Source.left c.import_notes-end.new.input) (g.K.Lookup.keeping c.import_notes-end.new.keeper) (g.C.Clock.to_come c.now-at.new.self) (g.O.Sink.written c.tell_import.new.out) in
    let held : true ≡ (g.K.Lookup.keeping c.args.keeper.now).headed.current = search rules in
    ran c.args.place.now c.tell_import.result a b held (record {
      at = c.now-at.result;
      moment = c.now-at.ensures.range;
      given = c.now-at.ensures.given;
      end = c.import_notes-end.result;
      comes = comes c.args.place.now c.now-at.result a b c.in-Ok.steps c.import_notes-end.new.steps c.import_notes-end.result c.in-Ok.ensures
          (rw (to_z-of_z w64 c.now-at.result fits) at c.import_notes-end.ensures.ok) (rw (to_z-of_z w64 c.now-at.result fits) at c.import_notes-end.ensures.refused) c.import_notes-end.ensures.same;
      input = c.import_notes-end.ensures.ended;
      told = c.tell_import.ensures.told;
    })
