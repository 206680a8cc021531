use Rattle.std.proofs.Common.{◌≡◌, ◌∙◌, of_z, rules, to_z, w64}
use Rattle.std.proofs.lemmas.Result.{IfOk-weaker}
use Rattle.ak_faults.proofs.Healths.{cause_after}
use Rattle.ak_search.proofs.Telling.{both_told}
use Rattle.ak_search.proofs.related.Latest.turn_to_note.Goals as goal

pub returns : goal.returns
returns g c =
    let note = c.in_ok-look_up_note.ensures.reads in
    let id : to_z w64 (of_z w64 c.args.card.now.nid) ≡ c.args.card.now.nid = search rules in
    let note_type = c.look_up_type.ensures.reads in
    record {
      reads = record {
        kept = note_type.kept ∙ note.kept;
        same = note_type.same ∙ note.same;
        cause = cause_after note.cause.goes note_type.cause;
        told = IfOk-weaker c.look_up_type.result _ _
            (λ _. both_told (g.R.Lookup.keeping c.args.from.now).told c.args.self.now c.look_up_note.new.self c.look_up_type.new.self c.args.card.now (rw id at note.told))
            (rw note.same at note_type.told);
      };
    }
