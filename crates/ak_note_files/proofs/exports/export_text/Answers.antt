use Rattle.std.proofs.Common.{◌∙◌, w64, SFits}
use Rattle.std.proofs.lemmas.Int.{to_z-of_z}
use Rattle.ak_faults.proofs.Healths.{goes_further}
use Rattle.ak_keep.proofs.Causing.{cause-ok}
use Rattle.ak_note_files.proofs.Exporting.{exported}
use Rattle.ak_note_files.proofs.exports.export_text.Goals as goal

pub returns-in_ok-text_of_notes-in-Some : goal.returns-in_ok-text_of_notes-in-Some
returns-in_ok-text_of_notes-in-Some g c =
    let fits : SFits w64 c.args.note_type = c.ranges.note_type in record {
      reads = record {
        kept = c.in_ok-notes-in-Some.ensures.reads.kept ∙ c.in_ok-fields.ensures.reads.kept;
        same = c.in_ok-notes-in-Some.ensures.reads.same ∙ c.in_ok-fields.ensures.reads.same;
        cause = cause-ok c.in_ok-text_of_notes-in-Some.field-0 (goes_further c.in_ok-fields.ensures.reads.cause.goes c.in_ok-notes-in-Some.ensures.reads.cause.goes);
        told = exported (g.K.Lookup.keeping c.args.keeper.now).told c.args.note_type c.in_ok-fields.fields c.in-Some.fields c.in_ok-notes-in-Some.notes c.in_ok-text_of_notes-in-Some.field-0.items
            (rw (to_z-of_z w64 c.args.note_type fits) at c.in_ok-fields.ensures.reads.told) c.in-Some.is
            (rw (to_z-of_z w64 c.args.note_type fits) at (rw c.in_ok-fields.ensures.reads.same at c.in_ok-notes-in-Some.ensures.reads.told))
            (rw c.as_slice.ensures at c.in_ok-text_of_notes-in-Some.ensures);
      };
    }
