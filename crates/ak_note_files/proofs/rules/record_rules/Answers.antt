use Rattle.std.proofs.Common.{◌∙◌, w64, SFits, rules}
use Rattle.std.proofs.lemmas.Int.{to_z-of_z}
use Rattle.std.specs.BTreeSet.{contains_text}
use Rattle.ak_faults.proofs.Healths.{goes_further}
use Rattle.ak_keep.proofs.Causing.{cause-ok}
use Rattle.ak_note_files.proofs.RecordRules.{rules_told}
use Rattle.ak_note_files.proofs.rules.record_rules.Goals as goal

pub returns : goal.returns
returns g c =
    let fits : SFits w64 c.args.place.now.note_type = search rules in record {
      reads = record {
        kept = c.in_ok-guids.ensures.reads.kept ∙ c.in_ok-fields.ensures.reads.kept;
        same = c.in_ok-guids.ensures.reads.same ∙ c.in_ok-fields.ensures.reads.same;
        cause = cause-ok _ (goes_further c.in_ok-fields.ensures.reads.cause.goes c.in_ok-guids.ensures.reads.cause.goes);
        told = rules_told (g.R.Lookup.keeping c.args.from.now).told c.args.place.now.note_type c.in_ok-fields.fields c.own_type-own.result c.in_ok-guids.guids (contains_text c.in_ok-others.others)
            (rw (to_z-of_z w64 c.args.place.now.note_type fits) at c.in_ok-fields.ensures.reads.told) (rw (to_z-of_z w64 c.args.place.now.note_type fits) at c.own_type-own.ensures)
            (rw c.in_ok-fields.ensures.reads.same at c.in_ok-guids.ensures.reads.told) (rw c.as_slice.ensures at c.in_ok-others.ensures);
      };
    }
