use Rattle.std.proofs.Common.{sym, ◌∙◌, w64, SFits}
use Rattle.std.proofs.lemmas.Int.{to_z-of_z}
use Rattle.ak_faults.proofs.Healths.{goes_further}
use Rattle.ak_types.proofs.UsedTypes.{page_found}
use Rattle.ak_types.proofs.used_types.has_notes.Goals as goal

pub returns-then-has_note : goal.returns-then-has_note
returns-then-has_note g c =
    let fits : SFits w64 c.args.note_type = c.ranges.note_type in
    record {
      reads = record {
        kept = c.in_ok-page.ensures.reads.kept ∙ c.pages.invariant.kept;
        same = c.in_ok-page.ensures.reads.same ∙ c.pages.invariant.same;
        cause = record {
          goes = goes_further c.pages.invariant.goes c.in_ok-page.ensures.reads.cause.goes;
          failed = λ is. absurd (cc);
          unfailed = λ _ is. absurd (cc);
        };
        told = page_found (g.K.Lookup.keeping c.args.keeper.now) c.args.note_type c.pages.walk c.next.new.self c.in_ok-page.page (sym (rw (c.as_slice.ensures, to_z-of_z w64 c.args.note_type fits) at c.has_note.ensures) ∙ c.if-has_note.true)
            (rw (to_z-of_z w64 c.args.note_type fits) at c.pages.invariant.ahead) (rw c.pages.invariant.same at c.in_ok-page.ensures.reads.told);
      };
    }
