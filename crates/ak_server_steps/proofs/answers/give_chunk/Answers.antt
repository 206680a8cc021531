use Rattle.std.proofs.Common.{rules, w64, SFits}
use Rattle.std.proofs.lemmas.Int.{to_z-of_z}
use Rattle.ak_keep.proofs.Causing.{cause-ok}
use Rattle.ak_keep.proofs.Told.{where_told-map}
use Rattle.ak_keep.specs.declared.keepers.Wanted.TheVariants.{From}
use Rattle.ak_sync_rows.specs.Chunks.{IsSlice, ahead_of}
use Rattle.ak_server_steps.specs.Answers.{IsNextChunk}
use Rattle.ak_server_steps.proofs.NextChunk.{next_chunk}
use Rattle.ak_server_steps.proofs.answers.give_chunk.Goals as goal

pub returns : goal.returns
returns g c =
    let fits : SFits w64 c.args.live.least_usn = search rules in
    record {
      reads = record {
        kept = c.in_ok-rows.ensures.reads.kept;
        same = c.in_ok-rows.ensures.reads.same;
        cause = cause-ok c.give_answer.result c.in_ok-rows.ensures.reads.cause.goes;
        told = where_told-map (g.K.Lookup.keeping c.args.keeper.now)
            (λ h. IsSlice (ahead_of (From c.args.live.least_usn) c.args.live.given h.rows) c.in_ok-rows.rows.items (ahead_of (From c.args.live.least_usn) c.in_ok-rows.given h.rows))
            (λ h. IsNextChunk h.rows c.args.live c.give_answer.result)
            (λ h slice. next_chunk h.rows c.args.live c.in_ok-rows.rows.items c.in_ok-chunk.chunk c.in_ok-rows.given c.give_answer.result
            c.in_ok-chunk.ensures c.give_answer.ensures slice)
            (rw (to_z-of_z w64 c.args.live.least_usn fits) at c.in_ok-rows.ensures.reads.told);
      };
    }
