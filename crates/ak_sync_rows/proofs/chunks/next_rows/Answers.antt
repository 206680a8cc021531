use Rattle.std.specs.Prelude.{◌≡◌, List, ◌++◌}
use Rattle.std.proofs.Common.{sym, ap, subst, ◌∙◌}
use Rattle.ak_base.specs.declared.rows.Row.{Row}
use Rattle.ak_faults.proofs.Healths.{goes_further}
use Rattle.ak_keep.proofs.Causing.{cause-ok}
use Rattle.ak_sync_rows.specs.Chunks.{AreChunked, IsSlice, ahead_of}
use Rattle.ak_sync_rows.proofs.Pages.{told_thrice}
use Rattle.ak_sync_rows.proofs.Placing.{slice_of}
use Rattle.ak_sync_rows.proofs.chunks.next_rows.Goals as goal

pub returns : goal.returns
returns g c = record {
  reads = record {
    kept = c.in_ok-given-3.ensures.reads.kept ∙ c.in_ok-given-2.ensures.reads.kept ∙ c.in_ok-given.ensures.reads.kept;
    same = c.in_ok-given-3.ensures.reads.same ∙ c.in_ok-given-2.ensures.reads.same ∙ c.in_ok-given.ensures.reads.same;
    cause = cause-ok _ (goes_further (goes_further c.in_ok-given.ensures.reads.cause.goes c.in_ok-given-2.ensures.reads.cause.goes) c.in_ok-given-3.ensures.reads.cause.goes);
    told = told_thrice (g.K.Lookup.keeping c.args.from.now) (g.K.Lookup.keeping c.read_more.new.from) (g.K.Lookup.keeping c.read_more-2.new.from)
        (λ h. c.new-rows.result.items ++ ahead_of c.args.want c.args.given h.rows ≡ c.read_more.new.rows.items ++ ahead_of c.args.want c.in_ok-given.given h.rows)
        (λ h. c.read_more.new.rows.items ++ ahead_of c.args.want c.in_ok-given.given h.rows ≡ c.read_more-2.new.rows.items ++ ahead_of c.args.want c.in_ok-given-2.given h.rows)
        (λ h. c.read_more-2.new.rows.items ++ ahead_of c.args.want c.in_ok-given-2.given h.rows ≡ c.read_more-3.new.rows.items ++ ahead_of c.args.want c.in_ok-given-3.given h.rows)
        (λ h. IsSlice (ahead_of c.args.want c.args.given h.rows) c.read_more-3.new.rows.items (ahead_of c.args.want c.in_ok-given-3.given h.rows))
        c.in_ok-given.ensures.reads.same c.in_ok-given-2.ensures.reads.same
        (λ h one two three. slice_of c.args.want c.args.given c.in_ok-given.given c.in_ok-given-2.given c.in_ok-given-3.given h.rows c.read_more.new.rows.items c.read_more-2.new.rows.items c.read_more-3.new.rows.items
        (ap (λ (rows : List Row). rows ++ ahead_of c.args.want c.args.given h.rows) (sym c.new-rows.ensures.items) ∙ one) two three
        c.in_ok-given.ensures.moved c.in_ok-given-2.ensures.moved c.in_ok-given-3.ensures.moved c.in_ok-given-2.ensures.longer c.in_ok-given-3.ensures.longer c.in_ok-given-3.ensures.short)
        c.in_ok-given.ensures.reads.told c.in_ok-given-2.ensures.reads.told c.in_ok-given-3.ensures.reads.told;
  };
  short = c.in_ok-given-3.ensures.short;
  chunked = c.in_ok-given-3.ensures.chunked (c.in_ok-given-2.ensures.chunked (c.in_ok-given.ensures.chunked
      (subst AreChunked (sym c.new-rows.ensures.items) tt)));
}
