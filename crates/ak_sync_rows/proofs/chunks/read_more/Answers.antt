use Rattle.std.specs.Prelude.{◌≡◌, ◌-◌, List, ◌++◌, length}
use Rattle.std.proofs.Common.{sym, ap, ◌∙◌, rules, w64, SFits}
use Rattle.std.proofs.lemmas.Int.{to_z-of_z}
use Rattle.ak_base.specs.declared.rows.Row.{Row}
use Rattle.ak_keep.specs.Collections.{IsPageOf, wanted_past}
use Rattle.ak_keep.proofs.Causing.{cause-ok}
use Rattle.ak_keep.proofs.Told.{where_told-map}
use Rattle.ak_sync_rows.specs.Chunks.{ahead_of, place_after}
use Rattle.ak_sync_rows.proofs.Placing.{more_chunked, read_on}
use Rattle.ak_sync_rows.proofs.chunks.read_more.Goals as goal

pub returns-clause-reads : goal.returns-clause-reads
returns-clause-reads g c =
    let fits : SFits w64 c.args.given.id = search rules in
    record {
      kept = c.in_ok-page.ensures.reads.kept;
      same = c.in_ok-page.ensures.reads.same;
      cause = cause-ok c.place_after-after.result c.in_ok-page.ensures.reads.cause.goes;
      told = where_told-map (g.K.Lookup.keeping c.args.from.now)
          (λ h. IsPageOf (λ past. wanted_past c.args.given.table c.args.want past h.rows) c.args.given.id (250 - length c.as_slice.result.now) c.in_ok-page.page)
          (λ h. c.args.rows.now.items ++ ahead_of c.args.want c.args.given h.rows ≡ c.append_page.new.rows.items ++ ahead_of c.args.want c.place_after-after.result h.rows)
          (λ h paged. read_on c.args.want c.args.given c.place_after-after.result h.rows (250 - length c.as_slice.result.now) c.args.rows.now.items c.append_page.new.rows.items c.in_ok-page.page
          (sym c.if-not-is_chunked.ensures) paged (c.place_after-after.ensures ∙ ap (λ (page : List Row). place_after c.args.given page (250 - length c.as_slice.result.now)) c.as_slice-2.ensures) c.in_ok-append_page.ensures.ok)
          (rw (to_z-of_z w64 c.args.given.id fits) at c.in_ok-page.ensures.reads.told);
    }

pub returns-clause-chunked : goal.returns-clause-chunked
returns-clause-chunked g c = λ before.
    more_chunked c.args.given.table _ c.args.rows.now.items c.append_page.new.rows.items c.in_ok-page.page (sym c.if-not-is_chunked.ensures)
    c.in_ok-page.ensures.ascends c.in_ok-append_page.ensures.ok before
