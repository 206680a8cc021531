use Rattle.std.proofs.Common.{ap, refl}
use Rattle.std.specs.Prelude.{None}
use Rattle.ak_keep.proofs.Causing.{cause-ok}
use Rattle.ak_search.specs.Grammar.{pieces_in}
use Rattle.ak_search.specs.declared.searches.Search.{Search}
use Rattle.ak_search.proofs.Telling.{search_made}
use Rattle.ak_search.proofs.searches.Search.over.Goals as goal

pub returns : goal.returns
returns g c =
    let read = c.in_ok-answers.ensures.reads in
    let search : Search = record {
      tokens = c.deref-tokens.result;
      context = record { alloc = c.args.alloc; day = c.args.day; answers = c.in_ok-answers.answers };
      latest = c.nothing.result;
      by_note = c.ask_notes_alone.result;
      verdict = None;
    } in
    record {
      reads = record {
        kept = read.kept;
        same = read.same;
        cause = cause-ok search read.cause.goes;
        told = search_made (g.R.Lookup.keeping c.args.from.now).told search (pieces_in c.args.expr.now.tokens.items) (ap pieces_in c.deref-tokens.ensures.value) c.nothing.ensures c.ask_notes_alone.ensures refl (rw c.deref-tokens.ensures.value at read.told);
      };
    }
