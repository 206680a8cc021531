use Rattle.ak_keep.proofs.Causing.{cause-ok}
use Rattle.ak_search.proofs.Telling.{texts_told}
use Rattle.ak_search.proofs.related.Latest.turn_to_texts.Goals as goal

pub returns : goal.returns
returns g c =
    let turned = c.in_ok-turn_to_note.ensures.reads in
    record {
      reads = record {
        kept = turned.kept;
        same = turned.same;
        cause = cause-ok tt turned.cause.goes;
        told = texts_told (g.R.Lookup.keeping c.args.from.now).told c.args.self.now c.turn_to_note.new.self c.strip_fields.new.self c.args.card.now c.strip_fields.ensures.same c.in_ok-strip_fields.ensures.texts turned.told;
      };
    }
