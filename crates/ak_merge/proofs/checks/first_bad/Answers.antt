use Rattle.ak_base.specs.declared.names.Table.TheVariants as tables
use Rattle.ak_merge.proofs.CheckTold.{first_read, links_in_table, of_cards, of_notes}
use Rattle.ak_merge.specs.Soundness.{table_of}
use Rattle.ak_merge.proofs.checks.first_bad.Goals as goal

pub returns-in-CardNote : goal.returns-in-CardNote
returns-in-CardNote g c =
    let reads = c.bad_among.ensures.reads in
    let links = c.args.links.now in
    record {
      reads = record {
        kept = reads.kept;
        same = reads.same;
        cause = reads.cause;
        told = first_read (g.L.Lookup.keeping c.args.from.now) c.args.part c.deref.result.now links c.bad_among.result
            (λ held are. links_in_table (table_of c.args.part) tables.Card held c.deref.result.now links.cards.items (of_cards c.args.part c.in-CardNote.is) c.deref.ensures.value are.cards) reads.told;
      };
    }

pub returns-in-NoteCard : goal.returns-in-NoteCard
returns-in-NoteCard g c =
    let reads = c.bad_among-in-NoteCard.ensures.reads in
    let links = c.args.links.now in
    record {
      reads = record {
        kept = reads.kept;
        same = reads.same;
        cause = reads.cause;
        told = first_read (g.L.Lookup.keeping c.args.from.now) c.args.part c.deref-in-NoteCard.result.now links c.bad_among-in-NoteCard.result
            (λ held are. links_in_table (table_of c.args.part) tables.Note held c.deref-in-NoteCard.result.now links.notes.items (of_notes c.args.part c.in-NoteCard.is) c.deref-in-NoteCard.ensures.value are.notes) reads.told;
      };
    }
