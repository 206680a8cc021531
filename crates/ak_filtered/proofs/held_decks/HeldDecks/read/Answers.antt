use Rattle.std.proofs.Common.{ap, ◌∙◌, subst}
use Rattle.ak_keep.proofs.Causing.{cause-ok}
use Rattle.ak_filtered.proofs.DeckFlags.{flags_read}
use Rattle.ak_filtered.specs.HeldDecks.{flags_in}
use Rattle.ak_filtered.proofs.held_decks.HeldDecks.read.Goals as goal

pub returns : goal.returns
returns g c = record {
  reads = record {
    kept = c.in_ok-decks.ensures.reads.kept;
    same = c.in_ok-decks.ensures.reads.same;
    cause = cause-ok _ c.in_ok-decks.ensures.reads.cause.goes;
    told = flags_read (g.K.Lookup.keeping c.args.keeper.now) c.in_ok-decks.decks c.in_ok-held.held (c.held-formed.ensures.formed c.marked-checks.ensures.checks)
        (c.in_ok-held.ensures ∙ ap flags_in c.as_slice.ensures) c.in_ok-decks.ensures.reads.told;
  };
}
