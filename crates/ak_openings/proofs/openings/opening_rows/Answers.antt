use Rattle.std.proofs.Common.{rules}
use Rattle.ak_openings.proofs.openings.opening_rows.Goals as goal

-- src/openings.rt:31:1
pub returns : goal.returns
returns c =
    record {
      are = (
        c.in_ok-basic.basic,
        c.in_ok-cloze.cloze,
        c.in_ok-reversed.reversed,
        c.in_ok-deck.deck,
        c.in_ok-options.options,
        search rules,
        record { is_basic = search rules; is_cloze = search rules; is_reversed = search rules; is_deck = search rules; are_options = search rules },
      );
    }
