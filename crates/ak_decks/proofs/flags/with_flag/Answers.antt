use Rattle.std.proofs.Common.{ℤ, ap}
use Rattle.ak_base.specs.declared.cards.Card.{Card}
use Rattle.ak_decks.proofs.FlaggedCards.{flags_computed, flags_of_checked}
use Rattle.ak_decks.proofs.flags.with_flag.Goals as goal

pub returns : goal.returns
returns c =
    ap (λ (flags : ℤ). let made : Card = record c.args.card { flags = flags } in made)
    (flags_computed c.args.card.flags c.args.value (flags_of_checked c.args.card c.requires.checked) c.requires.value)
