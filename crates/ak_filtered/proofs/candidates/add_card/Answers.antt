use Rattle.std.proofs.Common.{◌≡◌, sym, ap, ◌∙◌, true, false, rules, w64, SFits}
use Rattle.std.proofs.lemmas.Int.{to_z-of_z}
use Rattle.ak_base.specs.declared.cards.Card.{Card}
use Rattle.ak_filtered.proofs.CardsPut.{card_put}
use Rattle.ak_filtered.proofs.RefilledRows.{home_then, stays_then}
use Rattle.ak_filtered.proofs.Told.{ok_map}
use Rattle.ak_filtered.specs.Emptyings.{is_away_in}
use Rattle.ak_filtered.specs.HomeDecks.{flags_of, gone_home}
use Rattle.ak_filtered.proofs.candidates.add_card.Goals as goal

pub returns-then-is_away_in : goal.returns-then-is_away_in
returns-then-is_away_in g c =
    let fits : SFits w64 c.args.sieve.now.deck = search rules in
    let away : is_away_in c.args.sieve.now.deck c.args.card.now ≡ true = sym (rw (to_z-of_z w64 c.args.sieve.now.deck fits) at c.is_away_in.ensures) ∙ c.if-is_away_in.true in
    let home : c.gone_home-home.result ≡ gone_home (flags_of c.args.sieve.now.decks.now) c.args.card.now =
    c.gone_home-home.ensures ∙ ap (gone_home (flags_of c.args.sieve.now.decks.now)) c.in_ok-copy.ensures in
    record {
      reads = record {
        kept = c.add_candidate.ensures.reads.kept;
        same = c.add_candidate.ensures.reads.same;
        cause = c.add_candidate.ensures.reads.cause;
        told = ok_map c.add_candidate.result _ _ (λ done. card_put (g.R.Lookup.keeping c.args.from.now).told c.args.sieve.now c.args.search.now c.add_candidate.new.search c.args.keys.now.keys c.add_candidate.new.keys.keys
            c.args.card.now c.gone_home-home.result (home_then c.args.sieve.now.deck (flags_of c.args.sieve.now.decks.now) c.args.card.now c.gone_home-home.result away home)) c.add_candidate.ensures.reads.told;
      };
    }

pub returns : goal.returns
returns g c =
    let fits : SFits w64 c.args.sieve.now.deck = search rules in
    let there : is_away_in c.args.sieve.now.deck c.args.card.now ≡ false = sym (rw (to_z-of_z w64 c.args.sieve.now.deck fits) at c.is_away_in.ensures) ∙ c.if-is_away_in.false in
    record {
      reads = record {
        kept = c.add_candidate-2.ensures.reads.kept;
        same = c.add_candidate-2.ensures.reads.same;
        cause = c.add_candidate-2.ensures.reads.cause;
        told = ok_map c.add_candidate-2.result _ _ (λ done. card_put (g.R.Lookup.keeping c.args.from.now).told c.args.sieve.now c.args.search.now c.add_candidate-2.new.search c.args.keys.now.keys c.add_candidate-2.new.keys.keys
            c.args.card.now c.args.card.now (stays_then c.args.sieve.now.deck (flags_of c.args.sieve.now.decks.now) c.args.card.now there)) c.add_candidate-2.ensures.reads.told;
      };
    }
