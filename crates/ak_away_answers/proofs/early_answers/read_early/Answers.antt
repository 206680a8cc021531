use Rattle.std.proofs.Common.{◌≡◌, ◌∙◌, sym, subst, ap, w64, SFits}
use Rattle.std.proofs.lemmas.Int.{to_z-of_z}
use Rattle.ak_away_answers.proofs.EarlyChecks.{card_passes, early_columns, options_read, own_id, review_passes}
use Rattle.ak_away_answers.proofs.EarlyEnds.{made_told}
use Rattle.ak_base.specs.Cards.{IsCheckedCard}
use Rattle.ak_base.specs.Reviews.{IsCheckedReview}
use Rattle.ak_base.specs.declared.cards.Card.{Card}
use Rattle.ak_base.specs.declared.reviews.Review.{Review}
use Rattle.ak_faults.proofs.Healths.{goes_further}
use Rattle.ak_filtered.proofs.GoneHome.{home_checked}
use Rattle.ak_filtered.specs.HomeDecks.{flags_of, gone_home}
use Rattle.ak_keep.proofs.Causing.{cause-ok}
use Rattle.ak_away_answers.proofs.early_answers.read_early.Goals as goal

pub card_early-made-requires-clause-options : goal.card_early-made-requires-clause-options
card_early-made-requires-clause-options g c = options_read c.in_ok-options.options c.in_ok-options.ensures.checked

pub card_early-made-requires-clause-card : goal.card_early-made-requires-clause-card
card_early-made-requires-clause-card g c = early_columns c.args.asked.now.card c.requires.card

pub review_early-review-requires-clause-options : goal.review_early-review-requires-clause-options
review_early-review-requires-clause-options g c = options_read c.in_ok-options.options c.in_ok-options.ensures.checked

pub review_early-review-requires-clause-card : goal.review_early-review-requires-clause-card
review_early-review-requires-clause-card g c = early_columns c.args.asked.now.card c.requires.card

pub returns-clause-reads : goal.returns-clause-reads
returns-clause-reads g c =
    let fits : SFits w64 c.args.id = c.ranges.id in
    let decks = c.in_ok-decks.ensures.reads in
    let own = c.in_ok-options.ensures.reads in
    record {
      kept = own.kept ∙ decks.kept;
      same = own.same ∙ decks.same;
      cause = cause-ok _ (goes_further decks.cause.goes own.cause.goes);
      told = made_told (g.K.Lookup.keeping c.args.keeper.now) c.args.id c.args.given.now c.args.asked.now c.in_ok-decks.decks c.gone_home-home.result c.in_ok-options.options
          (record { made = c.card_early-made.result; review = c.review_early-review.result }) (c.gone_home-home.ensures ∙ ap (gone_home (flags_of c.in_ok-decks.decks)) c.in_ok-card.ensures) c.card_early-made.ensures
          (rw (to_z-of_z w64 c.args.id fits) at c.review_early-review.ensures) decks.told (rw decks.same at own.told);
    }

pub returns-clause-card : goal.returns-clause-card
returns-clause-card g c =
    let card : IsCheckedCard c.in_ok-card.card = subst (λ (x : Card). IsCheckedCard x) (sym c.in_ok-card.ensures) c.requires.card in
    let home : IsCheckedCard c.gone_home-home.result = subst (λ (x : Card). IsCheckedCard x) (sym c.gone_home-home.ensures) (home_checked (flags_of c.in_ok-decks.decks) c.in_ok-card.card card) in
    subst (λ (x : Card). IsCheckedCard x) (sym c.card_early-made.ensures)
    (card_passes c.in_ok-options.options c.args.asked.now c.args.given.now.button c.gone_home-home.result (options_read c.in_ok-options.options c.in_ok-options.ensures.checked) c.requires.day home)

pub returns-clause-review : goal.returns-clause-review
returns-clause-review g c = λ own.
    let fits : SFits w64 c.args.id = c.ranges.id in
    subst (λ (x : Review). IsCheckedReview x) (sym (rw (to_z-of_z w64 c.args.id fits) at c.review_early-review.ensures))
    (review_passes c.args.id c.args.given.now c.in_ok-options.options c.args.asked.now.day c.args.asked.now.card (options_read c.in_ok-options.options c.in_ok-options.ensures.checked)
    (early_columns c.args.asked.now.card c.requires.card) c.requires.button own (own_id c.args.asked.now.card c.requires.card))
