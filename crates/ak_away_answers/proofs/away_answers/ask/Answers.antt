use Rattle.std.specs.Prelude.{IfSome, Option}
use Rattle.std.proofs.Common.{◌≡◌, ◌∙◌, false, true, rules, subst, w64, SFits}
use Rattle.std.proofs.lemmas.Int.{to_z-of_z}
use Rattle.ak_away_answers.proofs.AnyEnds.{away_asked, home_asked, none_asked}
use Rattle.ak_base.specs.Cards.{IsCheckedCard}
use Rattle.ak_base.specs.declared.cards.Card.{Card}
use Rattle.ak_faults.proofs.Healths.{goes_further}
use Rattle.ak_filtered.specs.HomeDecks.{is_away}
use Rattle.ak_keep.proofs.Causing.{cause-ok}
use Rattle.ak_away_answers.proofs.away_answers.ask.Goals as goal

pub returns-in_default-clause-reads : goal.returns-in_default-clause-reads
returns-in_default-clause-reads g c =
    let id : SFits w64 c.args.id = c.ranges.id in
    let read = c.in_ok-found.ensures.reads in
    record {
      kept = read.kept;
      same = read.same;
      cause = cause-ok _ read.cause.goes;
      told = none_asked (g.K.Lookup.keeping c.args.keeper.now) c.args.at c.args.id c.in_ok-found.found (search rules) (rw (to_z-of_z w64 c.args.id id) at read.told);
    }

pub returns-then-not-is_away-clause-reads : goal.returns-then-not-is_away-clause-reads
returns-then-not-is_away-clause-reads g c =
    let id : SFits w64 c.args.id = c.ranges.id in
    let read = c.in_ok-found.ensures.reads in
    let home : is_away c.in-Some.card ≡ false = search rules in
    record {
      kept = read.kept;
      same = read.same;
      cause = cause-ok _ read.cause.goes;
      told = home_asked (g.K.Lookup.keeping c.args.keeper.now) c.args.at c.args.id c.in_ok-found.found c.in-Some.card c.in-Some.is home (rw (to_z-of_z w64 c.args.id id) at read.told);
    }

pub returns-clause-reads : goal.returns-clause-reads
returns-clause-reads g c =
    let at : SFits w64 c.args.at = c.ranges.at in
    let id : SFits w64 c.args.id = c.ranges.id in
    let read = c.in_ok-found.ensures.reads in
    let day = c.in_ok-day.ensures.reads in
    let away : is_away c.in-Some.card ≡ true = search rules in
    record {
      kept = day.kept ∙ read.kept;
      same = day.same ∙ read.same;
      cause = cause-ok _ (goes_further read.cause.goes day.cause.goes);
      told = away_asked (g.K.Lookup.keeping c.args.keeper.now) c.args.at c.args.id c.in_ok-found.found (record { card = c.in-Some.card; day = c.in_ok-day.day }) c.in-Some.is away
          (rw (to_z-of_z w64 c.args.id id) at read.told) (rw (read.same, to_z-of_z w64 c.args.at at) at day.told);
    }

pub returns-clause-checked : goal.returns-clause-checked
returns-clause-checked g c =
    let card : IsCheckedCard c.in-Some.card = subst (λ (o : Option Card). IfSome o IsCheckedCard) c.in-Some.is (c.in_ok-found.ensures.checked c.marked-checks.ensures.checks) in
    (card, c.in_ok-day.ensures.day)
