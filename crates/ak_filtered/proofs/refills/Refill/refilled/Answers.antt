use Rattle.std.proofs.Common.{◌≡◌, sym, ◌∙◌, rules, w64, SFits}
use Rattle.std.proofs.lemmas.Int.{to_z-of_z}
use Rattle.ak_filtered.proofs.RefilledRows.{refilled_in, refilled_out}
use Rattle.ak_filtered.specs.Builds.{moved_in}
use Rattle.ak_filtered.specs.Emptyings.{emptied}
use Rattle.ak_filtered.specs.HomeDecks.{flags_of}
use Rattle.ak_filtered.specs.Refills.{dues_of}
use Rattle.ak_filtered.proofs.refills.Refill.refilled.Goals as goal

pub returns-in-Some : goal.returns-in-Some
returns-in-Some c =
    let fits : SFits w64 c.args.self.now.deck = search rules in
    let gone : c.emptied-home.result ≡ emptied c.args.self.now.deck (flags_of c.args.self.now.decks.now) c.args.card = rw (to_z-of_z w64 c.args.self.now.deck fits) at c.emptied-home.ensures in
    let moved : c.moved_in.result ≡ moved_in c.args.self.now.deck c.in-Some.due c.emptied-home.result = search rules in
    refilled_in c.args.self.now.deck (flags_of c.args.self.now.decks.now) (dues_of c.args.self.now.dues.now) c.args.card c.emptied-home.result c.moved_in.result c.in-Some.due gone (sym c.requires ∙ c.in-Some.is) moved

pub returns-in-None : goal.returns-in-None
returns-in-None c =
    let fits : SFits w64 c.args.self.now.deck = search rules in
    let gone : c.emptied-home.result ≡ emptied c.args.self.now.deck (flags_of c.args.self.now.decks.now) c.args.card = rw (to_z-of_z w64 c.args.self.now.deck fits) at c.emptied-home.ensures in
    refilled_out c.args.self.now.deck (flags_of c.args.self.now.decks.now) (dues_of c.args.self.now.dues.now) c.args.card c.emptied-home.result gone (sym c.requires ∙ c.in-None.is)
