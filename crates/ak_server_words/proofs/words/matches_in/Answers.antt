use Rattle.std.proofs.Common.{◌∙◌, ap}
use Rattle.clap.specs.Simple.{App, is_simple, matches_of}
use Rattle.ak_server_words.specs.Words.{word_texts}
use Rattle.ak_server_words.proofs.CommandFacts.{ankid_is_simple}
use Rattle.ak_server_words.proofs.words.matches_in.Goals as goal

pub returns-in-Ok-try_get_matches_from-clause-rows : goal.returns-in-Ok-try_get_matches_from-clause-rows
returns-in-Ok-try_get_matches_from-clause-rows c =
    let found = c.in-Ok-try_get_matches_from.ensures.matches (ap is_simple c.in-Ok.ensures ∙ ankid_is_simple) in
    found.0 ∙ ap (λ (app : App). matches_of app (word_texts c.args.words.now)) c.in-Ok.ensures
