use Rattle.std.proofs.Common.{◌∙◌, ap, [], codes, unwrap_or}
use Rattle.clap.specs.Matches.{found_of}
use Rattle.clap.specs.Walk.{first_of, one_of}
use Rattle.clap.proofs.WalkLemmas.{first_value-rows, one_text-rows}
use Rattle.ak_server_words.proofs.CommandFacts.{joined}
use Rattle.ak_server_words.proofs.words.server_words.Goals as goal

pub returns-clause-ok : goal.returns-clause-ok
returns-clause-ok c =
    let m = c.in_ok-matches.ensures in
    let found = found_of c.in_ok-matches.matches in
    joined c.said.result _ _ _ _
    (λ said listen accounts turns. record {
      taken = m.taken;
      listen = listen ∙ ap (λ value. unwrap_or value []) (first_value-rows found (codes "listen") ∙ ap (first_of (codes "listen")) m.rows);
      accounts = accounts ∙ ap (λ value. unwrap_or value []) (first_value-rows found (codes "accounts") ∙ ap (first_of (codes "accounts")) m.rows);
      turns = λ text is fits. turns text (one_text-rows found (codes "turns") ∙ ap (one_of (codes "turns")) m.rows ∙ is) fits;
    })
    c.said.ensures.listen c.said.ensures.accounts c.said.ensures.turns
