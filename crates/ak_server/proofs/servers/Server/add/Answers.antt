use Rattle.std.specs.Prelude.{List}
use Rattle.std.proofs.Common.{sym, ap, subst, ◌∙◌}
use Rattle.ak_server.proofs.Adding.{added_stands, either_rights, none_placed, on_so}
use Rattle.ak_server.specs.Accounts.{StandsFor, account_at}
use Rattle.ak_server.specs.declared.accounts.Account.{Account}
use Rattle.ak_server.proofs.servers.Server.add.Goals as goal

pub invariant_of-self : goal.invariant_of-self
invariant_of-self g c =
    either_rights g.K.Lookup.keeping c.args.name c.args.host c.args.keeper c.if-not-held.ensures.known c.requires.unmarked c.push_account.result
    c.self.inside.accounts.items c.push_account.new.accounts.items (sym c.if-not-held.ensures.held) c.push_account.ensures.ok c.push_account.ensures.err c.self.invariant

pub returns-clause-stands : goal.returns-clause-stands
returns-clause-stands g c =
    on_so c.push_account.result _ _
    (λ is server told stands seen. added_stands g.K.Lookup.keeping c.args.name c.args.host c.args.keeper c.if-not-held.ensures.known c.requires.unmarked
    c.self.inside.accounts.items c.push_account.new.accounts.items is
    (ap (account_at c.args.host.digits) (sym c.as_slice.ensures.value) ∙ none_placed c.place_of.result _ _ (sym c.is_some.ensures ∙ c.if-is_some.false) c.place_of.ensures)
    server told (subst (λ (l : List (Account g.row.K.Denot)). StandsFor g.K.Lookup.keeping l server) (sym c.self.view_is) stands) seen)
    c.push_account.ensures.ok
