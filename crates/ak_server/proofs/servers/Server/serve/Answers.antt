use Rattle.std.specs.Prelude.{List, Option, slice_set}
use Rattle.std.proofs.Common.{refl, sym, ap, subst, ◌∙◌, w64}
use Rattle.std.proofs.lemmas.Int.{to_z-of_z}
use Rattle.std.proofs.lemmas.List.Elements.{All-set}
use Rattle.ak_protocol.proofs.Cases.{not_none}
use Rattle.ak_server.proofs.Places.{each_at, got_at, place_in}
use Rattle.ak_server.proofs.Standing.{both_found, serves_account, serves_known}
use Rattle.ak_server.specs.Accounts.{IsRight, account_at}
use Rattle.ak_server.specs.Servers.{GivesAgain, IsServedFor, Replies, Serves, ServesFor, Strikes}
use Rattle.ak_server.specs.declared.accounts.Account.{Account}
use Rattle.ak_server.proofs.servers.Server.serve.Goals as goal

pub serve_account-requires-clause-right : goal.serve_account-requires-clause-right
serve_account-requires-clause-right g c =
    let at = place_in c.args.request.now.host.digits c.self.inside.accounts.items c.as_slice.result.now c.in-Some.place c.in-Some.ensures c.as_slice.ensures.value in
    each_at (IsRight g.K.Lookup.keeping) c.self.inside.accounts.items c.in-Some.place c.index_mut.result.now at.within c.index_mut.ensures.value c.self.invariant

pub invariant_of-self : goal.invariant_of-self
invariant_of-self g c =
    All-set (IsRight g.K.Lookup.keeping) c.self.inside.accounts.items c.in-Some.place c.serve_account.new.account c.serve_account.ensures.right c.self.invariant

pub returns-in-Some-clause-serves : goal.returns-in-Some-clause-serves
returns-in-Some-clause-serves g c =
    let at = place_in c.args.request.now.host.digits c.self.inside.accounts.items c.as_slice.result.now c.in-Some.place c.in-Some.ensures c.as_slice.ensures.value in
    let got = got_at c.self.inside.accounts.items c.in-Some.place c.index_mut.result.now at.within c.index_mut.ensures.value in
    subst (λ (l : List (Account g.row.K.Denot)). Serves g.K.Lookup.keeping l (slice_set c.self.inside.accounts.items c.in-Some.place c.serve_account.new.account) c.args.request.now c.args.now c.serve_account.result) c.self.view_is
    (serves_known g.K.Lookup.keeping c.self.inside.accounts.items (slice_set c.self.inside.accounts.items c.in-Some.place c.serve_account.new.account) c.args.request.now c.args.now c.serve_account.result c.in-Some.place c.index_mut.result.now c.serve_account.new.account
    at got refl c.serve_account.ensures.same.host (rw (to_z-of_z w64 c.args.now c.ranges.now) at c.serve_account.ensures.serves))

pub returns-in-Some-clause-account : goal.returns-in-Some-clause-account
returns-in-Some-clause-account g c =
    let at = place_in c.args.request.now.host.digits c.self.inside.accounts.items c.as_slice.result.now c.in-Some.place c.in-Some.ensures c.as_slice.ensures.value in
    let got = got_at c.self.inside.accounts.items c.in-Some.place c.index_mut.result.now at.within c.index_mut.ensures.value in
    subst (λ (l : List (Account g.row.K.Denot)). ServesFor g.K.Lookup.keeping (account_at c.args.request.now.host.digits l) (account_at c.args.request.now.host.digits (slice_set c.self.inside.accounts.items c.in-Some.place c.serve_account.new.account)) c.args.request.now c.args.now c.serve_account.result) c.self.view_is
    (serves_account g.K.Lookup.keeping c.self.inside.accounts.items (slice_set c.self.inside.accounts.items c.in-Some.place c.serve_account.new.account) c.args.request.now c.args.now c.serve_account.result c.in-Some.place c.index_mut.result.now c.serve_account.new.account
    at got refl c.serve_account.ensures.same.host (rw (to_z-of_z w64 c.args.now c.ranges.now) at c.serve_account.ensures.serves))

pub returns-in-Some-clause-others : goal.returns-in-Some-clause-others
returns-in-Some-clause-others g c = λ other differs.
    let at = place_in c.args.request.now.host.digits c.self.inside.accounts.items c.as_slice.result.now c.in-Some.place c.in-Some.ensures c.as_slice.ensures.value in
    let got = got_at c.self.inside.accounts.items c.in-Some.place c.index_mut.result.now at.within c.index_mut.ensures.value in
    at.others other c.index_mut.result.now c.serve_account.new.account differs got c.serve_account.ensures.same.host ∙ ap (account_at other) c.self.view_is

pub returns-in-Some-clause-key : goal.returns-in-Some-clause-key
returns-in-Some-clause-key g c =
    let at = place_in c.args.request.now.host.digits c.self.inside.accounts.items c.as_slice.result.now c.in-Some.place c.in-Some.ensures c.as_slice.ensures.value in
    let got = got_at c.self.inside.accounts.items c.in-Some.place c.index_mut.result.now at.within c.index_mut.ensures.value in (
      λ is. absurd (c.serve_account.ensures.known is),
      λ none. absurd (not_none (sym (ap (account_at c.args.request.now.host.digits) (sym c.self.view_is) ∙ at.held ∙ got) ∙ none)),
    )

pub returns-in-Some-clause-unknown : goal.returns-in-Some-clause-unknown
returns-in-Some-clause-unknown g c = λ none.
    let at = place_in c.args.request.now.host.digits c.self.inside.accounts.items c.as_slice.result.now c.in-Some.place c.in-Some.ensures c.as_slice.ensures.value in
    let got = got_at c.self.inside.accounts.items c.in-Some.place c.index_mut.result.now at.within c.index_mut.ensures.value in
    absurd (not_none (sym (ap (account_at c.args.request.now.host.digits) (sym c.self.view_is) ∙ at.held ∙ got) ∙ none))

pub returns-in-Some-clause-replies : goal.returns-in-Some-clause-replies
returns-in-Some-clause-replies g c =
    let at = place_in c.args.request.now.host.digits c.self.inside.accounts.items c.as_slice.result.now c.in-Some.place c.in-Some.ensures c.as_slice.ensures.value in
    let got = got_at c.self.inside.accounts.items c.in-Some.place c.index_mut.result.now at.within c.index_mut.ensures.value in
    subst (λ (before : Option (Account g.row.K.Denot)). Replies g.K.Lookup.keeping before c.args.request.now c.serve_account.result)
    (sym (ap (account_at c.args.request.now.host.digits) (sym c.self.view_is) ∙ at.held ∙ got)) c.serve_account.ensures.replies

pub returns-in-Some-clause-again : goal.returns-in-Some-clause-again
returns-in-Some-clause-again g c =
    let at = place_in c.args.request.now.host.digits c.self.inside.accounts.items c.as_slice.result.now c.in-Some.place c.in-Some.ensures c.as_slice.ensures.value in
    let got = got_at c.self.inside.accounts.items c.in-Some.place c.index_mut.result.now at.within c.index_mut.ensures.value in
    both_found (λ (before : Option (Account g.row.K.Denot)) (after : Option (Account g.row.K.Denot)). GivesAgain before after c.args.request.now c.serve_account.result)
    (ap (account_at c.args.request.now.host.digits) (sym c.self.view_is) ∙ at.held ∙ got) (at.set c.index_mut.result.now c.serve_account.new.account got c.serve_account.ensures.same.host) c.serve_account.ensures.again

pub returns-in-Some-clause-struck : goal.returns-in-Some-clause-struck
returns-in-Some-clause-struck g c =
    let at = place_in c.args.request.now.host.digits c.self.inside.accounts.items c.as_slice.result.now c.in-Some.place c.in-Some.ensures c.as_slice.ensures.value in
    let got = got_at c.self.inside.accounts.items c.in-Some.place c.index_mut.result.now at.within c.index_mut.ensures.value in
    both_found (λ (before : Option (Account g.row.K.Denot)) (after : Option (Account g.row.K.Denot)). Strikes g.K.Lookup.keeping before after c.args.request.now c.serve_account.result)
    (ap (account_at c.args.request.now.host.digits) (sym c.self.view_is) ∙ at.held ∙ got) (at.set c.index_mut.result.now c.serve_account.new.account got c.serve_account.ensures.same.host) c.serve_account.ensures.struck

pub returns-in-Some-clause-cause : goal.returns-in-Some-clause-cause
returns-in-Some-clause-cause g c =
    let at = place_in c.args.request.now.host.digits c.self.inside.accounts.items c.as_slice.result.now c.in-Some.place c.in-Some.ensures c.as_slice.ensures.value in
    let got = got_at c.self.inside.accounts.items c.in-Some.place c.index_mut.result.now at.within c.index_mut.ensures.value in
    both_found (λ (before : Option (Account g.row.K.Denot)) (after : Option (Account g.row.K.Denot)). IsServedFor g.K.Lookup.health before after c.serve_account.result)
    (ap (account_at c.args.request.now.host.digits) (sym c.self.view_is) ∙ at.held ∙ got) (at.set c.index_mut.result.now c.serve_account.new.account got c.serve_account.ensures.same.host)
    (c.serve_account.ensures.same, c.serve_account.ensures.cause)
