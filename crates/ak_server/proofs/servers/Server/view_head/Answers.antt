use Rattle.std.specs.Prelude.{◌≡◌, List, Option, is_some, slice_set, true}
use Rattle.std.proofs.Common.{refl, sym, ap, subst, ◌∙◌}
use Rattle.std.proofs.lemmas.List.Elements.{All-set}
use Rattle.ak_base.specs.declared.heads.Head.{Head}
use Rattle.ak_keep.specs.Keepers.{WhereTold, back}
use Rattle.ak_protocol.proofs.Cases.{not_none}
use Rattle.ak_server.proofs.Faulting.{ok_so}
use Rattle.ak_server.proofs.Places.{each_at, got_at, place_in}
use Rattle.ak_server.proofs.Standing.{both_found}
use Rattle.ak_server.proofs.Viewing.{ends_known, head_known, host_viewed, kept_viewed, right_viewed}
use Rattle.ak_server.specs.Accounts.{IsRight, StandsFor, account_at}
use Rattle.ak_server.specs.Servers.{GivesOneHead, IsViewedAt, ViewCause}
use Rattle.ak_server.specs.declared.accounts.Account.{Account}
use Rattle.ak_server.proofs.servers.Server.view_head.Goals as goal

pub invariant_of-self : goal.invariant_of-self
invariant_of-self g c =
    let at = place_in c.args.host.digits c.self.inside.accounts.items c.as_slice.result.now c.in-Some.place c.in-Some.ensures c.as_slice.ensures.value in
    let right : IsRight g.K.Lookup.keeping c.index_mut.result.now =
    each_at (IsRight g.K.Lookup.keeping) c.self.inside.accounts.items c.in-Some.place c.index_mut.result.now at.within c.index_mut.ensures.value c.self.invariant in
    All-set (IsRight g.K.Lookup.keeping) c.self.inside.accounts.items c.in-Some.place c.view_head.new.self (right_viewed g.K.Lookup.keeping c.index_mut.result.now c.view_head.new.self right c.view_head.ensures.viewed) c.self.invariant

pub returns-in-Some-clause-ends : goal.returns-in-Some-clause-ends
returns-in-Some-clause-ends g c = λ server stands.
    let at = place_in c.args.host.digits c.self.inside.accounts.items c.as_slice.result.now c.in-Some.place c.in-Some.ensures c.as_slice.ensures.value in
    let got = got_at c.self.inside.accounts.items c.in-Some.place c.index_mut.result.now at.within c.index_mut.ensures.value in
    let right : IsRight g.K.Lookup.keeping c.index_mut.result.now =
    each_at (IsRight g.K.Lookup.keeping) c.self.inside.accounts.items c.in-Some.place c.index_mut.result.now at.within c.index_mut.ensures.value c.self.invariant in
    ends_known g.K.Lookup.keeping c.self.inside.accounts.items (slice_set c.self.inside.accounts.items c.in-Some.place c.view_head.new.self) c.args.host.digits c.in-Some.place c.index_mut.result.now c.view_head.new.self at got refl right c.view_head.ensures.viewed server (subst (λ (l : List (Account g.row.K.Denot)). StandsFor g.K.Lookup.keeping l server) (sym c.self.view_is) stands)

pub returns-in-Some-clause-head : goal.returns-in-Some-clause-head
returns-in-Some-clause-head g c =
    let at = place_in c.args.host.digits c.self.inside.accounts.items c.as_slice.result.now c.in-Some.place c.in-Some.ensures c.as_slice.ensures.value in
    let got = got_at c.self.inside.accounts.items c.in-Some.place c.index_mut.result.now at.within c.index_mut.ensures.value in
    let right : IsRight g.K.Lookup.keeping c.index_mut.result.now =
    each_at (IsRight g.K.Lookup.keeping) c.self.inside.accounts.items c.in-Some.place c.index_mut.result.now at.within c.index_mut.ensures.value c.self.invariant in
    ok_so c.view_head.result (λ (head : Option Head). WhereTold (back (g.K.Lookup.keeping c.index_mut.result.now.keeper)) (λ h. head ≡ h.head)) _
    (λ head told server stands. head_known g.K.Lookup.keeping c.self.inside.accounts.items (slice_set c.self.inside.accounts.items c.in-Some.place c.view_head.new.self) c.args.host.digits c.in-Some.place c.index_mut.result.now c.view_head.new.self at got refl right c.view_head.ensures.viewed head told server (subst (λ (l : List (Account g.row.K.Denot)). StandsFor g.K.Lookup.keeping l server) (sym c.self.view_is) stands)) c.view_head.ensures.told

pub returns-in-Some-clause-none : goal.returns-in-Some-clause-none
returns-in-Some-clause-none g c =
    let at = place_in c.args.host.digits c.self.inside.accounts.items c.as_slice.result.now c.in-Some.place c.in-Some.ensures c.as_slice.ensures.value in
    let got = got_at c.self.inside.accounts.items c.in-Some.place c.index_mut.result.now at.within c.index_mut.ensures.value in
    ok_so c.view_head.result (λ (head : Option Head). is_some head ≡ true) _ (λ head some. some ∙ sym (ap is_some (ap (account_at c.args.host.digits) (sym c.self.view_is) ∙ at.held ∙ got))) c.view_head.ensures.some

pub returns-in-Some-clause-others : goal.returns-in-Some-clause-others
returns-in-Some-clause-others g c = λ other differs.
    let at = place_in c.args.host.digits c.self.inside.accounts.items c.as_slice.result.now c.in-Some.place c.in-Some.ensures c.as_slice.ensures.value in
    let got = got_at c.self.inside.accounts.items c.in-Some.place c.index_mut.result.now at.within c.index_mut.ensures.value in
    let right : IsRight g.K.Lookup.keeping c.index_mut.result.now =
    each_at (IsRight g.K.Lookup.keeping) c.self.inside.accounts.items c.in-Some.place c.index_mut.result.now at.within c.index_mut.ensures.value c.self.invariant in
    at.others other c.index_mut.result.now c.view_head.new.self differs got (host_viewed g.K.Lookup.keeping c.index_mut.result.now c.view_head.new.self right c.view_head.ensures.viewed) ∙ ap (account_at other) c.self.view_is

pub returns-in-Some-clause-cause : goal.returns-in-Some-clause-cause
returns-in-Some-clause-cause g c =
    let at = place_in c.args.host.digits c.self.inside.accounts.items c.as_slice.result.now c.in-Some.place c.in-Some.ensures c.as_slice.ensures.value in
    let got = got_at c.self.inside.accounts.items c.in-Some.place c.index_mut.result.now at.within c.index_mut.ensures.value in
    let right : IsRight g.K.Lookup.keeping c.index_mut.result.now =
    each_at (IsRight g.K.Lookup.keeping) c.self.inside.accounts.items c.in-Some.place c.index_mut.result.now at.within c.index_mut.ensures.value c.self.invariant in
    both_found (λ (before : Option (Account g.row.K.Denot)) (after : Option (Account g.row.K.Denot)). ViewCause g.K.Lookup.health before after c.view_head.result)
    (ap (account_at c.args.host.digits) (sym c.self.view_is) ∙ at.held ∙ got) (at.set c.index_mut.result.now c.view_head.new.self got (host_viewed g.K.Lookup.keeping c.index_mut.result.now c.view_head.new.self right c.view_head.ensures.viewed)) (
      record { name = ap (λ (a : Account g.row.K.Denot). a.name) c.view_head.ensures.viewed.rest; host = ap (λ (a : Account g.row.K.Denot). a.host) c.view_head.ensures.viewed.rest },
      kept_viewed g.K.Lookup.keeping c.index_mut.result.now c.view_head.new.self right c.view_head.ensures.viewed,
      c.view_head.ensures.cause,
    )

pub returns-in-Some-clause-viewed : goal.returns-in-Some-clause-viewed
returns-in-Some-clause-viewed g c =
    let at = place_in c.args.host.digits c.self.inside.accounts.items c.as_slice.result.now c.in-Some.place c.in-Some.ensures c.as_slice.ensures.value in
    let got = got_at c.self.inside.accounts.items c.in-Some.place c.index_mut.result.now at.within c.index_mut.ensures.value in
    let right : IsRight g.K.Lookup.keeping c.index_mut.result.now =
    each_at (IsRight g.K.Lookup.keeping) c.self.inside.accounts.items c.in-Some.place c.index_mut.result.now at.within c.index_mut.ensures.value c.self.invariant in
    both_found (λ (before : Option (Account g.row.K.Denot)) (after : Option (Account g.row.K.Denot)). IsViewedAt g.K.Lookup.keeping before after)
    (ap (account_at c.args.host.digits) (sym c.self.view_is) ∙ at.held ∙ got) (at.set c.index_mut.result.now c.view_head.new.self got (host_viewed g.K.Lookup.keeping c.index_mut.result.now c.view_head.new.self right c.view_head.ensures.viewed)) c.view_head.ensures.viewed

pub returns-in-Some-clause-unknown : goal.returns-in-Some-clause-unknown
returns-in-Some-clause-unknown g c = λ none.
    let at = place_in c.args.host.digits c.self.inside.accounts.items c.as_slice.result.now c.in-Some.place c.in-Some.ensures c.as_slice.ensures.value in
    let got = got_at c.self.inside.accounts.items c.in-Some.place c.index_mut.result.now at.within c.index_mut.ensures.value in
    absurd (not_none (sym (ap (account_at c.args.host.digits) (sym c.self.view_is) ∙ at.held ∙ got) ∙ none))

pub returns-in-Some-clause-told : goal.returns-in-Some-clause-told
returns-in-Some-clause-told g c =
    let at = place_in c.args.host.digits c.self.inside.accounts.items c.as_slice.result.now c.in-Some.place c.in-Some.ensures c.as_slice.ensures.value in
    let got = got_at c.self.inside.accounts.items c.in-Some.place c.index_mut.result.now at.within c.index_mut.ensures.value in
    ok_so c.view_head.result (λ (head : Option Head). WhereTold (back (g.K.Lookup.keeping c.index_mut.result.now.keeper)) (λ h. head ≡ h.head)) _
    (λ head told. subst (λ (before : Option (Account g.row.K.Denot)). GivesOneHead g.K.Lookup.keeping before head) (sym (ap (account_at c.args.host.digits) (sym c.self.view_is) ∙ at.held ∙ got)) told) c.view_head.ensures.told
