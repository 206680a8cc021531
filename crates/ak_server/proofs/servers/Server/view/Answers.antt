use Rattle.std.specs.Prelude.{List, Option, Ok, Some, is_some, slice_set}
use Rattle.std.proofs.Common.{refl, sym, ap, subst, ◌∙◌, w64}
use Rattle.std.proofs.lemmas.Int.{to_z-of_z}
use Rattle.std.proofs.lemmas.List.Elements.{All-set}
use Rattle.ak_keep.proofs.Causing.{cause-ok}
use Rattle.ak_protocol.proofs.Cases.{not_none}
use Rattle.ak_server.proofs.Faulting.{err_cause}
use Rattle.ak_server.proofs.Places.{each_at, got_at, place_in}
use Rattle.ak_server.proofs.Standing.{both_found}
use Rattle.ak_server.proofs.Viewing.{ends_known, rows_known, host_viewed, kept_viewed, right_viewed}
use Rattle.ak_server.specs.Accounts.{IsRight, StandsFor, account_at}
use Rattle.ak_server.specs.Servers.{GivesOneRows, IsViewedAt, ViewCause}
use Rattle.ak_server.specs.declared.accounts.Account.{Account}
use Rattle.ak_server.proofs.servers.Server.view.Goals as goal

pub invariant_of-self : goal.invariant_of-self
invariant_of-self g c =
    let at = place_in c.args.host.digits c.self.inside.accounts.items c.as_slice.result.now c.in-Some.place c.in-Some.ensures c.as_slice.ensures.value in
    let right : IsRight g.K.Lookup.keeping c.index_mut.result.now =
    each_at (IsRight g.K.Lookup.keeping) c.self.inside.accounts.items c.in-Some.place c.index_mut.result.now at.within c.index_mut.ensures.value c.self.invariant in
    All-set (IsRight g.K.Lookup.keeping) c.self.inside.accounts.items c.in-Some.place c.view.new.self (right_viewed g.K.Lookup.keeping c.index_mut.result.now c.view.new.self right c.view.ensures.viewed) c.self.invariant

pub invariant_of-self-in-Some : goal.invariant_of-self-in-Some
invariant_of-self-in-Some g c =
    let at = place_in c.args.host.digits c.self.inside.accounts.items c.as_slice.result.now c.in-Some.place c.in-Some.ensures c.as_slice.ensures.value in
    let right : IsRight g.K.Lookup.keeping c.index_mut.result.now =
    each_at (IsRight g.K.Lookup.keeping) c.self.inside.accounts.items c.in-Some.place c.index_mut.result.now at.within c.index_mut.ensures.value c.self.invariant in
    All-set (IsRight g.K.Lookup.keeping) c.self.inside.accounts.items c.in-Some.place c.view.new.self (right_viewed g.K.Lookup.keeping c.index_mut.result.now c.view.new.self right c.view.ensures.viewed) c.self.invariant

pub returns-in_err-view-in-Some-clause-ends : goal.returns-in_err-view-in-Some-clause-ends
returns-in_err-view-in-Some-clause-ends g c = λ server stands.
    let at = place_in c.args.host.digits c.self.inside.accounts.items c.as_slice.result.now c.in-Some.place c.in-Some.ensures c.as_slice.ensures.value in
    let got = got_at c.self.inside.accounts.items c.in-Some.place c.index_mut.result.now at.within c.index_mut.ensures.value in
    let right : IsRight g.K.Lookup.keeping c.index_mut.result.now =
    each_at (IsRight g.K.Lookup.keeping) c.self.inside.accounts.items c.in-Some.place c.index_mut.result.now at.within c.index_mut.ensures.value c.self.invariant in
    ends_known g.K.Lookup.keeping c.self.inside.accounts.items (slice_set c.self.inside.accounts.items c.in-Some.place c.view.new.self) c.args.host.digits c.in-Some.place c.index_mut.result.now c.view.new.self at got refl right c.view.ensures.viewed server (subst (λ (l : List (Account g.row.K.Denot)). StandsFor g.K.Lookup.keeping l server) (sym c.self.view_is) stands)

pub returns-in_err-view-in-Some-clause-others : goal.returns-in_err-view-in-Some-clause-others
returns-in_err-view-in-Some-clause-others g c = λ other differs.
    let at = place_in c.args.host.digits c.self.inside.accounts.items c.as_slice.result.now c.in-Some.place c.in-Some.ensures c.as_slice.ensures.value in
    let got = got_at c.self.inside.accounts.items c.in-Some.place c.index_mut.result.now at.within c.index_mut.ensures.value in
    let right : IsRight g.K.Lookup.keeping c.index_mut.result.now =
    each_at (IsRight g.K.Lookup.keeping) c.self.inside.accounts.items c.in-Some.place c.index_mut.result.now at.within c.index_mut.ensures.value c.self.invariant in
    at.others other c.index_mut.result.now c.view.new.self differs got (host_viewed g.K.Lookup.keeping c.index_mut.result.now c.view.new.self right c.view.ensures.viewed) ∙ ap (account_at other) c.self.view_is

pub returns-in_err-view-in-Some-clause-cause : goal.returns-in_err-view-in-Some-clause-cause
returns-in_err-view-in-Some-clause-cause g c =
    let at = place_in c.args.host.digits c.self.inside.accounts.items c.as_slice.result.now c.in-Some.place c.in-Some.ensures c.as_slice.ensures.value in
    let got = got_at c.self.inside.accounts.items c.in-Some.place c.index_mut.result.now at.within c.index_mut.ensures.value in
    let right : IsRight g.K.Lookup.keeping c.index_mut.result.now =
    each_at (IsRight g.K.Lookup.keeping) c.self.inside.accounts.items c.in-Some.place c.index_mut.result.now at.within c.index_mut.ensures.value c.self.invariant in
    both_found (λ (before : Option (Account g.row.K.Denot)) (after : Option (Account g.row.K.Denot)). ViewCause g.K.Lookup.health before after c.from_residual.result)
    (ap (account_at c.args.host.digits) (sym c.self.view_is) ∙ at.held ∙ got) (at.set c.index_mut.result.now c.view.new.self got (host_viewed g.K.Lookup.keeping c.index_mut.result.now c.view.new.self right c.view.ensures.viewed)) (
      record { name = ap (λ (a : Account g.row.K.Denot). a.name) c.view.ensures.viewed.rest; host = ap (λ (a : Account g.row.K.Denot). a.host) c.view.ensures.viewed.rest },
      kept_viewed g.K.Lookup.keeping c.index_mut.result.now c.view.new.self right c.view.ensures.viewed,
      err_cause c.from_residual.result c.in_err-view-in-Some.field-0.0 c.from_residual.ensures.1 c.in_err-view-in-Some.ensures.cause,
    )

pub returns-in_ok-view-in-Some-clause-ends : goal.returns-in_ok-view-in-Some-clause-ends
returns-in_ok-view-in-Some-clause-ends g c = λ server stands.
    let at = place_in c.args.host.digits c.self.inside.accounts.items c.as_slice.result.now c.in-Some.place c.in-Some.ensures c.as_slice.ensures.value in
    let got = got_at c.self.inside.accounts.items c.in-Some.place c.index_mut.result.now at.within c.index_mut.ensures.value in
    let right : IsRight g.K.Lookup.keeping c.index_mut.result.now =
    each_at (IsRight g.K.Lookup.keeping) c.self.inside.accounts.items c.in-Some.place c.index_mut.result.now at.within c.index_mut.ensures.value c.self.invariant in
    ends_known g.K.Lookup.keeping c.self.inside.accounts.items (slice_set c.self.inside.accounts.items c.in-Some.place c.view.new.self) c.args.host.digits c.in-Some.place c.index_mut.result.now c.view.new.self at got refl right c.view.ensures.viewed server (subst (λ (l : List (Account g.row.K.Denot)). StandsFor g.K.Lookup.keeping l server) (sym c.self.view_is) stands)

pub returns-in_ok-view-in-Some-clause-rows : goal.returns-in_ok-view-in-Some-clause-rows
returns-in_ok-view-in-Some-clause-rows g c = λ server stands.
    let at = place_in c.args.host.digits c.self.inside.accounts.items c.as_slice.result.now c.in-Some.place c.in-Some.ensures c.as_slice.ensures.value in
    let got = got_at c.self.inside.accounts.items c.in-Some.place c.index_mut.result.now at.within c.index_mut.ensures.value in
    let right : IsRight g.K.Lookup.keeping c.index_mut.result.now =
    each_at (IsRight g.K.Lookup.keeping) c.self.inside.accounts.items c.in-Some.place c.index_mut.result.now at.within c.index_mut.ensures.value c.self.invariant in
    rows_known g.K.Lookup.keeping c.self.inside.accounts.items (slice_set c.self.inside.accounts.items c.in-Some.place c.view.new.self) c.args.host.digits c.in-Some.place c.index_mut.result.now c.view.new.self at got refl right c.view.ensures.viewed c.args.table c.args.past c.args.limit c.in_ok-view-in-Some.field-0 (rw (to_z-of_z w64 c.args.past c.ranges.past) at c.in_ok-view-in-Some.ensures.told) server (subst (λ (l : List (Account g.row.K.Denot)). StandsFor g.K.Lookup.keeping l server) (sym c.self.view_is) stands)

pub returns-in_ok-view-in-Some-clause-none : goal.returns-in_ok-view-in-Some-clause-none
returns-in_ok-view-in-Some-clause-none g c =
    let at = place_in c.args.host.digits c.self.inside.accounts.items c.as_slice.result.now c.in-Some.place c.in-Some.ensures c.as_slice.ensures.value in
    let got = got_at c.self.inside.accounts.items c.in-Some.place c.index_mut.result.now at.within c.index_mut.ensures.value in
    sym (ap is_some (ap (account_at c.args.host.digits) (sym c.self.view_is) ∙ at.held ∙ got))

pub returns-in_ok-view-in-Some-clause-others : goal.returns-in_ok-view-in-Some-clause-others
returns-in_ok-view-in-Some-clause-others g c = λ other differs.
    let at = place_in c.args.host.digits c.self.inside.accounts.items c.as_slice.result.now c.in-Some.place c.in-Some.ensures c.as_slice.ensures.value in
    let got = got_at c.self.inside.accounts.items c.in-Some.place c.index_mut.result.now at.within c.index_mut.ensures.value in
    let right : IsRight g.K.Lookup.keeping c.index_mut.result.now =
    each_at (IsRight g.K.Lookup.keeping) c.self.inside.accounts.items c.in-Some.place c.index_mut.result.now at.within c.index_mut.ensures.value c.self.invariant in
    at.others other c.index_mut.result.now c.view.new.self differs got (host_viewed g.K.Lookup.keeping c.index_mut.result.now c.view.new.self right c.view.ensures.viewed) ∙ ap (account_at other) c.self.view_is

pub returns-in_ok-view-in-Some-clause-cause : goal.returns-in_ok-view-in-Some-clause-cause
returns-in_ok-view-in-Some-clause-cause g c =
    let at = place_in c.args.host.digits c.self.inside.accounts.items c.as_slice.result.now c.in-Some.place c.in-Some.ensures c.as_slice.ensures.value in
    let got = got_at c.self.inside.accounts.items c.in-Some.place c.index_mut.result.now at.within c.index_mut.ensures.value in
    let right : IsRight g.K.Lookup.keeping c.index_mut.result.now =
    each_at (IsRight g.K.Lookup.keeping) c.self.inside.accounts.items c.in-Some.place c.index_mut.result.now at.within c.index_mut.ensures.value c.self.invariant in
    both_found (λ (before : Option (Account g.row.K.Denot)) (after : Option (Account g.row.K.Denot)). ViewCause g.K.Lookup.health before after (Ok (Some c.in_ok-view-in-Some.field-0)))
    (ap (account_at c.args.host.digits) (sym c.self.view_is) ∙ at.held ∙ got) (at.set c.index_mut.result.now c.view.new.self got (host_viewed g.K.Lookup.keeping c.index_mut.result.now c.view.new.self right c.view.ensures.viewed)) (
      record { name = ap (λ (a : Account g.row.K.Denot). a.name) c.view.ensures.viewed.rest; host = ap (λ (a : Account g.row.K.Denot). a.host) c.view.ensures.viewed.rest },
      kept_viewed g.K.Lookup.keeping c.index_mut.result.now c.view.new.self right c.view.ensures.viewed,
      cause-ok (Some c.in_ok-view-in-Some.field-0) c.in_ok-view-in-Some.ensures.cause.goes,
    )

pub returns-in_err-view-in-Some-clause-viewed : goal.returns-in_err-view-in-Some-clause-viewed
returns-in_err-view-in-Some-clause-viewed g c =
    let at = place_in c.args.host.digits c.self.inside.accounts.items c.as_slice.result.now c.in-Some.place c.in-Some.ensures c.as_slice.ensures.value in
    let got = got_at c.self.inside.accounts.items c.in-Some.place c.index_mut.result.now at.within c.index_mut.ensures.value in
    let right : IsRight g.K.Lookup.keeping c.index_mut.result.now =
    each_at (IsRight g.K.Lookup.keeping) c.self.inside.accounts.items c.in-Some.place c.index_mut.result.now at.within c.index_mut.ensures.value c.self.invariant in
    both_found (λ (before : Option (Account g.row.K.Denot)) (after : Option (Account g.row.K.Denot)). IsViewedAt g.K.Lookup.keeping before after)
    (ap (account_at c.args.host.digits) (sym c.self.view_is) ∙ at.held ∙ got) (at.set c.index_mut.result.now c.view.new.self got (host_viewed g.K.Lookup.keeping c.index_mut.result.now c.view.new.self right c.view.ensures.viewed)) c.view.ensures.viewed

pub returns-in_err-view-in-Some-clause-unknown : goal.returns-in_err-view-in-Some-clause-unknown
returns-in_err-view-in-Some-clause-unknown g c = λ none.
    let at = place_in c.args.host.digits c.self.inside.accounts.items c.as_slice.result.now c.in-Some.place c.in-Some.ensures c.as_slice.ensures.value in
    let got = got_at c.self.inside.accounts.items c.in-Some.place c.index_mut.result.now at.within c.index_mut.ensures.value in
    absurd (not_none (sym (ap (account_at c.args.host.digits) (sym c.self.view_is) ∙ at.held ∙ got) ∙ none))

pub returns-in_ok-view-in-Some-clause-viewed : goal.returns-in_ok-view-in-Some-clause-viewed
returns-in_ok-view-in-Some-clause-viewed g c =
    let at = place_in c.args.host.digits c.self.inside.accounts.items c.as_slice.result.now c.in-Some.place c.in-Some.ensures c.as_slice.ensures.value in
    let got = got_at c.self.inside.accounts.items c.in-Some.place c.index_mut.result.now at.within c.index_mut.ensures.value in
    let right : IsRight g.K.Lookup.keeping c.index_mut.result.now =
    each_at (IsRight g.K.Lookup.keeping) c.self.inside.accounts.items c.in-Some.place c.index_mut.result.now at.within c.index_mut.ensures.value c.self.invariant in
    both_found (λ (before : Option (Account g.row.K.Denot)) (after : Option (Account g.row.K.Denot)). IsViewedAt g.K.Lookup.keeping before after)
    (ap (account_at c.args.host.digits) (sym c.self.view_is) ∙ at.held ∙ got) (at.set c.index_mut.result.now c.view.new.self got (host_viewed g.K.Lookup.keeping c.index_mut.result.now c.view.new.self right c.view.ensures.viewed)) c.view.ensures.viewed

pub returns-in_ok-view-in-Some-clause-unknown : goal.returns-in_ok-view-in-Some-clause-unknown
returns-in_ok-view-in-Some-clause-unknown g c = λ none.
    let at = place_in c.args.host.digits c.self.inside.accounts.items c.as_slice.result.now c.in-Some.place c.in-Some.ensures c.as_slice.ensures.value in
    let got = got_at c.self.inside.accounts.items c.in-Some.place c.index_mut.result.now at.within c.index_mut.ensures.value in
    absurd (not_none (sym (ap (account_at c.args.host.digits) (sym c.self.view_is) ∙ at.held ∙ got) ∙ none))

pub returns-in_ok-view-in-Some-clause-told : goal.returns-in_ok-view-in-Some-clause-told
returns-in_ok-view-in-Some-clause-told g c =
    let at = place_in c.args.host.digits c.self.inside.accounts.items c.as_slice.result.now c.in-Some.place c.in-Some.ensures c.as_slice.ensures.value in
    let got = got_at c.self.inside.accounts.items c.in-Some.place c.index_mut.result.now at.within c.index_mut.ensures.value in
    subst (λ (before : Option (Account g.row.K.Denot)). GivesOneRows g.K.Lookup.keeping before c.args.table c.args.past c.args.limit (Some c.in_ok-view-in-Some.field-0))
    (sym (ap (account_at c.args.host.digits) (sym c.self.view_is) ∙ at.held ∙ got)) (rw (to_z-of_z w64 c.args.past c.ranges.past) at c.in_ok-view-in-Some.ensures.told)
