use Rattle.std.specs.Option.{option_map}
use Rattle.std.specs.Prelude.{◌≡◌, Some, is_some}
use Rattle.std.proofs.Common.{refl, sym, ap, ◌∙◌}
use Rattle.std.proofs.lemmas.List.Elements.{All-set}
use Rattle.ak_keep.specs.Keepers.{Keeping, all_known}
use Rattle.ak_keep.specs.MemoryKeepers.{MemoryState}
use Rattle.ak_protocol.proofs.Cases.{not_none}
use Rattle.ak_server.proofs.Places.{each_at, got_at, place_in}
use Rattle.ak_server.proofs.Settling.{right_read}
use Rattle.ak_server.specs.Accounts.{IsRight, account_at}
use Rattle.ak_server.specs.Servers.{failing_at}
use Rattle.ak_server.specs.declared.accounts.Account.{Account}
use Rattle.ak_server.proofs.servers.Server+MemoryKeeper.fail_at.Goals as goal

abbrev keeping : MemoryState → Keeping
keeping s = all_known s.kept

pub invariant_of-self : goal.invariant_of-self
invariant_of-self c =
    let at = place_in c.args.host.digits c.self.inside.accounts.items c.as_slice.result.now c.in-Some.place c.in-Some.ensures c.as_slice.ensures.value in
    let new : Account MemoryState = record {
      name = c.index_mut.result.now.name;
      host = c.index_mut.result.now.host;
      keeper = c.fail_at.new.self;
      live = c.index_mut.result.now.live;
      kept = c.index_mut.result.now.kept;
    } in
    All-set (IsRight keeping) c.self.inside.accounts.items c.in-Some.place new
    (right_read keeping c.index_mut.result.now new (record { rest = refl; keeper = ap keeping c.fail_at.ensures })
    (each_at (IsRight keeping) c.self.inside.accounts.items c.in-Some.place c.index_mut.result.now at.within c.index_mut.ensures.value c.self.invariant))
    c.self.invariant

pub returns-in-Some-clause-found : goal.returns-in-Some-clause-found
returns-in-Some-clause-found c =
    let at = place_in c.args.host.digits c.self.inside.accounts.items c.as_slice.result.now c.in-Some.place c.in-Some.ensures c.as_slice.ensures.value in
    sym (ap is_some (ap (account_at c.args.host.digits) (sym c.self.view_is) ∙ at.held
    ∙ got_at c.self.inside.accounts.items c.in-Some.place c.index_mut.result.now at.within c.index_mut.ensures.value))

pub returns-in-Some-clause-set : goal.returns-in-Some-clause-set
returns-in-Some-clause-set c =
    let at = place_in c.args.host.digits c.self.inside.accounts.items c.as_slice.result.now c.in-Some.place c.in-Some.ensures c.as_slice.ensures.value in
    let got : _ ≡ Some c.index_mut.result.now = got_at c.self.inside.accounts.items c.in-Some.place c.index_mut.result.now at.within c.index_mut.ensures.value in
    at.set c.index_mut.result.now _ got refl
    ∙ ap (λ (s : MemoryState). Some (record {
      name = c.index_mut.result.now.name;
      host = c.index_mut.result.now.host;
      keeper = s;
      live = c.index_mut.result.now.live;
      kept = c.index_mut.result.now.kept;
    })) c.fail_at.ensures
    ∙ sym (ap (option_map (failing_at c.args.calls)) (ap (account_at c.args.host.digits) (sym c.self.view_is) ∙ at.held ∙ got))

pub returns-in-Some-clause-others : goal.returns-in-Some-clause-others
returns-in-Some-clause-others c = λ other differs.
    let at = place_in c.args.host.digits c.self.inside.accounts.items c.as_slice.result.now c.in-Some.place c.in-Some.ensures c.as_slice.ensures.value in
    at.others other c.index_mut.result.now _ differs (got_at c.self.inside.accounts.items c.in-Some.place c.index_mut.result.now at.within c.index_mut.ensures.value) refl
    ∙ ap (account_at other) c.self.view_is

pub returns-in-Some-clause-none : goal.returns-in-Some-clause-none
returns-in-Some-clause-none c = λ none.
    let at = place_in c.args.host.digits c.self.inside.accounts.items c.as_slice.result.now c.in-Some.place c.in-Some.ensures c.as_slice.ensures.value in
    absurd (not_none (sym (ap (account_at c.args.host.digits) (sym c.self.view_is) ∙ at.held
    ∙ got_at c.self.inside.accounts.items c.in-Some.place c.index_mut.result.now at.within c.index_mut.ensures.value) ∙ none))
