use Rattle.std.specs.Option.{option_map}
use Rattle.std.specs.Prelude.{◌≡◌, Some}
use Rattle.std.proofs.Common.{refl, sym, ap, ◌∙◌, inl, inr, w64}
use Rattle.std.proofs.lemmas.Int.{to_z-of_z}
use Rattle.ak_server_steps.specs.declared.answers.Basis.{Basis}
use Rattle.ak_faults.proofs.Healths.{cause_after}
use Rattle.ak_keep.proofs.HeadNumbers.{some_collection}
use Rattle.ak_keep.specs.Collections.{Collection}
use Rattle.ak_keep.specs.HeadNumbers.{numbered}
use Rattle.ak_server_rules.specs.Decisions.{declined_so, refusal_of}
use Rattle.ak_server_rules.specs.Sessions.{session_seen}
use Rattle.ak_messages.specs.declared.replies.Reply.{Reply}
use Rattle.ak_server.proofs.Faulting.{err_so, ok_so}
use Rattle.ak_server.proofs.Settling.{accepted_does, decided_granted, decided_refused, leaves_read, refused_does, taken_read}
use Rattle.ak_server.specs.declared.accounts.Account.{Account}
use Rattle.ak_server.proofs.serving.decide.Goals as goal

pub returns-in-Some-clause-does : goal.returns-in-Some-clause-does
returns-in-Some-clause-does g c =
    let read : Account g.row.K.Denot = record {
      name = c.args.account.now.name;
      host = c.args.account.now.host;
      keeper = c.held_numbers.new.keeper;
      live = c.args.account.now.live;
      kept = c.args.account.now.kept;
    } in
    refused_does g.K.Lookup.keeping c.args.account.now read c.args.request.now c.args.now c.in_ok-numbers.numbers c.declined_reply.result
    c.requires.right c.in_ok-numbers.ensures.known c.in_ok-numbers.ensures.reads.told (record { rest = refl; keeper = c.in_ok-numbers.ensures.reads.same })
    c.requires.later c.requires.first
    (λ k tables. ap Some c.declined_reply.ensures ∙ sym (ap (option_map declined_so) c.in-Some.is) ∙ c.in_ok-why.ensures.why k tables)

pub returns-in-Some-clause-status : goal.returns-in-Some-clause-status
returns-in-Some-clause-status g c =
    let none : Collection = numbered c.in_ok-numbers.numbers some_collection in
    decided_refused (refusal_of none (option_map (session_seen none) c.args.account.now.live) c.args.request.now) c.declined_reply.result
    (ap Some c.declined_reply.ensures ∙ sym (ap (option_map declined_so) c.in-Some.is) ∙ c.in_ok-why.ensures.why some_collection none)

pub returns-in-Some-clause-tests : goal.returns-in-Some-clause-tests
returns-in-Some-clause-tests g c =
    inr (record {
      numbers = c.in_ok-numbers.numbers;
      held = record { held = c.requires.right.keeper.held; told = c.in_ok-numbers.ensures.reads.told; range = c.in_ok-numbers.ensures.range };
      why = λ k tables. sym (ap Some c.declined_reply.ensures ∙ sym (ap (option_map declined_so) c.in-Some.is) ∙ c.in_ok-why.ensures.why k tables);
    })

pub accept-requires-clause-accepted : goal.accept-requires-clause-accepted
accept-requires-clause-accepted g c =
    taken_read g.K.Lookup.keeping c.args.account.now _ c.args.request.now c.in_ok-numbers.numbers c.in-Some-live.live (record { rest = refl; keeper = c.in_ok-numbers.ensures.reads.same })
    c.requires.right c.in_ok-numbers.ensures.known c.in_ok-numbers.ensures.reads.told c.in_ok-numbers.ensures.range c.in-Some-live.is
    (λ k tables. sym (ap (option_map declined_so) c.in_default.is) ∙ c.in_ok-why.ensures.why k tables)

pub returns-clause-does : goal.returns-clause-does
returns-clause-does g c =
    let read : Account g.row.K.Denot = record {
      name = c.args.account.now.name;
      host = c.args.account.now.host;
      keeper = c.held_numbers.new.keeper;
      live = c.args.account.now.live;
      kept = c.args.account.now.kept;
    } in
    let basis : Basis = record { numbers = c.in_ok-numbers.numbers; live = c.in-Some-live.live } in
    ok_so c.accept.result _ _
    (λ reply did. accepted_does g.K.Lookup.keeping c.args.account.now read c.accept.new.account c.args.request.now c.args.now basis reply
    c.requires.right c.in_ok-numbers.ensures.known c.in_ok-numbers.ensures.reads.told (record { rest = refl; keeper = c.in_ok-numbers.ensures.reads.same }) c.requires.later c.requires.first
    (taken_read g.K.Lookup.keeping c.args.account.now read c.args.request.now c.in_ok-numbers.numbers c.in-Some-live.live (record { rest = refl; keeper = c.in_ok-numbers.ensures.reads.same })
    c.requires.right c.in_ok-numbers.ensures.known c.in_ok-numbers.ensures.reads.told c.in_ok-numbers.ensures.range c.in-Some-live.is
    (λ k tables. sym (ap (option_map declined_so) c.in_default.is) ∙ c.in_ok-why.ensures.why k tables)) did)
    (rw (to_z-of_z w64 c.args.now c.ranges.now) at c.accept.ensures.does)

pub returns-clause-status : goal.returns-clause-status
returns-clause-status g c = ok_so c.accept.result (λ (x : Reply). x.status ≡ 200) _ (λ reply is. decided_granted reply is) c.accept.ensures.status

pub returns-clause-tests : goal.returns-clause-tests
returns-clause-tests g c = ok_so c.accept.result (λ (x : Reply). x.status ≡ 200) _ (λ reply is. inl is) c.accept.ensures.status

pub returns-clause-err : goal.returns-clause-err
returns-clause-err g c = err_so c.accept.result _ _ (λ leaves. leaves_read g.K.Lookup.keeping c.args.account.now _ _ (record { rest = refl; keeper = c.in_ok-numbers.ensures.reads.same }) leaves) c.accept.ensures.err

pub returns-clause-cause : goal.returns-clause-cause
returns-clause-cause g c = cause_after c.in_ok-numbers.ensures.reads.cause.goes c.accept.ensures.cause
