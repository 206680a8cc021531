use Rattle.std.specs.Prelude.{false}
use Rattle.std.proofs.Common.{refl, rules, w64, SFits}
use Rattle.std.proofs.lemmas.Int.{to_z-of_z}
use Rattle.ak_keep.proofs.Causing.{cause-ok}
use Rattle.ak_server_rules.proofs.Deciding.{ok_so}
use Rattle.ak_messages.specs.declared.requests.Ask.TheVariants as asks
use Rattle.ak_server_steps.proofs.Answering.{changes_answered, chunk_answered, download_answered, nothing_answered, sanity_answered, start_answered}
use Rattle.ak_server_steps.proofs.answers.answer.Goals as goal

pub returns-in_ok-graves-in-Start-clause-told : goal.returns-in_ok-graves-in-Start-clause-told
returns-in_ok-graves-in-Start-clause-told g c =
    let fits : SFits w64 c.in-Start.min_usn = search rules in
    start_answered c.args.basis.live (g.K.Lookup.keeping c.args.keeper.now) c.args.ask.now _ c.in-Start.min_usn c.in-Start.lmod c.in_ok-graves-in-Start.graves
    c.in-Start.is c.give_answer.ensures (rw (to_z-of_z w64 c.in-Start.min_usn fits) at c.in_ok-graves-in-Start.ensures.told)

pub returns-in_ok-graves-in-Start-clause-cause : goal.returns-in_ok-graves-in-Start-clause-cause
returns-in_ok-graves-in-Start-clause-cause g c = cause-ok c.give_answer.result c.in_ok-graves-in-Start.ensures.cause.goes

pub returns-in_ok-apply_graves-in-ApplyGraves-clause-told : goal.returns-in_ok-apply_graves-in-ApplyGraves-clause-told
returns-in_ok-apply_graves-in-ApplyGraves-clause-told g c =
    nothing_answered c.args.basis.live (g.K.Lookup.keeping c.args.keeper.now) c.args.ask.now _ (asks.ApplyGraves c.in-ApplyGraves.ids) false
    c.in-ApplyGraves.is c.give_answer-in-ApplyGraves.ensures (λ k is. is) (λ k. refl) (λ k. refl)

pub returns-in_ok-apply_graves-in-ApplyGraves-clause-cause : goal.returns-in_ok-apply_graves-in-ApplyGraves-clause-cause
returns-in_ok-apply_graves-in-ApplyGraves-clause-cause g c =
    cause-ok c.give_answer-in-ApplyGraves.result c.in_ok-apply_graves-in-ApplyGraves.ensures.cause.goes

pub returns-in_ok-changes-in-ApplyChanges-clause-told : goal.returns-in_ok-changes-in-ApplyChanges-clause-told
returns-in_ok-changes-in-ApplyChanges-clause-told g c =
    changes_answered c.args.basis.live (g.K.Lookup.keeping c.args.keeper.now) c.args.ask.now _ c.in-ApplyChanges.changes c.in_ok-changes-in-ApplyChanges.changes
    c.in-ApplyChanges.is c.give_answer-in-ApplyChanges.ensures c.in_ok-changes-in-ApplyChanges.ensures.told

pub returns-in_ok-changes-in-ApplyChanges-clause-cause : goal.returns-in_ok-changes-in-ApplyChanges-clause-cause
returns-in_ok-changes-in-ApplyChanges-clause-cause g c =
    cause-ok c.give_answer-in-ApplyChanges.result c.in_ok-changes-in-ApplyChanges.ensures.cause.goes

pub returns-in-Chunk-clause-told : goal.returns-in-Chunk-clause-told
returns-in-Chunk-clause-told g c =
    ok_so c.give_chunk.result _ _
    (λ it next. chunk_answered c.args.basis.live (g.K.Lookup.keeping c.args.keeper.now) c.args.ask.now it c.in-Chunk.is next) c.give_chunk.ensures.reads.told

pub returns-in_ok-apply_chunk-in-ApplyChunk-clause-told : goal.returns-in_ok-apply_chunk-in-ApplyChunk-clause-told
returns-in_ok-apply_chunk-in-ApplyChunk-clause-told g c =
    nothing_answered c.args.basis.live (g.K.Lookup.keeping c.args.keeper.now) c.args.ask.now _ (asks.ApplyChunk c.in-ApplyChunk.chunk) c.in-ApplyChunk.chunk.done
    c.in-ApplyChunk.is c.give_answer-in-ApplyChunk.ensures (λ k is. is) (λ k. refl) (λ k. refl)

pub returns-in_ok-apply_chunk-in-ApplyChunk-clause-cause : goal.returns-in_ok-apply_chunk-in-ApplyChunk-clause-cause
returns-in_ok-apply_chunk-in-ApplyChunk-clause-cause g c =
    cause-ok c.give_answer-in-ApplyChunk.result c.in_ok-apply_chunk-in-ApplyChunk.ensures.cause.goes

pub returns-in_ok-sanity-in-SanityCheck2-clause-told : goal.returns-in_ok-sanity-in-SanityCheck2-clause-told
returns-in_ok-sanity-in-SanityCheck2-clause-told g c =
    sanity_answered c.args.basis.live (g.K.Lookup.keeping c.args.keeper.now) c.args.ask.now _ c.in-SanityCheck2.counts c.in_ok-sanity-in-SanityCheck2.sanity
    c.in-SanityCheck2.is c.give_answer-in-SanityCheck2.ensures c.in_ok-sanity-in-SanityCheck2.ensures.reads.told

pub returns-in_ok-sanity-in-SanityCheck2-clause-cause : goal.returns-in_ok-sanity-in-SanityCheck2-clause-cause
returns-in_ok-sanity-in-SanityCheck2-clause-cause g c =
    cause-ok c.give_answer-in-SanityCheck2.result c.in_ok-sanity-in-SanityCheck2.ensures.reads.cause.goes

pub returns-in_ok-whole-in-Download-clause-told : goal.returns-in_ok-whole-in-Download-clause-told
returns-in_ok-whole-in-Download-clause-told g c =
    download_answered c.args.basis.live (g.K.Lookup.keeping c.args.keeper.now) c.args.ask.now _ c.in_ok-whole-in-Download.whole
    c.in-Download.is c.give_answer-in-Download.ensures c.in_ok-whole-in-Download.ensures.reads.told

pub returns-in_ok-whole-in-Download-clause-cause : goal.returns-in_ok-whole-in-Download-clause-cause
returns-in_ok-whole-in-Download-clause-cause g c =
    cause-ok c.give_answer-in-Download.result c.in_ok-whole-in-Download.ensures.reads.cause.goes

pub returns-in-Meta-clause-told : goal.returns-in-Meta-clause-told
returns-in-Meta-clause-told g c =
    nothing_answered c.args.basis.live (g.K.Lookup.keeping c.args.keeper.now) c.args.ask.now _ asks.Meta false
    c.in-Meta.is c.give_answer-in-Meta.ensures (λ k is. is) (λ k. refl) (λ k. refl)

pub returns-in-Finish-clause-told : goal.returns-in-Finish-clause-told
returns-in-Finish-clause-told g c =
    nothing_answered c.args.basis.live (g.K.Lookup.keeping c.args.keeper.now) c.args.ask.now _ asks.Finish false
    c.in-Finish.is c.give_answer-in-Finish.ensures (λ k is. is) (λ k. refl) (λ k. refl)

pub returns-in-Upload-clause-told : goal.returns-in-Upload-clause-told
returns-in-Upload-clause-told g c =
    nothing_answered c.args.basis.live (g.K.Lookup.keeping c.args.keeper.now) c.args.ask.now _ (asks.Upload c.in-Upload.field-0) false
    c.in-Upload.is c.give_answer-in-Upload.ensures (λ k is. is) (λ k. refl) (λ k. refl)
