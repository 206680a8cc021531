use Rattle.std.specs.Prelude.{List, pos, []}
use Rattle.std.proofs.Common.{sym, ap, subst, ◌∙◌, rules, w64, SFits}
use Rattle.std.proofs.lemmas.Int.{to_z-of_z}
use Rattle.ak_base.specs.Heads.{IsHeadInRange, tag_names}
use Rattle.ak_base.specs.declared.heads.Tag.{Tag}
use Rattle.ak_merge.specs.Tags.{tags_taken}
use Rattle.ak_server_steps.proofs.Uploading.{their_moment_fits, their_schema_fits, uploaded_head_fits, uploaded_head_is}
use Rattle.ak_server_steps.proofs.closings.uploaded_head.Goals as goal

pub moment_past-requires-clause-other : goal.moment_past-requires-clause-other
moment_past-requires-clause-other c =
    let fits : SFits w64 c.args.whole.now.moment = search rules in
    rw (to_z-of_z w64 c.args.whole.now.moment fits) (their_moment_fits c.args.held.now c.args.whole.now c.requires.next)

pub moment_past-requires-2-clause-other : goal.moment_past-requires-2-clause-other
moment_past-requires-2-clause-other c =
    let fits : SFits w64 c.args.whole.now.schema = search rules in
    rw (to_z-of_z w64 c.args.whole.now.schema fits) (their_schema_fits c.args.held.now c.args.whole.now c.requires.next)

pub returns-clause-ok : goal.returns-clause-ok
returns-clause-ok c =
    let crt : SFits w64 c.args.whole.now.crt = search rules in
    let sync : SFits w64 c.args.held.now.last_sync = search rules in
    let one : SFits w64 c.args.held.now.moment = search rules in
    let other : SFits w64 c.args.whole.now.moment = search rules in
    let first : SFits w64 c.args.held.now.schema = search rules in
    let second : SFits w64 c.args.whole.now.schema = search rules in
    let moment : SFits w64 c.moment_past.result = search rules in
    let schema : SFits w64 c.moment_past-2.result = search rules in
    uploaded_head_is c.args.held.now c.args.whole.now c.args.now _ _ _ _ c.in_ok-conf.conf c.in_ok-tags.tags
    (to_z-of_z w64 c.args.whole.now.crt crt)
    (to_z-of_z w64 c.moment_past.result moment
    ∙ (rw (to_z-of_z w64 c.args.now c.ranges.now, to_z-of_z w64 c.args.held.now.moment one, to_z-of_z w64 c.args.whole.now.moment other) at c.moment_past.ensures))
    (to_z-of_z w64 c.moment_past-2.result schema
    ∙ (rw (to_z-of_z w64 c.args.now c.ranges.now, to_z-of_z w64 c.args.held.now.schema first, to_z-of_z w64 c.args.whole.now.schema second) at c.moment_past-2.ensures))
    (to_z-of_z w64 c.args.held.now.last_sync sync)
    c.in_ok-conf.ensures
    (c.in_ok-tags.ensures ∙ ap (λ (tags : List Tag). tags_taken (pos 0) (tag_names tags) []) c.as_slice.ensures)

pub returns-clause-range : goal.returns-clause-range
returns-clause-range c =
    subst IsHeadInRange (sym (returns-clause-ok c)) (uploaded_head_fits c.args.held.now c.args.whole.now c.args.now c.requires.clock c.requires.held c.requires.range c.requires.next)
