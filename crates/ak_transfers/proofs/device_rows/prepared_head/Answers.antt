use Rattle.std.specs.Prelude.{ℕ, List, pos, []}
use Rattle.std.proofs.Common.{sym, ap, subst, ◌∙◌, rules, w64, SFits}
use Rattle.std.proofs.lemmas.Int.{to_z-of_z}
use Rattle.ak_base.specs.Heads.{IsHeadInRange, tag_names}
use Rattle.ak_merge.specs.Tags.{tags_taken}
use Rattle.ak_transfers.proofs.Heads.{prepared_fits, prepared_is}
use Rattle.ak_transfers.proofs.device_rows.prepared_head.Goals as goal

pub returns-clause-made : goal.returns-clause-made
returns-clause-made c =
    let crt : SFits w64 c.args.head.now.crt = search rules in
    let moment : SFits w64 c.args.head.now.moment = search rules in
    let schema : SFits w64 c.args.head.now.schema = search rules in
    prepared_is c.args.head.now _ _ _ _ c.in_ok-conf.conf c.in_ok-tags.tags
    (to_z-of_z w64 c.args.head.now.crt crt)
    (to_z-of_z w64 c.args.head.now.moment moment)
    (to_z-of_z w64 c.args.head.now.schema schema)
    (to_z-of_z w64 c.args.head.now.moment moment)
    c.in_ok-conf.ensures
    (c.in_ok-tags.ensures ∙ ap (tags_taken (pos 0) c.as_slice-2.result.now) c.new.ensures ∙ ap (λ (names : List (List ℕ)). tags_taken (pos 0) names []) (c.as_slice-2.ensures ∙ c.in_ok-names.ensures ∙ ap tag_names c.as_slice.ensures))

pub returns-clause-range : goal.returns-clause-range
returns-clause-range c = subst IsHeadInRange (sym (returns-clause-made c)) (prepared_fits c.args.head.now c.requires)
