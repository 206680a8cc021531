use Rattle.std.proofs.Common.{◌≡◌, ap, subst, ◌∙◌}
use Rattle.ak_keep.specs.Keepers.{Keeping, WhereTold, is_marked}
use Rattle.ak_merge.specs.Commits.{uploaded_rows}
use Rattle.ak_transfers.proofs.Preparing.{kept_may, put_whole, sent_whole}
use Rattle.ak_transfers.specs.UploadParts.{plain_rows}
use Rattle.ak_transfers.proofs.device_rows.prepare.Goals as goal

pub replace_all-requires-clause-marked : goal.replace_all-requires-clause-marked
replace_all-requires-clause-marked g c = ap is_marked (c.in_ok-rows.ensures.reads.same ∙ c.in_ok-head.ensures.reads.same) ∙ c.requires.marked

pub replace_all-requires-clause-checked : goal.replace_all-requires-clause-checked
replace_all-requires-clause-checked g c =
    (kept_may c.in_ok-rows.rows _ c.in_ok-kept.kept c.in_ok-rows.ensures.may c.as_slice.ensures c.in_ok-kept.ensures).checked

pub replace_all-requires-clause-distinct : goal.replace_all-requires-clause-distinct
replace_all-requires-clause-distinct g c =
    (kept_may c.in_ok-rows.rows _ c.in_ok-kept.kept c.in_ok-rows.ensures.may c.as_slice.ensures c.in_ok-kept.ensures).distinct

pub returns-clause-sent : goal.returns-clause-sent
returns-clause-sent g c =
    sent_whole (g.K.Lookup.keeping c.args.keeper.now) c.in_ok-head.head c.in_ok-rows.rows c.whole_sent_with.result c.in_ok-head.ensures.reads.told
    (subst (λ (k : Keeping). WhereTold k (λ h. c.in_ok-rows.rows ≡ plain_rows h.rows)) c.in_ok-head.ensures.reads.same c.in_ok-rows.ensures.reads.told)
    c.whole_sent_with.ensures

pub returns-clause-put : goal.returns-clause-put
returns-clause-put g c =
    put_whole (g.K.Lookup.keeping c.args.keeper.now) (g.K.Lookup.keeping c.plain_rows.new.from) (g.K.Lookup.keeping c.replace_all.new.self)
    c.in_ok-head.head c.in_ok-made.made c.in_ok-rows.rows c.in_ok-kept.kept c.whole_sent_with.result
    (c.in_ok-rows.ensures.reads.same ∙ c.in_ok-head.ensures.reads.same) c.in_ok-replace_all.ensures.ok
    (c.in_ok-kept.ensures ∙ ap uploaded_rows c.as_slice.ensures) c.in_ok-made.ensures.made c.whole_sent_with.ensures
