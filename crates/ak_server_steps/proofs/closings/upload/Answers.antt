use Rattle.std.specs.List.{All, IsDistinct}
use Rattle.std.specs.Ordering.{eq_by_cmp}
use Rattle.std.specs.Prelude.{List, map}
use Rattle.std.proofs.Common.{sym, ap, subst, ◌∙◌, w64}
use Rattle.std.proofs.lemmas.Int.{to_z-of_z}
use Rattle.ak_base.specs.Names.{name_cmp}
use Rattle.ak_base.specs.Rows.{IsChecked, name_of}
use Rattle.ak_base.specs.declared.heads.Head.{Head}
use Rattle.ak_base.specs.declared.rows.Row.{Row}
use Rattle.ak_keep.specs.Keepers.{marked_here}
use Rattle.ak_merge.specs.Commits.{uploaded_rows}
use Rattle.ak_messages.specs.declared.replies.Give.TheVariants as gives
use Rattle.ak_server_steps.specs.Closings.{uploaded_head}
use Rattle.ak_server_steps.proofs.Uploading.{upload_puts, uploaded_apart, uploaded_checked}
use Rattle.ak_server_steps.proofs.closings.upload.Goals as goal

pub replace_marked-requires-clause-checked : goal.replace_marked-requires-clause-checked
replace_marked-requires-clause-checked g c =
    subst (λ (rows : List Row). All IsChecked rows) (sym (c.in_ok-rows.ensures ∙ ap uploaded_rows c.as_slice.ensures)) (uploaded_checked c.args.whole.now c.requires.range)

pub replace_marked-requires-clause-distinct : goal.replace_marked-requires-clause-distinct
replace_marked-requires-clause-distinct g c =
    subst (λ (rows : List Row). IsDistinct (eq_by_cmp name_cmp) (map name_of rows)) (sym (c.in_ok-rows.ensures ∙ ap uploaded_rows c.as_slice.ensures))
    (uploaded_apart c.args.whole.now.rows c.requires.distinct)

pub returns-clause-gives : goal.returns-clause-gives
returns-clause-gives g c =
    c.uploaded-give.ensures
    ∙ ap (λ (head : Head). gives.Uploaded head.moment head.schema) (rw (to_z-of_z w64 c.args.now c.ranges.now) at c.in_ok-made.ensures.ok)

pub returns-clause-ok : goal.returns-clause-ok
returns-clause-ok g c =
    upload_puts c.in_ok-rows.rows c.args.whole.now.rows c.in_ok-made.made (uploaded_head c.args.numbers.now c.args.whole.now c.args.now)
    (marked_here (g.K.Lookup.keeping c.args.keeper.now)) (g.K.Lookup.keeping c.replace_marked.new.keeper)
    (c.in_ok-rows.ensures ∙ ap uploaded_rows c.as_slice.ensures) (rw (to_z-of_z w64 c.args.now c.ranges.now) at c.in_ok-made.ensures.ok)
    c.in_ok-replace_marked.ensures.ok
