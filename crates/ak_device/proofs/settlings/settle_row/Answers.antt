use Rattle.std.proofs.Common.{◌≡◌, false, true, sym, ap, ◌∙◌, arith, rules, w64, SFits}
use Rattle.std.proofs.lemmas.Int.{to_z-of_z}
use Rattle.ak_base.specs.declared.rows.Row.{Row}
use Rattle.ak_device.proofs.Settling.{settles_put, settles_sent}
use Rattle.ak_keep.specs.Keepers.{put}
use Rattle.ak_sync_rows.proofs.Parted.{if_ok}
use Rattle.ak_device.proofs.settlings.settle_row.Goals as goal

pub returns-then-not-is_pending-clause-ok : goal.returns-then-not-is_pending-clause-ok
returns-then-not-is_pending-clause-ok g c =
    let was : c.is_pending.result ≡ false = grind (arith, c.if-not-is_pending.true) in
    settles_sent c.args.usn c.args.name c.args.row (g.K.Lookup.keeping c.args.keeper.now) (sym c.is_pending.ensures ∙ was) c.requires.stands

pub returns-clause-ok : goal.returns-clause-ok
returns-clause-ok g c =
    let usn : SFits w64 c.args.usn = search rules in
    let is : c.is_pending.result ≡ true = grind (arith, c.if-not-is_pending.false) in
    if_ok c.put.result _ _
    (λ puts. settles_put c.args.usn c.args.name c.args.row (g.K.Lookup.keeping c.args.keeper.now) (g.K.Lookup.keeping c.put.new.self)
    (sym c.is_pending.ensures ∙ is) c.requires.named c.requires.stands
    (puts ∙ ap (λ (row : Row). put row (g.K.Lookup.keeping c.args.keeper.now)) (rw (to_z-of_z w64 c.args.usn usn) at c.set_usn.ensures)))
    c.put.ensures.ok
