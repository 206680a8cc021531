use Rattle.std.proofs.Common.{◌≡◌, ◌∷◌, length, refl, rules, subst}
use Rattle.ak_journal_rows.proofs.Ascending.{Decide, empty_listed, left_decide, left_refuse}
use Rattle.ak_base.proofs.InRange.{pair_decides}
use Rattle.ak_journal_rows.proofs.listed.are_listed.Goals as goal

pub returns-then-not-fits-is_before_first : goal.returns-then-not-fits-is_before_first
returns-then-not-fits-is_before_first g c =
    let is : c.loop-entry.rest.now ≡ c.in-Some.entry.now ∷ c.in-Some.others.now = search rules in
    left_refuse g.E.Entry.fits g.E.Entry.named c.args.entries.now c.in-Some.entry.now c.in-Some.others.now _ _ c.fits.ensures c.is_before_first.ensures c.if-not-fits-is_before_first.true
    (subst (λ rest. Decide g.E.Entry.fits g.E.Entry.named rest c.args.entries.now) is c.loop-entry.invariant)

pub loop-entry-preserved : goal.loop-entry-preserved
loop-entry-preserved g c =
    let is : c.loop-entry.rest.now ≡ c.in-Some.entry.now ∷ c.in-Some.others.now = search rules in
    left_decide g.E.Entry.fits g.E.Entry.named c.args.entries.now c.in-Some.entry.now c.in-Some.others.now
    ((pair_decides _ _ c.fits.ensures c.is_before_first.ensures).0 c.if-not-fits-is_before_first.false)
    (subst (λ rest. Decide g.E.Entry.fits g.E.Entry.named rest c.args.entries.now) is c.loop-entry.invariant)

pub returns : goal.returns
returns g c =
    let none : length c.loop-entry.rest.now ≡ 0 = search rules in
    (λ _. c.loop-entry.invariant.0 (empty_listed g.E.Entry.fits g.E.Entry.named _ none), λ _. refl)
