use Rattle.std.proofs.Common.{◌≡◌, pos, true, Ok, Some, Option, IfSome, ap, subst}
use Rattle.std.specs.Option.{option_or}
use Rattle.ak_base.specs.OptionGroups.{IsCheckedOptions}
use Rattle.ak_base.specs.declared.option_groups.Options.{Options}
use Rattle.ak_keep.specs.Keepers.{Reads}
use Rattle.ak_keep.specs.Lookups.{options_at, options_of_deck}
use Rattle.ak_keep.proofs.Told.{where_told-map}
use Rattle.ak_keep.proofs.lookups.options_of_deck.Goals as goal

pub returns-in-Some : goal.returns-in-Some
returns-in-Some g c =
    let R = g.R.Lookup in
    let was = c.args.from.now in
    let now = c.own_options.new.from in
    let id = c.args.deck.now.options in
    let own : Reads (R.kept was) (R.kept now) (R.keeping was) (R.keeping now) (R.health was) (R.health now) (Ok (Some c.in-Some.options)) (λ h found. found ≡ options_at h.rows id) =
    subst (λ (found : Option Options). Reads (R.kept was) (R.kept now) (R.keeping was) (R.keeping now) (R.health was) (R.health now) (Ok found) (λ h found. found ≡ options_at h.rows id)) c.in-Some.is c.in_ok-options.ensures.reads in
    record {
      reads = record {
        kept = own.kept;
        same = own.same;
        cause = own.cause;
        told = where_told-map (R.keeping was) (λ h. Some c.in-Some.options ≡ options_at h.rows id) (λ h. Some c.in-Some.options ≡ options_of_deck h.rows c.args.deck.now)
            (λ h is. ap (λ o. option_or o (options_at h.rows (pos 1))) is) own.told;
      };
      checked = subst (λ (found : Option Options). R.checks ≡ true → IfSome found IsCheckedOptions) c.in-Some.is c.in_ok-options.ensures.checked;
    }
