-- Settings that were read are in their ranges.
use Rattle.std.proofs.Common.{◌≡◌, ℤ, pos, negsuc, ◌≤ℤ◌, Bool, true, false, Option, Some, None, refl, sym, subst, arith}
use Rattle.ak_base.proofs.Optional.{first_none, none_mapped}
use Rattle.std.specs.Cmp.{first_so, second_so}
use Rattle.std.specs.Prelude.{int_le, unwrap_or, option_and_then, if◌then◌else◌}
use Rattle.std.specs.Option.{is_some, option_or}
use Rattle.std.proofs.lemmas.Int.{ints}
use Rattle.serde_json.specs.Data.{Data}
use Rattle.serde_json.specs.Find.{as_object}
use Rattle.ak_base.specs.Heads.{IsWithin, AreConfNumbersInRange}
use Rattle.ak_base.specs.declared.heads.Conf.{Conf}
use Rattle.ak_json.specs.Confs.{ReadsConf, conf_fault}
use Rattle.ak_json.specs.Faults.{told}
use Rattle.ak_json.specs.FormFaults.{found_form_fault, plain_form_fault, form_fault_within, first_form_fault}
use Rattle.ak_json.specs.Keys.{find}
use Rattle.ak_json.specs.Kinds.{integer_of, is_number_within}
use Rattle.ak_json.specs.Objects.{object_form_fault}
use Rattle.ak_json.specs.Rests.{deep_key}
use Rattle.ak_json.specs.declared.form_faults.FormFault.{FormFault}
use Rattle.ak_json.specs.Forms.{conf_form}
use Rattle.ak_json.specs.declared.keys.Place.{Place}
use Rattle.ak_json.specs.declared.keys.Place.TheVariants as places
use Rattle.ak_json.specs.declared.keys.Key.TheVariants as keys
use Rattle.ak_json.specs.declared.kinds.Kind.TheVariants as kinds
use Rattle.ak_json.proofs.RowForms.{when_object, none_at}

low_number : (a b : ℤ) → int_le a b ≡ true → a ≤ℤ b
low_number a b h = grind (arith, ints)

-- a number that passes the test is within
number_within : (least most : ℤ) (o : Option ℤ) → is_number_within least most o ≡ true → IsWithin least most (unwrap_or o (pos 0))
number_within least most None h = cc
number_within least most (Some z) h =
    record { low = low_number least z (first_so _ _ h); high = low_number z most (second_so (int_le least z) _ h) }

when_none : (b : Bool) (fault : FormFault) → (if b then None else Some fault) ≡ None → b ≡ true
when_none true fault h = refl
when_none false fault h = cc

-- so is one that was found in a column of its kind
found_within : (place : Place) (least most : ℤ) (o : Option Data) → found_form_fault (place, kinds.Within least most) o ≡ None → IsWithin least most (unwrap_or (option_and_then integer_of o) (pos 0))
found_within place least most None h = cc
found_within place least most (Some d) h = number_within least most (integer_of d) (when_none _ _ h)

column_within : (place : Place) (least most : ℤ) (d : Data) → option_or (plain_form_fault (place, kinds.Within least most) d) (form_fault_within (place, kinds.Within least most) (find place d)) ≡ None
    → IsWithin least most (unwrap_or (option_and_then integer_of (find place d)) (pos 0))
column_within place least most d h = found_within place least most (find place d) (first_none _ _ h)

faultless_conf : (d : Data) → conf_fault d ≡ None → first_form_fault conf_form d ≡ None
faultless_conf d h = when_object (is_some (as_object d)) _ (none_mapped told (object_form_fault conf_form d) (first_none _ (deep_key conf_form d) h))

-- settings that were read are in their ranges
pub conf_in_range : (d : Data) (c : Conf) → ReadsConf d c → AreConfNumbersInRange c
conf_in_range d c r =
    let faultless : first_form_fault conf_form d ≡ None = faultless_conf d r.form in
    record {
      new_spread = subst (IsWithin (pos 0) (pos 2)) (sym r.new_spread) (column_within (places.Key keys.NewSpread) (pos 0) (pos 2) d (none_at conf_form 0 d faultless));
      collapse = subst (IsWithin (pos 0) (pos 86_400)) (sym r.collapse) (column_within (places.Key keys.CollapseTime) (pos 0) (pos 86_400) d (none_at conf_form 1 d faultless));
      next_pos = subst (IsWithin (pos 0) (pos 2_147_483_647)) (sym r.next_pos) (column_within (places.Key keys.NextPos) (pos 0) (pos 2_147_483_647) d (none_at conf_form 3 d faultless));
      last_unburied = subst (IsWithin (negsuc 9_999_999) (pos 100_000_000)) (sym r.last_unburied)
          (column_within (places.Key keys.LastUnburied) (negsuc 9_999_999) (pos 100_000_000) d (none_at conf_form 4 d faultless));
    }
