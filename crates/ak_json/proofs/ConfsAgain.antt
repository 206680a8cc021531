-- What was written of settings in their ranges is read again.
use Rattle.std.proofs.Common.{◌≡◌, ℕ, ◌<◌, ◌≤◌, ◌^◌, ℤ, pos, negsuc, ◌≤ℤ◌, Bool, true, false, Option, Some, refl, sym, ap, ◌∙◌, arith}
use Rattle.std.specs.Cmp.{second_so}
use Rattle.std.proofs.lemmas.Bool.{and_from}
use Rattle.std.specs.Prelude.{int_le, unwrap_or, option_and_then, option_map}
use Rattle.std.specs.Option.{option_or}
use Rattle.std.proofs.lemmas.Int.{ints}
use Rattle.serde_json.specs.Data.{Data, boolean}
use Rattle.serde_json.specs.Find.{as_bool}
use Rattle.ak_base.specs.Heads.{IsWithin, AreConfNumbersInRange}
use Rattle.ak_base.specs.declared.heads.Conf.{Conf}
use Rattle.ak_json.specs.Cells.{cell_at, bool_at}
use Rattle.ak_json.specs.Confs.{ReadsConf, conf_cells, conf_json}
use Rattle.ak_json.specs.Faults.{told}
use Rattle.ak_json.specs.Kinds.{is_number_within, holds}
use Rattle.ak_json.specs.Members.{Form}
use Rattle.ak_json.specs.Rests.{deep_key}
use Rattle.ak_json.specs.Written.{integer}
use Rattle.ak_json.specs.declared.form_faults.FormFault.{FormFault}
use Rattle.ak_json.specs.Forms.{conf_form}
use Rattle.ak_json.specs.declared.kinds.Kind.TheVariants as kinds
use Rattle.ak_json.proofs.Again.{IsReadAgain, small_again}
use Rattle.ak_json.proofs.DecksAgain.{whole_found}
use Rattle.ak_json.proofs.ObjectForms.{AllFound, all_hold, IsObjectAgain, object_again, nat_most}

least_test : (a b : ℤ) → a ≤ℤ b → int_le a b ≡ true
least_test a b h = grind (arith, ints)

-- a number that is within passes the test
within_test : (least most z : ℤ) → IsWithin least most z → is_number_within least most (Some z) ≡ true
within_test least most z h = and_from _ _ (least_test least z h.low) (least_test z most h.high)

within_again : (m : ℕ) (least z : ℤ) → m < 2 ^ 63 → is_number_within least (pos m) (Some z) ≡ true → IsReadAgain z
within_again m least (pos n) h w = let k : n ≤ m = nat_most n m (second_so (int_le least (pos n)) _ w) in small_again n (omega arith)
within_again m least (negsuc n) h w = refl

holds_within : (least most z : ℤ) → IsReadAgain z → is_number_within least most (Some z) ≡ true → holds (kinds.Within least most) (integer z) ≡ true
holds_within least most z r w = ap (is_number_within least most) r ∙ w

pub truth_found : (form : Form) (n : ℕ) (d : Data) (b : Bool) → cell_at form n d ≡ Some (boolean b) → b ≡ bool_at form n d
truth_found form n d b e = sym (ap (λ (o : Option Data). unwrap_or (option_and_then as_bool o) false) e)

-- what was written of settings in their ranges is read as these settings
pub conf_again : (c : Conf) → AreConfNumbersInRange c → ReadsConf (conf_json c) c
conf_again c h =
    let spread = within_test (pos 0) (pos 2) c.new_spread h.new_spread in
    let ahead = within_test (pos 0) (pos 86_400) c.collapse h.collapse in
    let next = within_test (pos 0) (pos 2_147_483_647) c.next_pos h.next_pos in
    let day = within_test (negsuc 9_999_999) (pos 100_000_000) c.last_unburied h.last_unburied in
    let r0 : IsReadAgain c.new_spread = within_again 2 (pos 0) c.new_spread (omega arith) spread in
    let r1 : IsReadAgain c.collapse = within_again 86_400 (pos 0) c.collapse (omega arith) ahead in
    let r3 : IsReadAgain c.next_pos = within_again 2_147_483_647 (pos 0) c.next_pos (omega arith) next in
    let r4 : IsReadAgain c.last_unburied = within_again 100_000_000 (negsuc 9_999_999) c.last_unburied (omega arith) day in
    let all : all_hold conf_form (conf_cells c) ≡ true =
    rw (holds_within (pos 0) (pos 2) c.new_spread r0 spread, holds_within (pos 0) (pos 86_400) c.collapse r1 ahead, holds_within (pos 0) (pos 2_147_483_647) c.next_pos r3 next, holds_within (negsuc 9_999_999) (pos 100_000_000) c.last_unburied r4 day) refl in
    let o : IsObjectAgain conf_form (conf_cells c) c.rest.text = object_again conf_form (conf_cells c) c.rest.text refl refl c.rest.unknown all in
    let f : AllFound conf_form (conf_cells c) (conf_json c) = o.found in
    record {
      form = ap (λ (fault : Option FormFault). option_or (option_map told fault) (deep_key conf_form (conf_json c))) o.fault ∙ o.deep;
      new_spread = whole_found conf_form 0 (conf_json c) c.new_spread f.0 r0;
      collapse = whole_found conf_form 1 (conf_json c) c.collapse f.1.0 r1;
      day_learn_first = truth_found conf_form 2 (conf_json c) c.day_learn_first f.1.1.0;
      next_pos = whole_found conf_form 3 (conf_json c) c.next_pos f.1.1.1.0 r3;
      last_unburied = whole_found conf_form 4 (conf_json c) c.last_unburied f.1.1.1.1.0 r4;
      rest = o.rest;
    }
