-- Where an object of a list has no fault, its rest is refused only if memory runs out.
use Rattle.std.proofs.Common.{◌≡◌, ℕ, List, Bool, true, false, not, ◌&&◌, ◌||◌, Option, Some, None, refl, ap, subst}
use Rattle.ak_base.proofs.Optional.{second_none}
use Rattle.std.specs.Prelude.{if◌then◌else◌, unwrap_or, option_map}
use Rattle.serde_json.specs.Data.{Data, Members, no_members, member}
use Rattle.serde_json.specs.Find.{as_object}
use Rattle.ak_json.specs.Depths.{is_shallow}
use Rattle.ak_json.specs.Members.{Form, knows, unknown, deep_member, has_deep}
use Rattle.ak_json.specs.FormFaults.{inner_form_fault, object_form_fault_of, part_form_fault}
use Rattle.ak_json.specs.Faults.{Tells}
use Rattle.ak_json.specs.Rests.{deep_key}
use Rattle.ak_json.specs.declared.form_faults.FormFault.{FormFault}
use Rattle.ak_json.specs.declared.faults.JsonFault.{JsonFault}
use Rattle.ak_json.specs.declared.faults.JsonFault.TheVariants as faults

not_either : (a b : Bool) → (a || b) ≡ false → (a ≡ false) × (b ≡ false)
not_either true b h = cc
not_either false b h = (refl, h)

not_deep : (deep : Bool) (fault : FormFault) → (if deep then Some fault else None) ≡ None → deep ≡ false
not_deep true fault h = cc
not_deep false fault h = refl

-- where no unknown member is deep, none of those that are kept is
pub shallow_kept : (form : Form) (ms : Members) → has_deep form ms ≡ false → deep_member (unknown form ms) ≡ None
shallow_kept form no_members h = refl
shallow_kept form (member k d ms) h =
    let both : (((not (knows form k)) && not (is_shallow 63 d)) ≡ false) × (has_deep form ms ≡ false) = not_either _ _ h in
    one (knows form k) (is_shallow 63 d) (unknown form ms) refl both.0 (shallow_kept form ms both.1)
  where
    one : (known shallow : Bool) (later : Members) → is_shallow 63 d ≡ shallow → (not known && not shallow) ≡ false → deep_member later ≡ None
        → deep_member (if known then later else member k d later) ≡ None
    one true shallow later e h i = i
    one false true later e h i = rw e i
    one false false later e h i = cc

-- no member that an object of a list keeps is deep, where the object has no fault
pub of_object : (form : Form) (d : Data) (o : Option Members) → object_form_fault_of form d o ≡ None → deep_member (unknown form (unwrap_or o no_members)) ≡ None
of_object form d None h = cc
of_object form d (Some ms) h = shallow_kept form ms (not_deep _ _ (second_none (inner_form_fault form d) _ h))

tells_none : (fault : JsonFault) → Tells None fault → fault ≡ faults.Memory
tells_none faults.NotJson t = absurd t
tells_none (faults.Missing text) t = cc
tells_none (faults.WrongKind text) t = cc
tells_none (faults.Row fault) t = absurd t
tells_none faults.Memory t = refl

pub only_memory : (form : Form) (d : Data) (fault : JsonFault) → part_form_fault form d ≡ None → Tells (deep_key form d) fault → fault ≡ faults.Memory
only_memory form d fault h t =
    let none : deep_key form d ≡ None = ap (λ (o : Option (List ℕ)). option_map faults.WrongKind o) (of_object form d (as_object d) h) in
    tells_none fault (subst (λ (o : Option JsonFault). Tells o fault) none t)
