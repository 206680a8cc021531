-- What was written of an option group in its ranges is read again.
use Rattle.std.proofs.Common.{◌≡◌, ℕ, ◌≤◌, ℤ, pos, negsuc, List, [], ◌∷◌, ◌++◌, length, map, take, drop, codes, Bool, true, false, ◌&&◌, ◌==◌, Option, Some, None, is_none, Ok, Ordering, Less, Equal, Greater, is_eq, nat_cmp, refl, sym, ap, subst, ◌∙◌, arith}
use Rattle.ak_base.proofs.Optional.{first_none, second_none}
use Rattle.std.specs.Cmp.{first_so, second_so}
use Rattle.std.proofs.lemmas.Bool.{and_from}
use Rattle.std.specs.Prelude.{if◌then◌else◌, unwrap_or, option_and_then, option_map}
use Rattle.std.specs.Option.{option_map_or, option_or, is_some}
use Rattle.std.specs.Cmp.Lexicographic.{slice_cmp, pointwise}
use Rattle.std.specs.Ordering.{match_ordering}
use Rattle.serde_json.specs.Data.{Data, null, boolean, number, string, array, object, no_items, Members, no_members, member, put}
use Rattle.serde_json.specs.Find.{get, get_member, as_array, as_object}
use Rattle.serde_json.specs.View.{items_of}
use Rattle.serde_json.specs.Written.{compact_text}
use Rattle.ak_base.specs.Columns.{code_fault, long_fault, first_fault}
use Rattle.ak_base.specs.OptionGroups.{bad_step, steps_fault, options_faults, general_faults, new_faults, rev_faults, lapse_faults}
use Rattle.ak_base.specs.Rests.{lacks, lacks_but_some, keeps_unknown, lacks_options, options_keys, new_keys, rev_keys, lapse_keys}
use Rattle.ak_base.specs.declared.option_groups.Options.{Options}
use Rattle.ak_json.specs.Cells.{cell_at, integer_at, permille_at, bool_at, part_at, steps_at, inner_at, integers}
use Rattle.ak_json.specs.Decimals.{decimal_of, decimal_text}
use Rattle.ak_json.specs.FormFaults.{found_form_fault, plain_form_fault, inner_form_fault}
use Rattle.ak_json.specs.Groups.{put_group, group_members, new_in, rev_in, lapse_in, options_kept_by, IsOptionsBy, new_cells, new_json, rev_cells, rev_json, lapse_cells, lapse_json, options_cells, options_json}
use Rattle.ak_json.specs.Keys.{key_text}
use Rattle.ak_json.specs.Kinds.{integer_of, permille_of, are_integers}
use Rattle.ak_json.specs.Members.{Form, knows, unknown}
use Rattle.ak_json.specs.Objects.{object_form_fault, put_cells}
use Rattle.ak_json.specs.Rests.{kept, rest_members, deep_fault}
use Rattle.ak_json.specs.Versions.{is_old}
use Rattle.ak_json.specs.Written.{integer, factor, pair, steps_json}
use Rattle.ak_json.specs.declared.faults.JsonFault.TheVariants as faults
use Rattle.ak_json.specs.Forms.{options_form, new_form, rev_form, lapse_form}
use Rattle.ak_json.specs.declared.keys.Key.{Key}
use Rattle.ak_json.specs.declared.form_faults.FormFault.{FormFault}
use Rattle.ak_json.specs.declared.keys.Key.TheVariants as keys
use Rattle.ak_json.specs.declared.keys.Place.{Place}
use Rattle.ak_json.specs.declared.keys.Place.TheVariants as places
use Rattle.ak_json.specs.declared.kinds.Kind.{Kind}
use Rattle.ak_json.specs.declared.kinds.Kind.TheVariants as kinds
use Rattle.ak_json.specs.declared.versions.Version.TheVariants.{Second}
use Rattle.ak_json.proofs.Again.{IsReadAgain, AllNone, all_none, at_most, below, id_again, stamp_again, code_again}
use Rattle.ak_json.proofs.ConfsAgain.{truth_found}
use Rattle.ak_json.proofs.DecimalTexts.{decimal_again}
use Rattle.ak_json.proofs.DecksAgain.{whole_found, words_found, part_found}
use Rattle.ak_json.proofs.Kept.{same_key}
use Rattle.ak_json.proofs.NoteTypesAgain.{inner_none}
use Rattle.ak_json.proofs.ObjectForms.{AllFound, found_all, are_apart, knows_all, keys_of, unknown_cells, all_unknown, IsKept, rest_kept, all_hold, faultless, plain_is_shallow, none_later, none_of, stays, unequal, differs, no_rest}
use Rattle.ak_json.proofs.OptionRests.{put_together}
use Rattle.ak_json.proofs.ReadSorted.{rest_sorted}
use Rattle.ak_json.proofs.Sorted.{AllBehind, AreSorted, behind_before, absent_behind, unknown_behind, put_first}

-- ---- what a group keeps, put back under its key

-- the smaller form knows all that the form knows, but for the key of the own
record IsWithout (own : Key) (form smaller : Form) : Type 0 where
  known : knows form (key_text own) ≡ true
  unknown : knows smaller (key_text own) ≡ false
  others : (k : List ℕ) → pointwise ◌==◌ (key_text own) k ≡ false → knows form k ≡ knows smaller k

kept_alike : (form smaller : Form) (l : List ℕ) (e : Data) (ms : Members) → knows form l ≡ knows smaller l → unknown form ms ≡ unknown smaller ms → unknown form (member l e ms) ≡ unknown smaller (member l e ms)
kept_alike form smaller l e ms h later = rw (h, later) refl

-- where the key is none of the members', both forms keep the same
absent_alike : (own : Key) (form smaller : Form) (ms : Members) → IsWithout own form smaller → is_none (get_member (key_text own) ms) ≡ true → unknown form ms ≡ unknown smaller ms
absent_alike own form smaller no_members w h = refl
absent_alike own form smaller (member l e ms) w h =
    kept_alike form smaller l e ms
    (w.others l (differs (key_text own) l (unequal (slice_cmp nat_cmp (key_text own) l) (get_member (key_text own) ms) e h)))
    (absent_alike own form smaller ms w (none_later (slice_cmp nat_cmp (key_text own) l) (get_member (key_text own) ms) e h))

-- the members that hold a value under the key keep it, where it is put back in its place
put_back : (own : Key) (form smaller : Form) (d : Data) (ms : Members) → IsWithout own form smaller → AreSorted ms → get_member (key_text own) ms ≡ Some d
    → put (key_text own) d (unknown form ms) ≡ unknown smaller ms
put_back own form smaller d no_members w s g = cc
put_back own form smaller d (member l e ms) w s g = one (slice_cmp nat_cmp (key_text own) l) refl g (put_back own form smaller d ms w s.1)
  where
    elsewhere : (known : Bool) → slice_cmp nat_cmp (key_text own) l ≡ Greater → put (key_text own) d (unknown form ms) ≡ unknown smaller ms
        → put (key_text own) d (if known then unknown form ms else member l e (unknown form ms)) ≡ (if known then unknown smaller ms else member l e (unknown smaller ms))
    elsewhere true is later = later
    elsewhere false is later =
        ap (λ o. match_ordering o (member (key_text own) d (member l e (unknown form ms))) (member l d (unknown form ms)) (member l e (put (key_text own) d (unknown form ms)))) is
        ∙ ap (member l e) later

    one : (o : Ordering) → slice_cmp nat_cmp (key_text own) l ≡ o → match_ordering o (get_member (key_text own) ms) (Some e) (get_member (key_text own) ms) ≡ Some d
        → (get_member (key_text own) ms ≡ Some d → put (key_text own) d (unknown form ms) ≡ unknown smaller ms)
        → put (key_text own) d (unknown form (member l e ms)) ≡ unknown smaller (member l e ms)
    one Less is here later =
        let none : get_member (key_text own) ms ≡ None = absent_behind (key_text own) ms (behind_before (key_text own) l ms is s.0) in
        let both : None ≡ Some d = sym none ∙ here in
        cc
    one Equal is here later =
        let same : key_text own ≡ l = same_key (key_text own) l is in
        let known : knows form l ≡ true = sym (ap (knows form) same) ∙ w.known in
        let new : knows smaller l ≡ false = sym (ap (knows smaller) same) ∙ w.unknown in
        let behind : AllBehind (key_text own) ms = subst (λ (k : List ℕ). AllBehind k ms) (sym same) s.0 in
        let alike : unknown form ms ≡ unknown smaller ms = absent_alike own form smaller ms w (ap is_none (absent_behind (key_text own) ms behind)) in
        let value : d ≡ e = sym (ap (λ (o : Option Data). unwrap_or o d) here) in
        ap (λ (b : Bool). put (key_text own) d (if b then unknown form ms else member l e (unknown form ms))) known
        ∙ (put_first (key_text own) d (unknown form ms) (unknown_behind form (key_text own) ms behind)
        ∙ (ap (λ (k : List ℕ). member k d (unknown form ms)) same
        ∙ (ap (λ (x : Data). member l x (unknown form ms)) value
        ∙ (ap (member l e) alike
        ∙ sym (ap (λ (b : Bool). if b then unknown smaller ms else member l e (unknown smaller ms)) new)))))
    one Greater is here later =
        let other : knows form l ≡ knows smaller l = w.others l (differs (key_text own) l (ap is_eq is)) in
        elsewhere (knows form l) is (later here) ∙ ap (λ (b : Bool). if b then unknown smaller ms else member l e (unknown smaller ms)) other

-- what a group keeps stands again where the rest keeps it
group_back : (own : Key) (keys : List (List ℕ)) (form smaller : Form) (ms : Members) → IsWithout own form smaller → AreSorted ms → keeps_unknown (key_text own) keys ms ≡ true
    → put_group own (group_members own (object ms)) (unknown form ms) ≡ unknown smaller ms
group_back own keys form smaller ms w s h = one (get_member (key_text own) ms) refl h
  where
    one : (o : Option Data) → get_member (key_text own) ms ≡ o → option_map_or (λ value. option_map_or (lacks_but_some keys) (as_object value) false) o true ≡ true
        → put_group own (unwrap_or (option_and_then as_object o) no_members) (unknown form ms) ≡ unknown smaller ms
    one None is k = absent_alike own form smaller ms w (ap is_none is)
    one (Some null) is k = no_rest k
    one (Some (boolean b)) is k = no_rest k
    one (Some (number n)) is k = no_rest k
    one (Some (string t)) is k = no_rest k
    one (Some (array ds)) is k = no_rest k
    one (Some (object no_members)) is k = no_rest k
    one (Some (object (member l d group))) is k = put_back own form smaller (object (member l d group)) ms w s is

-- all that a group keeps is unknown to it
group_unknown : (own : Key) (form : Form) (ms : Members) → keeps_unknown (key_text own) (keys_of form) ms ≡ true → unknown form (group_members own (object ms)) ≡ group_members own (object ms)
group_unknown own form ms h = one (get_member (key_text own) ms) h
  where
    one : (o : Option Data) → option_map_or (λ value. option_map_or (lacks_but_some (keys_of form)) (as_object value) false) o true ≡ true
        → unknown form (unwrap_or (option_and_then as_object o) no_members) ≡ unwrap_or (option_and_then as_object o) no_members
    one None k = refl
    one (Some null) k = no_rest k
    one (Some (boolean b)) k = no_rest k
    one (Some (number n)) k = no_rest k
    one (Some (string t)) k = no_rest k
    one (Some (array ds)) k = no_rest k
    one (Some (object no_members)) k = no_rest k
    one (Some (object (member l d group))) k = all_unknown form (member l d group) k

-- none of the keys is a member of what is kept
lacks_nothing : (keys : List (List ℕ)) → lacks keys no_members ≡ true
lacks_nothing [] = refl
lacks_nothing (key ∷ keys) = lacks_nothing keys

group_lacks : (own : Key) (keys : List (List ℕ)) (ms : Members) → keeps_unknown (key_text own) keys ms ≡ true → lacks keys (group_members own (object ms)) ≡ true
group_lacks own keys ms h = one (get_member (key_text own) ms) h
  where
    one : (o : Option Data) → option_map_or (λ value. option_map_or (lacks_but_some keys) (as_object value) false) o true ≡ true
        → lacks keys (unwrap_or (option_and_then as_object o) no_members) ≡ true
    one None k = lacks_nothing keys
    one (Some null) k = no_rest k
    one (Some (boolean b)) k = no_rest k
    one (Some (number n)) k = no_rest k
    one (Some (string t)) k = no_rest k
    one (Some (array ds)) k = no_rest k
    one (Some (object no_members)) k = no_rest k
    one (Some (object (member l d group))) k = k

sixth : (a b c d e f : Bool) → (a && (b && (c && (d && (e && (f && true)))))) ≡ true → f ≡ true
sixth a b c d e f h = first_so f true (second_so e _ (second_so d _ (second_so c _ (second_so b _ (second_so a _ h)))))

-- `delays` is not kept under `new`
no_delays : (ms : Members) → keeps_unknown (codes "new") new_keys ms ≡ true → get_member (codes "delays") (group_members keys.New (object ms)) ≡ None
no_delays ms h =
    let kept : Members = group_members keys.New (object ms) in
    let absent : List ℕ → Bool = λ key. is_none (get_member key kept) in
    none_of (get_member (codes "delays") kept)
    (sixth (absent (codes "steps")) (absent (codes "ints")) (absent (codes "initialFactor")) (absent (codes "perDay")) (absent (codes "bury")) (absent (codes "delays"))
    (group_lacks keys.New new_keys ms h))

-- ---- the members that an option group keeps

-- the columns of an option group that hold no objects, and then those from a place on
abbrev own_and : ℕ → Form
own_and place = take 5 options_form ++ drop place options_form

without_new : IsWithout keys.New options_form (own_and 6)
without_new = record { known = refl; unknown = refl; others = λ k h. rw h refl }

without_rev : IsWithout keys.Rev (own_and 6) (own_and 7)
without_rev = record { known = refl; unknown = refl; others = λ k h. rw h refl }

without_lapse : IsWithout keys.Lapse (own_and 7) (own_and 8)
without_lapse = record { known = refl; unknown = refl; others = λ k h. rw h refl }

-- what a rest of an option group keeps, at its top and inside `new`, `rev` and `lapse`
record KeepsUnknown (ms : Members) : Type 0 where
  own : lacks options_keys ms ≡ true
  new : keeps_unknown (codes "new") new_keys ms ≡ true
  rev : keeps_unknown (codes "rev") rev_keys ms ≡ true
  lapse : keeps_unknown (codes "lapse") lapse_keys ms ≡ true

keeps_each : (ms : Members) → lacks_options ms ≡ true → KeepsUnknown ms
keeps_each ms h =
    let groups = second_so (lacks options_keys ms) _ h in
    let later = second_so (keeps_unknown (codes "new") new_keys ms) _ groups in
    record {
      own = first_so _ _ h;
      new = first_so _ _ groups;
      rev = first_so _ _ later;
      lapse = second_so (keeps_unknown (codes "rev") rev_keys ms) _ later;
    }

-- what the groups keep and the other unknown members are together all that the rest keeps
options_back : (ms : Members) → AreSorted ms → KeepsUnknown ms
    → put_group keys.Lapse (group_members keys.Lapse (object ms)) (put_group keys.Rev (group_members keys.Rev (object ms)) (put_group keys.New (group_members keys.New (object ms)) (unknown options_form ms))) ≡ ms
options_back ms s k =
    let rev : Members = group_members keys.Rev (object ms) in
    let lapse : Members = group_members keys.Lapse (object ms) in
    ap (λ (m : Members). put_group keys.Lapse lapse (put_group keys.Rev rev m)) (group_back keys.New new_keys options_form (own_and 6) ms without_new s k.new)
    ∙ (ap (put_group keys.Lapse lapse) (group_back keys.Rev rev_keys (own_and 6) (own_and 7) ms without_rev s k.rev)
    ∙ (group_back keys.Lapse lapse_keys (own_and 7) (own_and 8) ms without_lapse s k.lapse
    ∙ all_unknown (own_and 8) ms k.own))

-- ---- steps

abbrev AllRead : List ℤ → Type 0
AllRead [] = Unit {0}
AllRead (z ∷ zs) = IsReadAgain z × AllRead zs

each_step : (column : ℕ) (zs : List ℤ) → bad_step (pos 60_000_000) column zs ≡ None → AllRead zs
each_step column [] h = tt
each_step column (z ∷ zs) h = (
  code_again column 60_000_000 z (pos 1) (omega arith) (first_none _ (bad_step (pos 60_000_000) column zs) h),
  each_step column zs (second_none (code_fault column z (pos 1) (pos 60_000_000)) _ h),
)

steps_again : (column : ℕ) (zs : List ℤ) → steps_fault (pos 60_000_000) column zs ≡ None → AllRead zs
steps_again column zs h = each_step column zs (second_none (long_fault column (length zs) 50) _ h)

steps_hold : (zs : List ℤ) → AllRead zs → are_integers (items_of (map integer zs)) ≡ true
steps_hold [] r = refl
steps_hold (z ∷ zs) r = and_from _ _ (ap is_some r.0) (steps_hold zs r.1)

steps_read : (zs : List ℤ) → AllRead zs → zs ≡ integers (items_of (map integer zs))
steps_read [] r = refl
steps_read (z ∷ zs) r =
    ap (λ (first : ℤ). first ∷ zs) (sym (ap (λ (o : Option ℤ). unwrap_or o (pos 0)) r.0))
    ∙ ap (λ (later : List ℤ). unwrap_or (integer_of (integer z)) (pos 0) ∷ later) (steps_read zs r.1)

steps_found : (form : Form) (n : ℕ) (d : Data) (zs : List ℤ) → cell_at form n d ≡ Some (steps_json zs) → AllRead zs → zs ≡ steps_at form n d
steps_found form n d zs e r = steps_read zs r ∙ sym (ap (λ (o : Option Data). integers (unwrap_or (option_and_then as_array o) no_items)) e)

-- ---- factors

-- a factor that is read as it was written
abbrev IsFactorAgain : ℤ → Type 0
IsFactorAgain z = decimal_of (decimal_text z) ≡ Some z

factor_in : (c least m : ℕ) (z : ℤ) → m ≤ 999_999_999 → code_fault c z (pos least) (pos m) ≡ None → IsFactorAgain z
unfolding code_fault
factor_in c least m (pos n) h e = let k : n ≤ m = at_most m n (below _ _ _ e) in decimal_again n (omega (arith, h, k))
factor_in c least m (negsuc n) h e = cc

factor_found : (form : Form) (n : ℕ) (d : Data) (z : ℤ) → cell_at form n d ≡ Some (factor z) → IsFactorAgain z → z ≡ permille_at form n d
factor_found form n d z e r = sym (ap (λ (o : Option Data). unwrap_or (option_and_then permille_of o) (pos 0)) e ∙ ap (λ (o : Option ℤ). unwrap_or o (pos 0)) r)

-- ---- the numbers

-- the numbers of an option group are read as they were written
record AreRead (o : Options) : Type 0 where
  id : IsReadAgain o.id
  stamp : IsReadAgain o.stamp
  usn : IsReadAgain o.usn
  max_taken : IsReadAgain o.max_taken
  new_steps : AllRead o.new_steps
  grad_ivl : IsReadAgain o.grad_ivl
  easy_ivl : IsReadAgain o.easy_ivl
  initial_factor : IsReadAgain o.initial_factor
  new_per_day : IsReadAgain o.new_per_day
  rev_per_day : IsReadAgain o.rev_per_day
  ease4 : IsFactorAgain o.ease4
  ivl_fct : IsFactorAgain o.ivl_fct
  max_ivl : IsReadAgain o.max_ivl
  hard_factor : IsFactorAgain o.hard_factor
  lapse_steps : AllRead o.lapse_steps
  mult : IsFactorAgain o.mult
  min_int : IsReadAgain o.min_int
  leech_fails : IsReadAgain o.leech_fails
  leech_action : IsReadAgain o.leech_action

are_read : (o : Options) → AllNone (options_faults o) → AreRead o
unfolding general_faults new_faults rev_faults lapse_faults
are_read o all =
    let new = all.1.1.1.1.1 in
    let rev = new.1.1.1.1.1 in
    let lapse = rev.1.1.1.1.1 in
    record {
      id = id_again o.id all.0;
      stamp = stamp_again o.stamp all.1.0;
      usn = code_again 2 2_147_483_647 o.usn (negsuc 0) (omega arith) all.1.1.0;
      max_taken = code_again 4 86_400 o.max_taken (pos 0) (omega arith) all.1.1.1.1.0;
      new_steps = steps_again 5 o.new_steps new.0;
      grad_ivl = code_again 6 100_000 o.grad_ivl (pos 1) (omega arith) new.1.0;
      easy_ivl = code_again 7 100_000 o.easy_ivl (pos 1) (omega arith) new.1.1.0;
      initial_factor = code_again 8 100_000 o.initial_factor (pos 1_300) (omega arith) new.1.1.1.0;
      new_per_day = code_again 9 999_999 o.new_per_day (pos 0) (omega arith) new.1.1.1.1.0;
      rev_per_day = code_again 11 999_999 o.rev_per_day (pos 0) (omega arith) rev.0;
      ease4 = factor_in 12 1 100_000 o.ease4 (omega arith) rev.1.0;
      ivl_fct = factor_in 13 1 100_000 o.ivl_fct (omega arith) rev.1.1.0;
      max_ivl = code_again 14 100_000 o.max_ivl (pos 1) (omega arith) rev.1.1.1.0;
      hard_factor = factor_in 15 1 100_000 o.hard_factor (omega arith) rev.1.1.1.1.0;
      lapse_steps = steps_again 17 o.lapse_steps lapse.0;
      mult = factor_in 18 0 1_000 o.mult (omega arith) lapse.1.0;
      min_int = code_again 19 100_000 o.min_int (pos 1) (omega arith) lapse.1.1.0;
      leech_fails = code_again 20 999_999 o.leech_fails (pos 0) (omega arith) lapse.1.1.1.0;
      leech_action = code_again 21 1 o.leech_action (pos 0) (omega arith) lapse.1.1.1.1.0;
    }

-- ---- the objects inside

-- the object inside has no fault and its cells, and keeps those members
record IsGroupAgain (form : Form) (cells : List Data) (ms : Members) : Type 0 where
  found : AllFound form cells (object (put_cells form cells ms))
  fault : inner_form_fault form (object (put_cells form cells ms)) ≡ None
  kept : unknown form (put_cells form cells ms) ≡ ms

group_again : (form : Form) (cells : List Data) (ms : Members) → are_apart form ≡ true → knows_all form form ≡ true → unknown form ms ≡ ms → all_hold form cells ≡ true → IsGroupAgain form cells ms
group_again form cells ms apart known new holds =
    let d : Data = object (put_cells form cells ms) in
    let found : AllFound form cells d = found_all form cells ms apart in
    record {
      found = found;
      fault = inner_none form d (faultless form cells d found holds);
      kept = unknown_cells form form cells ms known ∙ new;
    }

-- the columns that are written
abbrev new_front : Form
new_front = take 5 new_form

new_holds : (o : Options) → AreRead o → all_hold new_front (new_cells o) ≡ true
new_holds o r = rw (steps_hold o.new_steps r.new_steps, r.grad_ivl, r.easy_ivl, r.initial_factor, r.new_per_day) refl

-- an object without a fault has none where it lacks one more column that may be missing
inner_longer : (form : Form) (column : Place × Kind) (d : Data) → inner_form_fault form d ≡ None → plain_form_fault column d ≡ None → inner_form_fault (form ++ column ∷ []) d ≡ None
inner_longer [] column d h k = ap (λ (o : Option FormFault). option_or o None) k
inner_longer (first ∷ form) column d h k =
    ap (λ (o : Option FormFault). option_or o (inner_form_fault (form ++ column ∷ []) d)) (first_none (plain_form_fault first d) _ h)
    ∙ inner_longer form column d (second_none (plain_form_fault first d) _ h) k

-- what is written under `new` has no `delays`
new_absent : (o : Options) (ms : Members) → KeepsUnknown ms → get_member (codes "delays") (put_cells new_form (new_cells o) (group_members keys.New (object ms))) ≡ None
new_absent o ms k = stays new_front (new_cells o) (codes "delays") (group_members keys.New (object ms)) refl ∙ no_delays ms k.new

new_again : (o : Options) (ms : Members) → AreRead o → KeepsUnknown ms → IsGroupAgain new_form (new_cells o) (group_members keys.New (object ms))
new_again o ms r k =
    let inner : Members = group_members keys.New (object ms) in
    let d : Data = object (put_cells new_form (new_cells o) inner) in
    let found : AllFound new_form (new_cells o) d = found_all new_form (new_cells o) inner refl in
    let front : inner_form_fault new_front d ≡ None = inner_none new_front d (faultless new_front (new_cells o) d found (new_holds o r)) in
    record {
      found = found;
      fault = inner_longer new_front (places.Key keys.Delays, kinds.Ignored) d front (ap (found_form_fault (places.Key keys.Delays, kinds.Ignored)) (new_absent o ms k));
      kept = unknown_cells new_form new_form (new_cells o) inner refl ∙ group_unknown keys.New new_form ms k.new;
    }

-- what stands in the columns for new cards is read
record ReadsNew (o : Options) (d : Data) : Type 0 where
  steps : o.new_steps ≡ steps_at new_form 0 d
  grad : o.grad_ivl ≡ part_at new_form 1 0 d
  easy : o.easy_ivl ≡ part_at new_form 1 1 d
  factor : o.initial_factor ≡ integer_at new_form 2 d
  per_day : o.new_per_day ≡ integer_at new_form 3 d
  bury : o.new_bury ≡ bool_at new_form 4 d

reads_new : (o : Options) (d : Data) → AllFound new_form (new_cells o) d → AreRead o → ReadsNew o d
reads_new o d f r =
    let days : Data = pair (record { day = o.grad_ivl; count = o.easy_ivl }) in
    record {
      steps = steps_found new_form 0 d o.new_steps f.0 r.new_steps;
      grad = sym (part_found new_form 1 0 d days o.grad_ivl f.1.0 refl r.grad_ivl);
      easy = sym (part_found new_form 1 1 d days o.easy_ivl f.1.0 refl r.easy_ivl);
      factor = whole_found new_form 2 d o.initial_factor f.1.1.0 r.initial_factor;
      per_day = whole_found new_form 3 d o.new_per_day f.1.1.1.0 r.new_per_day;
      bury = truth_found new_form 4 d o.new_bury f.1.1.1.1.0;
    }

rev_holds : (o : Options) → AreRead o → all_hold rev_form (rev_cells o) ≡ true
rev_holds o r = rw (r.rev_per_day, r.ease4, r.ivl_fct, r.max_ivl, r.hard_factor) refl

rev_again : (o : Options) (ms : Members) → AreRead o → KeepsUnknown ms → IsGroupAgain rev_form (rev_cells o) (group_members keys.Rev (object ms))
rev_again o ms r k = group_again rev_form (rev_cells o) (group_members keys.Rev (object ms)) refl refl (group_unknown keys.Rev rev_form ms k.rev) (rev_holds o r)

-- what stands in the columns for reviews is read
record ReadsRev (o : Options) (d : Data) : Type 0 where
  per_day : o.rev_per_day ≡ integer_at rev_form 0 d
  ease4 : o.ease4 ≡ permille_at rev_form 1 d
  ivl_fct : o.ivl_fct ≡ permille_at rev_form 2 d
  max_ivl : o.max_ivl ≡ integer_at rev_form 3 d
  hard_factor : o.hard_factor ≡ permille_at rev_form 4 d
  bury : o.rev_bury ≡ bool_at rev_form 5 d

reads_rev : (o : Options) (d : Data) → AllFound rev_form (rev_cells o) d → AreRead o → ReadsRev o d
reads_rev o d f r =
    record {
      per_day = whole_found rev_form 0 d o.rev_per_day f.0 r.rev_per_day;
      ease4 = factor_found rev_form 1 d o.ease4 f.1.0 r.ease4;
      ivl_fct = factor_found rev_form 2 d o.ivl_fct f.1.1.0 r.ivl_fct;
      max_ivl = whole_found rev_form 3 d o.max_ivl f.1.1.1.0 r.max_ivl;
      hard_factor = factor_found rev_form 4 d o.hard_factor f.1.1.1.1.0 r.hard_factor;
      bury = truth_found rev_form 5 d o.rev_bury f.1.1.1.1.1.0;
    }

lapse_holds : (o : Options) → AreRead o → all_hold lapse_form (lapse_cells o) ≡ true
lapse_holds o r = rw (steps_hold o.lapse_steps r.lapse_steps, r.mult, r.min_int, r.leech_fails, r.leech_action) refl

lapse_again : (o : Options) (ms : Members) → AreRead o → KeepsUnknown ms → IsGroupAgain lapse_form (lapse_cells o) (group_members keys.Lapse (object ms))
lapse_again o ms r k = group_again lapse_form (lapse_cells o) (group_members keys.Lapse (object ms)) refl refl (group_unknown keys.Lapse lapse_form ms k.lapse) (lapse_holds o r)

-- what stands in the columns for cards that were forgotten is read
record ReadsLapse (o : Options) (d : Data) : Type 0 where
  steps : o.lapse_steps ≡ steps_at lapse_form 0 d
  mult : o.mult ≡ permille_at lapse_form 1 d
  min_int : o.min_int ≡ integer_at lapse_form 2 d
  leech_fails : o.leech_fails ≡ integer_at lapse_form 3 d
  leech_action : o.leech_action ≡ integer_at lapse_form 4 d

reads_lapse : (o : Options) (d : Data) → AllFound lapse_form (lapse_cells o) d → AreRead o → ReadsLapse o d
reads_lapse o d f r =
    record {
      steps = steps_found lapse_form 0 d o.lapse_steps f.0 r.lapse_steps;
      mult = factor_found lapse_form 1 d o.mult f.1.0 r.mult;
      min_int = whole_found lapse_form 2 d o.min_int f.1.1.0 r.min_int;
      leech_fails = whole_found lapse_form 3 d o.leech_fails f.1.1.1.0 r.leech_fails;
      leech_action = whole_found lapse_form 4 d o.leech_action f.1.1.1.1.0 r.leech_action;
    }

-- ---- an option group

options_hold : (o : Options) (new rev lapse : Data) → AreRead o → is_some (as_object new) ≡ true → is_some (as_object rev) ≡ true → is_some (as_object lapse) ≡ true
    → inner_form_fault new_form new ≡ None → inner_form_fault rev_form rev ≡ None → inner_form_fault lapse_form lapse ≡ None
    → all_hold options_form (integer o.id ∷ integer o.stamp ∷ integer o.usn ∷ string o.name ∷ integer o.max_taken ∷ new ∷ rev ∷ lapse ∷ []) ≡ true
options_hold o new rev lapse r a b c f g h = rw (r.id, r.stamp, r.usn, r.max_taken, a, b, c, f, g, h) refl

inner_found : (n : ℕ) (d inner : Data) → cell_at options_form n d ≡ Some inner → inner ≡ inner_at options_form n d
inner_found n d inner e = sym (ap (λ (o : Option Data). unwrap_or o d) e)

options_found : (o : Options) (d new rev lapse : Data)
    → AllFound options_form (integer o.id ∷ integer o.stamp ∷ integer o.usn ∷ string o.name ∷ integer o.max_taken ∷ new ∷ rev ∷ lapse ∷ []) d → AreRead o
    → ReadsNew o new → ReadsRev o rev → ReadsLapse o lapse → o.rest.text ≡ compact_text (object (options_kept_by Second d)) → IsOptionsBy Second d o
options_found o d new rev lapse f r new_read rev_read lapse_read rest =
    let n : ReadsNew o (new_in d) = subst (ReadsNew o) (inner_found 5 d new f.1.1.1.1.1.0) new_read in
    let v : ReadsRev o (rev_in d) = subst (ReadsRev o) (inner_found 6 d rev f.1.1.1.1.1.1.0) rev_read in
    let l : ReadsLapse o (lapse_in d) = subst (ReadsLapse o) (inner_found 7 d lapse f.1.1.1.1.1.1.1.0) lapse_read in
    record {
      id = whole_found options_form 0 d o.id f.0 r.id;
      stamp = whole_found options_form 1 d o.stamp f.1.0 r.stamp;
      usn = whole_found options_form 2 d o.usn f.1.1.0 r.usn;
      name = words_found options_form 3 d o.name f.1.1.1.0;
      max_taken = whole_found options_form 4 d o.max_taken f.1.1.1.1.0 r.max_taken;
      new_steps = n.steps;
      grad_ivl = n.grad;
      easy_ivl = n.easy;
      initial_factor = n.factor;
      new_per_day = n.per_day;
      new_bury = n.bury;
      rev_per_day = v.per_day;
      ease4 = v.ease4;
      ivl_fct = v.ivl_fct;
      max_ivl = v.max_ivl;
      hard_factor = v.hard_factor;
      rev_bury = v.bury;
      lapse_steps = l.steps;
      mult = l.mult;
      min_int = l.min_int;
      leech_fails = l.leech_fails;
      leech_action = l.leech_action;
      rest = rest;
    }

-- what is kept of an object of the cells is what the rest keeps
kept_again : (d new rev lapse : Data) (ms : Members) → AreSorted ms → KeepsUnknown ms → unknown options_form ms ≡ kept options_form d
    → new ≡ new_in d → rev ≡ rev_in d → lapse ≡ lapse_in d
    → kept new_form new ≡ group_members keys.New (object ms) → kept rev_form rev ≡ group_members keys.Rev (object ms) → kept lapse_form lapse ≡ group_members keys.Lapse (object ms)
    → options_kept_by Second d ≡ ms
kept_again d new rev lapse ms s k own new_is rev_is lapse_is new_kept rev_kept lapse_kept =
    let with_new : Members = put_group keys.New (group_members keys.New (object ms)) (unknown options_form ms) in
    let with_rev : Members = put_group keys.Rev (group_members keys.Rev (object ms)) with_new in
    sym (put_together Second new_form rev_form lapse_form d new rev lapse (unknown options_form ms) with_new with_rev
    (put_group keys.Lapse (group_members keys.Lapse (object ms)) with_rev)
    (group_members keys.New (object ms)) (group_members keys.Rev (object ms)) (group_members keys.Lapse (object ms))
    refl refl refl own new_is (sym new_kept) refl rev_is (sym rev_kept) refl lapse_is (sym lapse_kept) refl)
    ∙ options_back ms s k

-- the object is of version 2 and has the form, and its option group is the one that was written
pub record IsOptionsAgain (o : Options) : Type 0 where
  pub old : is_old (options_json o) ≡ false
  pub fault : object_form_fault options_form (options_json o) ≡ None
  pub deep : deep_fault (options_kept_by Second (options_json o)) ≡ None
  pub row : IsOptionsBy Second (options_json o) o

-- only version 2 is written
pub never_old : (o : Options) → is_old (options_json o) ≡ false
never_old o =
    let ms : Members = rest_members o.rest.text in
    let k : KeepsUnknown ms = keeps_each ms (rest_kept lacks_options o.rest.text o.rest.unknown).unknown in
    let found : AllFound options_form (options_cells o (object ms)) (options_json o) = found_all options_form (options_cells o (object ms)) ms refl in
    ap (λ (new : Option Data). is_some (option_and_then (get (codes "delays")) new)) found.1.1.1.1.1.0 ∙ ap is_some (new_absent o ms k)

pub options_again : (o : Options) (good : Unit {0}) → first_fault (options_faults o) ≡ Ok good → IsOptionsAgain o
options_again o good e =
    let r : AreRead o = are_read o (all_none (options_faults o) good e) in
    let d : Data = options_json o in
    let ms : Members = rest_members o.rest.text in
    let rest : IsKept lacks_options o.rest.text ms = rest_kept lacks_options o.rest.text o.rest.unknown in
    let k : KeepsUnknown ms = keeps_each ms rest.unknown in
    let cells : List Data = options_cells o (object ms) in
    let found : AllFound options_form cells d = found_all options_form cells ms refl in
    let new = new_again o ms r k in
    let rev = rev_again o ms r k in
    let lapse = lapse_again o ms r k in
    let new_is = inner_found 5 d (new_json o (object ms)) found.1.1.1.1.1.0 in
    let rev_is = inner_found 6 d (rev_json o (object ms)) found.1.1.1.1.1.1.0 in
    let lapse_is = inner_found 7 d (lapse_json o (object ms)) found.1.1.1.1.1.1.1.0 in
    let same : options_kept_by Second d ≡ ms =
    kept_again d (new_json o (object ms)) (rev_json o (object ms)) (lapse_json o (object ms)) ms (rest_sorted o.rest.text) k
    (sym (unknown_cells options_form options_form cells ms refl)) new_is rev_is lapse_is new.kept rev.kept lapse.kept in
    record {
      old = never_old o;
      fault = faultless options_form cells d found (options_hold o (new_json o (object ms)) (rev_json o (object ms)) (lapse_json o (object ms)) r refl refl refl new.fault rev.fault lapse.fault);
      deep = ap deep_fault same ∙ ap (λ (o : Option (List ℕ)). option_map faults.WrongKind o) (plain_is_shallow ms rest.plain);
      row =
          options_found o d (new_json o (object ms)) (rev_json o (object ms)) (lapse_json o (object ms)) found r
          (reads_new o (new_json o (object ms)) new.found r) (reads_rev o (rev_json o (object ms)) rev.found r) (reads_lapse o (lapse_json o (object ms)) lapse.found r)
          (sym (ap (λ (m : Members). compact_text (object m)) same ∙ rest.written));
    }
