-- What an option group keeps of its unknown keys is a rest.
use Rattle.std.proofs.Common.{◌≡◌, ℕ, List, [], ◌∷◌, length, true, false, not, Option, None, is_none, arith, BTreeMap, String, Global, bytes_eq, refl, ap, ◌∙◌}
use Rattle.std.specs.Cmp.{first_so, second_so}
use Rattle.std.proofs.lemmas.Bool.{and_from}
use Rattle.std.specs.Prelude.{unwrap_or}
use Rattle.std.specs.List.{list_all}
use Rattle.std.specs.Option.{option_map_or}
use Rattle.serde_json.specs.Data.{Data, object, Members, no_members, member, put}
use Rattle.serde_json.specs.Find.{get_member, as_object}
use Rattle.serde_json.specs.View.{view, members_view}
use Rattle.serde_json.specs.declared.value.Value.{Value, Object}
use Rattle.serde_json.proofs.Views.{Entry, view-Object, get_member-put, get_member-put_other}
use Rattle.ak_base.specs.Rests.{lacks, lacks_but_some, keeps_unknown, lacks_options, options_keys, new_keys, rev_keys, lapse_keys}
use Rattle.ak_json.specs.Keys.{key_text}
use Rattle.ak_json.specs.Members.{Form, knows, unknown}
use Rattle.ak_json.specs.Rests.{kept}
use Rattle.ak_json.specs.Groups.{put_group, options_kept_by, new_in, rev_in, lapse_in}
use Rattle.ak_json.specs.declared.keys.Key.{Key}
use Rattle.ak_json.specs.declared.keys.Key.TheVariants as keys
use Rattle.ak_json.specs.Forms.{options_form}
use Rattle.ak_json.specs.Versions.{new_form_of, rev_form_of, lapse_form_of}
use Rattle.ak_json.specs.declared.versions.Version.{Version}
use Rattle.ak_json.specs.declared.versions.Version.TheVariants.{First, Second}
use Rattle.ak_json.proofs.Kept.{lacking, lacks_known, not_true}

pub group_none : (own : Key) (es : List Entry) (ms : Members) → length es ≡ 0 → put_group own (members_view es) ms ≡ ms
group_none own [] ms h = refl
group_none own (e ∷ es) ms h = absurd (omega arith)

some_entries : (own : Key) (es : List Entry) (ms : Members) → (length es ≡ 0 → ⊥) → put_group own (members_view es) ms ≡ put (key_text own) (object (members_view es)) ms
some_entries own [] ms h = absurd (h refl)
some_entries own (e ∷ es) ms h = refl

pub group_some : (own : Key) (m : BTreeMap (String Global) Value) (ms : Members) → (length m.entries ≡ 0 → ⊥) → put_group own (members_view m.entries) ms ≡ put (key_text own) (view (Object m)) ms
group_some own m ms h = rw (view-Object m) (some_entries own m.entries ms h)

unlike : (a b : List ℕ) → bytes_eq a b ≡ false → bytes_eq b b ≡ true → a ≡ b → ⊥
unlike a b h k e = let same : bytes_eq a b ≡ bytes_eq b b = ap (λ (x : List ℕ). bytes_eq x b) e in cc

-- other keys keep their values
other_key : (k : List ℕ) (own : Key) (group ms : Members) → (k ≡ key_text own → ⊥) → get_member k (put_group own group ms) ≡ get_member k ms
other_key k own no_members ms h = refl
other_key k own (member l d group) ms h = get_member-put_other k (key_text own) (object (member l d group)) ms h

lacks_put : (keys : List (List ℕ)) (own : Key) (group ms : Members) → bytes_eq (key_text own) (key_text own) ≡ true
    → list_all (λ k. not (bytes_eq k (key_text own))) keys ≡ true → lacks keys ms ≡ true → lacks keys (put_group own group ms) ≡ true
lacks_put [] own group ms s h l = refl
lacks_put (k ∷ keys) own group ms s h l =
    let other : bytes_eq k (key_text own) ≡ false = not_true _ (first_so _ _ h) in
    and_from _ _
    (ap is_none (other_key k own group ms (unlike k (key_text own) other s)) ∙ first_so _ _ l)
    (lacks_put keys own group ms s (second_so _ _ h) (second_so _ _ l))

-- a group keeps what is put under its key
keeps_own : (own : Key) (keys : List (List ℕ)) (group ms : Members) → get_member (key_text own) ms ≡ None → lacks keys group ≡ true → keeps_unknown (key_text own) keys (put_group own group ms) ≡ true
keeps_own own keys no_members ms h l = ap (λ (o : Option Data). option_map_or (λ d. option_map_or (lacks_but_some keys) (as_object d) false) o true) h
keeps_own own keys (member k d group) ms h l =
    ap (λ (o : Option Data). option_map_or (λ d. option_map_or (lacks_but_some keys) (as_object d) false) o true) (get_member-put (key_text own) (object (member k d group)) ms) ∙ l

keeps_other : (key : List ℕ) (keys : List (List ℕ)) (own : Key) (group ms : Members) → (key ≡ key_text own → ⊥) → keeps_unknown key keys ms ≡ true → keeps_unknown key keys (put_group own group ms) ≡ true
keeps_other key keys own group ms h k =
    ap (λ (o : Option Data). option_map_or (λ d. option_map_or (lacks_but_some keys) (as_object d) false) o true) (other_key key own group ms h) ∙ k

-- the forms of a version know the keys that no rest holds
record KnowsKeys (v : Version) : Type 0 where
  new : list_all (knows (new_form_of v)) new_keys ≡ true
  rev : list_all (knows (rev_form_of v)) rev_keys ≡ true
  lapse : list_all (knows (lapse_form_of v)) lapse_keys ≡ true

knows_keys : (v : Version) → KnowsKeys v
knows_keys First = record { new = refl; rev = refl; lapse = refl }
knows_keys Second = record { new = refl; rev = refl; lapse = refl }

-- none of an option group's known keys is kept, inside `new`, `rev` and `lapse` either
options_lack : (new_form rev_form lapse_form : Form) (all new rev lapse : Members)
    → list_all (knows new_form) new_keys ≡ true → list_all (knows rev_form) rev_keys ≡ true → list_all (knows lapse_form) lapse_keys ≡ true
    → lacks_options (put_group keys.Lapse (unknown lapse_form lapse) (put_group keys.Rev (unknown rev_form rev) (put_group keys.New (unknown new_form new) (unknown options_form all)))) ≡ true
options_lack new_form rev_form lapse_form all new rev lapse in_new in_rev in_lapse =
    let base = unknown options_form all in
    let with_new = put_group keys.New (unknown new_form new) base in
    let with_rev = put_group keys.Rev (unknown rev_form rev) with_new in
    and_from _ _
    (lacks_put options_keys keys.Lapse (unknown lapse_form lapse) with_rev refl refl
    (lacks_put options_keys keys.Rev (unknown rev_form rev) with_new refl refl
    (lacks_put options_keys keys.New (unknown new_form new) base refl refl (lacks_known options_keys options_form all refl))))
    (and_from _ _
    (keeps_other (key_text keys.New) new_keys keys.Lapse (unknown lapse_form lapse) with_rev (unlike _ _ refl refl)
    (keeps_other (key_text keys.New) new_keys keys.Rev (unknown rev_form rev) with_new (unlike _ _ refl refl)
    (keeps_own keys.New new_keys (unknown new_form new) base (lacking options_form (key_text keys.New) all refl) (lacks_known new_keys new_form new in_new))))
    (and_from _ _
    (keeps_other (key_text keys.Rev) rev_keys keys.Lapse (unknown lapse_form lapse) with_rev (unlike _ _ refl refl)
    (keeps_own keys.Rev rev_keys (unknown rev_form rev) with_new
    (other_key (key_text keys.Rev) keys.New (unknown new_form new) base (unlike _ _ refl refl) ∙ lacking options_form (key_text keys.Rev) all refl)
    (lacks_known rev_keys rev_form rev in_rev)))
    (keeps_own keys.Lapse lapse_keys (unknown lapse_form lapse) with_rev
    (other_key (key_text keys.Lapse) keys.Rev (unknown rev_form rev) with_new (unlike _ _ refl refl)
    ∙ (other_key (key_text keys.Lapse) keys.New (unknown new_form new) base (unlike _ _ refl refl) ∙ lacking options_form (key_text keys.Lapse) all refl))
    (lacks_known lapse_keys lapse_form lapse in_lapse))))

-- what an option group keeps is its rest
pub options_ignored : (v : Version) (d : Data) → lacks_options (options_kept_by v d) ≡ true
options_ignored v d =
    options_lack (new_form_of v) (rev_form_of v) (lapse_form_of v)
    (unwrap_or (as_object d) no_members)
    (unwrap_or (as_object (new_in d)) no_members)
    (unwrap_or (as_object (rev_in d)) no_members)
    (unwrap_or (as_object (lapse_in d)) no_members)
    (knows_keys v).new (knows_keys v).rev (knows_keys v).lapse

-- what is kept is put together, a group at a time
pub put_together : (v : Version) (new_form rev_form lapse_form : Form) (d new rev lapse : Data) (own with_new with_rev all kept_new kept_rev kept_lapse : Members)
    → new_form ≡ new_form_of v → rev_form ≡ rev_form_of v → lapse_form ≡ lapse_form_of v
    → own ≡ kept options_form d → new ≡ new_in d → kept_new ≡ kept new_form new → with_new ≡ put_group keys.New kept_new own
    → rev ≡ rev_in d → kept_rev ≡ kept rev_form rev → with_rev ≡ put_group keys.Rev kept_rev with_new
    → lapse ≡ lapse_in d → kept_lapse ≡ kept lapse_form lapse → all ≡ put_group keys.Lapse kept_lapse with_rev → all ≡ options_kept_by v d
put_together v new_form rev_form lapse_form d new rev lapse own with_new with_rev all kept_new kept_rev kept_lapse x y z a b c e f g h i j k =
    rw (k, j, i, h, g, f, e, c, b, a, x, y, z) refl
