-- What an edit does at one name, with its grave, keeps what linked says of the name.
use Rattle.ak_base.specs.Tables.{has_stamps}
use Rattle.ak_base.specs.Contents.{same_but_stamp_and_usn}
use Rattle.std.specs.Prelude.{◌≡◌, ℕ, ℤ, negsuc, ◌≤ℤ◌, ◌<ℤ◌, List, if◌then◌else◌, Bool, true, false, not, IsTrue, Option, Some, None, IfSome, is_some}
use Rattle.std.proofs.lemmas.Option.{same_Some}
use Rattle.std.proofs.Common.{cond, inl, inr, refl, sym, ap, subst, ◌∙◌}
use Rattle.std.proofs.lemmas.Int.{by_lt_z}
use Rattle.std.specs.Option.{option_map_or, unwrap_or, option_or}
use Rattle.ak_base.specs.Rows.{name_of, stamp_of, usn_of}
use Rattle.ak_base.specs.declared.names.Name.{Name}
use Rattle.ak_base.specs.declared.rows.Row.{Row}
use Rattle.ak_keep.specs.Collections.{is_pending}
use Rattle.ak_merge.proofs.EditFacts.{edited_name, false_true, true_false, none_held, held_none, edited_usn, edited_pending, pending_unsettled, edited_unsettled, edited_stamp, own_fields, by_three, advanced_past, same_least, less_least}
use Rattle.ak_base.proofs.SameRows.{like_stamp}
use Rattle.ak_merge.specs.Links.{IsOwn, IsThere, IsNewerUnsent, HasTaken, IsKnown, IsShared, IsTagShared}
use Rattle.ak_merge.specs.Edits.{edited, advanced, edited_row, goes, changes_row}
use Rattle.ak_merge.specs.Tags.{has_name, tags_taken}
use Rattle.ak_merge.specs.Holdings.{tag_usn}
use Rattle.ak_base.specs.declared.heads.Tag.{Tag}
use Rattle.ak_merge.proofs.TagLaws.{tags_are_united}
use Rattle.ak_merge.specs.Undoing.{IsTagKept}

-- ---- one name with its grave
-- what linked says of one name: the row x and the grave g of the device, the row y and the grave h of the server
pub record LinkedAt (u : ℤ) (x g y h : Option Row) : Type 0 where
  pub taken : HasTaken u x g y
  pub known : IsKnown u x y h

-- the grave that a row leaves was not sent yet
abbrev pub IsLeft : Option Row → Type 0
IsLeft new = IsThere new (λ grave. IsTrue (is_pending grave))

-- what an edit leaves in the grave's place
abbrev pub edited_grave : Option Row → Option Row → Option Row → Option Row → Option Row
edited_grave new x m g = cond (goes x m) new g

-- a row that is to stand has a stamp
abbrev pub HasStamp : Row → Type 0
HasStamp row = IsTrue (has_stamps (name_of row).table)

known_edited : (u stamp : ℤ) (row : Row) (y h : Option Row) → IsKnown u (Some (edited stamp row)) y h
known_edited u stamp row y h settled = edited_unsettled stamp row settled

-- a new row: the server holds none of its name that the device took
taken_new : (u : ℤ) (row : Row) (g y : Option Row) → is_some g ≡ false → HasTaken u None g y → HasTaken u (Some row) g y
taken_new u row g None free taken = tt
taken_new u row None (Some y) free taken = λ below. absurd (by_three (λ like. like) (λ newer. newer) (λ grave. grave) (taken below))
taken_new u row (Some g) (Some y) free taken = true_false free

-- a changed row is newer than the one that the device took
newer_changed : (now : ℤ) (b row y : Row) → HasStamp row → stamp_of y ≤ℤ stamp_of b → IsNewerUnsent y (edited (advanced now (stamp_of b)) row)
newer_changed now b row y has older = record {
  unsent = edited_pending (advanced now (stamp_of b)) row;
  newer = subst (λ (stamp : ℤ). stamp_of y <ℤ stamp) (sym (edited_stamp (advanced now (stamp_of b)) row has)) (advanced_past (stamp_of y) now (stamp_of b) older);
}

taken_changed : (u now : ℤ) (b row : Row) (g y : Option Row) → HasStamp row → HasTaken u (Some b) g y → HasTaken u (Some (edited (advanced now (stamp_of b)) row)) g y
taken_changed u now b row g None has taken = tt
taken_changed u now b row g (Some y) has taken = λ below. by_three
    (λ like. inr (inl (newer_changed now b row y has (same_least (like_stamp y b like)))))
    (λ newer. inr (inl (newer_changed now b row y has (less_least newer.newer))))
    (λ grave. inr (inr grave))
    (taken below)

-- a row that goes leaves its grave, not sent yet
taken_gone : (u : ℤ) (new y : Option Row) → IsLeft new → HasTaken u None new y
taken_gone u new None left = tt
taken_gone u new (Some y) left = λ below. inr (inr left)

-- an edit keeps what linked says of one name of the five tables with stamps
pub edited_at : (u now : ℤ) (x m new g y h : Option Row) → IfSome m HasStamp → (x ≡ None → is_some m ≡ true → is_some g ≡ false) → (is_some x ≡ true → m ≡ None → IsLeft new)
    → LinkedAt u x g y h → LinkedAt u (edited_row now x m) (edited_grave new x m g) y h
edited_at u now None None new g y h has free leaves l = l
edited_at u now None (Some row) new g y h has free leaves l = record {
  taken = taken_new u (edited now row) g y (free refl refl) l.taken;
  known = known_edited u now row y h;
}
edited_at u now (Some b) None new g y h has free leaves l = record {
  taken = taken_gone u new y (leaves refl refl);
  known = tt;
}
edited_at u now (Some b) (Some row) new g y h has free leaves l =
    elim (same_but_stamp_and_usn row b) as (λ (t : Bool). LinkedAt u (cond t (Some b) (Some (edited (advanced now (stamp_of b)) row))) g y h) [
      | true ↦ l
      | false ↦ record {
        taken = taken_changed u now b row g y has l.taken;
        known = known_edited u (advanced now (stamp_of b)) row y h;
      }
    ]

-- ---- numbers, and rows beside their graves
pub row_numbered : (u now : ℤ) (x m : Option Row) → IfSome x (λ row. IsOwn u (usn_of row)) → IfSome (edited_row now x m) (λ row. IsOwn u (usn_of row))
row_numbered u now None None own = tt
row_numbered u now None (Some row) own = inl (edited_usn now row)
row_numbered u now (Some b) None own = tt
row_numbered u now (Some b) (Some row) own =
    elim (same_but_stamp_and_usn row b) as (λ (t : Bool). IfSome (cond t (Some b) (Some (edited (advanced now (stamp_of b)) row))) (λ row. IsOwn u (usn_of row))) [ true ↦ own | false ↦ inl (edited_usn (advanced now (stamp_of b)) row) ]

pub grave_numbered : (u : ℤ) (new g : Option Row) (left : Bool) → IfSome new (λ row. IsOwn u (usn_of row)) → IfSome g (λ row. IsOwn u (usn_of row))
    → IfSome (cond left new g) (λ row. IsOwn u (usn_of row))
grave_numbered u new g true pending own = pending
grave_numbered u new g false pending own = own

-- where a row goes or has no grave, none stands beside its grave
pub edited_apart : (now : ℤ) (x m new g : Option Row) → (x ≡ None → is_some m ≡ true → is_some g ≡ false) → (is_some g ≡ true → x ≡ None)
    → is_some (edited_grave new x m g) ≡ true → edited_row now x m ≡ None
edited_apart now None None new g free single held = refl
edited_apart now None (Some row) new g free single held = false_true (sym (free refl refl) ∙ held)
edited_apart now (Some b) None new g free single held = refl
edited_apart now (Some b) (Some row) new g free single held = held_none (single held)

-- ---- reviews, graves and tags
-- a review that is new was not sent yet, and the server holds none of its name that the device took
pub review_shared : (u now : ℤ) (x m y : Option Row) → ((row : Row) → x ≡ Some row → m ≡ Some row) → IsShared u x y → IsShared u (edited_row now x m) y
review_shared u now None None y stays l = l
review_shared u now None (Some row) None stays l = record { sent = λ settled. edited_unsettled now row settled; came = tt }
review_shared u now None (Some row) (Some other) stays l = record { sent = λ settled. edited_unsettled now row settled; came = λ below. absurd (l.came below) }
review_shared u now (Some b) None y stays l = none_held (stays b refl)
review_shared u now (Some b) (Some row) y stays l =
    let same : IsTrue (same_but_stamp_and_usn row b) = subst (λ (r : Row). IsTrue (same_but_stamp_and_usn r b)) (sym (same_Some _ _ (stays b refl))) (own_fields b) in
    subst (λ (t : Bool). IsShared u (cond t (Some b) (Some (edited (advanced now (stamp_of b)) row))) y) (sym same) l

-- the grave of a row that goes was not sent yet, and the server holds none of its name that the device took, since the row stood
pub grave_shared : (u : ℤ) (x m new g h : Option Row) → IsLeft new → (is_some g ≡ true → x ≡ None) → IsShared u g h → IsShared u (edited_grave new x m g) h
grave_shared u None m new g h left single l = l
grave_shared u (Some b) (Some row) new g h left single l = l
grave_shared u (Some b) None None g h left single l = absurd left
grave_shared u (Some b) None (Some grave) g None left single l = record { sent = λ settled. pending_unsettled grave left settled; came = tt }
grave_shared u (Some b) None (Some grave) None (Some other) left single l = record { sent = λ settled. pending_unsettled grave left settled; came = λ below. absurd (l.came below) }
grave_shared u (Some b) None (Some grave) (Some held) (Some other) left single l = held_none (single refl)

-- a tag that was held stays as it was, a new one was not sent yet
abbrev pub edited_tag : Option ℤ → Bool → Option ℤ
edited_tag (Some usn) wanted = Some usn
edited_tag None wanted = if wanted then Some (negsuc 0) else None

pub tag_edited : (names : List (List ℕ)) (tags : List Tag) (name : List ℕ) → tag_usn (tags_taken (negsuc 0) names tags) name ≡ edited_tag (tag_usn tags name) (has_name names name)
tag_edited names tags name = tags_are_united (negsuc 0) names tags name ∙ either (tag_usn tags name) (has_name names name)
  where
    either : (held : Option ℤ) (wanted : Bool) → option_or held (if wanted then Some (negsuc 0) else None) ≡ edited_tag held wanted
    either (Some usn) wanted = refl
    either None wanted = refl

pub tag_shared : (u : ℤ) (held other : Option ℤ) (wanted : Bool) → IsTagShared u held other → IsTagShared u (edited_tag held wanted) other
tag_shared u (Some number) other wanted l = l
tag_shared u None other false l = l
tag_shared u None None true l = record { sent = λ settled. absurd (settled refl); came = tt }
tag_shared u None (Some number) true l = record { sent = λ settled. absurd (settled refl); came = λ below. refl }

pub tag_numbered : (u : ℤ) (held : Option ℤ) (wanted : Bool) → IfSome held (IsOwn u) → IfSome (edited_tag held wanted) (IsOwn u)
tag_numbered u (Some number) wanted own = own
tag_numbered u None true own = inl refl
tag_numbered u None false own = tt

-- ---- what the device lacks
-- the server's number is at least the device's, where a lesser one cannot be
at_least : (u number : ℤ) → (number <ℤ u → ⊥) → u ≤ℤ number
at_least u number not_below = by_lt_z number u (λ below. absurd (not_below below)) (λ least. least)

-- a name without row and grave on the device: the server holds there nothing that the device took
pub untaken : (u : ℤ) (x g y : Option Row) → x ≡ None → is_some g ≡ false → HasTaken u x g y → IfSome y (λ row. u ≤ℤ usn_of row)
untaken u x g None none free taken = tt
untaken u (Some row) g (Some y) none free taken = held_none none
untaken u None (Some grave) (Some y) none free taken = true_false free
untaken u None None (Some y) none free taken = at_least u (usn_of y) (λ below. by_three (λ like. like) (λ newer. newer) (λ grave. grave) (taken below))

pub unshared : (u : ℤ) (x y : Option Row) → x ≡ None → IsShared u x y → IfSome y (λ row. u ≤ℤ usn_of row)
unshared u x None none l = tt
unshared u (Some row) (Some y) none l = held_none none
unshared u None (Some y) none l = at_least u (usn_of y) l.came

pub untagged : (u : ℤ) (held other : Option ℤ) → IsTagShared u held other → is_some held ≡ false → IfSome other (λ number. u ≤ℤ number)
untagged u held None l none = tt
untagged u held (Some number) l none = at_least u number (λ below. true_false (sym (l.came below) ∙ none))

-- of a row that stands on the device, the server holds none that the device took with a greater stamp
pub taken_older : (u : ℤ) (x g y : Option Row) (before : Row) → x ≡ Some before → (is_some g ≡ true → x ≡ None) → HasTaken u x g y
    → IfSome y (λ row. usn_of row <ℤ u → stamp_of row ≤ℤ stamp_of before)
taken_older u x g None before is single taken = tt
taken_older u None g (Some y) before is single taken = none_held is
taken_older u (Some row) (Some grave) (Some y) before is single taken = held_none (single refl)
taken_older u (Some row) None (Some y) before is single taken = λ below.
    subst (λ (r : Row). stamp_of y ≤ℤ stamp_of r) (same_Some _ _ is)
    (by_three (λ like. same_least (like_stamp y row like)) (λ newer. less_least newer.newer) (λ grave. absurd grave) (taken below))

-- ---- what a step holds
pub entry_of : (t : Bool) (x e : Option Row) → cond t (Some x) None ≡ Some e → (t ≡ true) × (x ≡ e)
entry_of true x e is = (refl, same_Some _ _ is)
entry_of false x e is = none_held is

pub new_if : (x m : Option Row) → x ≡ None → changes_row x m ≡ true → is_some m ≡ true
new_if None None none changes = changes
new_if None (Some row) none changes = refl
new_if (Some b) m none changes = held_none none

pub review_stays : {X : Type 0} (x m : Option Row) (before : Row) → x ≡ Some before → m ≡ Some before → changes_row x m ≡ true → X
review_stays x m before here stays changes =
    false_true (sym (ap not (own_fields before)) ∙ ap (λ (o : Option Row). changes_row o (Some before)) (sym here) ∙ ap (changes_row x) (sym stays) ∙ changes)

-- a grave among what a step holds: it was added exactly where the row goes
pub grave_added : (left : Bool) (g : Option Row) → is_some g ≡ false → option_map_or (λ (before : Option Row). not (is_some before)) (cond left (Some g) None) false ≡ left
grave_added true None none = refl
grave_added true (Some g) none = true_false none
grave_added false g none = refl

pub grave_added_left : (left : Bool) (g : Option Row) → option_map_or (λ (before : Option Row). not (is_some before)) (cond left (Some g) None) false ≡ true → left ≡ true
grave_added_left true g is = refl
grave_added_left false g is = is

-- a row that stood and does not go is held
pub held_after : (now : ℤ) (x m : Option Row) (before : Row) → x ≡ Some before → goes x m ≡ false → IsTrue (is_some (edited_row now x m))
held_after now None m before is stays = none_held is
held_after now (Some b) None before is stays = true_false stays
held_after now (Some b) (Some row) before is stays =
    elim (same_but_stamp_and_usn row b) as (λ (t : Bool). IsTrue (is_some (cond t (Some b) (Some (edited (advanced now (stamp_of b)) row))))) [ true ↦ refl | false ↦ refl ]

-- a row that goes is not held, and the step holds it
pub gone_after : (now : ℤ) (x m : Option Row) → goes x m ≡ true → edited_row now x m ≡ None
gone_after now None m gone = false_true gone
gone_after now (Some b) None gone = refl
gone_after now (Some b) (Some row) gone = false_true gone

pub gone_entry : (x m : Option Row) → goes x m ≡ true → (before : Row) × (cond (changes_row x m) (Some x) None ≡ Some (Some before))
gone_entry None m gone = false_true gone
gone_entry (Some b) None gone = (b, refl)
gone_entry (Some b) (Some row) gone = false_true gone

pub stays_held : (x m : Option Row) → (m ≡ None → x ≡ None) → goes x m ≡ false
stays_held None m stays = refl
stays_held (Some b) None stays = held_none (stays refl)
stays_held (Some b) (Some row) stays = refl

-- a new row is held
pub new_after : (now : ℤ) (x m : Option Row) → x ≡ None → changes_row x m ≡ true → IsTrue (is_some (edited_row now x m))
new_after now None None none changes = changes
new_after now None (Some row) none changes = refl
new_after now (Some b) m none changes = held_none none

pub kept_tag : (held : Option ℤ) (wanted : Bool) → IsTagKept held (edited_tag held wanted)
kept_tag (Some number) wanted = inl refl
kept_tag None true = inr (refl, refl)
kept_tag None false = inl refl

-- where the step is put back, a row is held exactly where one was
pub back_row : (now : ℤ) (x m : Option Row) → is_some (unwrap_or (cond (changes_row x m) (Some x) None) (edited_row now x m)) ≡ is_some x
back_row now None None = refl
back_row now None (Some row) = refl
back_row now (Some b) None = refl
back_row now (Some b) (Some row) =
    elim (same_but_stamp_and_usn row b) as (λ (t : Bool). is_some (unwrap_or (cond (not t) (Some (Some b)) None) (cond t (Some b) (Some (edited (advanced now (stamp_of b)) row)))) ≡ true) [ true ↦ refl | false ↦ refl ]

pub back_grave : (left : Bool) (new g : Option Row) → is_some (unwrap_or (cond left (Some g) None) (cond left new g)) ≡ is_some g
back_grave true new g = refl
back_grave false new g = refl

-- ---- names
pub row_named : (now : ℤ) (name : Name) (x m : Option Row) → ((row : Row) → x ≡ Some row → name_of row ≡ name) → ((row : Row) → m ≡ Some row → name_of row ≡ name)
    → (row : Row) → edited_row now x m ≡ Some row → name_of row ≡ name
row_named now name None None stood made row is = none_held is
row_named now name None (Some new) stood made row is = sym (ap name_of (same_Some _ _ is)) ∙ edited_name now new ∙ made new refl
row_named now name (Some b) None stood made row is = none_held is
row_named now name (Some b) (Some new) stood made row is =
    elim (same_but_stamp_and_usn new b) as (λ (t : Bool). cond t (Some b) (Some (edited (advanced now (stamp_of b)) new)) ≡ Some row → name_of row ≡ name) [
      | true ↦ λ is. sym (ap name_of (same_Some _ _ is)) ∙ stood b refl
      | false ↦ λ is. sym (ap name_of (same_Some _ _ is)) ∙ edited_name (advanced now (stamp_of b)) new ∙ made new refl
    ] is

pub grave_named : (name : Name) (left : Bool) (new g : Option Row) → ((row : Row) → new ≡ Some row → name_of row ≡ name) → ((row : Row) → g ≡ Some row → name_of row ≡ name)
    → (row : Row) → cond left new g ≡ Some row → name_of row ≡ name
grave_named name true new g made stood row is = made row is
grave_named name false new g made stood row is = stood row is
