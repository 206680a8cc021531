-- Taking all that the other side holds gives the join, on either side.
use Rattle.ak_base.proofs.RowFacts.{same-with_usn, same-itself}
use Rattle.ak_base.specs.Contents.{same_content}
use Rattle.ak_base.specs.Rows.{buried_of, stamp_of, with_usn}
use Rattle.ak_base.specs.declared.names.Name.{Name}
use Rattle.ak_base.specs.declared.rows.Row.{Row}
use Rattle.ak_keep.specs.Collections.{Rows}
use Rattle.ak_keep.specs.Graves.{RowsByName, grave_under}
use Rattle.ak_merge.proofs.GraveLaws.{graves_are_one}
use Rattle.ak_merge.proofs.TakingLaws.{received, received_by, received_under, newest_in, all_taken_at, listed_newest}
use Rattle.ak_merge.specs.Holdings.{AreNamed, AreChecked, IsSingle, same_held}
use Rattle.ak_merge.specs.Joins.{newest, joined_under}
use Rattle.ak_merge.specs.Takings.{IsListOf, all_taken}
use Rattle.ak_merge.specs.declared.sides.Side.TheVariants.{Device, Server}
use Rattle.std.specs.FinMap.{get}
use Rattle.std.specs.Prelude.{◌≡◌, ℤ, true, false, not, ◌||◌, ◌&&◌, if◌then◌else◌, int_lt, IsTrue, List, Option, Some, None, is_some}
use Rattle.std.proofs.Common.{refl, sym, ap, ◌∙◌}

-- ---- at one name
pub server_newest : (usn : ℤ) (x y : Option Row) → IsTrue (same_held (received Server usn y x) (newest x y))
server_newest usn None None = refl
server_newest usn None (Some y) = same-itself y
server_newest usn (Some x) None = same-with_usn x usn
server_newest usn (Some x) (Some y) =
    elim (int_lt (stamp_of y) (stamp_of x)) as (λ s. IsTrue (same_held (if s then Some (with_usn x usn) else Some y) (if s then Some x else Some y))) [ true ↦ same-with_usn x usn | false ↦ same-itself y ]

-- of two graves the device keeps its own
abbrev pub AreOneGrave : Option Row → Option Row → Type 0
AreOneGrave x y = (a b : Row) → x ≡ Some a → y ≡ Some b → is_some (buried_of b) ≡ true → IsTrue (same_content a b)

pub device_newest : (usn : ℤ) (x y : Option Row) → AreOneGrave x y → IsTrue (same_held (received Device usn x y) (newest x y))
device_newest usn None None one = refl
device_newest usn None (Some y) one = same-with_usn y usn
device_newest usn (Some x) None one = same-itself x
device_newest usn (Some x) (Some y) one =
    elim (is_some (buried_of y)) as (λ b. is_some (buried_of y) ≡ b
    → IsTrue (same_held (if not b && not (int_lt (stamp_of y) (stamp_of x)) then Some (with_usn y usn) else Some x) (newest (Some x) (Some y)))) [
      | true ↦ λ grave. elim (int_lt (stamp_of y) (stamp_of x)) as (λ s. IsTrue (same_held (Some x) (if s then Some x else Some y))) [ true ↦ same-itself x | false ↦ one x y refl refl grave ]
      | false ↦ λ _. elim (int_lt (stamp_of y) (stamp_of x)) as (λ s. IsTrue (same_held (if not s then Some (with_usn y usn) else Some x) (if s then Some x else Some y))) [ true ↦ same-itself x | false ↦ same-with_usn y usn ]
    ] refl

server_cell : (usn : ℤ) (x g y h : Option Row) → (is_some h ≡ true → y ≡ None)
    → IsTrue (same_held (received_by Server usn y h x g) (if is_some g || is_some h then None else newest x y))
server_cell usn x None y None single = server_newest usn x y
server_cell usn x (Some g) y None single = refl
server_cell usn x None y (Some h) single = ap (λ o. same_held o None) (single refl)
server_cell usn x (Some g) y (Some h) single = refl

device_cell : (usn : ℤ) (x g y h : Option Row) → (is_some g ≡ true → x ≡ None) → AreOneGrave x y
    → IsTrue (same_held (received_by Device usn x g y h) (if is_some g || is_some h then None else newest x y))
device_cell usn x None y None single one = device_newest usn x y one
device_cell usn x None y (Some h) single one = refl
device_cell usn x (Some g) y None single one = ap (λ o. same_held o None) (single refl)
device_cell usn x (Some g) y (Some h) single one = refl

-- of rows under one name, each in its ranges
pub one_grave : (a b : RowsByName) (name : Name) → AreNamed a → AreNamed b → AreChecked a → AreChecked b → AreOneGrave (a name) (b name)
one_grave a b name named their_named checked their_checked x y has held grave =
    graves_are_one x y (checked name x has) (their_checked name y held) (named name x has ∙ sym (their_named name y held)) grave

-- ---- all that the other side holds
pub server_takes_all : (usn : ℤ) (came : List Row) (c s : Rows) → IsListOf came (get c) → AreNamed (get c) → IsSingle (get s) → (name : Name)
    → IsTrue (same_held (get (all_taken Server usn came s) name) (joined_under (get c) (get s) name))
server_takes_all usn came c s listed named single name =
    ap (λ o. same_held o (joined_under (get c) (get s) name)) (all_taken_at Server usn came s name ∙ ap (λ (from : RowsByName). received_under Server usn (get s) from name) (listed_newest Server came (get c) listed named))
    ∙ server_cell usn (get c name) (grave_under (get c) name) (get s name) (grave_under (get s) name) (single name)

pub device_takes_all : (usn : ℤ) (came : List Row) (c s : Rows) → IsListOf came (get s) → AreNamed (get c) → AreNamed (get s) → AreChecked (get c) → AreChecked (get s) → IsSingle (get c) → (name : Name)
    → IsTrue (same_held (get (all_taken Device usn came c) name) (joined_under (get c) (get s) name))
device_takes_all usn came c s listed named their_named checked their_checked single name =
    ap (λ o. same_held o (joined_under (get c) (get s) name)) (all_taken_at Device usn came c name ∙ ap (λ (from : RowsByName). received_under Device usn (get c) from name) (listed_newest Device came (get s) listed their_named))
    ∙ device_cell usn (get c name) (grave_under (get c) name) (get s name) (grave_under (get s) name) (single name) (one_grave (get c) (get s) name named their_named checked their_checked)
