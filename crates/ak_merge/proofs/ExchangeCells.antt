-- What an exchange leaves under one name, on both sides.
use Rattle.std.specs.Prelude.{◌≡◌, ℤ, ◌<ℤ◌, Bool, true, false, not, ◌&&◌, ◌||◌, if◌then◌else◌, int_lt, IsTrue, IfSome, List, Option, Some, None, is_some}
use Rattle.std.proofs.lemmas.Option.{none-some, same_Some}
use Rattle.std.proofs.Common.{refl, sym, ap, subst, ◌∙◌, inl, inr, arith}
use Rattle.std.proofs.lemmas.Int.{ints}
use Rattle.std.proofs.lemmas.List.Elements.{recursion_from_All}
use Rattle.std.specs.Option.{option_and_then}
use Rattle.ak_base.specs.Contents.{same_content}
use Rattle.ak_base.specs.Rows.{buried_of, name_of, stamp_of, usn_of, with_usn}
use Rattle.ak_base.specs.declared.names.Name.{Name}
use Rattle.ak_base.specs.declared.rows.Row.{Row}
use Rattle.ak_keep.specs.Collections.{is_pending, is_settled, is_wanted}
use Rattle.ak_keep.specs.declared.keepers.Wanted.{Wanted}
use Rattle.ak_keep.specs.declared.keepers.Wanted.TheVariants.{Unsent, From}
use Rattle.ak_merge.specs.Exchanges.{wanted_under, AreOf, IsSent}
use Rattle.ak_keep.specs.Graves.{RowsByName}
use Rattle.ak_merge.specs.Holdings.{AreNamed, same_held}
use Rattle.ak_merge.specs.Joins.{newest}
use Rattle.ak_merge.specs.Links.{HasTaken, IsKnown}
use Rattle.ak_base.proofs.RowFacts.{same-with_usn, same-itself, same-turned}
use Rattle.ak_base.proofs.SameRows.{like_stamp}
use Rattle.ak_merge.proofs.TakingJoins.{AreOneGrave, device_newest, server_newest}
use Rattle.ak_merge.proofs.TakingLaws.{received, received_by, if_weaker, newest_in, each_newest, has_newest}
use Rattle.ak_merge.specs.Takings.{beats}
use Rattle.ak_merge.specs.declared.sides.Side.{Side}
use Rattle.ak_merge.specs.declared.sides.Side.TheVariants.{Device, Server}

-- ---- an exchange: what came and what was sent
-- of what is wanted at one name
abbrev pub only_wanted : Wanted → Option Row → Option Row
only_wanted want o = option_and_then (λ (row : Row). if is_wanted want row then Some row else None) o

pub only_is : (want : Wanted) (x r : Row) → only_wanted want (Some x) ≡ Some r → (x ≡ r) × IsTrue (is_wanted want x)
only_is want x r is =
    elim (is_wanted want x) as (λ b. is_wanted want x ≡ b → (if b then Some x else None) ≡ Some r → (x ≡ r) × IsTrue (is_wanted want x)) [
      | true ↦ λ meets is. (same_Some x r is, meets)
      | false ↦ λ meets is. absurd (none-some r is)
    ] refl is

pub is_only : (want : Wanted) (x : Row) → IsTrue (is_wanted want x) → only_wanted want (Some x) ≡ Some x
is_only want x meets = rw meets refl

pub wanted_named : (want : Wanted) (at : RowsByName) → AreNamed at → AreNamed (wanted_under want at)
wanted_named want at named name row is =
    elim (at name) as (λ o. at name ≡ o → only_wanted want o ≡ Some row → name_of row ≡ name) [
      | None ↦ λ held is. absurd (none-some row is)
      | Some x ↦ λ held is. named name row (held ∙ ap (λ (r : Row). Some r) (only_is want x row is).0)
    ] refl is

-- what a list has of a name stands there, if all of it does
pub sent_each : (side : Side) (sent : List Row) (at : RowsByName) (name : Name) → AreOf at sent → IfSome (newest_in side sent name) (λ (row : Row). at name ≡ Some row)
sent_each side sent at name each =
    if_weaker (λ (row : Row). (at (name_of row) ≡ Some row) × (name_of row ≡ name)) (λ (row : Row). at name ≡ Some row) (λ row h. ap at (sym h.1) ∙ h.0) (newest_in side sent name)
    (each_newest side (λ (row : Row). at (name_of row) ≡ Some row) sent name (recursion_from_All (λ (row : Row). at (name_of row) ≡ Some row) sent each))

-- what is wanted and stays was sent
pub sent_whole : (side : Side) (sent : List Row) (at after : RowsByName) (name : Name) (row : Row) → IsSent sent at after → AreNamed at → at name ≡ Some row → after name ≡ Some row
    → newest_in side sent name ≡ Some row
sent_whole side sent at after name row gave named is stays =
    let some : is_some (newest_in side sent name) ≡ true = ap (λ (n : Name). is_some (newest_in side sent n)) (sym (named name row is)) ∙ has_newest side sent row (gave.whole name row is stays) in
    elim (newest_in side sent name) as (λ o. is_some o ≡ true → IfSome o (λ (x : Row). at name ≡ Some x) → o ≡ Some row) [
      | None ↦ λ some each. grind (arith, some)
      | Some x ↦ λ some each. sym each ∙ is
    ] some (sent_each side sent at name gave.each)

-- ---- an exchange: at one name
-- what the server's half rests on at one name: x and g are the device's row and grave, y and h the server's, w and k what of them came to
-- the device, p and q what was sent to the server
pub record ServerMeets (least usn : ℤ) (x g y h w k p q : Option Row) : Type 0 where
  pub known : IsKnown least x y h
  pub single : is_some h ≡ true → y ≡ None
  pub grave_sent : IfSome g (λ row. IsTrue (is_settled row) → is_some h ≡ true)
  pub came : IfSome w (λ row. only_wanted (From least) y ≡ Some row)
  pub sent : IfSome p (λ row. only_wanted Unsent x ≡ Some row)
  pub sent_all : (row : Row) → only_wanted Unsent x ≡ Some row → received_by Device usn x g w k ≡ Some row → p ≡ Some row
  pub graves_came : IfSome k (λ row. is_some h ≡ true)
  pub graves_sent : IfSome q (λ row. is_some g ≡ true)
  pub graves_sent_all : IfSome g (λ row. IsTrue (is_pending row) → is_some q ≡ true)

-- what the device's half rests on
pub record DeviceMeets (least usn : ℤ) (x g y h w k p q : Option Row) : Type 0 where
  pub taken : HasTaken least x g y
  pub own_single : is_some g ≡ true → x ≡ None
  pub one : AreOneGrave x y
  pub grave_came : IfSome h (λ row. usn_of row <ℤ least → is_some g ≡ true)
  pub came : IfSome w (λ row. only_wanted (From least) y ≡ Some row)
  pub came_all : (row : Row) → only_wanted (From least) y ≡ Some row → received_by Server usn y h p q ≡ Some row → w ≡ Some row
  pub sent : IfSome p (λ row. only_wanted Unsent x ≡ Some row)
  pub graves_came : IfSome k (λ row. is_some h ≡ true)
  pub graves_came_all : IfSome h (λ row. IsTrue (is_wanted (From least) row) → is_some k ≡ true)
  pub graves_sent : IfSome q (λ row. is_some g ≡ true)

-- what stands in the join
abbrev pub joined_of : Option Row → Option Row → Option Row → Option Row → Option Row
joined_of x g y h = if is_some g || is_some h then None else newest x y

-- what each holds then is what stands in the join
abbrev pub DeviceAgrees : ℤ → Option Row → Option Row → Option Row → Option Row → Option Row → Option Row → Type 0
DeviceAgrees usn x g y h w k = IsTrue (same_held (received_by Device usn x g w k) (joined_of x g y h))

abbrev pub ServerAgrees : ℤ → Option Row → Option Row → Option Row → Option Row → Option Row → Option Row → Type 0
ServerAgrees usn x g y h p q = IsTrue (same_held (received_by Server usn y h p q) (joined_of x g y h))

pending_or_settled : (row : Row) (P : Type 0) → (IsTrue (is_pending row) → P) → (IsTrue (is_settled row) → P) → P
pending_or_settled row P one other = elim (is_pending row) as (λ b. is_pending row ≡ b → P) [ true ↦ λ is. one is | false ↦ λ is. other (ap not is) ] refl

wanted_or_below : (least : ℤ) (row : Row) (P : Type 0) → (IsTrue (is_wanted (From least) row) → P) → (usn_of row <ℤ least → P) → P
wanted_or_below least row P one other =
    elim (int_lt (usn_of row) least) as (λ b. int_lt (usn_of row) least ≡ b → P) [ true ↦ λ is. other (omega (arith, ints, is)) | false ↦ λ is. one (ap not is) ] refl

nothing : is_some {T = Row} None ≡ true → ⊥
nothing some = grind (arith, some)

-- ---- the device, where the server has a grave
device_buried : (least usn : ℤ) (x g y : Option Row) (h : Row) (w k p q : Option Row) → DeviceMeets least usn x g y (Some h) w k p q → DeviceAgrees usn x g y (Some h) w k
device_buried least usn x None y h w (Some k) p q m = refl
device_buried least usn x (Some g) y h w (Some k) p q m = refl
device_buried least usn x (Some g) y h w None p q m = ap (λ o. same_held o None) (m.own_single refl)
device_buried least usn x None y h w None p q m = absurd (wanted_or_below least h ⊥ (λ wanted. nothing (m.graves_came_all wanted)) (λ below. nothing (m.grave_came below)))

-- the device alone has one
device_bury : (least usn : ℤ) (x : Option Row) (g : Row) (y w k p q : Option Row) → DeviceMeets least usn x (Some g) y None w k p q
    → IsTrue (same_held (received_by Device usn x (Some g) w k) None)
device_bury least usn x g y w (Some k) p q m = refl
device_bury least usn x g y w None p q m = ap (λ o. same_held o None) (m.own_single refl)

-- ---- the server, where it has a grave
server_buried : (least usn : ℤ) (x g y : Option Row) (h : Row) (w k p q : Option Row) → ServerMeets least usn x g y (Some h) w k p q → ServerAgrees usn x g y (Some h) p q
server_buried least usn x None y h w k p (Some q) m = refl
server_buried least usn x (Some g) y h w k p (Some q) m = refl
server_buried least usn x None y h w k p None m = ap (λ o. same_held o None) (m.single refl)
server_buried least usn x (Some g) y h w k p None m = ap (λ o. same_held o None) (m.single refl)

-- the device alone has one
server_bury : (least usn : ℤ) (x : Option Row) (g : Row) (y w k p q : Option Row) → ServerMeets least usn x (Some g) y None w k p q
    → IsTrue (same_held (received_by Server usn y None p q) None)
server_bury least usn x g y w k p (Some q) m = refl
server_bury least usn x g y w k p None m = absurd (pending_or_settled g ⊥ (λ pending. nothing (m.graves_sent_all pending)) (λ sent. nothing (m.grave_sent sent)))

-- ---- where neither has one
-- a row with another number, of one that is this
like_sent : (usn : ℤ) (x r : Row) → x ≡ r → IsTrue (same_content (with_usn r usn) x)
like_sent usn x r is = subst (λ (z : Row). IsTrue (same_content (with_usn r usn) z)) (sym is) (same-with_usn r usn)

-- a row that takes no place leaves what is held
unbeaten : (side : Side) (usn : ℤ) (x y : Row) (w : Option Row) → beats side (stamp_of x) y ≡ false → IfSome w (λ row. y ≡ row) → received side usn (Some x) w ≡ Some x
unbeaten side usn x y None stays is = refl
unbeaten side usn x y (Some w) stays is = let same : beats side (stamp_of x) w ≡ false = ap (beats side (stamp_of x)) (sym is) ∙ stays in rw same refl

-- an older one takes no place on a device
older_stays_out : (x y : Row) → int_lt (stamp_of y) (stamp_of x) ≡ true → beats Device (stamp_of x) y ≡ false
older_stays_out x y older = elim (is_some (buried_of y)) as (λ b. (not b && not (int_lt (stamp_of y) (stamp_of x))) ≡ false) [ true ↦ refl | false ↦ ap not older ]

came_is : (want : Wanted) (y : Row) (w : Option Row) → IfSome w (λ row. only_wanted want (Some y) ≡ Some row) → IfSome w (λ row. y ≡ row)
came_is want y w came = if_weaker (λ row. only_wanted want (Some y) ≡ Some row) (λ row. y ≡ row) (λ row is. (only_is want y row is).0) w came

-- ---- the device, where neither has a grave
device_neither : (least usn : ℤ) (w p : Option Row) → DeviceMeets least usn None None None None w None p None → DeviceAgrees usn None None None None w None
device_neither least usn None p m = refl
device_neither least usn (Some w) p m = absurd (none-some w m.came)

device_gets : (least usn : ℤ) (y : Row) (w p : Option Row) → DeviceMeets least usn None None (Some y) None w None p None → DeviceAgrees usn None None (Some y) None w None
device_gets least usn y w (Some p) m = absurd (none-some p m.sent)
device_gets least usn y (Some w) None m = like_sent usn y w (only_is (From least) y w m.came).0
device_gets least usn y None None m = absurd (wanted_or_below least y ⊥
    (λ wanted. none-some y (m.came_all y (is_only (From least) y wanted) refl))
    (λ below. elim (m.taken below) [ inl none ↦ absurd none | inr (inl none) ↦ absurd none | inr (inr none) ↦ absurd none ]))

device_keeps : (least usn : ℤ) (x : Row) (w p : Option Row) → DeviceMeets least usn (Some x) None None None w None p None → DeviceAgrees usn (Some x) None None None w None
device_keeps least usn x (Some w) p m = absurd (none-some w m.came)
device_keeps least usn x None p m = same-itself x

-- where nothing came of the server's row, the device has one like it, or a newer one
device_has : (least usn : ℤ) (x y : Row) (p : Option Row) → int_lt (stamp_of y) (stamp_of x) ≡ false → DeviceMeets least usn (Some x) None (Some y) None None None p None → IsTrue (same_content x y)
device_has least usn x y p not_newer m = wanted_or_below least y (IsTrue (same_content x y))
    (λ wanted. absurd (none-some y (m.came_all y (is_only (From least) y wanted) (unbeaten Server usn y x p not_newer (came_is Unsent x p m.sent)))))
    (λ below. elim (m.taken below) [
      | inl like ↦ same-turned y x like
      | inr (inl held) ↦ absurd (omega (arith, ints, held.newer, not_newer))
      | inr (inr none) ↦ absurd none
    ])

device_both : (least usn : ℤ) (x y : Row) (w p : Option Row) → DeviceMeets least usn (Some x) None (Some y) None w None p None
    → DeviceAgrees usn (Some x) None (Some y) None w None
device_both least usn x y (Some r) p m =
    subst (λ (z : Row). IsTrue (same_held (received Device usn (Some x) (Some z)) (newest (Some x) (Some y)))) (only_is (From least) y r m.came).0 (device_newest usn (Some x) (Some y) m.one)
device_both least usn x y None p m =
    elim (int_lt (stamp_of y) (stamp_of x)) as (λ s. int_lt (stamp_of y) (stamp_of x) ≡ s → IsTrue (same_held (Some x) (if s then Some x else Some y))) [
      | true ↦ λ _. same-itself x
      | false ↦ λ not_newer. device_has least usn x y p not_newer m
    ] refl

-- ---- the server, where neither has a grave
server_neither : (least usn : ℤ) (w p : Option Row) → ServerMeets least usn None None None None w None p None → ServerAgrees usn None None None None p None
server_neither least usn w None m = refl
server_neither least usn w (Some p) m = absurd (none-some p m.sent)

server_keeps_own : (least usn : ℤ) (y : Row) (w p : Option Row) → ServerMeets least usn None None (Some y) None w None p None → ServerAgrees usn None None (Some y) None p None
server_keeps_own least usn y w (Some p) m = absurd (none-some p m.sent)
server_keeps_own least usn y w None m = same-itself y

server_gets : (least usn : ℤ) (x : Row) (w p : Option Row) → ServerMeets least usn (Some x) None None None w None p None → ServerAgrees usn (Some x) None None None p None
server_gets least usn x (Some w) p m = absurd (none-some w m.came)
server_gets least usn x None (Some p) m = like_sent usn x p (only_is Unsent x p m.sent).0
server_gets least usn x None None m = absurd (pending_or_settled x ⊥
    (λ pending. none-some x (m.sent_all x (is_only Unsent x pending) refl))
    (λ settled. elim (m.known settled) [ inl none ↦ absurd none | inr (inl none) ↦ absurd none | inr (inr none) ↦ absurd none ]))

-- what was not sent of the device's row is not newer than the server's
server_has : (least usn : ℤ) (x y : Row) (w : Option Row) → int_lt (stamp_of y) (stamp_of x) ≡ true → ServerMeets least usn (Some x) None (Some y) None w None None None → ⊥
server_has least usn x y w newer m = pending_or_settled x ⊥
    (λ pending. none-some x (m.sent_all x (is_only Unsent x pending) (unbeaten Device usn x y w (older_stays_out x y newer) (came_is (From least) y w m.came))))
    (λ settled. elim (m.known settled) [
      | inl like ↦ let one = like_stamp x y like in omega (arith, ints, one, newer)
      | inr (inl held) ↦ omega (arith, ints, held.newer, newer)
      | inr (inr none) ↦ none
    ])

server_both : (least usn : ℤ) (x y : Row) (w p : Option Row) → ServerMeets least usn (Some x) None (Some y) None w None p None
    → ServerAgrees usn (Some x) None (Some y) None p None
server_both least usn x y w (Some r) m =
    subst (λ (z : Row). IsTrue (same_held (received Server usn (Some y) (Some z)) (newest (Some x) (Some y)))) (only_is Unsent x r m.sent).0 (server_newest usn (Some x) (Some y))
server_both least usn x y w None m =
    elim (int_lt (stamp_of y) (stamp_of x)) as (λ s. int_lt (stamp_of y) (stamp_of x) ≡ s → IsTrue (same_held (Some y) (if s then Some x else Some y))) [
      | true ↦ λ newer. absurd (server_has least usn x y w newer m)
      | false ↦ λ _. same-itself y
    ] refl

-- ---- all cases
pub device_agrees : (least usn : ℤ) (x g y h w k p q : Option Row) → DeviceMeets least usn x g y h w k p q → DeviceAgrees usn x g y h w k
device_agrees least usn x g y (Some h) w k p q m = device_buried least usn x g y h w k p q m
device_agrees least usn x (Some g) y None w k p q m = device_bury least usn x g y w k p q m
device_agrees least usn x None y None w (Some k) p q m = absurd (nothing m.graves_came)
device_agrees least usn x None y None w None p (Some q) m = absurd (nothing m.graves_sent)
device_agrees least usn None None None None w None p None m = device_neither least usn w p m
device_agrees least usn None None (Some y) None w None p None m = device_gets least usn y w p m
device_agrees least usn (Some x) None None None w None p None m = device_keeps least usn x w p m
device_agrees least usn (Some x) None (Some y) None w None p None m = device_both least usn x y w p m

pub server_agrees : (least usn : ℤ) (x g y h w k p q : Option Row) → ServerMeets least usn x g y h w k p q → ServerAgrees usn x g y h p q
server_agrees least usn x g y (Some h) w k p q m = server_buried least usn x g y h w k p q m
server_agrees least usn x (Some g) y None w k p q m = server_bury least usn x g y w k p q m
server_agrees least usn x None y None w (Some k) p q m = absurd (nothing m.graves_came)
server_agrees least usn x None y None w None p (Some q) m = absurd (nothing m.graves_sent)
server_agrees least usn None None None None w None p None m = server_neither least usn w p m
server_agrees least usn None None (Some y) None w None p None m = server_keeps_own least usn y w p m
server_agrees least usn (Some x) None None None w None p None m = server_gets least usn x w p m
server_agrees least usn (Some x) None (Some y) None w None p None m = server_both least usn x y w p m
