-- A device that has nothing to send, and has the number and the moment of its server, has the server's content.
use Rattle.ak_base.specs.Tables.{graves_of, has_stamps}
use Rattle.ak_base.specs.Rows.{usn_of}
use Rattle.ak_base.specs.declared.names.Name.{Name}
use Rattle.ak_base.specs.declared.names.Table.{Table}
use Rattle.ak_base.specs.declared.rows.Row.{Row}
use Rattle.ak_base.proofs.RowFacts.{same-turned}
use Rattle.ak_keep.specs.Collections.{Collection, is_pending, is_settled}
use Rattle.ak_keep.specs.Graves.{RowsByName, grave_under}
use Rattle.ak_merge.proofs.EditFacts.{either_way, by_three}
use Rattle.ak_merge.proofs.TakingLaws.{grave_in, if_weaker}
use Rattle.ak_merge.specs.Holdings.{row_under, tag_usn, content_of, same_held, SameContent}
use Rattle.ak_merge.specs.Links.{IsAllSent, IsGiven, HasTaken, IsKnown, IsNewerUnsent, IsShared, IsTagShared, IsThere, AreLinkedParts}
use Rattle.std.specs.Prelude.{◌≡◌, ◌≢◌, ℤ, negsuc, ◌≤ℤ◌, ◌<ℤ◌, not, IsTrue, Option, Some, None, IfSome, is_some}
use Rattle.std.proofs.Common.{refl, sym, ap, arith}
use Rattle.std.proofs.lemmas.Int.{ints}
use Rattle.std.specs.Cmp.{signed_Decides}

-- ---- rows that were sent
sent_not_pending : {X : Type 0} (row : Row) → usn_of row ≢ negsuc 0 → IsTrue (is_pending row) → X
sent_not_pending row sent pending = absurd (sent ((signed_Decides (usn_of row) (negsuc 0)).0 pending))

sent_is_settled : (row : Row) → usn_of row ≢ negsuc 0 → IsTrue (is_settled row)
sent_is_settled row sent = either_way (is_pending row) (sent_not_pending row sent) (ap not)

-- ---- under each name
-- all that a server holds has numbers below the device's
abbrev IsBelow : ℤ → Option Row → Type 0
IsBelow usn o = IfSome o (λ row. usn_of row <ℤ usn)

-- and all that the device holds was sent
abbrev IsSentRow : Option Row → Type 0
IsSentRow o = IfSome o (λ row. usn_of row ≢ negsuc 0)

sent_grave : {X : Type 0} (g : Option Row) → IsSentRow g → IsThere g (λ grave. IsTrue (is_pending grave)) → X
sent_grave None sent pending = absurd pending
sent_grave (Some grave) sent pending = sent_not_pending grave sent pending

below_grave : {X : Type 0} (usn : ℤ) (h : Option Row) → IsBelow usn h → IsThere h (λ grave. usn ≤ℤ usn_of grave) → X
below_grave usn None below from = absurd from
below_grave usn (Some grave) below from = absurd (omega (arith, ints, below, from))

-- of a table with stamps
stamped_same : (usn : ℤ) (x g y h : Option Row) → IsSentRow x → IsSentRow g → IsBelow usn y → IsBelow usn h → HasTaken usn x g y → IsKnown usn x y h → IsTrue (same_held x y)
stamped_same usn None g None h own buried given dead taken known = refl
stamped_same usn None g (Some y) h own buried given dead taken known = by_three absurd absurd (sent_grave g buried) (taken given)
stamped_same usn (Some x) g None h own buried given dead taken known = by_three absurd absurd (below_grave usn h dead) (known (sent_is_settled x own))
stamped_same usn (Some x) g (Some y) h own buried given dead taken known =
    by_three (same-turned y x) (λ (newer : IsNewerUnsent y x). sent_not_pending x own newer.unsent) (sent_grave g buried) (taken given)

-- of another
shared_same : (usn : ℤ) (x y : Option Row) → IsSentRow x → IsBelow usn y → IsShared usn x y → IsTrue (same_held x y)
shared_same usn None None own given shared = refl
shared_same usn None (Some y) own given shared = absurd (shared.came given)
shared_same usn (Some x) None own given shared = absurd (shared.sent (sent_is_settled x own))
shared_same usn (Some x) (Some y) own given shared = shared.sent (sent_is_settled x own)

tag_same : (usn : ℤ) (x y : Option ℤ) → IfSome x (λ number. number ≢ negsuc 0) → IfSome y (λ number. number <ℤ usn) → IsTagShared usn x y → is_some x ≡ is_some y
tag_same usn None None own given shared = refl
tag_same usn None (Some n) own given shared = shared.came given
tag_same usn (Some m) None own given shared = sym (shared.sent own)
tag_same usn (Some m) (Some n) own given shared = refl

-- what holds of each row holds of each grave
grave_too : (P : Option Row → Type 0) (at : RowsByName) (name : Name) (graves : Option Table) → P None → ((name : Name) → P (at name)) → P (grave_in at name graves)
grave_too P at name None none each = none
grave_too P at name (Some graves) none each = each (record { table = graves; id = name.id })

-- ---- the law
module _ (c s : Collection) (linked : AreLinkedParts c s) (usn : c.head.usn ≡ s.head.usn) (sent : IsAllSent c) where
  below : (name : Name) → IsBelow c.head.usn (row_under s name)
  below name = if_weaker (λ row. IsGiven s.head.usn (usn_of row)) (λ row. usn_of row <ℤ c.head.usn)
      (λ row given. omega (arith, ints, usn, given.high)) (row_under s name) (linked.given.rows name)

  tag_below : (o : Option ℤ) → IfSome o (IsGiven s.head.usn) → IfSome o (λ number. number <ℤ c.head.usn)
  tag_below None given = tt
  tag_below (Some number) given = omega (arith, ints, usn, given.high)

  same_under : (name : Name) → IsTrue (same_held (row_under c name) (row_under s name))
  same_under name = either_way (has_stamps name.table)
      (λ has. stamped_same c.head.usn (row_under c name) (grave_under (row_under c) name) (row_under s name) (grave_under (row_under s) name) (sent.rows name)
      (grave_too IsSentRow (row_under c) name (graves_of name.table) tt sent.rows) (below name)
      (grave_too (IsBelow c.head.usn) (row_under s) name (graves_of name.table) tt below) (linked.taken name has) (linked.known name has))
      (λ none. shared_same c.head.usn (row_under c name) (row_under s name) (sent.rows name) (below name) (linked.shared name none))

-- equal numbers and moments, and nothing to send, mean equal contents
pub equal_heads_are_equal_contents : (c s : Collection) → AreLinkedParts c s → c.head.usn ≡ s.head.usn → c.head.moment ≡ s.head.moment → IsAllSent c → SameContent (content_of c) (content_of s)
equal_heads_are_equal_contents c s linked usn moment sent = record {
  rows = same_under c s linked usn sent;
  tags = λ name. tag_same c.head.usn (tag_usn c.head.tags name) (tag_usn s.head.tags name) (sent.tags name)
      (tag_below c s linked usn sent (tag_usn s.head.tags name) (linked.given.tags name)) (linked.tags name);
  conf = (linked.settings usn moment).0;
  crt = (linked.settings usn moment).1;
}
