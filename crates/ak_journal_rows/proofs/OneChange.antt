-- A value is that of one change alone.
use Rattle.std.proofs.Common.{◌≡◌, ℕ, ◌≤◌, ◌<◌, ◌^◌, ℤ, pos, negsuc, ◌≤ℤ◌, List, [], ◌∷◌, map, Option, Some, None, IfSome, refl, sym, ap, ◌∙◌, subst, codes, arith}
use Rattle.std.specs.List.{All}
use Rattle.std.specs.Prelude.{option_and_then, slice_get}
use Rattle.std.proofs.lemmas.Int.{ints}
use Rattle.std.proofs.lemmas.List.Elements.{All-head, All-tail}
use Rattle.serde_json.specs.Data.{Data, Items, item, Members, member}
use Rattle.serde_json.specs.Find.{as_array, as_bool, as_i64, as_number, as_object, as_u64, at, get, of_integer}
use Rattle.serde_json.specs.Read.{read}
use Rattle.serde_json.specs.View.{items_of}
use Rattle.ak_base.specs.Heads.{AreConfNumbersInRange, IsHeadInRange, IsMoment, IsTagInRange, IsWithin}
use Rattle.ak_base.specs.Names.{table_place}
use Rattle.ak_base.specs.Rows.{IsChecked, name_of}
use Rattle.ak_base.specs.Tables.{all_tables}
use Rattle.ak_base.specs.declared.heads.Conf.{Conf}
use Rattle.ak_base.specs.declared.heads.Head.{Head}
use Rattle.ak_base.specs.declared.heads.Tag.{Tag}
use Rattle.ak_base.specs.declared.names.Name.{Name}
use Rattle.ak_base.specs.declared.names.Table.{Table}
use Rattle.ak_base.specs.declared.rows.Row.{Row}
use Rattle.ak_json.specs.Confs.{ReadsConf, conf_json}
use Rattle.ak_json.specs.Rows.{row_json}
use Rattle.ak_json.specs.Written.{integer}
use Rattle.ak_json.proofs.Again.{IsReadAgain, small_again}
use Rattle.ak_json.proofs.ConfsAgain.{conf_again}
use Rattle.ak_json.proofs.OneRow.{one_conf, one_row_read}
use Rattle.ak_json.proofs.RowsAgain.{own_again}
use Rattle.ak_keep.specs.Collections.{Holding}
use Rattle.ak_journal_rows.specs.Changes.{HasWordId, IsOfForm, IsWord, after_change}
use Rattle.ak_journal_rows.specs.Texts.{IsPayloadOf, LeadTo, change_json, entry_json, head_json, list_json, name_json, some_head_json, table_json, tag_members}
use Rattle.ak_journal_rows.specs.declared.changes.Change.{Change}
use Rattle.ak_journal_rows.proofs.Found.{row_reads, some_same, table_found}

-- ---- numbers and tables
pub within_again : (most : ℕ) (least z : ℤ) → most < 2 ^ 63 → IsWithin least (pos most) z → IsReadAgain z
within_again most least (pos n) room h = let high : pos n ≤ℤ pos most = h.high in let k : n ≤ most = grind (arith, ints, high) in small_again n (omega arith)
within_again most least (negsuc n) room h = refl

pub word_again : (z : ℤ) → IsWord z → IsReadAgain z
word_again z h = within_again 9_223_372_036_854_775_807 (negsuc 9_223_372_036_854_775_807) z (omega arith) h

one_number : (z y : ℤ) → IsReadAgain z → IsReadAgain y → integer z ≡ integer y → z ≡ y
one_number z y h k is = some_same (as_i64 (of_integer z)) z y h (ap (λ d. option_and_then as_i64 (as_number d)) is ∙ k)

one_table : (one other : Table) → table_json one ≡ table_json other → one ≡ other
one_table one other is =
    let place : table_place one ≡ table_place other = some_same (Some (table_place one)) _ _ refl (ap (λ d. option_and_then as_u64 (as_number d)) is) in
    some_same (slice_get all_tables (table_place one)) one other (table_found one) (ap (slice_get all_tables) place ∙ table_found other)

-- ---- lists
first_same : (d e : Data) (ds es : Items) → item d ds ≡ item e es → d ≡ e
first_same d e ds es is = cc

others_same : (d e : Data) (ds es : Items) → item d ds ≡ item e es → ds ≡ es
others_same d e ds es is = cc

module _ {A : Type 0} (json : A → Data) (fits : A → Type 0) (one_of : (a b : A) → fits a → fits b → json a ≡ json b → a ≡ b) where
  one_items : (xs ys : List A) → All fits xs → All fits ys → items_of (map json xs) ≡ items_of (map json ys) → xs ≡ ys
  one_items [] [] h k is = refl
  one_items [] (y ∷ ys) h k is = cc
  one_items (x ∷ xs) [] h k is = cc
  one_items (x ∷ xs) (y ∷ ys) h k is =
      let first : x ≡ y = one_of x y (All-head fits x xs h) (All-head fits y ys k) (first_same _ _ _ _ is) in
      let others : xs ≡ ys = one_items xs ys (All-tail fits x xs h) (All-tail fits y ys k) (others_same _ _ _ _ is) in
      λ i. first i ∷ others i

  one_list : (xs ys : List A) → All fits xs → All fits ys → list_json json xs ≡ list_json json ys → xs ≡ ys
  one_list xs ys h k is = one_items xs ys h k (some_same (Some (items_of (map json xs))) _ _ refl (ap as_array is))

one_name : (a b : Name) → HasWordId a → HasWordId b → name_json a ≡ name_json b → a ≡ b
one_name a b h k is =
    let table : a.table ≡ b.table = one_table a.table b.table (some_same (Some (table_json a.table)) _ _ refl (ap (at 0) is)) in
    let id : a.id ≡ b.id = one_number a.id b.id (word_again a.id h) (word_again b.id k) (some_same (Some (integer a.id)) _ _ refl (ap (at 1) is)) in
    λ i. record { table = table i; id = id i }

one_entry : (a b : Row) → IsChecked a → IsChecked b → entry_json a ≡ entry_json b → a ≡ b
one_entry a b h k is =
    let table : (name_of a).table ≡ (name_of b).table = one_table _ _ (some_same (Some (table_json (name_of a).table)) _ _ refl (ap (at 0) is)) in
    let same : row_json a ≡ row_json b = some_same (Some (row_json a)) _ _ refl (ap (at 1) is) in
    one_row_read (name_of a).table (row_json a) a b (own_again a h) (row_reads (name_of a).table (row_json a) b k table same)

-- ---- heads
key_same : (k l : List ℕ) (d e : Data) (ms ns : Members) → member k d ms ≡ member l e ns → k ≡ l
key_same k l d e ms ns is = cc

value_same : (k l : List ℕ) (d e : Data) (ms ns : Members) → member k d ms ≡ member l e ns → d ≡ e
value_same k l d e ms ns is = cc

rest_same : (k l : List ℕ) (d e : Data) (ms ns : Members) → member k d ms ≡ member l e ns → ms ≡ ns
rest_same k l d e ms ns is = cc

tag_number : (tag : Tag) → IsTagInRange tag → IsReadAgain tag.usn
tag_number tag h = within_again 2_147_483_647 (negsuc 0) tag.usn (omega arith) h.usn

one_tags : (xs ys : List Tag) → All IsTagInRange xs → All IsTagInRange ys → tag_members xs ≡ tag_members ys → xs ≡ ys
one_tags [] [] h k is = refl
one_tags [] (y ∷ ys) h k is = cc
one_tags (x ∷ xs) [] h k is = cc
one_tags (x ∷ xs) (y ∷ ys) h k is =
    let name : x.name ≡ y.name = key_same _ _ _ _ _ _ is in
    let usn : x.usn ≡ y.usn =
    one_number x.usn y.usn (tag_number x (All-head IsTagInRange x xs h)) (tag_number y (All-head IsTagInRange y ys k)) (value_same _ _ _ _ _ _ is) in
    let others : xs ≡ ys = one_tags xs ys (All-tail IsTagInRange x xs h) (All-tail IsTagInRange y ys k) (rest_same _ _ _ _ _ _ is) in
    λ i. record { name = name i; usn = usn i } ∷ others i

-- what stands under a key of one object stands there in the other
under_same : (key : List ℕ) (d e x y : Data) → d ≡ e → get key d ≡ Some x → get key e ≡ Some y → x ≡ y
under_same key d e x y is one other = some_same (get key d) x y one (ap (get key) is ∙ other)

same_conf : (a b : Conf) → AreConfNumbersInRange a → AreConfNumbersInRange b → conf_json a ≡ conf_json b → a ≡ b
same_conf a b h k is = one_conf (conf_json a) a b (conf_again a h) (subst (λ d. ReadsConf d b) (sym is) (conf_again b k))

moment_again : (z : ℤ) → IsMoment z → IsReadAgain z
moment_again z h = within_again 4_294_967_295_999 (pos 0) z (omega arith) h

one_some : (a b : Head) → IsHeadInRange a → IsHeadInRange b → some_head_json a ≡ some_head_json b → a ≡ b
one_some a b h k is =
    let conf : a.conf ≡ b.conf = same_conf a.conf b.conf h.conf.numbers k.conf.numbers (under_same (codes "conf") _ _ _ _ is refl refl) in
    let crt : a.crt ≡ b.crt =
    one_number a.crt b.crt (within_again 4_294_967_295 (pos 0) a.crt (omega arith) h.crt) (within_again 4_294_967_295 (pos 0) b.crt (omega arith) k.crt) (under_same (codes "crt") _ _ _ _ is refl refl) in
    let last_sync : a.last_sync ≡ b.last_sync = one_number a.last_sync b.last_sync (moment_again _ h.last_sync) (moment_again _ k.last_sync) (under_same (codes "ls") _ _ _ _ is refl refl) in
    let moment : a.moment ≡ b.moment = one_number a.moment b.moment (moment_again _ h.moment) (moment_again _ k.moment) (under_same (codes "mod") _ _ _ _ is refl refl) in
    let schema : a.schema ≡ b.schema = one_number a.schema b.schema (moment_again _ h.schema) (moment_again _ k.schema) (under_same (codes "scm") _ _ _ _ is refl refl) in
    let usn : a.usn ≡ b.usn =
    one_number a.usn b.usn (within_again 2_147_483_646 (pos 0) a.usn (omega arith) h.usn) (within_again 2_147_483_646 (pos 0) b.usn (omega arith) k.usn) (under_same (codes "usn") _ _ _ _ is refl refl) in
    let members : tag_members a.tags ≡ tag_members b.tags = some_same (Some (tag_members a.tags)) _ _ refl (ap as_object (under_same (codes "tags") _ _ _ _ is refl refl)) in
    let tags : a.tags ≡ b.tags = one_tags a.tags b.tags h.tags k.tags members in
    λ i. record { crt = crt i; moment = moment i; schema = schema i; usn = usn i; last_sync = last_sync i; conf = conf i; tags = tags i }

one_head : (a b : Option Head) → IfSome a IsHeadInRange → IfSome b IsHeadInRange → head_json a ≡ head_json b → a ≡ b
one_head None None h k is = refl
one_head None (Some b) h k is = cc
one_head (Some a) None h k is = cc
one_head (Some a) (Some b) h k is = ap Some (one_some a b h k is)

-- ---- changes
pub one_change : (a b : Change) → IsOfForm a → IsOfForm b → change_json a ≡ change_json b → a ≡ b
one_change a b h k is =
    let all : a.all ≡ b.all = some_same (Some a.all) _ _ refl (ap as_bool (under_same (codes "all") _ _ _ _ is refl refl)) in
    let cut : a.cut ≡ b.cut = one_list name_json HasWordId one_name a.cut b.cut h.cut.each k.cut.each (under_same (codes "cut") _ _ _ _ is refl refl) in
    let head : a.head ≡ b.head = one_head a.head b.head h.head k.head (under_same (codes "head") _ _ _ _ is refl refl) in
    let put : a.put ≡ b.put = one_list entry_json IsChecked one_entry a.put b.put h.put.each k.put.each (under_same (codes "put") _ _ _ _ is refl refl) in
    λ i. record { all = all i; cut = cut i; head = head i; put = put i }

-- a payload is that of one change alone
pub one_payload : (payload : List ℕ) (a b : Change) → IsPayloadOf payload a → IsPayloadOf payload b → a ≡ b
one_payload payload a b h k = one_change a b h.formed k.formed (some_same (read payload) _ _ h.reads k.reads)

-- payloads lead to one collection alone
pub one_end : (payloads : List (List ℕ)) (was a b : Holding) → LeadTo was payloads a → LeadTo was payloads b → a ≡ b
one_end [] was a b h k = h ∙ sym k
one_end (payload ∷ payloads) was a b (one, of_one, to_one) (other, of_other, to_other) =
    let same : one ≡ other = one_payload payload one other of_one of_other in
    one_end payloads (after_change one was) a b to_one (subst (λ (change : Change). LeadTo (after_change change was) payloads b) (sym same) to_other)
