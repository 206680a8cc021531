-- Members that stand in the order of their keys.
use Rattle.std.proofs.Common.{◌≡◌, ℕ, List, Bool, true, false, Some, None, Ordering, Less, Equal, Greater, nat_cmp, refl, ap, ◌∙◌}
use Rattle.std.specs.Prelude.{if◌then◌else◌}
use Rattle.std.proofs.lemmas.Cmp.{nat_list_cmp_total}
use Rattle.std.specs.Cmp.Lexicographic.{slice_cmp}
use Rattle.std.specs.Ordering.{match_ordering, ordering_reverse}
use Rattle.serde_json.specs.Data.{Data, Members, no_members, member, put}
use Rattle.serde_json.specs.Find.{get_member}
use Rattle.ak_json.specs.Members.{Form, knows, unknown}

-- every key of the members is behind this one
abbrev pub AllBehind : List ℕ → Members → Type 0
AllBehind k no_members = Unit {0}
AllBehind k (member l d ms) = (slice_cmp nat_cmp k l ≡ Less) × AllBehind k ms

-- each key once, in the order of their bytes
abbrev pub AreSorted : Members → Type 0
AreSorted no_members = Unit {0}
AreSorted (member k d ms) = AllBehind k ms × AreSorted ms

-- what is behind a key is behind those before it
pub behind_before : (k l : List ℕ) (ms : Members) → slice_cmp nat_cmp k l ≡ Less → AllBehind l ms → AllBehind k ms
behind_before k l no_members h b = tt
behind_before k l (member m d ms) h b = (nat_list_cmp_total.trans k l m h b.0, behind_before k l ms h b.1)

-- none of these is the key
pub absent_behind : (k : List ℕ) (ms : Members) → AllBehind k ms → get_member k ms ≡ None
absent_behind k no_members b = refl
absent_behind k (member l d ms) b = ap (λ o. match_ordering o (get_member k ms) (Some d) (get_member k ms)) b.0 ∙ absent_behind k ms b.1

pub unknown_behind : (form : Form) (k : List ℕ) (ms : Members) → AllBehind k ms → AllBehind k (unknown form ms)
unknown_behind form k no_members b = tt
unknown_behind form k (member l d ms) b = one (knows form l) (unknown_behind form k ms b.1)
  where
    one : (known : Bool) → AllBehind k (unknown form ms) → AllBehind k (if known then unknown form ms else member l d (unknown form ms))
    one true later = later
    one false later = (b.0, later)

-- it is put before them
pub put_first : (k : List ℕ) (d : Data) (ms : Members) → AllBehind k ms → put k d ms ≡ member k d ms
put_first k d no_members b = refl
put_first k d (member l e ms) b = ap (λ o. match_ordering o (member k d (member l e ms)) (member l d ms) (member l e (put k d ms))) b.0

put_behind : (q k : List ℕ) (d : Data) (ms : Members) → slice_cmp nat_cmp q k ≡ Less → AllBehind q ms → AllBehind q (put k d ms)
put_behind q k d no_members h b = (h, tt)
put_behind q k d (member l e ms) h b = one (slice_cmp nat_cmp k l) (put_behind q k d ms h b.1)
  where
    one : (o : Ordering) → AllBehind q (put k d ms) → AllBehind q (match_ordering o (member k d (member l e ms)) (member l d ms) (member l e (put k d ms)))
    one Less later = (h, b)
    one Equal later = b
    one Greater later = (b.0, later)

turned : (k l : List ℕ) → slice_cmp nat_cmp k l ≡ Greater → slice_cmp nat_cmp l k ≡ Less
turned k l h = nat_list_cmp_total.antisymm l k ∙ ap ordering_reverse h

-- and so are they with one more
pub put_sorted : (k : List ℕ) (d : Data) (ms : Members) → AreSorted ms → AreSorted (put k d ms)
put_sorted k d no_members s = (tt, tt)
put_sorted k d (member l e ms) s = one (slice_cmp nat_cmp k l) refl (put_sorted k d ms s.1)
  where
    one : (o : Ordering) → slice_cmp nat_cmp k l ≡ o → AreSorted (put k d ms) → AreSorted (match_ordering o (member k d (member l e ms)) (member l d ms) (member l e (put k d ms)))
    one Less is later = ((is, behind_before k l ms is s.0), s)
    one Equal is later = s
    one Greater is later = (put_behind l k d ms (turned k l is) s.0, later)
