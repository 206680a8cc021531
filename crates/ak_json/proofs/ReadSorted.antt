-- The members of an object that was read stand in the order of their keys.
use Rattle.std.proofs.Common.{ℕ, List, Bool, true, false, Option, Some, None}
use Rattle.std.specs.Prelude.{if◌then◌else◌, unwrap_or, option_and_then, option_map}
use Rattle.json.specs.Json as json
use Rattle.json.specs.Lex.{tokens}
use Rattle.serde_json.specs.Data.{Num, Data, number, array, object, Items, Members, no_members, put}
use Rattle.serde_json.specs.Find.{as_object}
use Rattle.serde_json.specs.Read.{number_of, of_json, of_items, of_members, max_depth}
use Rattle.ak_base.specs.Rests.{is_written_as, members_of}
use Rattle.ak_json.specs.Rests.{rest_members}
use Rattle.ak_json.proofs.Sorted.{AreSorted, put_sorted}

-- the members that an object read has, where one was read
abbrev members_in : Option Data → Members
members_in o = unwrap_or (option_and_then as_object o) no_members

of_number : (o : Option Num) → AreSorted (members_in (option_map number o))
of_number None = tt
of_number (Some n) = tt

of_array : (o : Option Items) → AreSorted (members_in (option_map array o))
of_array None = tt
of_array (Some ds) = tt

of_object : (o : Option Members) → AreSorted (unwrap_or o no_members) → AreSorted (members_in (option_map object o))
of_object None s = tt
of_object (Some ms) s = s

members_sorted : (ms : json.Members) (found : Members) → AreSorted found → AreSorted (unwrap_or (of_members ms found) no_members)
members_sorted json.no_members found s = s
members_sorted (json.member k j ms) found s = one (of_json j) (λ d. members_sorted ms (put k d found) (put_sorted k d found s))
  where
    one : (o : Option Data) → ((d : Data) → AreSorted (unwrap_or (of_members ms (put k d found)) no_members)) → AreSorted (unwrap_or (option_and_then (λ d. of_members ms (put k d found)) o) no_members)
    one None later = tt
    one (Some d) later = later d

json_sorted : (j : json.Json) → AreSorted (members_in (of_json j))
json_sorted json.null = tt
json_sorted (json.boolean b) = tt
json_sorted (json.number s) = of_number (number_of s)
json_sorted (json.string s) = tt
json_sorted (json.array js) = of_array (of_items js)
json_sorted (json.object ms) = of_object (of_members ms no_members) (members_sorted ms no_members tt)

written_sorted : (text : List ℕ) (o : Option Data) → AreSorted (members_in o)
    → AreSorted (unwrap_or (option_and_then (λ value. if is_written_as text value then as_object value else None) o) no_members)
written_sorted text None s = tt
written_sorted text (Some value) s = one (is_written_as text value)
  where
    one : (written : Bool) → AreSorted (unwrap_or (if written then as_object value else None) no_members)
    one true = s
    one false = tt

read_sorted : (o : Option json.Json) → AreSorted (members_in (option_and_then of_json o))
read_sorted None = tt
read_sorted (Some j) = json_sorted j

-- the members that a rest keeps stand in order
pub rest_sorted : (text : List ℕ) → AreSorted (rest_members text)
unfolding members_of
rest_sorted text =
    written_sorted text _ (read_sorted (option_and_then (λ p. json.if_last p.0 p.1) (json.value max_depth (tokens text))))
