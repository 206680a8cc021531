-- The JSON that ends a `filter` line: an array of a name, a search, a limit and an order.
use Rattle.std.specs.Prelude.{◌≡◌, ℕ, ℤ, if◌then◌else◌, List, [], Option, Some, None, codes}
use Rattle.std.specs.Option.{MatchOption, is_some}
use Rattle.serde_json.specs.Data.{Data}
use Rattle.serde_json.specs.Find.{as_array, as_str, at}
use Rattle.ak_desk_language.specs.Contents.{part_of, wrong_kind}
use Rattle.ak_desk_language.specs.declared.line_faults.LineFault.{LineFault}
use Rattle.ak_desk_language.specs.declared.line_faults.LineFault.TheVariants as faults
use Rattle.ak_json.specs.Kinds.{integer_of}
use Rattle.ak_json.specs.declared.faults.JsonFault.{JsonFault}
use Rattle.ak_json.specs.declared.faults.JsonFault.TheVariants as jsons

-- the value is no array of four: no array, too short, or too long
abbrev pub four_fault : Data → Option JsonFault
four_fault d =
    if is_some (as_array d) then
    (if is_some (at 0 d) then
    (if is_some (at 1 d) then
    (if is_some (at 2 d) then
    (if is_some (at 3 d) then
    (if is_some (at 4 d) then Some (jsons.WrongKind (codes "4")) else None)
    else Some (jsons.Missing (codes "3")))
    else Some (jsons.Missing (codes "2")))
    else Some (jsons.Missing (codes "1")))
    else Some (jsons.Missing (codes "0")))
    else Some (jsons.WrongKind [])

-- the name, the search, the limit and the order
pub record IsFilterPlan (d : Data) (name search : List ℕ) (limit order : ℤ) : Type 0 where
  pub four : four_fault d ≡ None
  pub name_is : as_str (part_of 0 d) ≡ Some name
  pub search_is : as_str (part_of 1 d) ≡ Some search
  pub limit_is : integer_of (part_of 2 d) ≡ Some limit
  pub order_is : integer_of (part_of 3 d) ≡ Some order

-- the order is no whole number
abbrev pub RefusesOrder : Data → LineFault → Type 0
RefusesOrder d fault = (integer_of (part_of 3 d) ≡ None) × (fault ≡ wrong_kind (codes "3"))

-- the limit is none, or else the order
abbrev pub RefusesNumbers : Data → LineFault → Type 0
RefusesNumbers d fault =
    MatchOption (integer_of (part_of 2 d)) (fault ≡ wrong_kind (codes "2")) (λ limit. RefusesOrder d fault)

-- the search is no text, or else one of the numbers is none
abbrev pub RefusesSearchOn : Data → LineFault → Type 0
RefusesSearchOn d fault =
    MatchOption (as_str (part_of 1 d)) (fault ≡ wrong_kind (codes "1")) (λ search. RefusesNumbers d fault)

-- of an array of four: the first of them that is not of its kind
abbrev pub RefusesEntries : Data → LineFault → Type 0
RefusesEntries d fault =
    MatchOption (as_str (part_of 0 d)) (fault ≡ wrong_kind (codes "0")) (λ name. RefusesSearchOn d fault)

-- the first fault
abbrev pub RefusesFilterPlan : Data → LineFault → Type 0
RefusesFilterPlan d fault = MatchOption (four_fault d) (RefusesEntries d fault) (λ first. fault ≡ faults.Json first)
