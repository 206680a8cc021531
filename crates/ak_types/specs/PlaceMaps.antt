-- What an edit of a note type says of each new field or template: the place of the old one that it is, none if it is new.
use Rattle.std.specs.Prelude.{◌≡◌, ◌<◌, ◌+◌, ℕ, suc, ℤ, pos, negsuc, Bool, true, false, not, ◌==◌, ◌&&◌, ◌||◌, nat_lt, if◌then◌else◌, List, [], ◌∷◌, length, take, Option, Some, None}
use Rattle.std.specs.List.{list_any, position, slice_get}
use Rattle.std.specs.Option.{option_map}
use Rattle.ak_edit.specs.Refusals.{Refusal}
use Rattle.ak_edit.specs.declared.desk_faults.DeskFault.{DeskFault}
use Rattle.ak_edit.specs.declared.desk_faults.DeskFault.TheVariants as faults

-- whether an entry names this old place
abbrev pub names_place : ℕ → Option ℕ → Bool
names_place old None = false
names_place old (Some from) = from == old

-- ---- maps that are refused
-- whether an entry after these is bad: it names none of this many old places, or one that they name
abbrev pub is_bad_entry : ℕ → List (Option ℕ) → Option ℕ → Bool
is_bad_entry old before None = false
is_bad_entry old before (Some from) = not (nat_lt from old) || list_any (names_place from) before

-- whether a place that is to have an entry, or is not, is bad by what a map has there, after these entries
abbrev pub is_bad_there : Bool → ℕ → List (Option ℕ) → Option (Option ℕ) → Bool
is_bad_there wanted old before None = wanted
is_bad_there wanted old before (Some entry) = not wanted || is_bad_entry old before entry

-- whether a map of this many new places to this many old ones is bad at a place: it lacks an entry there, has one too many, or
-- has a bad one
abbrev pub is_bad_at : ℕ → ℕ → List (Option ℕ) → ℕ → Bool
is_bad_at old new entries place =
    is_bad_there (nat_lt place new) old (take place entries) (slice_get entries place)

-- the map is bad at this place, and at none before it
pub record IsFirstBad (old new : ℕ) (entries : List (Option ℕ)) (place : ℕ) : Type 0 where
  pub bad : is_bad_at old new entries place ≡ true
  pub first : (other : ℕ) → other < place → is_bad_at old new entries other ≡ false

-- the map is bad at a place: its first bad place, counted on from this number
abbrev pub RefusesMap : ℕ → ℕ → ℕ → List (Option ℕ) → Refusal
RefusesMap before old new entries fault =
    (place : ℕ) × IsFirstBad old new entries place × (fault ≡ faults.BadMap (before + place))

-- what the test of a map may answer
abbrev pub IsMapFault : DeskFault → Type 0
IsMapFault fault = (place : ℕ) × (fault ≡ faults.BadMap place)

-- ---- maps that keep all
-- whether the entries name the places from this one on, one after the other
abbrev pub are_places_from : ℕ → List (Option ℕ) → Bool
are_places_from place [] = true
are_places_from place (entry ∷ entries) = names_place place entry && are_places_from (suc place) entries

-- whether a map is exactly the places 0, 1, 2 and so on of the whole old list
abbrev pub keeps_all : ℕ → List (Option ℕ) → Bool
keeps_all old entries = (length entries == old) && are_places_from 0 entries

-- ---- what a map makes of the old
-- the new place of an old one, none if it went
abbrev pub new_place : List (Option ℕ) → ℕ → Option ℕ
new_place entries old = position (names_place old) entries

-- the ord after a map of templates, none if its template went. An ord past the old templates stays
abbrev pub moved_ord : ℕ → List (Option ℕ) → ℤ → Option ℤ
moved_ord old entries (pos ord) = if nat_lt ord old then option_map pos (new_place entries ord) else Some (pos ord)
moved_ord old entries (negsuc before) = Some (negsuc before)
