-- Where the columns of a row stand in its value.
use Rattle.std.specs.Prelude.{ℕ, List, codes, decimal, Option}
use Rattle.serde_json.specs.Data.{Data}
use Rattle.serde_json.specs.Find.{get, at}
use Rattle.ak_json.specs.declared.keys.Key.{Key}
use Rattle.ak_json.specs.declared.keys.Key.TheVariants as keys
use Rattle.ak_json.specs.declared.keys.Place.{Place}
use Rattle.ak_json.specs.declared.keys.Place.TheVariants as places

-- the key as it stands in the object
abbrev pub key_text : Key → List ℕ
key_text keys.Afmt = codes "afmt"
key_text keys.Bury = codes "bury"
key_text keys.CollapseTime = codes "collapseTime"
key_text keys.Conf = codes "conf"
key_text keys.DayLearnFirst = codes "dayLearnFirst"
key_text keys.Delays = codes "delays"
key_text keys.Dyn = codes "dyn"
key_text keys.Ease4 = codes "ease4"
key_text keys.Ease4Pm = codes "ease4Pm"
key_text keys.Flds = codes "flds"
key_text keys.HardFactor = codes "hardFactor"
key_text keys.HardFactorPm = codes "hardFactorPm"
key_text keys.Id = codes "id"
key_text keys.InitialFactor = codes "initialFactor"
key_text keys.Ints = codes "ints"
key_text keys.IvlFct = codes "ivlFct"
key_text keys.IvlFctPm = codes "ivlFctPm"
key_text keys.Lapse = codes "lapse"
key_text keys.LastUnburied = codes "lastUnburied"
key_text keys.LeechAction = codes "leechAction"
key_text keys.LeechFails = codes "leechFails"
key_text keys.MaxIvl = codes "maxIvl"
key_text keys.MaxTaken = codes "maxTaken"
key_text keys.MinInt = codes "minInt"
key_text keys.Mod = codes "mod"
key_text keys.Mult = codes "mult"
key_text keys.MultPm = codes "multPm"
key_text keys.Name = codes "name"
key_text keys.New = codes "new"
key_text keys.NewSpread = codes "newSpread"
key_text keys.NewToday = codes "newToday"
key_text keys.NextPos = codes "nextPos"
key_text keys.Ord = codes "ord"
key_text keys.PerDay = codes "perDay"
key_text keys.Qfmt = codes "qfmt"
key_text keys.Rev = codes "rev"
key_text keys.RevToday = codes "revToday"
key_text keys.Sortf = codes "sortf"
key_text keys.Steps = codes "steps"
key_text keys.Tmpls = codes "tmpls"
key_text keys.Type = codes "type"
key_text keys.Usn = codes "usn"

-- what stands there, if anything does
abbrev pub find : Place → Data → Option Data
find (places.At place) d = at place d
find (places.Key own) d = get (key_text own) d

-- what a fault there is told by: the number of the column, or the key
abbrev pub place_text : Place → List ℕ
place_text (places.At place) = decimal place
place_text (places.Key own) = key_text own
