-- Why a desk line is refused.
use Rattle.std.specs.Prelude.{◌≡◌}
use Rattle.ak_json.specs.declared.faults.JsonFault.{JsonFault}
use Rattle.ak_json.specs.declared.faults.JsonFault.TheVariants as jsons
use Rattle.ak_search.specs.declared.faults.SearchFault.{SearchFault}
use Rattle.ak_search.specs.declared.faults.SearchFault.TheVariants as searches
use Rattle.ak_desk_language.specs.declared.line_faults.LineFault.{LineFault}
use Rattle.ak_desk_language.specs.declared.line_faults.LineFault.TheVariants.{BadLine, Json, Search, Memory}

-- a fault of JSON as one of a line; out of memory stays one of its own
abbrev pub of_json_fault : JsonFault → LineFault
of_json_fault jsons.NotJson = Json jsons.NotJson
of_json_fault (jsons.Missing text) = Json (jsons.Missing text)
of_json_fault (jsons.WrongKind text) = Json (jsons.WrongKind text)
of_json_fault (jsons.Row fault) = Json (jsons.Row fault)
of_json_fault jsons.Memory = Memory

-- the same of a fault of a search
abbrev pub of_search_fault : SearchFault → LineFault
of_search_fault (searches.OpenQuote place) = Search (searches.OpenQuote place)
of_search_fault (searches.OpenGroup place) = Search (searches.OpenGroup place)
of_search_fault (searches.EmptyGroup place) = Search (searches.EmptyGroup place)
of_search_fault (searches.LoneOr place) = Search (searches.LoneOr place)
of_search_fault (searches.BadValue place) = Search (searches.BadValue place)
of_search_fault (searches.TooDeep place) = Search (searches.TooDeep place)
of_search_fault searches.Memory = Memory

-- the fault is one of these, or memory was out
abbrev pub OrMemory : (LineFault → Type 0) → LineFault → Type 0
OrMemory these BadLine = these BadLine
OrMemory these (Json fault) = these (Json fault)
OrMemory these (Search fault) = these (Search fault)
OrMemory these Memory = Unit {0}
