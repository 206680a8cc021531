-- The words of a server program, as `clap` takes them.
use Rattle.std.specs.Prelude.{◌≡◌, true, List, [], ◌∷◌, Some, codes, map, unwrap_or, String, string_bytes}
use Rattle.std.specs.Str.Parse.{digits_value, without_leading_plus}
use Rattle.std.specs.declared.alloc.Global.{Global}
use Rattle.clap.specs.Faults.{fault_of}
use Rattle.clap.specs.Simple.{App, new_app, new_rule, with_rule, matches_of}
use Rattle.clap.specs.Values.{IsUnsignedIn}
use Rattle.clap.specs.Walk.{Rule, Text, first_of, one_of}
use Rattle.clap.specs.declared.builder.action.ArgAction.TheVariants.{Set}
use Rattle.clap.specs.declared.builder.value_parser.ValueParser.TheVariants as parsers
use Rattle.ak_server_words.specs.declared.words.ServerWords.{ServerWords}

-- an option that must be given, with one value
abbrev pub needed : Text → Rule
needed name = record (new_rule name) { long = Some name; action = Some Set; required = true }

-- how many connections are served: a whole number from 1 to 1,000,000,000, which it is if none is given
abbrev pub turns_rule : Rule
turns_rule = record (new_rule (codes "turns")) {
  long = Some (codes "turns");
  action = Some Set;
  parser = Some (parsers.Unsigned 1 1_000_000_000);
  defaults = codes "1000000000" ∷ [];
}

-- a command whose words come without its name
abbrev pub nameless : App
nameless = record { top = record (new_app (codes "ankid")).top { no_binary_name = true }; subs = [] }

-- `--listen ADDRESS --accounts FILE [--turns N]`
abbrev pub ankid : App
ankid = with_rule (with_rule (with_rule nameless (needed (codes "listen"))) (needed (codes "accounts"))) turns_rule

-- the words as texts
abbrev pub word_texts : List (String Global) → List Text
word_texts words = map string_bytes words

-- the words are taken, and this is what they say
pub record Says (words : List Text) (said : ServerWords) : Type 0 where
  pub taken : fault_of ankid words ≡ []
  pub listen : said.listen ≡ unwrap_or (first_of (codes "listen") (matches_of ankid words)) []
  pub accounts : said.accounts ≡ unwrap_or (first_of (codes "accounts") (matches_of ankid words)) []
  pub turns : (text : Text) → one_of (codes "turns") (matches_of ankid words) ≡ Some text
      → IsUnsignedIn 1 1_000_000_000 text → said.turns ≡ digits_value 10 (without_leading_plus text)
