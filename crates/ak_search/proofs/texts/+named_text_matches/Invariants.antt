use Rattle.std.proofs.Common.{length}
use Rattle.ak_search.proofs.texts.+named_text_matches.Given as goal

abbrev pub decreases-named_text_matches : goal.decreases-named_text_matches
decreases-named_text_matches l = length l.fields.now
