use Rattle.ak_protocol.proofs.ContentLaws.{growths_stay_lawful, growths_keep_links, growths_keep_fits, places_are_linked}
use Rattle.ak_protocol.proofs.content_laws.growths_keep_links.Goals as goal

pub returns : goal.returns
returns c = record {
  lawful = growths_stay_lawful;
  linked = λ call front c first. growths_keep_links call front first c;
  fits = λ call front c step first. growths_keep_fits call front first c step;
  told = places_are_linked;
}
