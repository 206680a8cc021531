use Rattle.std.proofs.Common.{◌≡◌, ◌++◌, ◌∙◌, List, ℕ, sym, ap, subst, string_bytes, codes, rules}
use Rattle.ak_base.specs.Paths.{ancestors_from}
use Rattle.ak_deck_paths.proofs.PathFacts.{missing_of, one_above}
use Rattle.ak_deck_paths.specs.DeckPaths.{all_but_last, missing_above, missing_one}
use Rattle.ak_deck_paths.proofs.deck_paths.missing_above.Goals as goal

pub loop-part-preserved : goal.loop-part-preserved
loop-part-preserved c =
    let decks = c.args.decks.now in
    let text = c.in_ok-push_str.ensures.bytes in
    let whole = missing_above decks c.args.path.now in
    let more = c.take_missing.new.missing in (
      search rules,
      subst (λ (above : List ℕ). more ++ missing_of decks (all_but_last (ancestors_from 0 above c.in-Some.below.now)) ≡ whole)
          (sym (c.in_ok-push_str-2.ensures.bytes ∙ ap (λ (above : List ℕ). above ++ codes "::") text))
          (one_above decks (string_bytes c.loop-part.above) c.loop-part.rest.now c.in-Some.part.now c.in-Some.below.now c.loop-part.missing more whole c.in-Some.ensures.first
          c.loop-part.invariant.1
          (c.in_ok-take_missing.ensures ∙ ap (λ (above : List ℕ). c.loop-part.missing ++ missing_one decks above) (c.as_str.ensures.value ∙ text))),
    )
