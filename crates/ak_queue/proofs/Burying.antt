-- A card of the note is buried, by what is held under its id.
use Rattle.std.proofs.Common.{◌≡◌, ℤ, Bool, cond, List, [], ◌∷◌, ◌++◌, filter, Option, Some, None, IfSome, ap, ◌∙◌}
use Rattle.ak_base.specs.declared.cards.Card.{Card}
use Rattle.ak_keep.specs.Collections.{Holding}
use Rattle.ak_keep.specs.Lookups.{card_at}
use Rattle.ak_keep.specs.Marks.{WithMark}
use Rattle.ak_queue.specs.Burials.{is_other_buried, is_sibling_buried}
use Rattle.ak_queue.specs.declared.burials.Burial.{Burial}

pub sibling_told : (told : Option (WithMark Holding)) (b : Burial) (id : ℤ) (found : Option Card) (taken : Bool) (buried more : List ℤ) → IfSome told (λ w. found ≡ card_at w.current.rows id)
    → taken ≡ is_other_buried b id found → more ≡ buried ++ cond taken (id ∷ []) [] → IfSome told (λ w. more ≡ buried ++ filter (is_sibling_buried b w.current.rows) (id ∷ []))
sibling_told None b id found taken buried more read is step = tt
sibling_told (Some w) b id found taken buried more read is step =
    step ∙ ap (λ v. buried ++ cond v (id ∷ []) []) (is ∙ ap (is_other_buried b id) read)
