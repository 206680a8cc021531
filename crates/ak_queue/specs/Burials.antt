-- Which cards of a note are buried when one of them was answered, and where a buried card goes back to.
use Rattle.std.specs.Prelude.{◌≡◌, ◌≢◌, ◌⊎◌, ◌++◌, ◌∷◌, [], ℤ, pos, Bool, false, ◌&&◌, ◌||◌, not, if◌then◌else◌, int_lt, List, filter, Option, Some, None}
use Rattle.std.specs.Ordering.{int_eq}
use Rattle.ak_base.specs.declared.cards.Card.{Card}
use Rattle.ak_base.specs.declared.days.Day.{Day}
use Rattle.ak_base.specs.declared.option_groups.Options.{Options}
use Rattle.ak_keep.specs.Collections.{Rows, cards_of}
use Rattle.ak_keep.specs.Lookups.{card_at}
use Rattle.ak_queue.specs.declared.burials.Burial.{Burial}

-- what is buried when this card was answered, by its options, on this day
abbrev pub burial_of : Card → Options → Day → Burial
burial_of answered o day = record { answered = answered.id; new_cards = o.new_bury; reviews = o.rev_bury; day = day }

-- whether a card is buried: a new one, or a review whose day has come
unfoldable pub is_buried : Burial → Card → Bool
is_buried b c = if int_eq c.queue (pos 0) then b.new_cards else (int_eq c.queue (pos 2) && (not (int_lt b.day.number c.due) && b.reviews))

-- whether the card of an id is another one than the one that was answered, is held, and is buried
abbrev pub is_other_buried : Burial → ℤ → Option Card → Bool
is_other_buried b id None = false
is_other_buried b id (Some c) = not (int_eq id b.answered) && is_buried b c

-- the same of the card that is held under an id
abbrev pub is_sibling_buried : Burial → Rows → ℤ → Bool
is_sibling_buried b held id = is_other_buried b id (card_at held id)

-- the other cards of the note of the card that was answered, those that its options bury, by ascending id
abbrev pub bury_list : Rows → Card → Options → Day → List ℤ
bury_list held answered o day = filter (is_sibling_buried (burial_of answered o day) held) (cards_of answered.nid held)

-- the card of an id was taken, if it is buried
abbrev pub TakesBuried : Burial → Rows → ℤ → List ℤ → List ℤ → Type 0
TakesBuried b held id old new = new ≡ old ++ filter (is_sibling_buried b held) (id ∷ [])

-- an id was taken or passed over, and it is another one than the one that was answered, if it was taken
abbrev pub TakesOther : ℤ → ℤ → List ℤ → List ℤ → Type 0
TakesOther answered id old new = (new ≡ old) ⊎ ((new ≡ old ++ id ∷ []) × (id ≢ answered))

-- the queue that a buried card goes back to: that of its kind; a card in learning waits for a second if its due is one, over
-- 1,000,000,000, and for a day if not
abbrev pub restored_queue : Card → ℤ
restored_queue c =
    if int_eq c.kind (pos 1) || int_eq c.kind (pos 3) then (if int_lt (pos 1_000_000_000) c.due then pos 1 else pos 3) else c.kind
