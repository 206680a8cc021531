-- Laws of the answers, over every card, options, button, day and word of chance.
use Rattle.std.specs.Prelude.{◌≡◌, ℕ, ℤ, pos, ◌<ℤ◌, ◌⊎◌}
use Rattle.ak_base.specs.OptionGroups.{IsCheckedOptions}
use Rattle.ak_base.specs.declared.cards.Card.{Card}
use Rattle.ak_base.specs.declared.days.Day.{Day}
use Rattle.ak_base.specs.declared.option_groups.Options.{Options}
use Rattle.ak_sched.specs.Answers.{IsAnswer}
use Rattle.ak_sched.specs.declared.answers.Answered.{Answered}

-- two answers to the same question are one: the same card, the same review and the same word on a leech
abbrev pub HasOneAnswer : Type 0
HasOneAnswer =
    (c : Card) (o : Options) (button : ℕ) (day : Day) (word taken : ℕ) (id : ℤ) (new other : Card) (told again : Answered) →
    IsAnswer c o button day word taken id new told → IsAnswer c o button day word taken id other again →
    (new ≡ other) × (told ≡ again)

-- a review card waits longer after the button above, or as long as the options let it
abbrev pub IsAbove : ℕ → ℕ → Type 0
IsAbove below above =
    (c : Card) (o : Options) (day : Day) (word taken longer : ℕ) (id next : ℤ) (new other : Card) (told again : Answered) →
    IsCheckedOptions o → c.kind ≡ pos 2 →
    IsAnswer c o below day word taken id new told → IsAnswer c o above day word longer next other again →
    (new.ivl <ℤ other.ivl) ⊎ (other.ivl ≡ o.max_ivl)
