-- How an early answer is made.
use Rattle.std.specs.Prelude.{◌≡◌, ◌≤◌, ◌≤ℤ◌, ℕ, ℤ, pos, negsuc, ◌+ℤ◌, Some}
use Rattle.ak_base.specs.Days.{IsDayOf}
use Rattle.ak_base.specs.declared.cards.Card.{Card}
use Rattle.ak_base.specs.declared.heads.Head.{Head}
use Rattle.ak_base.specs.declared.option_groups.Options.{Options}
use Rattle.ak_base.specs.declared.rows.Row.TheVariants as rows
use Rattle.ak_edit.specs.Overlays.{Overlay, put_over}
use Rattle.ak_away_answers.specs.EarlyAnswers.{card_early, early_factor, early_ivl, review_early}
use Rattle.ak_filtered.specs.HomeDecks.{filtered_at, gone_home}
use Rattle.ak_away_answers.specs.declared.early_answers.Asked.{Asked}
use Rattle.ak_away_answers.specs.declared.early_answers.Early.{Early}
use Rattle.ak_keep.specs.Collections.{Holding, Rows}
use Rattle.ak_keep.specs.Lookups.{card_at}
use Rattle.ak_sched.specs.Counts.{clamped_to_zero, next_count}
use Rattle.ak_study.specs.Answers.{AreOptionsFor}
use Rattle.ak_study.specs.declared.answers.CardAnswer.{CardAnswer}

-- the columns of a card that an early answer reads
pub record AreEarlyColumns (c : Card) : Type 0 where
  pub ivl_low : pos 0 ≤ℤ c.ivl
  pub ivl_high : c.ivl ≤ℤ pos 1_000_000
  pub ivl : clamped_to_zero c.ivl ≤ 1_000_000
  pub factor_low : pos 0 ≤ℤ c.factor
  pub factor_high : c.factor ≤ℤ pos 100_000
  pub factor : clamped_to_zero c.factor ≤ 100_000
  pub odue_low : negsuc 2_147_483_647 ≤ℤ c.odue
  pub odue_high : c.odue ≤ℤ pos 1_099_511_627_776

-- the card that was asked for is held under this id
abbrev pub IsHeldAsked : ℤ → Asked → Holding → Type 0
IsHeldAsked id asked h = card_at h.rows id ≡ Some asked.card

-- the card after the answer, of the card as it is at home
abbrev pub card_made : Options → Asked → ℕ → Card → Card
card_made o asked button home = record home {
  due = asked.day.number +ℤ pos (early_ivl o asked.day button asked.card);
  ivl = pos (early_ivl o asked.day button asked.card);
  factor = early_factor button asked.card;
  reps = pos (next_count (clamped_to_zero asked.card.reps));
}

-- what an early answer puts, by the options of the card at home
pub record IsMadeEarly (id : ℤ) (given : CardAnswer) (asked : Asked) (held : Rows) (early : Early) : Type 0 where
  pub options : Options
  pub are_options : AreOptionsFor held (gone_home (filtered_at held) asked.card) options
  pub card : early.made ≡ card_early options asked.day given.button (filtered_at held) asked.card
  pub is_review : early.review ≡ review_early id given options asked.day asked.card

-- both were put
abbrev pub early_over : Early → Overlay → Overlay
early_over early o = put_over (rows.Review early.review) (put_over (rows.Card early.made) o)
