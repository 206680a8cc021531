-- Cards that are sent home one after the other.
use Rattle.std.specs.Prelude.{◌≡◌, ℤ, Bool, true, false, ◌||◌, List, [], ◌∷◌, length, Option, Some, None, IfSome}
use Rattle.std.proofs.Common.{refl, sym, ap, ◌∙◌}
use Rattle.std.proofs.lemmas.List.{nil_from_length}
use Rattle.std.specs.FinMap.{get}
use Rattle.ak_edit.specs.Overlays.{Overlay}
use Rattle.ak_edit_calls.specs.CardEdits.{put_each}
use Rattle.ak_filtered.specs.HomeDecks.{flags_of, gone_home, is_away_at, is_some_away}
use Rattle.ak_filtered.specs.HomeGoings.{went_home}
use Rattle.ak_filtered.specs.declared.held_decks.HeldDecks.{HeldDecks}
use Rattle.ak_keep.specs.Collections.{Holding, Rows}
use Rattle.ak_keep.specs.Marks.{WithMark}

-- what the cards that are left make of what was done so far is what all make of it at first
pub record SendsOn (decks : HeldDecks) (held : Rows) (all : List ℤ) (first : Overlay) (went : Bool) (rest : List ℤ) (so_far : Overlay) : Type 0 where
  pub went_is : (went || is_some_away held rest) ≡ is_some_away held all
  pub change : put_each (gone_home (flags_of decks)) (get held) rest so_far ≡ put_each (gone_home (flags_of decks)) (get held) all first

pub none_sent : (told : Option (WithMark Holding)) (decks : HeldDecks) (all : List ℤ) (first : Overlay) → IfSome told (λ w. SendsOn decks w.current.rows all first false all first)
none_sent None decks all first = tt
none_sent (Some w) decks all first = record { went_is = refl; change = refl }

or_rest : (a b c : Bool) → ((a || b) || c) ≡ (a || (b || c))
or_rest true b c = refl
or_rest false b c = refl

or_none : (a : Bool) → (a || false) ≡ a
or_none true = refl
or_none false = refl

one_sent : (decks : HeldDecks) (held : Rows) (all : List ℤ) (first : Overlay) (went one now : Bool) (id : ℤ) (rest : List ℤ) (so_far made : Overlay) → now ≡ (went || one)
    → SendsOn decks held all first went (id ∷ rest) so_far → (one ≡ is_away_at held id) × (made ≡ went_home (flags_of decks) held id so_far) → SendsOn decks held all first now rest made
one_sent decks held all first went one now id rest so_far made is sends step = record {
  went_is = ap (λ b. b || is_some_away held rest) (is ∙ ap (λ b. went || b) step.0) ∙ or_rest went (is_away_at held id) (is_some_away held rest) ∙ sends.went_is;
  change = ap (put_each (gone_home (flags_of decks)) (get held) rest) step.1 ∙ sends.change;
}

pub card_sent : (told : Option (WithMark Holding)) (decks : HeldDecks) (all : List ℤ) (first : Overlay) (went one now : Bool) (id : ℤ) (rest : List ℤ) (so_far made : Overlay) → now ≡ (went || one)
    → IfSome told (λ w. SendsOn decks w.current.rows all first went (id ∷ rest) so_far) → IfSome told (λ w. (one ≡ is_away_at w.current.rows id) × (made ≡ went_home (flags_of decks) w.current.rows id so_far))
    → IfSome told (λ w. SendsOn decks w.current.rows all first now rest made)
card_sent None decks all first went one now id rest so_far made is sends step = tt
card_sent (Some w) decks all first went one now id rest so_far made is sends step = one_sent decks w.current.rows all first went one now id rest so_far made is sends step

pub all_sent : (told : Option (WithMark Holding)) (decks : HeldDecks) (all : List ℤ) (first : Overlay) (went : Bool) (rest : List ℤ) (so_far : Overlay) → length rest ≡ 0
    → IfSome told (λ w. SendsOn decks w.current.rows all first went rest so_far)
    → IfSome told (λ w. (went ≡ is_some_away w.current.rows all) × (so_far ≡ put_each (gone_home (flags_of decks)) (get w.current.rows) all first))
all_sent None decks all first went rest so_far none sends = tt
all_sent (Some w) decks all first went rest so_far none sends = (
  sym (or_none went) ∙ sym (ap (λ (ids : List ℤ). went || is_some_away w.current.rows ids) (nil_from_length rest none)) ∙ sends.went_is,
  sym (ap (λ (ids : List ℤ). put_each (gone_home (flags_of decks)) (get w.current.rows) ids so_far) (nil_from_length rest none)) ∙ sends.change,
)
