-- A wire whose mishaps lose nothing loses no message.
use Rattle.std.specs.List.{list_any}
use Rattle.std.specs.Prelude.{◌≡◌, ℕ, ◌==◌, ◌&&◌, ◌||◌, not, Bool, true, false, List, [], ◌∷◌}
use Rattle.std.proofs.Common.{refl, arith}
use Rattle.ak_sync_in_memory.specs.Mishaps.{happens, is_lost, loses_nothing, same_what}
use Rattle.ak_sync_in_memory.specs.declared.mishaps.Mishap.{Mishap}
use Rattle.ak_sync_in_memory.specs.declared.mishaps.What.{What}
use Rattle.ak_sync_in_memory.specs.declared.mishaps.What.TheVariants as whats

abbrev loses : Mishap → Bool
loses mishap = not (same_what whats.Repeat mishap.what)

-- what is of a kind that loses a message loses one
is_loss : (kind what : What) → same_what whats.Repeat kind ≡ false → same_what kind what ≡ true → not (same_what whats.Repeat what) ≡ true
is_loss whats.LoseRequest whats.LoseRequest other is = refl
is_loss whats.LoseRequest whats.LoseReply other is = refl
is_loss whats.LoseRequest whats.Repeat other is = is
is_loss whats.LoseReply whats.LoseRequest other is = refl
is_loss whats.LoseReply whats.LoseReply other is = refl
is_loss whats.LoseReply whats.Repeat other is = is
is_loss whats.Repeat what other is = absurd (grind (arith, other))

here : (kind : What) (call : ℕ) (mishap : Mishap) → same_what whats.Repeat kind ≡ false
    → ((mishap.call == call) && same_what kind mishap.what) ≡ true → loses mishap ≡ true
here kind call mishap other =
    elim (mishap.call == call) as (λ b. (b && same_what kind mishap.what) ≡ true → loses mishap ≡ true) [
      | true ↦ λ is. is_loss kind mishap.what other is
      | false ↦ λ is. absurd (grind (arith, is))
    ]

never : false ≡ true → ⊥
never is = grind (arith, is)

either : (a b c d : Bool) → (a ≡ true → c ≡ true) → (b ≡ true → d ≡ true) → (a || b) ≡ true → (c || d) ≡ true
either true b true d first rest is = refl
either true b false d first rest is = absurd (never (first refl))
either false b true d first rest is = refl
either false b false d first rest is = rest is

some_loss : (kind : What) (call : ℕ) (mishaps : List Mishap) → same_what whats.Repeat kind ≡ false → happens kind call mishaps ≡ true
    → list_any loses mishaps ≡ true
some_loss kind call [] other is = is
some_loss kind call (mishap ∷ mishaps) other is =
    either ((mishap.call == call) && same_what kind mishap.what) (happens kind call mishaps) (loses mishap) (list_any loses mishaps)
    (here kind call mishap other) (some_loss kind call mishaps other) is

of_either : (a b c : Bool) → (a ≡ true → c ≡ true) → (b ≡ true → c ≡ true) → (a || b) ≡ true → c ≡ true
of_either true b c first second is = first refl
of_either false b c first second is = second is

not_both : (b : Bool) → b ≡ true → not b ≡ true → ⊥
not_both true is other = grind (arith, other)
not_both false is other = grind (arith, is)

pub not_lost : (call : ℕ) (mishaps : List Mishap) → loses_nothing mishaps ≡ true → is_lost call mishaps ≡ true → ⊥
not_lost call mishaps nothing lost =
    not_both (list_any loses mishaps)
    (of_either (happens whats.LoseRequest call mishaps) (happens whats.LoseReply call mishaps) (list_any loses mishaps)
    (some_loss whats.LoseRequest call mishaps refl) (some_loss whats.LoseReply call mishaps refl) lost)
    nothing
