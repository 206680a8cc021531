-- What happens to the messages of a call.
use Rattle.std.specs.List.{list_any}
use Rattle.std.specs.Prelude.{ℕ, ◌==◌, ◌&&◌, ◌||◌, not, Bool, true, false, if◌then◌else◌, List}
use Rattle.ak_sync_in_memory.specs.declared.mishaps.Mishap.{Mishap}
use Rattle.ak_sync_in_memory.specs.declared.mishaps.What.{What}
use Rattle.ak_sync_in_memory.specs.declared.mishaps.What.TheVariants as whats

-- whether two mishaps are of one kind
abbrev pub same_what : What → What → Bool
same_what whats.LoseRequest whats.LoseRequest = true
same_what whats.LoseReply whats.LoseReply = true
same_what whats.Repeat whats.Repeat = true
same_what a b = false

-- whether this happens at the call of this number
abbrev pub happens : What → ℕ → List Mishap → Bool
happens what call mishaps = list_any (λ (mishap : Mishap). (mishap.call == call) && same_what what mishap.what) mishaps

-- whether the call gets no answer: its request or its reply is lost
abbrev pub is_lost : ℕ → List Mishap → Bool
is_lost call mishaps = happens whats.LoseRequest call mishaps || happens whats.LoseReply call mishaps

-- how often the request of a call is served: not at all if it is lost, and twice if it is repeated
abbrev pub servings : ℕ → List Mishap → ℕ
servings call mishaps =
    if happens whats.LoseRequest call mishaps then 0 else if happens whats.Repeat call mishaps then 2 else 1

-- whether no message is ever lost
abbrev pub loses_nothing : List Mishap → Bool
loses_nothing mishaps = not (list_any (λ (mishap : Mishap). not (same_what whats.Repeat mishap.what)) mishaps)
