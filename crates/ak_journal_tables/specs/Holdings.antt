-- The collection for which the file of a journal stands.
use Rattle.std.specs.Prelude.{◌≡◌, ℕ, List, ◌∷◌, ◌++◌, Option}
use Rattle.std.specs.Option.{ForSome}
use Rattle.ak_journal_forms.specs.Frames.{StandsFor, frames_length}
use Rattle.ak_journal_rows.specs.Changes.{nothing_held}
use Rattle.ak_journal_rows.specs.Texts.{IsPayloadOf, LeadTo}
use Rattle.ak_journal_rows.specs.declared.changes.Change.{Change}
use Rattle.ak_journals.specs.Journals.{kept}
use Rattle.ak_journals.specs.declared.journals.Journal.{Journal}
use Rattle.ak_keep.specs.Collections.{Holding}

-- the file stands for payloads that lead to this collection
abbrev pub HoldsOf : Holding → List ℕ → Type 0
HoldsOf held file = (payloads : List (List ℕ)) × StandsFor payloads file × LeadTo nothing_held payloads held

-- the payloads before this gate, which lead to a collection, the one behind it, which is that of no change, and those that follow
pub record IsOtherOf (gate : ℕ) (payloads : List (List ℕ)) : Type 0 where
  pub before : List (List ℕ)
  pub payload : List ℕ
  pub behind : List (List ℕ)
  pub place : gate ≡ frames_length before
  pub whole : payloads ≡ before ++ payload ∷ behind
  pub held : Holding
  pub led : LeadTo nothing_held before held
  pub other : (change : Change) → IsPayloadOf payload change → ⊥

-- the file stands for payloads, and the first of them that is that of no change stands behind the gate at this place
abbrev pub IsOtherAt : ℕ → List ℕ → Type 0
IsOtherAt gate file = (payloads : List (List ℕ)) × StandsFor payloads file × IsOtherOf gate payloads

-- the payloads that the journal keeps, if they are told, lead to this collection
abbrev pub Stores : {D : Type 0} → (D → Option (List ℕ)) → Journal D → Holding → Type 0
Stores content journal held = ForSome (kept content journal) (λ (payloads : List (List ℕ)). LeadTo nothing_held payloads held)

-- where the disk tells its file, an image stands for this collection
abbrev pub HoldsIfTold : {D : Type 0} → (D → Option (List ℕ)) → D → Holding → List ℕ → Type 0
HoldsIfTold content disk held image = ForSome (content disk) (λ (file : List ℕ). HoldsOf held image)

-- where the disk tells its file, the file and an image stand for one collection
abbrev pub HoldsTheSame : {D : Type 0} → (D → Option (List ℕ)) → D → List ℕ → Type 0
HoldsTheSame content disk image = ForSome (content disk) (λ (file : List ℕ). (held : Holding) × HoldsOf held file × HoldsOf held image)
