-- What a journal keeps, where its disk tells its content.
use Rattle.std.specs.Prelude.{◌≡◌, ℕ, ◌+◌, ◌^◌, ◌<◌, true, List, Option, None, Vec}
use Rattle.std.specs.Option.{option_map, ForSome}
use Rattle.std.specs.declared.alloc.Global.{Global}
use Rattle.ak_journals.specs.declared.journals.Journal.{Journal}
use Rattle.ak_journals.specs.States.{InOrder, StandsWith, kept_before}

-- the payload of the commit that was refused, if one was since the last mark
abbrev pub under_way : {D : Type 0} → Journal D → Option (List ℕ)
under_way journal = option_map (λ (payload : Vec ℕ Global). payload.items) journal.under_way

-- the payloads that it keeps
abbrev pub kept : {D : Type 0} → (D → Option (List ℕ)) → Journal D → Option (List (List ℕ))
kept content journal = option_map (kept_before journal.gate) (content journal.disk)

-- its file and the images of its file are in order
pub record IsInOrder {D : Type 0} (content : D → Option (List ℕ)) (may_leave : D → List ℕ → Type 0) (journal : Journal D) : Type 0 where
  pub fits : journal.gate + 1 < 2 ^ 64
  pub none : journal.ready ≡ true → journal.under_way ≡ None
  pub told : ForSome (content journal.disk) (InOrder journal.gate journal.ready (under_way journal) (may_leave journal.disk))

-- an image stands for what the journal keeps, or for this payload too
abbrev pub StandsAfter : {D : Type 0} → (D → Option (List ℕ)) → Journal D → Option (List ℕ) → List ℕ → Type 0
StandsAfter content journal payload image = ForSome (content journal.disk) (λ (file : List ℕ). StandsWith payload (kept_before journal.gate file) image)
