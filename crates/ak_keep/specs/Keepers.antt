-- What is known of a keeper, and what each of its calls makes of it.
use Rattle.std.specs.Prelude.{◌≡◌, Bool, true, is_some, ℤ, List, Option, Some, Result, Err, IfOk, IfSome}
use Rattle.std.specs.Option.{option_map}
use Rattle.ak_faults.specs.Causes.{Health, HasCauseOf}
use Rattle.ak_base.specs.declared.heads.Head.{Head}
use Rattle.ak_base.specs.declared.names.Name.{Name}
use Rattle.ak_base.specs.declared.rows.Row.{Row}
use Rattle.ak_keep.specs.Collections.{Collection, Holding, StandsUnderNames, IsWellFormed, collection_of, is_headed, with_row, without, with_head, with_moments, made_of}
use Rattle.ak_keep.specs.Marks as marks
use Rattle.ak_keep.specs.Marks.{WithMark}
use Rattle.ak_keep.specs.declared.keepers.KeepFault.{KeepFault}
use Rattle.ak_keep.specs.declared.keepers.KeepFault.TheVariants.{Failed}

-- what is known of a keeper, each now and at the mark: whether a head is held, always, and what is held, where it tells it
pub record Keeping : Type 0 where
  pub headed : WithMark Bool
  pub told : Option (WithMark Holding)

-- whether there is a mark to go back to
abbrev pub is_marked : Keeping → Bool
is_marked k = is_some k.headed.mark

-- where the keeper tells what it holds, this is true of it
abbrev pub WhereTold : Keeping → (Holding → Type 0) → Type 0
WhereTold k P = IfSome k.told (λ w. P w.current)

-- where the keeper tells a collection, one that has a head, this is true of it
abbrev pub WhereHeld : Keeping → (Collection → Type 0) → Type 0
WhereHeld k P = WhereTold k (λ holding. IfSome (collection_of holding) P)

-- each row that is told stands under its name, now and at the mark, and what is told has a head where it is said to
pub record IsNamedRightly (k : Keeping) : Type 0 where
  pub current : IfSome k.told (λ w. StandsUnderNames w.current.rows)
  pub mark : IfSome k.told (λ w. IfSome w.mark (λ h. StandsUnderNames h.rows))
  pub headed : IfSome k.told (λ w. k.headed ≡ marks.of_both is_headed w)

-- what is told is well formed, now and at the mark, and has a head where it is said to
pub record IsRightlyKnown (k : Keeping) : Type 0 where
  pub current : IfSome k.told (λ w. IsWellFormed w.current)
  pub mark : IfSome k.told (λ w. IfSome w.mark IsWellFormed)
  pub headed : IfSome k.told (λ w. k.headed ≡ marks.of_both is_headed w)

-- all that a keeper holds is known
abbrev pub all_known : WithMark Holding → Keeping
all_known w = record { headed = marks.of_both is_headed w; told = Some w }

-- ---- what each call makes of it
-- what is held was changed, with a head or without one as before
abbrev pub changed : (Holding → Holding) → Keeping → Keeping
changed step k = record { headed = k.headed; told = option_map (marks.changed step) k.told }

-- what is held was changed to something that has a head
abbrev pub headed : (Holding → Holding) → Keeping → Keeping
headed step k = record { headed = marks.changed (λ _. true) k.headed; told = option_map (marks.changed step) k.told }

-- the row was put under its name
abbrev pub put : Row → Keeping → Keeping
put row = changed (with_row row)

-- the row of this name was taken out
abbrev pub removed : Name → Keeping → Keeping
removed name = changed (without name)

-- the head was set
abbrev pub head_set : Head → Keeping → Keeping
head_set head = headed (with_head head)

-- the moments and the usn of the head were set
abbrev pub moments_set : ℤ → ℤ → ℤ → ℤ → Keeping → Keeping
moments_set moment schema usn last_sync = changed (with_moments moment schema usn last_sync)

-- these rows and this head were put in place of all that was held
abbrev pub replaced : List Row → Head → Keeping → Keeping
replaced rows head = headed (λ _. made_of rows head)

-- marked at what is held
abbrev pub marked_here : Keeping → Keeping
marked_here k = record { headed = marks.marked_here k.headed; told = option_map marks.marked_here k.told }

-- back at what was held at the mark, and not marked
abbrev pub back : Keeping → Keeping
back k = record { headed = marks.back k.headed; told = option_map marks.back k.told }

-- what is held stays, and it is not marked
abbrev pub committed : Keeping → Keeping
committed k = record { headed = marks.committed k.headed; told = option_map marks.committed k.told }

-- it is marked, and to go back leads to `start`
pub record IsMarkedAt (start now : Keeping) : Type 0 where
  pub marked : is_marked now ≡ true
  pub back : back now ≡ start

-- ---- causes and reads
-- the count of faults never falls, and it rose if the call failed; a keeper that is known not to fail did not
abbrev pub KeepCause : {T : Type 0} → Health → Health → Result T KeepFault → Type 0
KeepCause before now result = HasCauseOf Failed before now result

-- a fault that such a call answers
abbrev pub IsCaused : Health → Health → KeepFault → Type 0
IsCaused before now fault = KeepCause {T = Unit {0}} before now (Err fault)

-- a call that only reads: what it leaves as it was, why it was refused, and what is true of its answer and of what is
-- held, where that is told
pub record Reads {Kept T : Type 0} (under over : Kept) (was now : Keeping) (before after : Health) (result : Result T KeepFault) (P : Holding → T → Type 0) : Type 0 where
  pub kept : over ≡ under
  pub same : now ≡ was
  pub cause : KeepCause before after result
  pub told : IfOk result (λ answer. WhereTold was (λ holding. P holding answer))
