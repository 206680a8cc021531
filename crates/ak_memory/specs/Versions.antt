-- Something with what it was at the mark, so that to go back to the mark copies nothing.
use Rattle.std.specs.Prelude.{refl}
use Rattle.std.specs.Coded.{Coded, code_by, coded×}
use Rattle.ak_memory.specs.declared.versions.Version.{Version}
use Rattle.ak_memory.specs.declared.versions.Version.TheVariants.{Now, Mark}

-- something as it is now, and as it was at the mark
pub record Versions (T : Type 0) : Type 0 where
  pub current : T
  pub mark : T

-- the one of a version
abbrev pub at : {T : Type 0} → Version → Versions T → T
at Now versions = versions.current
at Mark versions = versions.mark

-- the other of the two
abbrev pub other : Version → Version
other Now = Mark
other Mark = Now

-- the same now as at the mark
abbrev pub both : {T : Type 0} → T → Versions T
both value = record { current = value; mark = value }

-- now this, and at the mark what there was
abbrev pub with_current : {T : Type 0} → T → Versions T → Versions T
with_current value versions = record { current = value; mark = versions.mark }

-- how they are coded, by the code of one
abbrev pub versions_code : {T : Type 0} → Coded T → Coded (Versions T)
versions_code {T = T} one = code_by (T × T) (coded× one one) (λ v. (v.current, v.mark)) (λ p. record { current = p.0; mark = p.1 }) (λ _. refl)
