-- What the command is, and what follows from an error's kind.
use Rattle.std.proofs.Common.{◌≡◌, ◌≢◌, true, [], ◌∷◌, Result, Ok, Err, IfOk, refl, inl, inr}
use Rattle.clap.specs.Faults.{is_simple_and_free}
use Rattle.clap.specs.Kinds.{HasKind, IsAmong, Kinds}
use Rattle.clap.specs.Simple.{is_simple}
use Rattle.clap.specs.Values.{kind_of}
use Rattle.clap.specs.declared.error.Error.{Error}
use Rattle.clap.specs.declared.error.kind.ErrorKind.{ErrorKind}
use Rattle.clap.specs.declared.error.kind.ErrorKind.TheVariants as kinds
use Rattle.ak_server_words.specs.Words.{ankid}

pub ankid_is_simple : is_simple ankid ≡ true
ankid_is_simple = refl

pub ankid_is_free : is_simple_and_free ankid ≡ true
ankid_is_free = refl

-- a kind that is among some is among no empty list
none_among : (kind : ErrorKind) (causes : Kinds) → causes ≡ [] → IsAmong kind causes → ⊥
none_among kind [] none among = among
none_among kind (cause ∷ causes) none among = cc

-- an error that is not of memory has a cause in the words
pub has_cause : (causes : Kinds) (error : Error) → HasKind causes error → (kind_of error ≡ kinds.OutOfMemory → ⊥) → causes ≢ []
has_cause causes error (inl memory) other none = other memory
has_cause causes error (inr among) other none = none_among (kind_of error) causes none among

-- three facts of a value make a fourth
pub joined : {T E : Type 0} (result : Result T E) (P Q R S : T → Type 0) → ((value : T) → P value → Q value → R value → S value)
    → IfOk result P → IfOk result Q → IfOk result R → IfOk result S
joined (Ok value) P Q R S join p q r = join value p q r
joined (Err error) P Q R S join p q r = tt
