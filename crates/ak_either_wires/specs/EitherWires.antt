-- What is known of a wire that is one of two kinds: what is known of the one that it is.
use Rattle.std.specs.Prelude.{◌⊎◌, Result}
use Rattle.std.proofs.Common.{inl, inr}
use Rattle.ak_client_wire.specs.Wires.{WireKind, WireState}
use Rattle.ak_client_wire.specs.declared.wires.WireEnd.{WireEnd}
use Rattle.ak_either_wires.specs.declared.either_wires.EitherWire.{EitherWire}
use Rattle.ak_either_wires.specs.declared.either_wires.EitherWire.TheVariants as either
use Rattle.ak_messages.specs.declared.replies.Reply.{Reply}
use Rattle.ak_messages.specs.declared.requests.Request.{Request}

-- what these say of the one that it is
abbrev pub of_either : {A B C : Type 0} → (A → C) → (B → C) → EitherWire A B → C
of_either of_first of_second (either.First wire) = of_first wire
of_either of_first of_second (either.Second wire) = of_second wire

-- a call of a wire of one of two kinds does what a wire of that kind does, and is of that kind after it
abbrev pub DoesEither : (one other : WireKind) → one.Inside ⊎ other.Inside → one.Inside ⊎ other.Inside → Request → Result Reply WireEnd → Type 0
DoesEither one other (inl old) (inl new) request result = one.does old new request result
DoesEither one other (inl old) (inr new) request result = ⊥
DoesEither one other (inr old) (inl new) request result = ⊥
DoesEither one other (inr old) (inr new) request result = other.does old new request result

-- the kind of either
abbrev pub either_kind : WireKind → WireKind → WireKind
either_kind one other = record { Inside = one.Inside ⊎ other.Inside; does = DoesEither one other }

-- what is known of a wire of one kind, known of a wire of another in which the same stands so
abbrev pub known_inside : {one other : WireKind} → WireState one → (one.Inside → other.Inside) → WireState other
known_inside s into = record {
  log = s.log;
  reading = s.reading;
  silence = s.silence;
  said = s.said;
  calls = s.calls;
  alone = s.alone;
  inside = into s.inside;
}

-- what these tell of the one that it is, known of either
abbrev pub either_state : {A B : Type 0} {one other : WireKind} → (A → WireState one) → (B → WireState other) → EitherWire A B
    → WireState (either_kind one other)
either_state {one = one} {other = other} of_first of_second (either.First wire) =
    known_inside {one = one} {other = either_kind one other} (of_first wire) inl
either_state {one = one} {other = other} of_first of_second (either.Second wire) =
    known_inside {one = other} {other = either_kind one other} (of_second wire) inr
