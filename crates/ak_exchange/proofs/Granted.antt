-- What is granted in its form: which give it was, and that it may be taken.
use Rattle.std.specs.List.{list_all}
use Rattle.std.specs.Prelude.{◌≡◌, ◌==◌, ◌&&◌, ◌||◌, nat_le, nat_lt, Bool, true, false, if◌then◌else◌, ◌++◌, Option, Some, None, Result, Ok, Err, IfOk, ok_or}
use Rattle.std.specs.Cmp.{first_so, second_so}
use Rattle.std.proofs.Common.{refl, sym, ap, subst, ◌∙◌}
use Rattle.std.proofs.lemmas.Option.{none-some, same_Some}
use Rattle.ak_client_wire.specs.Forms.{changes_in, chunk_in, graves_in, is_chunk_in_form}
use Rattle.ak_client_wire.specs.Tries.{Answered, granted_in, in_form}
use Rattle.ak_client_wire.specs.Wires.{WireKind, WireState}
use Rattle.ak_client_wire.specs.declared.asks.Unanswered.{Unanswered}
use Rattle.ak_client_wire.specs.declared.asks.Unanswered.TheVariants as unanswered
use Rattle.ak_client_wire.specs.declared.wires.WireEnd.{WireEnd}
use Rattle.ak_client_wire.specs.declared.wires.WireEnd.TheVariants as ends
use Rattle.ak_faults.specs.Causes.{Health}
use Rattle.ak_messages.specs.MessageForms.{chunk_entries}
use Rattle.ak_messages.specs.declared.replies.Give.{Give}
use Rattle.ak_messages.specs.declared.replies.Give.TheVariants as gives
use Rattle.ak_messages.specs.declared.replies.Reply.{Reply}
use Rattle.ak_messages.specs.declared.requests.Changes.{Changes}
use Rattle.ak_messages.specs.declared.requests.Chunk.{Chunk}
use Rattle.ak_messages.specs.declared.requests.GraveIds.{GraveIds}
use Rattle.ak_messages.specs.declared.requests.Request.{Request}
use Rattle.ak_session.specs.Messages.{chunk_rows}
use Rattle.ak_session.specs.Refusals.{are_changes_in_range, is_checked, is_id}
use Rattle.ak_session.specs.Replies.{replied}
use Rattle.ak_sync_rows.proofs.InRange.{changes_may, chunk_may, graves_may}
use Rattle.ak_sync_rows.specs.Takes.{MayBeTaken}

-- ---- what is granted is the part of some give
part_of : {T : Type 0} (part : Give → Option T) (give : Give) (o : Option T) → part give ≡ o
    → IfOk (ok_or o unanswered.BadReply) (λ (it : T). (g : Give) × (part g ≡ Some it))
part_of part give None is = tt
part_of part give (Some it) is = (give, is)

given_by : {T : Type 0} (part : Give → Option T) (reply : Reply) (b : Bool)
    → IfOk (in_form part (if b then Ok reply.give else Err (unanswered.Refused reply.status reply.word reply.seen))) (λ (it : T). (g : Give) × (part g ≡ Some it))
given_by part reply true = part_of part reply.give (part reply.give) refl
given_by part reply false = tt

pub given_in_form : {T : Type 0} (part : Give → Option T) (answer : Result Reply WireEnd)
    → IfOk (in_form part (granted_in answer)) (λ (it : T). (g : Give) × (part g ≡ Some it))
given_in_form part (Ok reply) = given_by part reply (reply.status == 200)
given_in_form part (Err ends.Failed) = tt
given_in_form part (Err ends.BadReply) = tt
given_in_form part (Err ends.Memory) = tt

-- what was granted in its form is the part of some give
pub granted_give : {kind : WireKind} {T : Type 0} (before now : Health) (old new : WireState kind) (request : Request) (part : Give → Option T) (result : Result T Unanswered) (it : T)
    → Answered before now old new request part result → result ≡ Ok it → (g : Give) × (part g ≡ Some it)
granted_give {kind} {T} before now old new request part result it call was =
    subst (λ (r : Result T Unanswered). IfOk r (λ (x : T). (g : Give) × (part g ≡ Some x))) (sym call.came ∙ was) (given_in_form part call.answer)

-- ---- graves
one_of : {X : Type 0} (b : Bool) (x y : X) → (if b then Some x else None) ≡ Some y → (x ≡ y) × (b ≡ true)
one_of true x y is = (same_Some x y is, refl)
one_of false x y is = absurd (none-some y is)

pub graves_are : (give : Give) (ids : GraveIds) → graves_in give ≡ Some ids → (give ≡ gives.Graves ids) × MayBeTaken (replied (gives.Graves ids))
graves_are (gives.Graves own) ids is =
    let one = one_of (list_all is_id (own.cards ++ (own.notes ++ own.decks))) own ids is in (
      ap (λ (x : GraveIds). gives.Graves x) one.0,
      graves_may ids (ap (λ (x : GraveIds). list_all is_id (x.cards ++ (x.notes ++ x.decks))) (sym one.0) ∙ one.1),
    )
graves_are gives.Nothing ids is = absurd (none-some ids is)
graves_are (gives.Meta m) ids is = absurd (none-some ids is)
graves_are (gives.Changes c) ids is = absurd (none-some ids is)
graves_are (gives.Chunk c) ids is = absurd (none-some ids is)
graves_are (gives.Sanity s) ids is = absurd (none-some ids is)
graves_are (gives.Moment m) ids is = absurd (none-some ids is)
graves_are (gives.Uploaded m s) ids is = absurd (none-some ids is)
graves_are (gives.Whole w) ids is = absurd (none-some ids is)

-- ---- changes
pub changes_are : (give : Give) (came : Changes) → changes_in give ≡ Some came → (give ≡ gives.Changes came) × MayBeTaken (replied (gives.Changes came))
changes_are (gives.Changes own) came is =
    let one = one_of (are_changes_in_range own) own came is in
    (ap (λ (x : Changes). gives.Changes x) one.0, changes_may came (ap are_changes_in_range (sym one.0) ∙ one.1))
changes_are gives.Nothing came is = absurd (none-some came is)
changes_are (gives.Meta m) came is = absurd (none-some came is)
changes_are (gives.Graves g) came is = absurd (none-some came is)
changes_are (gives.Chunk c) came is = absurd (none-some came is)
changes_are (gives.Sanity s) came is = absurd (none-some came is)
changes_are (gives.Moment m) came is = absurd (none-some came is)
changes_are (gives.Uploaded m s) came is = absurd (none-some came is)
changes_are (gives.Whole w) came is = absurd (none-some came is)

-- ---- a chunk
pub chunk_are : (give : Give) (chunk : Chunk) → chunk_in give ≡ Some chunk
    → (give ≡ gives.Chunk chunk) × MayBeTaken (replied (gives.Chunk chunk)) × (is_chunk_in_form chunk ≡ true)
chunk_are (gives.Chunk own) chunk is =
    let one = one_of (is_chunk_in_form own) own chunk is in
    let formed : is_chunk_in_form chunk ≡ true = ap is_chunk_in_form (sym one.0) ∙ one.1 in
    (ap (λ (x : Chunk). gives.Chunk x) one.0, chunk_may chunk (rows_checked chunk formed), formed)
  where
    rows_checked : (x : Chunk) → is_chunk_in_form x ≡ true → list_all is_checked (chunk_rows x) ≡ true
    rows_checked x formed =
        let rows : Bool = list_all is_checked (chunk_rows x) in
        let done : Bool = x.done || nat_lt 0 (chunk_entries x) in
        first_so rows done (second_so (nat_le (chunk_entries x) 250) (rows && done) formed)
chunk_are gives.Nothing chunk is = absurd (none-some chunk is)
chunk_are (gives.Meta m) chunk is = absurd (none-some chunk is)
chunk_are (gives.Graves g) chunk is = absurd (none-some chunk is)
chunk_are (gives.Changes c) chunk is = absurd (none-some chunk is)
chunk_are (gives.Sanity s) chunk is = absurd (none-some chunk is)
chunk_are (gives.Moment m) chunk is = absurd (none-some chunk is)
chunk_are (gives.Uploaded m s) chunk is = absurd (none-some chunk is)
chunk_are (gives.Whole w) chunk is = absurd (none-some chunk is)
