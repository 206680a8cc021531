-- What a device reads of its own collection for an upload, and what it puts in its place.
use Rattle.std.specs.Option.{option_map}
use Rattle.std.specs.Prelude.{◌≡◌, true, List, Option, Some, None, IfSome}
use Rattle.std.proofs.Common.{sym, ap, subst, ◌∙◌}
use Rattle.std.proofs.lemmas.Option.{none-some, same_Some}
use Rattle.ak_base.specs.declared.heads.Head.{Head}
use Rattle.ak_base.specs.declared.rows.Row.{Row}
use Rattle.ak_keep.specs.Collections.{Collection, Holding, Rows, collection_of}
use Rattle.ak_keep.specs.Keepers.{IsMarkedAt, Keeping, WhereHeld, WhereTold, back, is_marked, replaced}
use Rattle.ak_keep.specs.Marks.{WithMark}
use Rattle.ak_merge.specs.Commits.{uploaded_rows}
use Rattle.ak_messages.specs.declared.requests.Whole.{Whole}
use Rattle.ak_session.specs.Uploads.{whole_to_send}
use Rattle.ak_transfers.proofs.Rows.{uploaded_may}
use Rattle.ak_transfers.specs.UploadParts.{MayBePut, plain_rows, prepared, prepared_head, whole_sent_with}

-- a whole collection of the rows that are held but the graves, and of the head, is what is sent
pub sent_whole : (k : Keeping) (head : Head) (rows : List Row) (whole : Whole) → WhereTold k (λ h. h.head ≡ Some head)
    → WhereTold k (λ h. rows ≡ plain_rows h.rows) → whole ≡ whole_sent_with rows head → WhereHeld k (λ c. whole ≡ whole_to_send c)
sent_whole k head rows whole heads list is = by k.told heads list
  where
    one : (held : Rows) → rows ≡ plain_rows held → (o : Option Head) → o ≡ Some head
        → IfSome (option_map (λ (own : Head). record { rows = held; head = own }) o) (λ (c : Collection). whole ≡ whole_to_send c)
    one held same None none = absurd (none-some head none)
    one held same (Some own) some =
        is ∙ ap (λ (l : List Row). whole_sent_with l head) same ∙ ap (λ (h : Head). whole_sent_with (plain_rows held) h) (sym (same_Some own head some))

    by : (told : Option (WithMark Holding)) → IfSome told (λ (w : WithMark Holding). w.current.head ≡ Some head)
        → IfSome told (λ (w : WithMark Holding). rows ≡ plain_rows w.current.rows)
        → IfSome told (λ (w : WithMark Holding). IfSome (collection_of w.current) (λ (c : Collection). whole ≡ whole_to_send c))
    by None one_head same = tt
    by (Some w) one_head same = one w.current.rows same w.current.head one_head

-- what was put in place is what an upload of it leaves
pub put_whole : (k mid new : Keeping) (head made : Head) (rows kept : List Row) (whole : Whole) → mid ≡ k → new ≡ replaced kept made mid
    → kept ≡ uploaded_rows rows → made ≡ prepared_head head → whole ≡ whole_sent_with rows head → new ≡ prepared whole k
put_whole k mid new head made rows kept whole same put the_rows the_head is =
    put
    ∙ ap (replaced kept made) same
    ∙ ap (λ (list : List Row). replaced list made k) the_rows
    ∙ ap (λ (h : Head). replaced (uploaded_rows rows) h k) the_head
    ∙ ap (λ (w : Whole). prepared w k) (sym is)

-- a keeper that was only read is marked as it was
pub still_marked : (old new : Keeping) → is_marked old ≡ true → new ≡ old → IsMarkedAt (back old) new
still_marked old new marked same = record { marked = ap is_marked same ∙ marked; back = ap back same }

-- the rows that are kept may be put
pub kept_may : (rows sent kept : List Row) → MayBePut rows → sent ≡ rows → kept ≡ uploaded_rows sent → MayBePut kept
kept_may rows sent kept may same is = subst MayBePut (sym (is ∙ ap uploaded_rows same)) (uploaded_may rows may)
