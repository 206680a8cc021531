-- What an accepted request is given, as the answer of its session.
use Rattle.std.specs.Prelude.{◌≡◌, ℤ, ⊤, Bool, false, Option, Some, None, IfSome}
use Rattle.std.proofs.Common.{refl, sym, ap, subst, ◌∙◌}
use Rattle.ak_base.specs.declared.heads.Head.{Head}
use Rattle.ak_keep.specs.Collections.{Collection, Holding, Rows, collection_of}
use Rattle.ak_keep.specs.Keepers.{Keeping, WhereHeld, WhereTold}
use Rattle.ak_keep.specs.declared.keepers.Wanted.TheVariants.{From}
use Rattle.ak_keep.proofs.Told.{where_told-map}
use Rattle.ak_server_rules.specs.Serving.{reply_to}
use Rattle.ak_server_rules.specs.Sessions.{session_seen}
use Rattle.ak_server_rules.specs.Summaries.{is_last_chunk}
use Rattle.ak_server_rules.specs.declared.sessions.Session.{Session}
use Rattle.ak_messages.specs.declared.replies.Give.{Give}
use Rattle.ak_messages.specs.declared.replies.Give.TheVariants as gives
use Rattle.ak_messages.specs.declared.replies.SanityReply.{SanityReply}
use Rattle.ak_messages.specs.declared.requests.Ask.{Ask}
use Rattle.ak_messages.specs.declared.requests.Ask.TheVariants as asks
use Rattle.ak_messages.specs.declared.requests.Changes.{Changes}
use Rattle.ak_messages.specs.declared.requests.GraveIds.{GraveIds}
use Rattle.ak_messages.specs.declared.requests.SanityCounts.{SanityCounts}
use Rattle.ak_messages.specs.declared.requests.Whole.{Whole}
use Rattle.ak_sync_rows.proofs.Gathering.{where_all}
use Rattle.ak_sync_rows.proofs.Pages.{both}
use Rattle.ak_protocol.proofs.Cases.{not_none}
use Rattle.ak_protocol.specs.Replies.{granted, whole_of}
use Rattle.ak_session.specs.Answers.{sanity_reply}
use Rattle.ak_session.specs.Messages.{grave_ids}
use Rattle.ak_session.specs.Slices.{wanted_graves}
use Rattle.ak_server_steps.specs.Answers.{Answers, IsAnswer, IsNextChunk, changes_given, tables_of}
use Rattle.ak_server_steps.specs.declared.answers.Answered.{Answered}

-- ---- the collection that is told
each : {X : Type 0} (o : Option X) (P : X → Type 0) → ((x : X) → o ≡ Some x → P x) → IfSome o P
each None P so = tt
each (Some x) P so = so x refl

-- what follows for the collection from what is told of all that is held
pub where_held-so : (k : Keeping) (P : Holding → Type 0) (Q : Collection → Type 0) → ((h : Holding) (c : Collection) → collection_of h ≡ Some c → P h → Q c)
    → WhereTold k P → WhereHeld k Q
where_held-so k P Q so = where_told-map k P (λ h. IfSome (collection_of h) Q) (λ h is. each (collection_of h) Q (λ c own. so h c own is))

abbrev rows_or : Rows → Option Collection → Rows
rows_or rows None = rows
rows_or rows (Some c) = c.rows

rows_in : (rows : Rows) (head : Option Head) (c : Collection) → collection_of (record { rows = rows; head = head }) ≡ Some c → rows ≡ c.rows
rows_in rows None c own = absurd (not_none (sym own))
rows_in rows (Some head) c own = ap (rows_or rows) own

-- the rows of the collection are those that are held
pub rows_are : (h : Holding) (c : Collection) → collection_of h ≡ Some c → h.rows ≡ c.rows
rows_are h c own = rows_in h.rows h.head c own

-- a collection with the head that is held is the one of these tables
pub tables_are : (head : Head) (h : Holding) (c : Collection) → h.head ≡ Some head → collection_of h ≡ Some c → tables_of head h ≡ c
tables_are head h c is own = cc (sym (ap (λ (o : Option Head). collection_of (record { rows = h.rows; head = o })) is) ∙ own)

-- ---- answers
-- an answer that gives this
answer_giving : (tables : Collection) (live : Session) (ask : Ask) (give : Give) (done : Bool) (it : Answered) → it ≡ record { give = give; done = done; given = live.given }
    → granted give ≡ reply_to tables (session_seen tables live) ask → done ≡ is_last_chunk (session_seen tables live) ask → IsAnswer tables live ask it
answer_giving tables live ask give done it so gives_it ends = record {
  give = ap (λ (a : Answered). granted a.give) so ∙ gives_it;
  done = ap (λ (a : Answered). a.done) so ∙ ends;
  given = ap (λ (a : Answered). a.given) so;
}

module _ (live : Session) (k : Keeping) (ask : Ask) (it : Answered) where
  abbrev IsAnswered : Ask → Collection → Type 0
  IsAnswered other tables = Answers tables live other it

  -- what is answered to the request that was asked
  answered_to : (other : Ask) (P : Holding → Type 0) → ask ≡ other → ((h : Holding) (c : Collection) → collection_of h ≡ Some c → P h → IsAnswered other c)
      → WhereTold k P → WhereHeld k (IsAnswered ask)
  answered_to other P is so =
      where_held-so k P (IsAnswered ask) (λ h c own held. subst (λ (a : Ask). IsAnswered a c) (sym is) (so h c own held))

  -- what is answered whatever is held
  answered_always : (other : Ask) → ask ≡ other → ((c : Collection) → IsAnswered other c) → WhereHeld k (IsAnswered ask)
  answered_always other is so = answered_to other (λ _. ⊤) is (λ h c own _. so c) (where_all k (λ _. ⊤) (λ h. tt))

  -- a start is given the graves with at least its number
  pub start_answered : (min_usn lmod : ℤ) (ids : GraveIds) → ask ≡ asks.Start min_usn lmod
      → it ≡ record { give = gives.Graves ids; done = false; given = live.given }
      → WhereTold k (λ h. ids ≡ grave_ids (wanted_graves (From min_usn) h.rows)) → WhereHeld k (IsAnswered ask)
  start_answered min_usn lmod ids is so =
      answered_to (asks.Start min_usn lmod) (λ h. ids ≡ grave_ids (wanted_graves (From min_usn) h.rows)) is (λ h c own given.
      answer_giving c live (asks.Start min_usn lmod) (gives.Graves ids) false it so
      (ap (λ (x : GraveIds). granted (gives.Graves x)) (given ∙ ap (λ (rows : Rows). grave_ids (wanted_graves (From min_usn) rows)) (rows_are h c own))) refl)

  -- changes are answered by the server's changes
  pub changes_answered : (came made : Changes) → ask ≡ asks.ApplyChanges came
      → it ≡ record { give = gives.Changes made; done = false; given = live.given }
      → WhereHeld k (λ tables. made ≡ changes_given tables live) → WhereHeld k (IsAnswered ask)
  changes_answered came made is so =
      answered_to (asks.ApplyChanges came) (λ h. IfSome (collection_of h) (λ tables. made ≡ changes_given tables live)) is (λ h c own given.
      answer_giving c live (asks.ApplyChanges came) (gives.Changes made) false it so
      (ap (λ (x : Changes). granted (gives.Changes x)) (subst (λ (o : Option Collection). IfSome o (λ tables. made ≡ changes_given tables live)) own given)) refl)

  -- a chunk is answered by the next one
  pub chunk_answered : ask ≡ asks.Chunk → WhereTold k (λ h. IsNextChunk h.rows live it) → WhereHeld k (IsAnswered ask)
  chunk_answered is =
      answered_to asks.Chunk (λ h. IsNextChunk h.rows live it) is (λ h c own next. subst (λ (rows : Rows). IsNextChunk rows live it) (rows_are h c own) next)

  -- a sanity check is answered by the reply to it
  pub sanity_answered : (counts : SanityCounts) (made : SanityReply) → ask ≡ asks.SanityCheck2 counts
      → it ≡ record { give = gives.Sanity made; done = false; given = live.given }
      → WhereTold k (λ h. made ≡ sanity_reply h.rows counts) → WhereHeld k (IsAnswered ask)
  sanity_answered counts made is so =
      answered_to (asks.SanityCheck2 counts) (λ h. made ≡ sanity_reply h.rows counts) is (λ h c own given.
      answer_giving c live (asks.SanityCheck2 counts) (gives.Sanity made) false it so
      (ap (λ (x : SanityReply). granted (gives.Sanity x)) (given ∙ ap (λ (rows : Rows). sanity_reply rows counts) (rows_are h c own))) refl)

  -- a download is given the whole collection
  pub download_answered : (made : Whole) → ask ≡ asks.Download → it ≡ record { give = gives.Whole made; done = false; given = live.given }
      → WhereHeld k (λ c. made ≡ whole_of c) → WhereHeld k (IsAnswered ask)
  download_answered made is so =
      answered_to asks.Download (λ h. IfSome (collection_of h) (λ c. made ≡ whole_of c)) is (λ h c own given.
      answer_giving c live asks.Download (gives.Whole made) false it so
      (ap (λ (x : Whole). granted (gives.Whole x)) (subst (λ (o : Option Collection). IfSome o (λ c. made ≡ whole_of c)) own given)) refl)

  -- a request that is given nothing, but that its chunk may be the last
  pub nothing_answered : (other : Ask) (done : Bool) → ask ≡ other → it ≡ record { give = gives.Nothing; done = done; given = live.given }
      → ((c : Collection) → IsAnswer c live other it → IsAnswered other c) → ((c : Collection) → granted gives.Nothing ≡ reply_to c (session_seen c live) other)
      → ((c : Collection) → done ≡ is_last_chunk (session_seen c live) other) → WhereHeld k (IsAnswered ask)
  nothing_answered other done is so answers gives_it ends =
      answered_always other is (λ c. answers c (answer_giving c live other gives.Nothing done it so (gives_it c) (ends c)))

-- changes that were made from the head that is held are those of the collection
pub changes_of_head : (live : Session) (k : Keeping) (head : Head) (made : Changes) → WhereTold k (λ h. h.head ≡ Some head)
    → WhereTold k (λ h. made ≡ changes_given (tables_of head h) live) → WhereHeld k (λ tables. made ≡ changes_given tables live)
changes_of_head live k head made is so =
    both k.told (λ h. h.head ≡ Some head) (λ h. made ≡ changes_given (tables_of head h) live) (λ h. IfSome (collection_of h) (λ tables. made ≡ changes_given tables live))
    (λ h has given. each (collection_of h) (λ tables. made ≡ changes_given tables live) (λ c own.
    given ∙ ap (λ (tables : Collection). changes_given tables live) (tables_are head h c has own))) is so
