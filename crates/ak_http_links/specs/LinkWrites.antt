-- What is written to a link of a reply.
use Rattle.std.specs.Prelude.{◌≡◌, ◌<◌, ℕ, List, ◌++◌, length, Option}
use Rattle.std.specs.Io.KnownBytes.{Appends}
use Rattle.ak_http_texts.specs.ReplyTexts.{reply_http}
use Rattle.ak_messages.specs.declared.replies.Reply.{Reply}
use Rattle.ak_http_links.specs.declared.link_ends.LinkEnd.{LinkEnd}
use Rattle.ak_http_links.specs.declared.link_ends.LinkEnd.TheVariants as ends

-- bytes that are known grow by a front of a text, and some of the text is not written
pub record AppendsFront (old new : Option (List ℕ)) (text : List ℕ) : Type 0 where
  pub front : List ℕ
  pub rest : List ℕ
  pub parts : text ≡ front ++ rest
  pub unwritten : 0 < length rest
  pub written : Appends old new front

-- a reply is written: whole, and its status is told; or a front of it; or, if memory is out for its text, nothing
abbrev pub WritesReply : Option (List ℕ) → Option (List ℕ) → Reply → LinkEnd → Type 0
WritesReply old new reply (ends.Served status) = Appends old new (reply_http reply) × (reply.status ≡ status)
WritesReply old new reply ends.Failed = AppendsFront old new (reply_http reply)
WritesReply old new reply ends.Memory = new ≡ old

-- the text of a reply that is at hand is written: memory is not asked for
abbrev pub WritesText : Option (List ℕ) → Option (List ℕ) → List ℕ → ℕ → LinkEnd → Type 0
WritesText old new text status (ends.Served told) = Appends old new text × (status ≡ told)
WritesText old new text status ends.Failed = AppendsFront old new text
WritesText old new text status ends.Memory = ⊥
