-- The texts of replies as they go over HTTP.
use Rattle.std.specs.Prelude.{ℕ, ◌==◌, if◌then◌else◌, List, ◌++◌, length, codes, decimal}
use Rattle.serde_json.specs.Written.{compact_text}
use Rattle.ak_messages.specs.declared.replies.Reply.{Reply}
use Rattle.ak_wire.specs.Written.{reply_json}
use Rattle.ak_http_texts.specs.Refusals.{refusal_reply}
use Rattle.ak_http_texts.specs.declared.refusals.Refusal.{Refusal}

-- the reason that goes with a status
abbrev pub reason_of : ℕ → List ℕ
reason_of status = if status == 200 then codes "OK" else codes "Refused"

-- the status line and the headers, each line with its end, and the empty line behind them
abbrev pub head_text : ℕ → ℕ → List ℕ
head_text status size =
    codes "HTTP/1.1 " ++ decimal status ++ codes " " ++ reason_of status
    ++ codes "\r\nContent-Type: application/json\r\nContent-Length: " ++ decimal size ++ codes "\r\nConnection: close\r\n\r\n"

-- the text of a reply: of its status and its body alone
abbrev pub http_text : ℕ → List ℕ → List ℕ
http_text status body = head_text status (length body) ++ body

-- the body of a reply: the compact text of its JSON
abbrev pub body_of : Reply → List ℕ
body_of reply = compact_text (reply_json reply)

-- a reply as it goes over HTTP
abbrev pub reply_http : Reply → List ℕ
reply_http reply = http_text reply.status (body_of reply)

-- a refusal as it goes over HTTP
abbrev pub refusal_http : Refusal → List ℕ
refusal_http refusal = reply_http (refusal_reply refusal)
