-- The texts of requests as they go over HTTP.
use Rattle.std.specs.Prelude.{ℕ, ◌-◌, false, List, ◌++◌, length, replicate, codes, decimal}
use Rattle.std.specs.Fmt.{digits, signed_decimal}
use Rattle.serde_json.specs.Written.{compact_text}
use Rattle.ak_messages.specs.Methods.{name_of}
use Rattle.ak_messages.specs.declared.methods.Method.{Method}
use Rattle.ak_messages.specs.declared.requests.Request.{Request}
use Rattle.ak_session.specs.Requests.{asked_method}
use Rattle.ak_wire.specs.Written.{ask_json}

-- 16 lower-case hexadecimal digits: zeros, and then the digits of the number
abbrev pub session_text : ℕ → List ℕ
session_text number = replicate (16 - length (digits 16 false number)) 48 ++ digits 16 false number

-- the line of a request, and the name of the host
abbrev pub first_lines : List ℕ → Method → List ℕ
first_lines host_name method = codes "POST /sync/" ++ name_of method ++ codes " HTTP/1.1\r\nHost: " ++ host_name ++ codes "\r\n"

-- who asks, and where in which sync
abbrev pub envelope_lines : Request → List ℕ
envelope_lines request =
    codes "X-Anki-Key: " ++ request.host.digits ++ codes "\r\nX-Anki-Session: " ++ session_text request.session.0
    ++ codes "\r\nX-Anki-Step: " ++ decimal request.step ++ codes "\r\nX-Anki-Base: " ++ signed_decimal request.base ++ codes "\r\n"

-- a request with this body as it goes over HTTP to a host of this name
abbrev pub request_http_of : List ℕ → Request → List ℕ → List ℕ
request_http_of host_name request body =
    first_lines host_name (asked_method request.ask) ++ codes "Content-Type: application/json\r\n" ++ envelope_lines request
    ++ codes "Content-Length: " ++ decimal (length body) ++ codes "\r\nConnection: close\r\n\r\n" ++ body

-- the body of a request: the compact text of the JSON of what it asks
abbrev pub request_body : Request → List ℕ
request_body request = compact_text (ask_json request.ask)

-- a request as it goes over HTTP to a host of this name
abbrev pub request_http : List ℕ → Request → List ℕ
request_http host_name request = request_http_of host_name request (request_body request)
