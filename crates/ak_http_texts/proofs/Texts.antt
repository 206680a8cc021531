-- The whole texts of refusals, computed.
use Rattle.std.specs.Prelude.{◌≡◌, ℕ, List, ◌++◌, codes}
use Rattle.std.specs.Fmt.{digits}
use Rattle.std.proofs.Common.{refl}
use Rattle.json.specs.Print.{escape_byte}
use Rattle.ak_http_texts.specs.ReplyTexts.{head_text, refusal_http}
use Rattle.ak_http_texts.specs.declared.refusals.Refusal.TheVariants as refusals

pub head_of_ok : head_text 200 95
    ≡ codes "HTTP/1.1 200 OK\r\nContent-Type: application/json\r\nContent-Length: 95\r\nConnection: close\r\n\r\n"
unfolding digits
head_of_ok = refl

pub told_head : refusal_http refusals.Head
    ≡ codes "HTTP/1.1 400 Refused\r\nContent-Type: application/json\r\nContent-Length: 24\r\nConnection: close\r\n\r\n{\"seen\":0,\"word\":\"head\"}"
unfolding digits escape_byte
told_head = refl

pub told_route : refusal_http refusals.Route
    ≡ codes "HTTP/1.1 404 Refused\r\nContent-Type: application/json\r\nContent-Length: 25\r\nConnection: close\r\n\r\n{\"seen\":0,\"word\":\"route\"}"
unfolding digits escape_byte
told_route = refl

pub told_method : refusal_http refusals.Method
    ≡ codes "HTTP/1.1 405 Refused\r\nContent-Type: application/json\r\nContent-Length: 26\r\nConnection: close\r\n\r\n{\"seen\":0,\"word\":\"method\"}"
unfolding digits escape_byte
told_method = refl

pub told_length : refusal_http refusals.Length
    ≡ codes "HTTP/1.1 411 Refused\r\nContent-Type: application/json\r\nContent-Length: 26\r\nConnection: close\r\n\r\n{\"seen\":0,\"word\":\"length\"}"
unfolding digits escape_byte
told_length = refl

pub told_large : refusal_http refusals.Large
    ≡ codes "HTTP/1.1 413 Refused\r\nContent-Type: application/json\r\nContent-Length: 25\r\nConnection: close\r\n\r\n{\"seen\":0,\"word\":\"large\"}"
unfolding digits escape_byte
told_large = refl

pub told_compressed : refusal_http refusals.Compressed
    ≡ codes "HTTP/1.1 415 Refused\r\nContent-Type: application/json\r\nContent-Length: 30\r\nConnection: close\r\n\r\n{\"seen\":0,\"word\":\"compressed\"}"
unfolding digits escape_byte
told_compressed = refl

pub told_headers : refusal_http refusals.Headers
    ≡ codes "HTTP/1.1 400 Refused\r\nContent-Type: application/json\r\nContent-Length: 27\r\nConnection: close\r\n\r\n{\"seen\":0,\"word\":\"headers\"}"
unfolding digits escape_byte
told_headers = refl

pub told_cut : refusal_http refusals.Cut
    ≡ codes "HTTP/1.1 400 Refused\r\nContent-Type: application/json\r\nContent-Length: 23\r\nConnection: close\r\n\r\n{\"seen\":0,\"word\":\"cut\"}"
unfolding digits escape_byte
told_cut = refl

pub told_body : refusal_http refusals.Body
    ≡ codes "HTTP/1.1 400 Refused\r\nContent-Type: application/json\r\nContent-Length: 24\r\nConnection: close\r\n\r\n{\"seen\":0,\"word\":\"body\"}"
unfolding digits escape_byte
told_body = refl

pub told_memory : refusal_http refusals.Memory
    ≡ codes "HTTP/1.1 500 Refused\r\nContent-Type: application/json\r\nContent-Length: 26\r\nConnection: close\r\n\r\n{\"seen\":0,\"word\":\"memory\"}"
unfolding digits escape_byte
told_memory = refl
