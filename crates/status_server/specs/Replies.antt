-- The replies of a status server (RFC 9112, sections 2 to 4 and 9; RFC 9110, section 15, for what a status means).
use Rattle.std.specs.Prelude.{ℕ, Bool, List, [], ◌∷◌, ◌++◌, length, codes, if◌then◌else◌}
use Rattle.std.specs.Fmt.{decimal}
use Rattle.status_server.specs.declared.replies.Status.{Status}
use Rattle.status_server.specs.declared.replies.Status.TheVariants.{Done, BadRequest, NotFound, OtherMethod, Failed}

-- the end of a line
abbrev pub line_end : List ℕ
line_end = 13 ∷ 10 ∷ []

-- the number of a status, and the reason behind it
abbrev pub words : Status → List ℕ
words Done = codes "200 OK"
words BadRequest = codes "400 Bad Request"
words NotFound = codes "404 Not Found"
words OtherMethod = codes "405 Method Not Allowed"
words Failed = codes "500 Internal Server Error"

-- the first line, and the kind of the body
abbrev pub front : Status → List ℕ
front status = codes "HTTP/1.1 " ++ (words status ++ codes "\r\nContent-Type: text/plain; version=1.0.0; escaping=allow-utf-8\r\n")

-- the line with the length of the body
abbrev pub length_line : ℕ → List ℕ
length_line n = codes "Content-Length: " ++ (decimal n ++ line_end)

-- the end of a head, which says whether the connection ends behind the reply
abbrev pub end : Bool → List ℕ
end closes = if closes then codes "Connection: close\r\n\r\n" else codes "\r\n"

-- a reply
abbrev pub reply : Status → Bool → List ℕ → List ℕ
reply status closes body = front status ++ (length_line (length body) ++ (end closes ++ body))
