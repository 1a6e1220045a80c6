-- The response to a request.
use Rattle.std.specs.Prelude.{ℕ, List, [], ◌++◌, length, codes}
use Rattle.std.specs.Fmt.{decimal}
use Rattle.ipc_metrics.specs.declared.asked.Asked.{Asked}
use Rattle.ipc_metrics.specs.declared.asked.Asked.TheVariants.{Unfinished, Page, PageHead, OtherPath, OtherPathHead, OtherMethod, Malformed, TooLong}

-- the status line
unfoldable pub status_line : Asked → List ℕ
status_line Page = codes "HTTP/1.1 200 OK\r\n"
status_line PageHead = codes "HTTP/1.1 200 OK\r\n"
status_line OtherPath = codes "HTTP/1.1 404 Not Found\r\n"
status_line OtherPathHead = codes "HTTP/1.1 404 Not Found\r\n"
status_line OtherMethod = codes "HTTP/1.1 405 Method Not Allowed\r\n"
status_line Malformed = codes "HTTP/1.1 400 Bad Request\r\n"
status_line TooLong = codes "HTTP/1.1 431 Request Header Fields Too Large\r\n"
status_line Unfinished = codes "HTTP/1.1 408 Request Timeout\r\n"

-- a line of a head
unfoldable pub field_line : List ℕ → List ℕ → List ℕ
field_line name value = name ++ codes ": " ++ value ++ codes "\r\n"

-- the methods that are answered, where another was asked for
unfoldable pub allow_line : Asked → List ℕ
allow_line OtherMethod = field_line (codes "Allow") (codes "GET, HEAD")
allow_line _ = []

-- the lines before the body's length
unfoldable pub first_lines : Asked → List ℕ
first_lines asked = status_line asked ++ field_line (codes "Content-Type") (codes "text/plain; version=0.0.4; charset=utf-8")

-- the lines behind it, and the empty line
unfoldable pub last_lines : Asked → List ℕ
last_lines asked = allow_line asked ++ field_line (codes "Connection") (codes "close") ++ codes "\r\n"

-- the head of a response whose body has this length
unfoldable pub head_text : Asked → ℕ → List ℕ
head_text asked size = first_lines asked ++ codes "Content-Length: " ++ decimal size ++ codes "\r\n" ++ last_lines asked

-- the page, or a line that says what is wrong
unfoldable pub body_of : Asked → List ℕ → List ℕ
body_of Page page = page
body_of PageHead page = page
body_of OtherPath page = codes "the page is /metrics\n"
body_of OtherPathHead page = codes "the page is /metrics\n"
body_of OtherMethod page = codes "only GET and HEAD are answered\n"
body_of Malformed page = codes "this is no request\n"
body_of TooLong page = codes "the request's head is too long\n"
body_of Unfinished page = codes "the request's head did not come in time\n"

-- what is sent of the body: nothing where a head alone is asked for
abbrev pub sent_body : Asked → List ℕ → List ℕ
sent_body PageHead body = []
sent_body OtherPathHead body = []
sent_body _ body = body

-- the whole response
abbrev pub response_text : Asked → List ℕ → List ℕ
response_text asked page = head_text asked (length (body_of asked page)) ++ sent_body asked (body_of asked page)
