-- The reply of a fetch, whose body is read.
use Rattle.std.specs.Prelude.{◌≡◌, ◌==◌, ℕ, List, Bool, false, Ok, Err}
use Rattle.expo_reader.specs.Bodies.{reading}
use Rattle.outside.specs.declared.replies.Reply.{Reply}
use Rattle.outside.specs.declared.replies.Reply.TheVariants.{Body}
use Rattle.outside.specs.declared.replies.Reply.TheVariants as replies
use Rattle.label_set.specs.declared.forms.Form.{Form}
use Rattle.label_set.specs.declared.forms.Form.TheVariants.{Plain, Quoted}
use Rattle.scrape_loop.specs.declared.read_reply.Page.{Page}
use Rattle.scrape_loop.specs.declared.read_reply.Page.TheVariants.{Rows, Faulty, Passed}

-- a reply whose body has that form
abbrev pub page_in : Form → ℕ → List ℕ → Reply
page_in Plain status bytes = Body status bytes
page_in Quoted status bytes = replies.Quoted status bytes

-- a reply as it came
abbrev pub reply_of : Page → Reply
reply_of (Rows status body places) = page_in body.form status body.bytes
reply_of (Faulty form status bytes line) = page_in form status bytes
reply_of (Passed reply) = reply

-- a body with status 200 came, whose lines may be looked at
abbrev pub is_page : Reply → Bool
is_page (Body status bytes) = status == 200
is_page (replies.Quoted status bytes) = status == 200
is_page _ = false

-- what is kept beside the reply is what its body says
abbrev pub IsRead : Page → Type 0
IsRead (Rows status body places) = reading body.form body.bytes ≡ Ok body.rows
IsRead (Faulty form status bytes line) = reading form bytes ≡ Err line
IsRead (Passed reply) = is_page reply ≡ false
