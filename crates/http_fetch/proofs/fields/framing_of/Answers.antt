use Rattle.std.proofs.Common.{◌≡◌, ◌∙◌, ap, refl, map, Bool, true, false, List, ℕ, if◌then◌else◌}
use Rattle.httparse.specs.Spans.{header_bytes}
use Rattle.http_fetch.specs.declared.fields.Framing.TheVariants.{Refused}
use Rattle.http_fetch.specs.declared.fields.Coding.{Coding}
use Rattle.http_fetch.specs.declared.fields.Coding.TheVariants.{Chunked, Other, Absent}
use Rattle.http_fetch.specs.Fields.{framing, by_coding, coding, values, is_encoded, transfer_encoding, content_length}
use Rattle.http_fetch.proofs.fields.framing_of.Goals as goal

framing-by : (fields : List (List ℕ × List ℕ)) (b : Bool) (k : Coding) → b ≡ is_encoded fields → k ≡ coding (values transfer_encoding fields) →
    (if b then Refused else by_coding k (values content_length fields)) ≡ framing fields
unfolding framing
framing-by fields b k e f = ap (λ (x : Bool). if x then Refused else by_coding k (values content_length fields)) e ∙ ap (λ (x : Coding). if is_encoded fields then Refused else by_coding x (values content_length fields)) f

pub returns-then-is_encoded : goal.returns-then-is_encoded
returns-then-is_encoded c = framing-by (map (header_bytes c.args.text.now) c.args.fields.now) true _ c.if-is_encoded.ensures refl

pub returns-in-Chunked : goal.returns-in-Chunked
returns-in-Chunked c = framing-by (map (header_bytes c.args.text.now) c.args.fields.now) false Chunked c.if-is_encoded.ensures c.in-Chunked.ensures

pub returns-in-Other : goal.returns-in-Other
returns-in-Other c = framing-by (map (header_bytes c.args.text.now) c.args.fields.now) false Other c.if-is_encoded.ensures c.in-Other.ensures

pub returns-in-Absent : goal.returns-in-Absent
returns-in-Absent c = c.length_of.ensures ∙ framing-by (map (header_bytes c.args.text.now) c.args.fields.now) false Absent c.if-is_encoded.ensures c.in-Absent.ensures
