-- What the fields of a head say of the body that follows it. A field is its name and its value.
use Rattle.std.specs.Prelude.{ℕ, ◌+◌, ◌-◌, ◌*◌, ◌^◌, Bool, false, ◌&&◌, ◌||◌, not, ◌==◌, nat_lt, if◌then◌else◌, List, [], ◌∷◌, length, take, drop, Option, Some, None, codes}
use Rattle.std.specs.List.{list_all, list_any, prefix_len, slice_split}
use Rattle.std.specs.Char.{is_ascii_digit}
use Rattle.std.specs.Str.{str_eq_ignore_ascii_case}
use Rattle.std.specs.Str.Parse.{digits_value}
use Rattle.http_fetch.specs.declared.fields.Kind.{Kind}
use Rattle.http_fetch.specs.declared.fields.Kind.TheVariants.{OpenMetrics, Plain, Quoted}
use Rattle.http_fetch.specs.declared.fields.Framing.{Framing}
use Rattle.http_fetch.specs.declared.fields.Framing.TheVariants.{Refused, Length, Chunks, ToEnd}
use Rattle.http_fetch.specs.declared.fields.Coding.{Coding}
use Rattle.http_fetch.specs.declared.fields.Coding.TheVariants.{Absent, Chunked, Other}

-- the names
abbrev pub content_encoding : List ℕ
content_encoding = codes "content-encoding"

abbrev pub transfer_encoding : List ℕ
transfer_encoding = codes "transfer-encoding"

abbrev pub content_length : List ℕ
content_length = codes "content-length"

abbrev pub content_type : List ℕ
content_type = codes "content-type"

-- the texts are the same but for the case of their ASCII letters
unfoldable pub same_word : List ℕ → List ℕ → Bool
same_word one other = str_eq_ignore_ascii_case one other

-- the field has the name
unfoldable pub is_named : List ℕ → List ℕ × List ℕ → Bool
is_named name field = same_word field.0 name

-- the values of the fields of that name
abbrev pub values : List ℕ → List (List ℕ × List ℕ) → List (List ℕ)
values name [] = []
values name (f ∷ fs) = if is_named name f then f.1 ∷ values name fs else values name fs

-- some Content-Encoding is another than identity
abbrev pub is_encoded : List (List ℕ × List ℕ) → Bool
is_encoded fields = list_any (λ (v : List ℕ). not (same_word v (codes "identity"))) (values content_encoding fields)

-- what the values of Transfer-Encoding say
abbrev pub coding : List (List ℕ) → Coding
coding [] = Absent
coding (v ∷ []) = if same_word v (codes "chunked") then Chunked else Other
coding (v ∷ w ∷ vs) = Other

-- the text is a decimal number below 2^63
unfoldable pub is_numeral : List ℕ → Bool
is_numeral v = nat_lt 0 (length v) && list_all is_ascii_digit v && nat_lt (digits_value 10 v) (2 ^ 63)

-- that number
unfoldable pub number : List ℕ → Option ℕ
number v = if is_numeral v then Some (digits_value 10 v) else None

-- the text is the number n
abbrev pub is_same_number : ℕ → Option ℕ → Bool
is_same_number n None = false
is_same_number n (Some m) = n == m

-- what the values of Content-Length say: all are the same number
abbrev pub agreed : Option ℕ → List (List ℕ) → Framing
agreed None vs = Refused
agreed (Some n) vs = if list_all (λ (v : List ℕ). is_same_number n (number v)) vs then Length n else Refused

abbrev pub by_length : List (List ℕ) → Framing
by_length [] = ToEnd
by_length (v ∷ vs) = agreed (number v) vs

-- a space or a tab
unfoldable pub is_space : ℕ → Bool
is_space b = (b == 32) || (b == 9)

-- what stands before the first `;`, without blanks in front
abbrev pub media_front : List ℕ → List ℕ
media_front v = take (prefix_len (λ b. not (b == 59)) v) v

abbrev pub media : List ℕ → List ℕ
media v = drop (prefix_len is_space (media_front v)) (media_front v)

-- that is the name of OpenMetrics in any case of letters, and blanks behind it
unfoldable pub is_named_openmetrics : List ℕ → Bool
is_named_openmetrics v = same_word (take 28 (media v)) (codes "application/openmetrics-text") && list_all is_space (drop 28 (media v))

-- the part says, in any case of letters and with blanks at its ends, that names stand in quotes ("UTF-8 in Prometheus", content negotiation)
unfoldable pub is_escaping : List ℕ → Bool
is_escaping p =
    let word = drop (prefix_len is_space p) p in
    same_word (take 20 word) (codes "escaping=allow-utf-8") && list_all is_space (drop 20 word)

-- a part of the value that is cut at each `;` does
unfoldable pub says_quoted : List ℕ → Bool
says_quoted v = list_any is_escaping (slice_split (λ b. b == 59) v)

-- what the body is of, by a value
unfoldable pub kind_by : List ℕ → Kind
kind_by v = if is_named_openmetrics v then OpenMetrics else if says_quoted v then Quoted else Plain

abbrev pub kind_first : List (List ℕ) → Kind
kind_first [] = Plain
kind_first (v ∷ vs) = kind_by v

-- what the body is of, by the first Content-Type (OpenMetrics 1.0, "Protocol Negotiation"; "UTF-8 in Prometheus")
unfoldable pub kind : List (List ℕ × List ℕ) → Kind
kind fields = kind_first (values content_type fields)

-- a coding goes before a length
abbrev pub by_coding : Coding → List (List ℕ) → Framing
by_coding Chunked lengths = Chunks
by_coding Other lengths = Refused
by_coding Absent lengths = by_length lengths

-- how the body goes, by the fields of its head
unfoldable pub framing : List (List ℕ × List ℕ) → Framing
framing fields = if is_encoded fields then Refused else by_coding (coding (values transfer_encoding fields)) (values content_length fields)

-- the coding after one more value, and after these
abbrev pub coding_with : Coding → List ℕ → Coding
coding_with Absent v = if same_word v (codes "chunked") then Chunked else Other
coding_with Chunked v = Other
coding_with Other v = Other

abbrev pub coding_after : Coding → List (List ℕ) → Coding
coding_after c [] = c
coding_after c (v ∷ vs) = coding_after (coding_with c v) vs

-- the length after one more value, and after these
abbrev pub first_length : Option ℕ → Framing
first_length None = Refused
first_length (Some n) = Length n

abbrev pub length_with : Framing → List ℕ → Framing
length_with ToEnd v = first_length (number v)
length_with (Length n) v = if is_same_number n (number v) then Length n else Refused
length_with Refused v = Refused
length_with Chunks v = Refused

abbrev pub length_after : Framing → List (List ℕ) → Framing
length_after f [] = f
length_after f (v ∷ vs) = length_after (length_with f v) vs

-- a number with one more digit
abbrev pub number_with : ℕ → ℕ → Option ℕ
number_with n digit = if nat_lt (n * 10 + (digit - 48)) (2 ^ 63) then Some (n * 10 + (digit - 48)) else None
