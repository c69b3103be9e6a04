-- The selectors of a query ("Federation" of the Prometheus documentation: match[]; the URL Standard, sections 1.3 and 5, for what a name and a
-- value stand for).
use Rattle.std.specs.Prelude.{ℕ, ◌+◌, Bool, true, false, ◌&&◌, ◌||◌, not, ◌==◌, nat_lt, if◌then◌else◌, List, [], ◌∷◌, ◌++◌, length, take, drop, map, Vec, String, Option, Some, None, option_map, codes}
use Rattle.std.specs.Char.{is_ascii_hexdigit}
use Rattle.std.specs.List.{prefix_len, slice_split}
use Rattle.std.specs.Str.{bytes_eq, is_utf8}
use Rattle.std.specs.String.{string_bytes}
use Rattle.percent_encoding.specs.Percent.{percent_decode}
use Rattle.request_heads.specs.declared.queries.Part.{Part}
use Rattle.request_heads.specs.declared.queries.Part.TheVariants.{Passed, Refused, Selector}

-- two hexadecimal digits stand in front
abbrev pub has_digits : List ℕ → Bool
has_digits [] = false
has_digits (one ∷ []) = false
has_digits (one ∷ two ∷ rest) = is_ascii_hexdigit one && is_ascii_hexdigit two

-- each `%` begins an escape
abbrev pub are_whole : List ℕ → Bool
are_whole [] = true
are_whole (b ∷ rest) = (not (b == 37) || has_digits rest) && are_whole rest

-- a `+` stands for a space, and an escape for its byte
abbrev pub plus_to_space : ℕ → ℕ
plus_to_space b = if b == 43 then 32 else b

abbrev pub decoded : List ℕ → List ℕ
decoded text = percent_decode (map plus_to_space text)

-- the text that a name or a value stands for; none where a `%` begins no escape, or where the bytes aren't UTF-8
unfoldable pub text_of : List ℕ → Option (List ℕ)
text_of text = if are_whole text && is_utf8 (decoded text) then Some (decoded text) else None

-- what parts give: none where one is refused, else the texts of selectors
abbrev pub value_gives : Option (List ℕ) → Option (List (List ℕ))
value_gives o = option_map (λ text. text ∷ []) o

-- whether a name is that of a selector
abbrev pub names_selector : List ℕ → Option Bool
names_selector name = option_map (λ text. bytes_eq text (codes "match[]")) (text_of name)

abbrev pub named_gives : Option Bool → List ℕ → Option (List (List ℕ))
named_gives None value = None
named_gives (Some false) value = Some []
named_gives (Some true) value = value_gives (text_of value)

-- a part that has a `=` has a name before its first one, and a value behind it
unfoldable pub pair_gives : List ℕ → List ℕ → Option (List (List ℕ))
pair_gives name value = named_gives (names_selector name) value

-- how many bytes stand before the first b
abbrev pub front_len : ℕ → List ℕ → ℕ
front_len b text = prefix_len (λ c. not (c == b)) text

-- a part without one is passed over
unfoldable pub part_gives : List ℕ → Option (List (List ℕ))
part_gives part =
    if nat_lt (front_len 61 part) (length part) then pair_gives (take (front_len 61 part) part) (drop (front_len 61 part + 1) part) else Some []

-- what a part gives, and then all the others
abbrev pub joined : Option (List (List ℕ)) → Option (List (List ℕ)) → Option (List (List ℕ))
joined None more = None
joined (Some texts) more = option_map (λ others. texts ++ others) more

abbrev pub all_give : List (List ℕ) → Option (List (List ℕ))
all_give [] = Some []
all_give (part ∷ parts) = joined (part_gives part) (all_give parts)

-- the texts of the selectors of a query, whose parts stand between its `&`
unfoldable pub selectors : List ℕ → Option (List (List ℕ))
selectors query = all_give (slice_split (λ b. b == 38) query)

-- the texts that a list holds
abbrev pub texts_of : {Y Z : Type 0} → Vec (String Y) Z → List (List ℕ)
texts_of v = map string_bytes v.items

-- what a part came to
abbrev pub gives : Part → Option (List (List ℕ))
gives Passed = Some []
gives Refused = None
gives (Selector text) = Some (string_bytes text ∷ [])
