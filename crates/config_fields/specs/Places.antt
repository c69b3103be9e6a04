-- Places within a text of JSON, as JSON Pointers (RFC 6901).
use Rattle.std.specs.Prelude.{ℕ, List, [], ◌∷◌, ◌++◌, flat_map, ◌==◌, if◌then◌else◌}
use Rattle.std.specs.Fmt.{decimal}
use Rattle.std.specs.Str.{chars, encode_utf8_all}

-- `~` (126) is written `~0`, and `/` (47) is written `~1` (section 3)
abbrev pub escaped_char : ℕ → List ℕ
escaped_char c = if c == 126 then 126 ∷ 48 ∷ [] else (if c == 47 then 126 ∷ 49 ∷ [] else c ∷ [])

-- a key with its characters escaped
unfoldable pub escaped : List ℕ → List ℕ
escaped key = encode_utf8_all (flat_map escaped_char (chars key))

-- the place of a field of the object at a place
unfoldable pub field_place : List ℕ → List ℕ → List ℕ
field_place place key = place ++ 47 ∷ escaped key

-- the place of an item of the list at a place, counted from 0
unfoldable pub item_place : List ℕ → ℕ → List ℕ
item_place place index = place ++ 47 ∷ decimal index
