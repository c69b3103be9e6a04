-- Where a raw text stands among the texts of a cache.
use Rattle.std.specs.Prelude.{◌≡◌, ℕ, true, List, map, slice_get, option_map}
use Rattle.std.specs.Str.{bytes_eq}
use Rattle.std.specs.List.{IsDistinct}
use Rattle.std.specs.Map.{keys_of}
use Rattle.std.specs.declared.option.Option.TheVariants.{Some}
use Rattle.std.specs.declared.vec.Vec.{Vec}
use Rattle.series_cache.specs.declared.known.Known.{Known}

-- the entries of a table of texts, each text as its bytes
abbrev pub texts_of : {Z : Type 0} → List (Vec ℕ Z × Known) → List (List ℕ × Known)
texts_of {Z} es = map (λ (e : Vec ℕ Z × Known). (e.0.items, e.1)) es

-- a text is the one at this place
abbrev pub HasAt : List ℕ → List (List ℕ × Known) → ℕ → Type 0
HasAt raw ts place = option_map (λ (t : List ℕ × Known). bytes_eq raw t.0) (slice_get ts place) ≡ Some true

-- no text stands there twice
abbrev pub AreDistinct : List (List ℕ × Known) → Type 0
AreDistinct ts = IsDistinct bytes_eq (keys_of ts)
