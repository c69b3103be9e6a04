-- The values of parameters by name, as the request's pairs are made of them.
use Rattle.std.specs.Prelude.{◌≡◌, ℕ, List, find, flat_map, Option, option_map}
use Rattle.std.specs.Borrow.{Bor}
use Rattle.std.specs.HashMap.{HashMap, get_by}
use Rattle.std.specs.Str.{bytes_eq}
use Rattle.label_set.specs.declared.texts.Pair.{Pair}
use Rattle.scrape_config.specs.declared.conf.Param.{Param}
use Rattle.target_set.specs.Requests.{set_value, with_first_value, each_of}

-- what a map has for a name
abbrev pub found : {X S : Type 0} → HashMap (Bor (List ℕ)) (Bor X) S → List ℕ → Option X
found m name = option_map (λ v. v.now) (get_by (λ k. bytes_eq name k.now) m)

-- a map has the values that labels set
abbrev pub HasSet : {S : Type 0} → HashMap (Bor (List ℕ)) (Bor (List ℕ)) S → List Pair → Type 0
HasSet m identity = (name : List ℕ) → found m name ≡ set_value identity name

-- a map has the values that parameters list
abbrev pub HasListed : {S : Type 0} → HashMap (Bor (List ℕ)) (Bor (List (List ℕ))) S → List Param → Type 0
HasListed m params = (name : List ℕ) → found m name ≡ option_map (λ (p : Param). p.values) (find (λ (p : Param). bytes_eq p.name name) params)

-- the pairs of names, by what is set and what is listed for a name
abbrev pub pairs_by : (List ℕ → Option (List ℕ)) → (List ℕ → List (List ℕ)) → List (List ℕ) → List (List ℕ × List ℕ)
pairs_by set listed names = flat_map (λ name. each_of name (with_first_value (set name) (listed name))) names
