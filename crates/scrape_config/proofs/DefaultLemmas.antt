-- Counting the items of lists, texts once each, and what an absent `global` says.
use Rattle.std.proofs.Common.{◌≡◌, ℕ, List, [], ◌∷◌, ◌++◌, refl, sym, drop, codes, ◌+◌, length, arith, true, false, ⊎_elim}
use Rattle.std.proofs.lemmas.Bool.{cases_Bool}
use Rattle.std.specs.Prelude.{pos}
use Rattle.std.specs.List.{list_any}
use Rattle.std.specs.Str.{bytes_eq}
use Rattle.serde_json.specs.Data.{null}
use Rattle.serde_json.specs.View.{view, items_view}
use Rattle.serde_json.specs.declared.value.Value.{Value}
use Rattle.scrape_config.specs.Defaults.{item_count, texts_under, listed_files, once, global_base, unlimited, interval_or, timeout_or, limits_or, limit_or, duration_under, text_under, whole_under}

-- a list has as many items as values
pub item_count_view : (vs : List Value) → item_count (items_view vs) ≡ length vs
item_count_view [] = refl
item_count_view (v ∷ vs) = rw (item_count_view vs) (omega arith)

-- more texts after some
pub once_append : (seen : List (List ℕ)) (ts : List (List ℕ)) (us : List (List ℕ)) → once seen (ts ++ us) ≡ once (once seen ts) us
once_append seen [] us = refl
once_append seen (t ∷ ts) us =
    ⊎_elim
    (λ (e : list_any (bytes_eq t) seen ≡ true). rw e (once_append seen ts us))
    (λ (e : list_any (bytes_eq t) seen ≡ false). rw e (once_append (seen ++ t ∷ []) ts us))
    (cases_Bool (list_any (bytes_eq t) seen))

-- some texts after those seen, and then more
pub once_more : (seen : List (List ℕ)) (ts : List (List ℕ)) (us : List (List ℕ)) → once (once seen ts) us ≡ once seen (ts ++ us)
once_more seen ts us = sym (once_append seen ts us)

-- the files of one more item
pub files_step : (vs : List Value) (i : ℕ) (v : Value) (seen new total : List (List ℕ)) → drop i vs ≡ v ∷ drop (i + 1) vs →
    new ≡ once seen (texts_under (codes "files") (view v)) → once seen (listed_files (items_view (drop i vs))) ≡ total →
    once new (listed_files (items_view (drop (i + 1) vs))) ≡ total
files_step vs i v seen new total e n inv =
    rw (n, once_more seen (texts_under (codes "files") (view v)) (listed_files (items_view (drop (i + 1) vs)))) (rw e at inv)

-- what an absent `global` says
pub global_base_null : global_base null ≡ record { interval = pos 60000; timeout = pos 10000; limits = unlimited }
unfolding global_base interval_or timeout_or limits_or limit_or duration_under text_under whole_under
global_base_null = refl
