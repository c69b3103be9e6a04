-- The text of a book, line by line.
use Rattle.std.proofs.Common.{◌≡◌, ℕ, Bool, true, false, ◌+◌, ◌<◌, ◌≤◌, List, [], ◌∷◌, ◌++◌, length, take, drop, reverse, subst, refl, sym, ap, ◌∙◌, append_assoc, append-nil}
use Rattle.std.specs.Prelude.{Option, Some, None, slice_get}
use Rattle.std.specs.Option.{option_map, option_map_or}
use Rattle.std.proofs.lemmas.List.{take-append-drop, take_all, reverse-append}
use Rattle.std.proofs.lemmas.Grind.{flat_map-append}
use Rattle.report_samples.specs.declared.entries.Entry.{Entry}
use Rattle.appender_book.specs.Verdicts.{verdict_at, verdict_behind}
use Rattle.appender_book.specs.declared.verdicts.Verdict.{Verdict}
use Rattle.outside.specs.Objects.{SinkSeen, used, Took, Cut}
use Rattle.book_text.specs.Texts.{entry_line, book_text, kept_text, kept_line, kept_behind, line_at, printed, mark_at, verdict_mark}
use Rattle.book_text.specs.Flows.{Flows, Stops}
use Rattle.book_text.proofs.PlaceLemmas.{none_past, one_more}
use Rattle.book_text.proofs.FlowLemmas.{flows_none, flows_more, flows_page, flows_took, stops_after, stops_more, stops_cut}

turned : (xs : List Entry) (x : Entry) (earlier : List Entry) → reverse xs ++ x ∷ earlier ≡ reverse (x ∷ xs) ++ earlier
turned xs x earlier = sym (ap (λ z. z ++ earlier) (reverse-append (x ∷ []) xs) ∙ append_assoc (reverse xs) (x ∷ []) earlier)

-- lines with verdicts, and those behind them
kept_more : (earlier xs ys : List Entry) → kept_behind earlier (xs ++ ys) ≡ kept_behind earlier xs ++ kept_behind (reverse xs ++ earlier) ys
unfolding kept_behind
kept_more earlier [] ys = refl
kept_more earlier (x ∷ xs) ys =
    ap (λ z. kept_line earlier x ++ z) (kept_more (x ∷ earlier) xs ys ∙ ap (λ z. kept_behind (x ∷ earlier) xs ++ kept_behind z ys) (turned xs x earlier))
    ∙ sym (append_assoc (kept_line earlier x) (kept_behind (x ∷ earlier) xs) (kept_behind (reverse (x ∷ xs) ++ earlier) ys))

verdict_here : (xs : List Entry) (i : ℕ) (e : Entry) → slice_get xs i ≡ Some e → verdict_at xs i ≡ Some (verdict_behind (reverse (take i xs)) e)
unfolding verdict_at
verdict_here xs i e at = ap (option_map (verdict_behind (reverse (take i xs)))) at

kept_one : (earlier : List Entry) (e : Entry) → kept_behind earlier (e ∷ []) ≡ kept_line earlier e
unfolding kept_behind
kept_one earlier e = append-nil (kept_line earlier e)

marked : (xs : List Entry) (i : ℕ) (e : Entry) → slice_get xs i ≡ Some e → kept_line (reverse (take i xs) ++ []) e ≡ mark_at true xs i ++ entry_line e
marked xs i e at =
    ap (λ (z : List Entry). kept_line z e) (append-nil (reverse (take i xs)))
    ∙ sym (ap (λ (v : Option Verdict). option_map_or verdict_mark v [] ++ entry_line e) (verdict_here xs i e at))

-- nothing is printed of no entries
pub printed_none : (kept : Bool) → printed kept [] ≡ []
unfolding kept_behind
printed_none false = refl
printed_none true = refl

-- the text of one more entry
line_more : (kept : Bool) (xs : List Entry) (i : ℕ) (e : Entry) → slice_get xs i ≡ Some e →
    printed kept (take (i + 1) xs) ≡ printed kept (take i xs) ++ (mark_at kept xs i ++ entry_line e)
line_more false xs i e at =
    ap book_text (one_more xs i e at)
    ∙ (flat_map-append entry_line (take i xs) (e ∷ []) ∙ ap (λ z. book_text (take i xs) ++ z) (append-nil (entry_line e)))
line_more true xs i e at =
    ap kept_text (one_more xs i e at)
    ∙ (kept_more [] (take i xs) (e ∷ []) ∙ ap (λ z. kept_text (take i xs) ++ z) (kept_one (reverse (take i xs) ++ []) e ∙ marked xs i e at))

-- and of those behind it
abbrev text_behind : Bool → List Entry → ℕ → List ℕ
text_behind false xs n = book_text (drop n xs)
text_behind true xs n = kept_behind (reverse (take n xs) ++ []) (drop n xs)

book_rest : (kept : Bool) (xs : List Entry) (n : ℕ) → printed kept (take n xs) ++ text_behind kept xs n ≡ printed kept xs
book_rest false xs n = sym (flat_map-append entry_line (take n xs) (drop n xs)) ∙ ap book_text (take-append-drop n xs)
book_rest true xs n = sym (kept_more [] (take n xs) (drop n xs)) ∙ ap kept_text (take-append-drop n xs)

module _ (kept : Bool) (xs : List Entry) where
  book_more : (i : ℕ) (mark : List ℕ) → i < length xs → mark ≡ mark_at kept xs i → printed kept (take (i + 1) xs) ≡ printed kept (take i xs) ++ (mark ++ line_at xs i)
  book_more i mark lt is = by (slice_get xs i) refl
    where
      by : (o : Option Entry) → slice_get xs i ≡ o → printed kept (take (i + 1) xs) ≡ printed kept (take i xs) ++ (mark ++ option_map_or entry_line o [])
      by None at = absurd (none_past xs i at lt)
      by (Some e) at = line_more kept xs i e at ∙ ap (λ z. printed kept (take i xs) ++ (z ++ entry_line e)) (sym is)

  -- nothing stands on the page, and nothing was put
  pub flows_start : (page : List ℕ) (s : SinkSeen) → page ≡ [] → Flows (printed kept []) [] page (used s s)
  flows_start page s blank =
      subst (λ (z : List ℕ). Flows (printed kept []) [] z (used s s)) (sym blank)
      (subst (λ (z : List ℕ). Flows z [] [] (used s s)) (sym (printed_none kept)) (flows_none [] s))

  -- a put that fails behind so many lines
  pub cut_book : (i : ℕ) (b : List ℕ) (s t u : SinkSeen) → Flows (printed kept (take i xs)) [] b (used s t) → Stops [] b (used t u) → Cut (printed kept xs) (used s u)
  cut_book i b s t u f g =
      let P : List ℕ → Type 0 = λ z. Stops z [] (used s u) in
      let p : List ℕ = printed kept (take i xs) in
      let one : Stops (p ++ []) [] (used s u) = stops_after p [] [] b s t u f g in
      stops_cut (printed kept xs) s u
      (subst P (ap (λ z. z ++ text_behind kept xs i) (append-nil p) ∙ book_rest kept xs i) (stops_more (p ++ []) (text_behind kept xs i) [] s u one))

  -- all was put behind the last line
  pub took_end : (n : ℕ) (b d : List ℕ) (s t u : SinkSeen) → length xs ≤ n →
      Flows (printed kept (take n xs)) [] b (used s t) → Flows [] b d (used t u) → d ≡ [] → Took (printed kept xs) (used s u)
  took_end n b d s t u h f k none =
      let g : Flows [] b [] (used t u) = subst (λ (z : List ℕ). Flows [] b z (used t u)) none k in
      subst (λ (z : List ℕ). Took z (used s u)) (append-nil (printed kept (take n xs)) ∙ ap (printed kept) (take_all n xs h))
      (flows_took (printed kept (take n xs) ++ []) s u (flows_more (printed kept (take n xs)) [] [] b [] s t u f g))

  -- one more line, behind a page that was put where it was full
  pub flows_line : (i : ℕ) (mark b c d : List ℕ) (s t u : SinkSeen) → i < length xs → mark ≡ mark_at kept xs i →
      Flows (printed kept (take i xs)) [] b (used s t) → Flows [] b c (used t u) → d ≡ c ++ (mark ++ line_at xs i) → Flows (printed kept (take (i + 1) xs)) [] d (used s u)
  flows_line i mark b c d s t u lt is f g e =
      let line : List ℕ = mark ++ line_at xs i in
      let P : List ℕ → Type 0 = λ z. Flows z [] d (used s u) in
      let on : Flows line b d (used t u) = flows_more [] line b c d t u u g (flows_page line c d u e) in
      subst P (sym (book_more i mark lt is)) (flows_more (printed kept (take i xs)) line [] b d s t u f on)
