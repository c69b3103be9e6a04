-- Steps over trailer lines.
use Rattle.std.proofs.Common.{◌≡◌, ℕ, ◌-◌, ◌<◌, ◌≤◌, true, false, List, [], ◌∷◌, ◌++◌, length, refl, sym, ap, ◌∙◌, subst, arith, ◌&&◌, append-nil, append_assoc, true≢false}
use Rattle.std.specs.List.{list_all}
use Rattle.std.proofs.lemmas.Bool.Decides.{nat_tests}
use Rattle.std.proofs.lemmas.List.Folds.{list_all-append}
use Rattle.httparse.specs.Grammar.{LineEnd, crlf, lf, print_end}
use Rattle.http_fetch.specs.declared.stages.Stage.TheVariants.{Trailer, Whole}
use Rattle.http_fetch.specs.Chunks.{HasTrailers, Trailers, trailer_len, is_text, is_blank}
use Rattle.http_fetch.specs.Stages.{Leads, decoding}
use Rattle.http_fetch.proofs.FrontLemmas.{lines, both}
use Rattle.http_fetch.proofs.ChunkLemmas.{grown}

-- the text of the empty line, before its line feed
abbrev blank_of : LineEnd → List ℕ
blank_of crlf = 13 ∷ []
blank_of lf = []

blank-end : (e : LineEnd) (rest : List ℕ) → print_end e ++ rest ≡ blank_of e ++ 10 ∷ rest
blank-end crlf rest = refl
blank-end lf rest = refl

blank-text : (e : LineEnd) → list_all is_text (blank_of e) ≡ true
blank-text crlf = refl
blank-text lf = refl

blank-blank : (e : LineEnd) → is_blank (blank_of e) ≡ true
blank-blank crlf = refl
blank-blank lf = refl

end-of-blank : (t : List ℕ) → is_blank t ≡ true → (e : LineEnd) × (blank_of e ≡ t)
end-of-blank [] b = (lf, refl)
end-of-blank (c ∷ []) b = (let k : c ≡ 13 = grind (arith, nat_tests, b) in (crlf, ap (λ d. d ∷ []) (sym k)))
end-of-blank (c ∷ d ∷ t) b = absurd (true≢false (sym b))

-- behind a line that is not the empty one
behind-by : {room : ℕ} (t after text rest : List ℕ) (ts : List (List ℕ)) → list_all is_text t ≡ true → is_blank t ≡ false → text ≡ t ++ 10 ∷ after → Trailers ts text rest → trailer_len ts ≤ room →
    (length t < room) × HasTrailers (room - length t - 1) after
behind-by t after text rest [] one some here reads short =
    let same = lines (blank_of reads.0) t rest after (blank-text reads.0) one (sym (blank-end reads.0 rest) ∙ sym reads.1 ∙ here) in
    absurd (true≢false (sym (blank-blank reads.0) ∙ ap is_blank same.0 ∙ some))
behind-by {room} t after text rest (u ∷ ts) one some here reads short =
    let same = lines u t reads.0 after reads.1.one one (sym reads.2 ∙ here) in
    let len : length u ≡ length t = ap length same.0 in
    (omega (arith, len, short), record { lines = ts; rest = rest; reads = subst (λ x. Trailers ts x rest) same.1 reads.3; short = omega (arith, len, short) })

pub trailers-behind : (room : ℕ) (t after text : List ℕ) → list_all is_text t ≡ true → is_blank t ≡ false → text ≡ t ++ 10 ∷ after → HasTrailers room text →
    (length t < room) × HasTrailers (room - length t - 1) after
trailers-behind room t after text one some here w = behind-by t after text w.rest w.lines one some here w.reads w.short

pub trailers-before : (room : ℕ) (t after text : List ℕ) → list_all is_text t ≡ true → is_blank t ≡ false → text ≡ t ++ 10 ∷ after → length t < room → HasTrailers (room - length t - 1) after → HasTrailers room text
trailers-before room t after text one some here small w =
    let few : trailer_len w.lines ≤ room - length t - 1 = w.short in
    record { lines = t ∷ w.lines; rest = w.rest; reads = (after, record { one = one; some = some }, here, w.reads); short = omega (arith, few, small) }

pub trailers-last : (room : ℕ) (t after text : List ℕ) → is_blank t ≡ true → text ≡ t ++ 10 ∷ after → HasTrailers room text
trailers-last room t after text blank here =
    let e = end-of-blank t blank in
    record { lines = []; rest = after; reads = (e.0, here ∙ ap (λ (x : List ℕ). x ++ 10 ∷ after) (sym e.1) ∙ sym (blank-end e.0 after)); short = omega arith }

-- a line feed is needed
has-feed : (t after text : List ℕ) → text ≡ t ++ 10 ∷ after → list_all is_text text ≡ true → ⊥
has-feed t after text here none =
    let split : (list_all is_text t && list_all is_text (10 ∷ after)) ≡ true = sym (list_all-append is_text t (10 ∷ after)) ∙ ap (list_all is_text) (sym here) ∙ none in
    let second : list_all is_text (10 ∷ after) ≡ true = (both (list_all is_text t) (list_all is_text (10 ∷ after)) split).1 in
    true≢false (sym second)

none-by : (text rest : List ℕ) (ts : List (List ℕ)) → list_all is_text text ≡ true → Trailers ts text rest → ⊥
none-by text rest [] none reads = has-feed (blank_of reads.0) rest text (reads.1 ∙ blank-end reads.0 rest) none
none-by text rest (t ∷ ts) none reads = has-feed t reads.0 text reads.2 none

pub no-trailers : {room : ℕ} {text : List ℕ} → list_all is_text text ≡ true → HasTrailers room text → ⊥
no-trailers {room} {text} none w = none-by text w.rest w.lines none w.reads

-- of a text with no line feed, the line that begins with it is longer
longer-line : (text more t after : List ℕ) → list_all is_text text ≡ true → text ++ more ≡ t ++ 10 ∷ after → length text ≤ length t
longer-line [] more t after none e = omega arith
longer-line (b ∷ text) more [] after none e =
    let same : b ≡ 10 = cc in
    let n : list_all is_text (10 ∷ text) ≡ true = subst (λ k. list_all is_text (k ∷ text) ≡ true) same none in
    absurd (true≢false (sym n))
longer-line (b ∷ text) more (c ∷ t) after none e =
    let tails : text ++ more ≡ t ++ 10 ∷ after = cc in
    let k : length text ≤ length t = longer-line text more t after (both (is_text b) (list_all is_text text) none).1 tails in
    omega (arith, k)

-- what begins the empty line, and goes past none of it
blank-front : (text more t after : List ℕ) → is_blank t ≡ true → list_all is_text text ≡ true → is_blank text ≡ false → text ++ more ≡ t ++ 10 ∷ after → ⊥
blank-front [] more t after blank none some e = true≢false some
blank-front (b ∷ text) more [] after blank none some e = (let k : length (b ∷ text) ≤ length {A = ℕ} [] = longer-line (b ∷ text) more [] after none e in absurd (omega (arith, k)))
blank-front (b ∷ []) more (c ∷ []) after blank none some e = (let same : b ≡ c = cc in true≢false (sym (ap (λ d. is_blank (d ∷ [])) same ∙ blank) ∙ some))
blank-front (b ∷ d ∷ text) more (c ∷ []) after blank none some e = (let k : length (b ∷ d ∷ text) ≤ length (c ∷ []) = longer-line (b ∷ d ∷ text) more (c ∷ []) after none e in absurd (omega (arith, k)))
blank-front (b ∷ text) more (c ∷ d ∷ t) after blank none some e = true≢false (sym blank)

full-by : {room : ℕ} (text more rest : List ℕ) (ts : List (List ℕ)) → list_all is_text text ≡ true → is_blank text ≡ false → room ≤ length text → Trailers ts (text ++ more) rest → trailer_len ts ≤ room → ⊥
full-by text more rest [] none some full reads short = blank-front text more (blank_of reads.0) rest (blank-blank reads.0) none some (reads.1 ∙ blank-end reads.0 rest)
full-by text more rest (t ∷ ts) none some full reads short =
    let k : length text ≤ length t = longer-line text more t reads.0 none reads.2 in
    omega (arith, k, full, short)

pub full-trailers : {room : ℕ} (text more : List ℕ) → list_all is_text text ≡ true → is_blank text ≡ false → room ≤ length text → HasTrailers room (text ++ more) → ⊥
full-trailers text more none some full w = full-by text more w.rest w.lines none some full w.reads w.short

-- the steps
module _ (t text rest : List ℕ) (one : list_all is_text t ≡ true) (here : text ≡ t ++ 10 ∷ rest) (room limit : ℕ) (got : List ℕ) (fits : (length got ≤ limit) × (room ≤ 65536)) where
  here-more : (more : List ℕ) → text ++ more ≡ t ++ 10 ∷ (rest ++ more)
  here-more more = ap (λ (x : List ℕ). x ++ more) here ∙ append_assoc t (10 ∷ rest) more

  pub trailer-next : is_blank t ≡ false → length t < room → Leads limit (decoding (Trailer room) got text) (decoding (Trailer (room - length t - 1)) got rest)
  trailer-next some small = record {
    fits = (fits.0, (let narrow : room ≤ 65536 = fits.1 in omega (arith, narrow)));
    same = λ more. record {
      whole = grown (λ bytes w. ((trailers-behind room t (rest ++ more) (text ++ more) one some (here-more more) w.0).1, w.1));
      whole_back = grown (λ bytes w. (trailers-before room t (rest ++ more) (text ++ more) one some (here-more more) small w.0, w.1));
      over = λ w. absurd w;
      over_back = λ w. absurd w;
    };
  }

  pub trailer-last : is_blank t ≡ true → Leads limit (decoding (Trailer room) got text) (decoding (Whole 200) got rest)
  trailer-last blank = record {
    fits = fits.0;
    same = λ more. record {
      whole = λ s c w. (w.good, w.all ∙ ap (λ (x : List ℕ). got ++ x) w.more.1 ∙ append-nil got);
      whole_back = λ s c w. record { good = w.0; rest = []; more = (trailers-last room t (rest ++ more) (text ++ more) blank (here-more more), refl); within = omega arith; all = w.1 ∙ sym (append-nil got) };
      over = λ w. absurd w;
      over_back = λ w. absurd w;
    };
  }
