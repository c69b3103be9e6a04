-- The pattern `(.*)` matches every text, and its group has all of it.
use Rattle.std.proofs.Common.{◌≡◌, ℕ, zero, suc, ◌+◌, ◌-◌, ◌<◌, ◌≤◌, true, false, cond, List, [], ◌∷◌, ◌++◌, length, drop, get_or, Option, Some, None, IsSomeAnd, is_some, option_map, option_and_then, codes, refl, sym, ap, ap₂, ◌∙◌, arith, IsUtf8, encode_utf8_all, length-append, length-drop, append-nil, take_all, slice_range, All, if◌then◌else◌, lt-ltb, nat_lt}
use Rattle.std.specs.Char.{len_utf8, encode_utf8}
use Rattle.std.proofs.lemmas.Bool.{and_parts}
use Rattle.std.proofs.lemmas.Bool.Decides.{nat_tests}
use Rattle.std.proofs.lemmas.Str.{length-encode, len_utf8_bounds, IsCharBoundary-start, drop_past_char}
use Rattle.std.specs.Char.{IsScalar}
use Rattle.std.specs.Str.{all_scalars}
use lib.Utf8.{scalar}
use Rattle.regex_class.specs.Ranges.{Range, in_range, in_ranges}
use Rattle.std.proofs.lemmas.Option.{slice_get_past}
use Rattle.regex.proofs.Utf8Lemmas.{test_of_IsCharBoundary}
use Rattle.regex_hir.specs.Find.{first_from}
use Rattle.regex_hir.specs.Looks.{holds_between}
use Rattle.regex_hir.specs.Re.{Re, Trace, Rest, accept, attempt, rounds, write, empty, char_in, look, cat, alt, group, plus}
use Rattle.regex_hir.proofs.TextLemmas.{char_at_from, char_at_past, byte_before-zero}
use Rattle.regex.specs.Patterns.{Match, Start, End, find_str, slot_of, holds, default_config}
use Rattle.regex.proofs.OnLiterals.{regex_on_literals, IsReadAs, alone, class_is, same_group, same_plus, same_refl, ◌then◌, cat_cong, alt_cong, cat-empty, alt-fail}
use Rattle.regex.specs.Replace.{group_bytes}
use Rattle.std.proofs.lemmas.List.{get_or_default}
use Rattle.regex.specs.Templates.{written_after}
use Rattle.regex_syntax.specs.Brackets.{Nested}
use Rattle.regex_syntax.specs.Grammar.{Names}
use Rattle.regex_syntax.specs.Same.{SameTree}
use Rattle.regex_syntax.proofs.CapturesLemmas.{spans, find_str_alike, alike_of_same}
use Rattle.regex_syntax.proofs.Written.{is_some-option_map}
use Rattle.std.specs.List.{list_any}
use Rattle.std.proofs.lemmas.Bool.{or_parts, not-true}
use Rattle.std.proofs.lemmas.Slice.Eq.{bytes_eq-Decides}
use Rattle.std.specs.Str.{bytes_eq}
use Rattle.pattern_rule.proofs.PatternLemmas.{writes, through}
use Rattle.pattern_rule.specs.Patterns.{is_dollar, is_plain, some_if, anchored, reading, group_names, match_of, matches, expansion}

abbrev all_chars : List Range
all_chars = (0, 0x10FFFF) ∷ []

-- as many characters as there are
abbrev all_text : Re
all_text = alt (plus true (char_in all_chars)) empty

abbrev default_re : Re
default_re = cat (look Start) (cat (group 1 all_text) (look End))

written : IsReadAs default_config (anchored (codes "(.*)")) default_re
unfolding regex_on_literals
written =
    alt-fail _ then cat_cong (same_refl _)
    (cat_cong (alone (same_group 1 (alone (alt_cong (same_plus true (class_is _ all_chars (λ c le. grind arith))) (same_refl _))))) (cat-empty _))

names_are : group_names (codes "(.*)") ≡ None ∷ None ∷ []
unfolding group_names reading regex_on_literals
names_are = refl

in_all : (c : ℕ) → IsScalar c → in_ranges all_chars c ≡ true
unfolding in_ranges in_range
in_all c s = grind (arith, nat_tests)

scalar_cases_of : (c : ℕ) → scalar c ≡ true → IsScalar c
scalar_cases_of c e = grind (arith, nat_tests)

scalar_is : (c : ℕ) (cs : List ℕ) → all_scalars (c ∷ cs) ≡ true → IsScalar c × (all_scalars cs ≡ true)
scalar_is c cs e = let parts = and_parts (scalar c) (all_scalars cs) e in let one : scalar c ≡ true = parts.0 in (scalar_cases_of c one, parts.1)

module _ (hay : List ℕ) (k : Rest) (t : Trace) (last : k (length hay) ≡ Some t) where
  at_end : (i : ℕ) → i ≤ length hay → drop i hay ≡ [] → k i ≡ Some t
  at_end i le e = let same : i ≡ length hay = omega (arith, ap length e, length-drop i hay) in ap k same ∙ last

  -- one more character, and then what is made of the rest
  one_more : (next : Rest) (i c : ℕ) (rest : List ℕ) → IsScalar c → drop i hay ≡ encode_utf8 c ++ rest →
      attempt hay (char_in all_chars) next i ≡ next (i + len_utf8 c)
  unfolding attempt
  one_more next i c rest s e = rw (char_at_from hay i c rest s e, in_all c s) refl

  none_more : (next : Rest) (i : ℕ) → length hay ≤ i → attempt hay (char_in all_chars) next i ≡ None
  unfolding attempt
  none_more next i le = rw (char_at_past hay i le) refl

  -- the rounds take every character that is left
  scan : (cs : List ℕ) → all_scalars cs ≡ true → (i n : ℕ) → i ≤ length hay → drop i hay ≡ encode_utf8_all cs → length (encode_utf8_all cs) ≤ n →
      rounds true (attempt hay (char_in all_chars)) k n i ≡ Some t
  unfolding rounds
  scan [] s i zero le e h = at_end i le e
  scan [] s i (suc n) le e h = rw (none_more (λ l. cond (nat_lt i l) (rounds true (attempt hay (char_in all_chars)) k n l) None) i (omega (arith, ap length e, length-drop i hay))) (at_end i le e)
  scan (c ∷ cs) s i zero le e h = absurd (omega (arith, length-append (encode_utf8 c) (encode_utf8_all cs), length-encode c, len_utf8_bounds c))
  scan (c ∷ cs) s i (suc n) le e h =
      let parts = scalar_is c cs s in
      let lengths = length-append (encode_utf8 c) (encode_utf8_all cs) in
      let here = ap length e in
      let more = scan cs parts.1 (i + len_utf8 c) n (omega (arith, lengths, here, length-drop i hay, length-encode c)) (drop_past_char hay (encode_utf8_all cs) i c e)
      (omega (arith, lengths, length-encode c, len_utf8_bounds c)) in
      rw (
        one_more (λ l. cond (nat_lt i l) (rounds true (attempt hay (char_in all_chars)) k n l) None) i c (encode_utf8_all cs) parts.0 e,
        lt-ltb i (i + len_utf8 c) (omega (arith, len_utf8_bounds c)),
        more,
      ) refl

  -- all of the text, whatever follows
  whole : (cs : List ℕ) → all_scalars cs ≡ true → hay ≡ encode_utf8_all cs → attempt hay all_text k 0 ≡ Some t
  unfolding attempt
  whole [] s e = rw (none_more (λ j. cond (nat_lt 0 j) (rounds true (attempt hay (char_in all_chars)) k (length hay - j) j) (k j)) 0 (omega (arith, ap length e)))
      (at_end 0 (omega arith) e)
  whole (c ∷ cs) s e =
      let parts = scalar_is c cs s in
      let lengths = length-append (encode_utf8 c) (encode_utf8_all cs) in
      let more = scan cs parts.1 (0 + len_utf8 c) (length hay - (0 + len_utf8 c)) (omega (arith, lengths, ap length e, length-encode c)) (drop_past_char hay (encode_utf8_all cs) 0 c e)
      (omega (arith, lengths, ap length e, length-encode c)) in
      rw (
        one_more (λ j. cond (nat_lt 0 j) (rounds true (attempt hay (char_in all_chars)) k (length hay - j) j) (k j)) 0 c (encode_utf8_all cs) parts.0 e,
        lt-ltb 0 (0 + len_utf8 c) (omega (arith, len_utf8_bounds c)),
        more,
      ) refl

-- the match of a whole text, its group 1 the same
abbrev whole_match : List ℕ → Match
whole_match hay = record { start = 0; trace = record { end = length hay; writes = (2, 0) ∷ (3, length hay) ∷ [] } }

starts : (hay : List ℕ) → holds Start hay 0 ≡ true
unfolding holds holds_between
starts hay = rw (byte_before-zero hay) refl

ends : (hay : List ℕ) → holds End hay (length hay) ≡ true
unfolding holds holds_between
ends hay = rw (slice_get_past hay (length hay) (omega arith)) refl

attempted : (hay : List ℕ) → IsUtf8 hay → attempt hay default_re accept 0 ≡ Some (whole_match hay).trace
unfolding attempt
attempted hay utf8 =
    let k : Rest = λ j. write 3 j (cond (holds End hay j) (accept j) None) in
    let last : k (length hay) ≡ Some (record { end = length hay; writes = (3, length hay) ∷ [] }) = rw (ends hay) refl in
    rw (starts hay, whole hay k _ last utf8.0 utf8.1.0 (sym utf8.1.1)) refl

found : (hay : List ℕ) → IsUtf8 hay → find_str default_re hay 0 ≡ Some (whole_match hay)
unfolding find_str first_from
found hay utf8 =
    let more : length hay + 1 - 0 ≡ suc (length hay) = omega arith in
    rw (more, first_from, test_of_IsCharBoundary hay 0 (IsCharBoundary-start hay utf8), attempted hay utf8) refl

-- where the text is read as a tree, the match is what a search by the tree finds, as a caller sees it
pub read_spans : (o : Option (Nested Re × Names)) (re : Re) → IsSomeAnd o (λ (found, _). SameTree found.value re) → (hay : List ℕ) → All (λ x. x < 256) hay →
    option_map spans (option_and_then (λ (found, _). find_str found.value hay 0) o) ≡ option_map spans (find_str re hay 0)
read_spans None re p hay small = absurd p
read_spans (Some x) re p hay small = find_str_alike x.0.value re (alike_of_same p.matches) hay small 0

module _ (hay : List ℕ) (utf8 : IsUtf8 hay) (small : All (λ x. x < 256) hay) where
  default_spans : option_map spans (match_of (codes "(.*)") hay) ≡ Some (spans (whole_match hay))
  unfolding match_of reading
  default_spans = read_spans _ default_re written hay small ∙ ap (option_map spans) (found hay utf8)

  -- it matches every text
  pub default_matches : matches (codes "(.*)") hay ≡ true
  unfolding matches
  default_matches = sym (is_some-option_map spans (match_of (codes "(.*)") hay)) ∙ ap is_some default_spans

  default_expansion : (template : List ℕ) → expansion (codes "(.*)") template hay ≡ Some (writes (None ∷ None ∷ []) template hay (spans (whole_match hay)))
  unfolding expansion
  default_expansion template =
      through (group_names (codes "(.*)")) template hay (match_of (codes "(.*)") hay)
      ∙ ap (option_map (writes (group_names (codes "(.*)")) template hay)) default_spans
      ∙ ap (λ names. Some (writes names template hay (spans (whole_match hay)))) names_are

  first_group : writes (None ∷ None ∷ []) (codes "$1") hay (spans (whole_match hay)) ≡ hay
  unfolding regex_on_literals slot_of
  first_group = append-nil (slice_range hay 0 (length hay)) ∙ take_all (length hay - 0) hay (omega arith)

  -- `$1` writes the text
  pub default_first : expansion (codes "(.*)") (codes "$1") hay ≡ Some hay
  default_first = default_expansion (codes "$1") ∙ ap Some first_group

-- a template with no dollar sign writes itself
pub written_plain : (names : Names) (g : ℕ → List ℕ) (t : List ℕ) → list_any is_dollar t ≡ false → written_after names g t 0 ≡ t
unfolding written_after
written_plain names g [] e = refl
written_plain names g (b ∷ t) e =
    let parts = or_parts (is_dollar b) (list_any is_dollar t) e in
    rw (parts.0, written_plain names g t parts.1) refl

plain_writes : (names : Names) (hay t : List ℕ) (o : Option Match) → list_any is_dollar t ≡ false →
    option_map (λ m. written_after names (group_bytes hay m) t 0) o ≡ some_if (is_some o) t
plain_writes names hay t None e = refl
plain_writes names hay t (Some m) e = ap Some (written_plain names (group_bytes hay m) t e)

-- what a template with no dollar sign gives under any pattern
pub plain_is : (p t hay : List ℕ) → is_plain t ≡ true → expansion p t hay ≡ some_if (matches p hay) t
unfolding expansion matches
plain_is p t hay e = plain_writes (group_names p) hay t (match_of p hay) (not-true _ e)

follows : (names : Names) (hay t u : List ℕ) (o : Option Match) →
    some_if (is_some o) t ≡ option_map (λ _. t) (option_map (λ m. written_after names (group_bytes hay m) u 0) o)
follows names hay t u None = refl
follows names hay t u (Some m) = refl

-- and beside any other template
pub plain_follows : (p t u hay : List ℕ) → is_plain t ≡ true → expansion p t hay ≡ option_map (λ _. t) (expansion p u hay)
unfolding expansion
plain_follows p t u hay e =
    plain_writes (group_names p) hay t (match_of p hay) (not-true _ e) ∙ follows (group_names p) hay t u (match_of p hay)

-- what the flags of a pattern and a template say
pub any_matches : (p hay : List ℕ) → IsUtf8 hay → ((k : ℕ) → get_or hay k 0 < 256) → bytes_eq p (codes "(.*)") ≡ true → matches p hay ≡ true
any_matches p hay utf8 bytes e =
    ap (λ q. matches q hay) ((bytes_eq-Decides p (codes "(.*)")).0 e) ∙ default_matches hay utf8 (λ k d h. rw (get_or_default hay k d 0 h) (bytes k))

pub any_first : (p t hay : List ℕ) → IsUtf8 hay → ((k : ℕ) → get_or hay k 0 < 256) → bytes_eq p (codes "(.*)") ≡ true → bytes_eq t (codes "$1") ≡ true →
    expansion p t hay ≡ Some hay
any_first p t hay utf8 bytes e f =
    ap₂ (λ q u. expansion q u hay) ((bytes_eq-Decides p (codes "(.*)")).0 e) ((bytes_eq-Decides t (codes "$1")).0 f)
    ∙ default_first hay utf8 (λ k d h. rw (get_or_default hay k d 0 h) (bytes k))
