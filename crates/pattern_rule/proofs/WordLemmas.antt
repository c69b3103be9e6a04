-- A pattern of letters, digits and a few signs is read as that word.
use Rattle.std.proofs.Common.{◌≡◌, ℕ, ◌+◌, ◌-◌, ◌*◌, ◌<◌, ◌≤◌, true, false, ◌==◌, List, [], ◌∷◌, ◌++◌, length, map, drop, Some, None, refl, sym, ap, ap₂, ◌∙◌, arith, IsUtf8, length-append, append-nil, append_assoc, drop_of_length-le, get_or, is_some, All, zero-add, ne_eqb, if◌then◌else◌}
use Rattle.std.proofs.lemmas.Bool.{both_ways, and_parts, and_from, and_left, cond-false}
use Rattle.std.proofs.lemmas.Bool.Decides.{nat_tests}
use Rattle.std.proofs.lemmas.Str.{chars-encodes, encode_ascii}
use Rattle.std.specs.Str.{chars}
use Rattle.std.specs.Char.{encode_utf8}
use Rattle.std.specs.List.{list_all}
use lib.Utf8.{scalar, scalars, encodes}
use Rattle.regex_hir.specs.declared.look.Look.TheVariants.{Start, End}
use Rattle.regex_hir.specs.Meaning.{cat_all, alt_all}
use Rattle.regex_hir.specs.Re.{Re, literal, cat, look}
use Rattle.regex_syntax.proofs.BranchLemmas.{ends_branch, Read, repetitions_end, join_after, branch_ends, branch_goes, more_parts, group_inside, join_parts_is, branches_go, more_branches, join_ends}
use Rattle.regex_syntax.proofs.EscapeLemmas.{itself, literals}
use Rattle.regex_syntax.proofs.ReadingLemmas.{skip-false}
use Rattle.regex_syntax.proofs.TreeLaws.{◌then◌, cat_cong, same_refl, same_of_eq, alt-fail, cat-empty}
use Rattle.regex_syntax.proofs.Written.{IsReadAs}
use Rattle.regex_syntax.specs.Brackets.{Nested, flat, join}
use Rattle.regex_syntax.specs.declared.Config.{Config}
use Rattle.regex_syntax.specs.Escapes.{is_verbose}
use Rattle.regex_syntax.specs.Grammar.{Names, Place, opens, atom, char_meaning, item, with_repetitions, items, read, join_parts, branches, opening, set_flags, set_flag}
use Rattle.regex_syntax.specs.Reading.{Text, is_at, first, skip, ◌>>=◌}
use Rattle.regex_syntax.specs.Sets.{verbatim}
use Rattle.regex.specs.Patterns.{default_config}
use Rattle.std.proofs.lemmas.Bool.Decides.{same_from_decides}
use Rattle.std.proofs.lemmas.List.{get_or_default}
use Rattle.std.proofs.lemmas.Slice.Eq.{bytes_eq-Decides}
use Rattle.std.specs.Str.{bytes_eq}
use Rattle.regex.specs.Patterns.{find_str}
use Rattle.regex.proofs.ForCallers.{whole_of_is_match, is_match_of_whole}
use Rattle.regex_hir.proofs.TextLemmas.{has_bytes_at_parts, has_bytes_at_from}
use Rattle.regex_syntax.proofs.CapturesLemmas.{spans}
use Rattle.regex_syntax.proofs.Written.{is_some-option_map}
use Rattle.pattern_rule.proofs.DefaultLemmas.{read_spans}
use Rattle.pattern_rule.specs.Patterns.{is_word_byte, anchored, reading, match_of, matches}

differs : (c d : ℕ) → is_word_byte c ≡ true → is_word_byte d ≡ false → (c == d) ≡ false
differs c d word other = ne_eqb c d (λ e. both_ways _ (ap is_word_byte e ∙ other) word)

module _ (config : Config) (names : Names) (exact : config.flags.case_insensitive ≡ false) (dense : config.flags.ignore_whitespace ≡ false) where
  abbrev at_text : Text → Place
  at_text t = record { config = config; names = names; text = t }

  no_skip : (t : Text) → t ≡ skip (is_verbose config) t
  no_skip t = sym (ap (λ v. skip v t) dense ∙ skip-false t)

  verbatim_itself : (c : ℕ) → verbatim config c false ≡ Some (literal (encode_utf8 c))
  unfolding verbatim
  verbatim_itself c = cond-false _ _ _ (and_left _ _ exact)

  word_atom : (c : ℕ) (rest : Text) → is_word_byte c ≡ true → atom config (c ∷ rest) ≡ Some (itself c, rest)
  unfolding atom first char_meaning is_word_byte
  word_atom c rest word = rw (
    atom,
    char_meaning,
    differs c 63 word refl,
    differs c 42 word refl,
    differs c 43 word refl,
    differs c 123 word refl,
    differs c 91 word refl,
    differs c 92 word refl,
    differs c 46 word refl,
    differs c 94 word refl,
    differs c 36 word refl,
    verbatim_itself,
  )

  begins_no_group : (c : ℕ) (rest : Text) → is_word_byte c ≡ true → (is_at "(" (c ∷ rest) ≡ false) × (ends_branch (c ∷ rest) ≡ false)
  unfolding first is_word_byte
  begins_no_group c rest word = (differs c 40 word refl, rw (differs c 124 word refl, differs c 41 word refl) (grind (arith, nat_tests)))

  no_operator : (cs rest : Text) → list_all is_word_byte cs ≡ true → is_at "?*+{" rest ≡ false → is_at "?*+{" (cs ++ rest) ≡ false
  unfolding first is_word_byte
  no_operator [] rest word h = h
  no_operator (c ∷ cs) rest word h =
      let one = (and_parts (is_word_byte c) (list_all is_word_byte cs) word).0 in
      rw (differs c 63 one refl, differs c 42 one refl, differs c 43 one refl, differs c 123 one refl)

  item_of_atom : (inner : Place → Read (Nested Re)) (t rest : Text) (part : Nested Re) → is_at "(" t ≡ false →
      atom config t ≡ Some (part, rest) → is_at "?*+{" rest ≡ false → item inner (at_text t) ≡ Some (part, at_text rest)
  unfolding item with_repetitions
  item_of_atom inner t rest part no_group read_atom h =
      rw (
        item,
        no_group,
        read_atom,
        with_repetitions,
        repetitions_end config (length rest + 1) (length rest) part rest rest (omega arith) (no_skip rest) h,
      )

  branch_passes : (n m : ℕ) (earlier : List (Nested Re)) (t rest : Text) (part : Nested Re) → n ≡ m + 1 →
      (is_at "(" t ≡ false) × (ends_branch t ≡ false) → atom config t ≡ Some (part, rest) → is_at "?*+{" rest ≡ false →
      join_after cat_all earlier (items n (at_text t)) ≡ join_after cat_all (earlier ++ part ∷ []) (items m (at_text rest))
  branch_passes n m earlier t rest part e begins read_atom h =
      branch_goes n m earlier (at_text t) t (omega arith) (no_skip t) begins.1
      ∙ ap (λ o. o >>= more_parts m earlier) (item_of_atom (group_inside m) t rest part begins.0 read_atom h)

  items_word : (cs rest : Text) (n m : ℕ) (earlier : List (Nested Re)) → list_all is_word_byte cs ≡ true → n ≡ length cs + m → is_at "?*+{" rest ≡ false →
      join_after cat_all earlier (items n (at_text (cs ++ rest))) ≡ join_after cat_all (earlier ++ map itself cs) (items m (at_text rest))
  items_word [] rest n m earlier word e h = rw (append-nil, e ∙ zero-add m)
  items_word (c ∷ cs) rest n m earlier word e h =
      let parts = and_parts (is_word_byte c) (list_all is_word_byte cs) word in
      branch_passes n (n - 1) earlier (c ∷ cs ++ rest) (cs ++ rest) (itself c) (omega arith) (begins_no_group c (cs ++ rest) parts.0)
      (word_atom c (cs ++ rest) parts.0) (no_operator cs rest parts.1 h)
      ∙ items_word cs rest (n - 1) m (earlier ++ itself c ∷ []) parts.1 (omega arith) h
      ∙ ap (λ all. join_after cat_all all (items m (at_text rest))) (append_assoc earlier (itself c ∷ []) (map itself cs))

  -- a word inside a group that ends the pattern
  group_word : (cs : Text) (n : ℕ) → list_all is_word_byte cs ≡ true → length cs + 3 ≤ n →
      group_inside n (at_text (cs ++ 41 ∷ 36 ∷ [])) ≡ Some (join alt_all (join cat_all (map itself cs) ∷ []), at_text (41 ∷ 36 ∷ []))
  unfolding first
  group_word cs n word h =
      let k = n - 1 - length cs in
      join_parts_is alt_all _ ∙ branches_go n (n - 1) [] _ (omega arith)
      ∙ ap (λ o. o >>= more_branches (n - 1) [])
      (join_parts_is cat_all _ ∙ items_word cs (41 ∷ 36 ∷ []) (n - 1) k [] word (omega arith) refl
      ∙ branch_ends k (k - 1) (map itself cs) (at_text (41 ∷ 36 ∷ [])) (41 ∷ 36 ∷ []) (omega arith) (no_skip (41 ∷ 36 ∷ [])) refl)
      ∙ join_ends alt_all (join cat_all (map itself cs) ∷ []) _

abbrev inside_config : Config
inside_config = record default_config { flags = record (default_config.flags) { dot_matches_new_line = true } }

abbrev one_name : Names
one_name = None ∷ []

-- the place outside the group, and the one inside
abbrev outside : Text → Place
outside t = record { config = default_config; names = one_name; text = t }

abbrev inside : Text → Place
inside t = record { config = inside_config; names = one_name; text = t }

opened : (rest : Text) → opening (outside (40 ∷ 63 ∷ 115 ∷ 58 ∷ rest)) ≡ Some (opens (λ re. re), inside rest)
unfolding opening set_flags set_flag first skip
opened rest = refl

abbrev word_group : Text → Nested Re
word_group cs =
    let sub : Nested Re = join alt_all (join cat_all (map itself cs) ∷ []) in
    record { value = sub.value; depth = sub.depth + 1 }

group_item : (cs : Text) (n : ℕ) → list_all is_word_byte cs ≡ true → length cs + 3 ≤ n →
    item (group_inside n) (outside (40 ∷ 63 ∷ 115 ∷ 58 ∷ cs ++ 41 ∷ 36 ∷ [])) ≡ Some (word_group cs, outside (36 ∷ []))
unfolding item with_repetitions first
group_item cs n word h =
    rw (
      item,
      opened (cs ++ 41 ∷ 36 ∷ []),
      group_word inside_config one_name refl refl cs n word h,
      with_repetitions,
      repetitions_end default_config 2 1 (word_group cs) (36 ∷ []) (36 ∷ []) (omega arith) (no_skip default_config one_name refl refl (36 ∷ [])) refl,
    ) refl

abbrev first_line : Nested Re
first_line = flat (look Start)

abbrev last_line : Nested Re
last_line = flat (look End)

abbrev word_text : Text → Text
word_text cs = 94 ∷ 40 ∷ 63 ∷ 115 ∷ 58 ∷ cs ++ 41 ∷ 36 ∷ []

branch_word : (cs : Text) (n : ℕ) → list_all is_word_byte cs ≡ true → length cs + 7 ≤ n →
    join_after cat_all [] (items n (outside (word_text cs))) ≡ Some (join cat_all (first_line ∷ word_group cs ∷ last_line ∷ []), outside [])
unfolding first atom char_meaning
branch_word cs n word h =
    let group_text : Text = 40 ∷ 63 ∷ 115 ∷ 58 ∷ cs ++ 41 ∷ 36 ∷ [] in
    branch_passes default_config one_name refl refl n (n - 1) [] (94 ∷ group_text) group_text first_line (omega arith) (refl, grind (arith, nat_tests)) refl refl
    ∙ branch_goes (n - 1) (n - 2) (first_line ∷ []) (outside group_text) group_text (omega arith) (no_skip default_config one_name refl refl group_text) (grind (arith, nat_tests))
    ∙ ap (λ o. o >>= more_parts (n - 2) (first_line ∷ [])) (group_item cs (n - 2) word (omega arith))
    ∙ branch_passes default_config one_name refl refl (n - 2) (n - 3) (first_line ∷ word_group cs ∷ []) (36 ∷ []) [] last_line (omega arith) (refl, refl) refl refl
    ∙ branch_ends (n - 3) (n - 4) (first_line ∷ word_group cs ∷ last_line ∷ []) (outside []) [] (omega arith) (no_skip default_config one_name refl refl []) refl

read_branch : (t : Text) (branch : Nested Re) → join_after cat_all [] (items (2 * length t + 1) (outside t)) ≡ Some (branch, outside []) →
    join_parts alt_all (branches (2 * length t + 2) (outside t)) ≡ Some (join alt_all (branch ∷ []), outside [])
unfolding first
read_branch t branch h =
    join_parts_is alt_all _ ∙ branches_go _ (2 * length t + 1) [] _ (omega arith)
    ∙ ap (λ o. o >>= more_branches (2 * length t + 1) []) (join_parts_is cat_all _ ∙ h) ∙ join_ends alt_all (branch ∷ []) _

word_small : (c : ℕ) → is_word_byte c ≡ true → c < 128
unfolding is_word_byte
word_small c word = grind (arith, nat_tests)

low_is_scalar : (c : ℕ) → c < 128 → scalar c ≡ true
low_is_scalar c h = grind (arith, nat_tests)

scalars-append : (xs ys : List ℕ) → scalars xs ≡ true → scalars ys ≡ true → scalars (xs ++ ys) ≡ true
scalars-append [] ys p q = q
scalars-append (x ∷ xs) ys p q = and_from _ _ (and_parts _ _ p).0 (scalars-append xs ys (and_parts _ _ p).1 q)

encodes-append : (xs ys : List ℕ) → encodes (xs ++ ys) ≡ encodes xs ++ encodes ys
encodes-append [] ys = refl
encodes-append (x ∷ xs) ys = ap (λ z. encode_utf8 x ++ z) (encodes-append xs ys) ∙ sym (append_assoc (encode_utf8 x) (encodes xs) (encodes ys))

-- the bytes of a word are its characters
word_scalars : (cs : List ℕ) → list_all is_word_byte cs ≡ true → (scalars cs ≡ true) × (encodes cs ≡ cs)
word_scalars [] word = (refl, refl)
word_scalars (c ∷ cs) word =
    let parts = and_parts (is_word_byte c) (list_all is_word_byte cs) word in
    let low = word_small c parts.0 in
    let more = word_scalars cs parts.1 in
    (and_from _ _ (low_is_scalar c low) more.0, ap₂ (λ x y. x ++ y) (encode_ascii c low) more.1)

-- between the anchors it is read as the word itself
pub word_read : (cs : List ℕ) → list_all is_word_byte cs ≡ true → IsReadAs default_config (anchored cs) (cat (look Start) (cat (literal cs) (look End)))
unfolding read first encode_utf8
word_read cs word =
    let t = word_text cs in
    let each = word_scalars cs word in
    let lengths = length-append cs (41 ∷ 36 ∷ []) in
    let read_all = read_branch t _ (branch_word cs (2 * length t + 1) word (omega (arith, lengths))) in
    let whole : scalars t ≡ true = scalars-append cs (41 ∷ 36 ∷ []) each.0 refl in
    let same : encodes t ≡ t = ap (λ x. 94 ∷ 40 ∷ 63 ∷ 115 ∷ 58 ∷ x) (encodes-append cs (41 ∷ 36 ∷ []) ∙ ap (λ x. x ++ 41 ∷ 36 ∷ []) each.1) in
    let characters : chars t ≡ t = ap chars (sym same) ∙ chars-encodes t whole in
    rw (characters, read, read_all)
    (alt-fail _ then cat_cong (same_refl _) (cat_cong (alt-fail _ then literals cs then same_of_eq (ap literal each.1)) (cat-empty _)))

abbrev word_re : List ℕ → Re
word_re word = cat (look Start) (cat (literal word) (look End))

-- the tree matches the word, and nothing else
only_word : (word hay : List ℕ) → is_some (find_str (word_re word) hay 0) ≡ true → word ≡ hay
only_word word hay h =
    let m = whole_of_is_match (literal word) hay h in
    let front = has_bytes_at_parts hay 0 word m.0 in
    let rest : drop (0 + length word) hay ≡ [] = drop_of_length-le hay (omega (arith, m.1)) in
    sym (front ∙ ap (λ x. word ++ x) rest ∙ append-nil word)

the_word : (word hay : List ℕ) → IsUtf8 hay → word ≡ hay → is_some (find_str (word_re word) hay 0) ≡ true
the_word word hay utf8 e =
    is_match_of_whole (literal word) hay utf8 (has_bytes_at_from hay 0 word [] (sym e ∙ sym (append-nil word)), omega (arith, ap length e))

-- so a pattern that is a word matches that word alone
pub word_matches : (p hay : List ℕ) → IsUtf8 hay → ((k : ℕ) → get_or hay k 0 < 256) → list_all is_word_byte p ≡ true → bytes_eq p hay ≡ matches p hay
unfolding matches match_of reading
word_matches p hay utf8 bytes word =
    let small : All (λ x. x < 256) hay = λ k d h. rw (get_or_default hay k d 0 h) (bytes k) in
    let tree : is_some (find_str (word_re p) hay 0) ≡ matches p hay =
    sym (is_some-option_map spans _) ∙ ap is_some (sym (read_spans _ (word_re p) (word_read p word) hay small)) ∙ is_some-option_map spans _ in
    same_from_decides (bytes_eq p hay) (is_some (find_str (word_re p) hay 0)) (bytes_eq-Decides p hay) (only_word p hay, the_word p hay utf8) ∙ tree
