use Rattle.std.proofs.Common.{◌++◌, string_bytes, refl, sym, ap, ◌∙◌, append_assoc, append-nil}
use Rattle.std.specs.Prelude.{flat_map}
use Rattle.std.specs.Str.{encode_utf8_all, chars}
use Rattle.std.specs.Str.Iter.{chars_rest}
use Rattle.std.proofs.lemmas.List.{nil_from_length}
use Rattle.std.proofs.lemmas.List.Concat.{flat_map-cons}
use Rattle.std.proofs.lemmas.Str.{chars-nil, chars_past_char, IsUtf8-past_char, encodes-append}
use Rattle.config_fields.specs.Places.{escaped, escaped_char}
use Rattle.config_fields.proofs.place.push_escaped.Goals as goal

pub loop-c-init : goal.loop-c-init
unfolding escaped
loop-c-init c = rw c.chars-rest.ensures.rest (record { utf8 = c.utf8.key; escaped = refl })

pub loop-c-preserved : goal.loop-c-preserved
loop-c-preserved c =
    let step = c.in-Some.ensures.steps.0 in
    let invariant = c.loop-c.invariant in
    let before = string_bytes c.loop-c.text in
    let later = chars (chars_rest c.next.new.self) in
    record {
      utf8 = IsUtf8-past_char _ _ _ invariant.utf8 step;
      escaped = rw c.in_ok-push_escaped_char.ensures
          (append_assoc before (encode_utf8_all (escaped_char c.in-Some.c)) (encode_utf8_all (flat_map escaped_char later))
          ∙ ap (λ l. before ++ l) (sym (encodes-append (escaped_char c.in-Some.c) (flat_map escaped_char later)))
          ∙ ap (λ l. before ++ encode_utf8_all l) (sym (flat_map-cons escaped_char c.in-Some.c later))
          ∙ ap (λ l. before ++ encode_utf8_all (flat_map escaped_char l)) (sym (chars_past_char _ _ _ invariant.utf8 step))
          ∙ invariant.escaped);
    }

pub returns : goal.returns
returns c =
    let none = ap chars (nil_from_length _ c.in_default.ensures.steps.0.0) ∙ chars-nil in
    sym (append-nil (string_bytes c.loop-c.text)) ∙ ap (λ l. string_bytes c.loop-c.text ++ encode_utf8_all (flat_map escaped_char l)) (sym none) ∙ c.loop-c.invariant.escaped
