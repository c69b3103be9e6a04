-- The sample of a line by its parts.
use Rattle.std.proofs.Common.{◌≡◌, ℕ, ℤ, ◌-◌, true, false, List, length, take, refl, sym, ap, ◌∙◌, Option, Some, None, subst}
use Rattle.label_set.specs.Bytes.{is_metric_name}
use Rattle.label_set.specs.declared.texts.Pair.{Pair}
use Rattle.expo_reader.specs.Texts.{mark_at, word_at}
use Rattle.expo_reader.specs.declared.faults.Fault.{Fault}
use Rattle.expo_reader.specs.Faults.{FaultIs}
use Rattle.om_reader.specs.Forms.{Sample, after_name, cut, is_end, made, measure_at, named, sample_at}

module _ (line name rest : List ℕ) (word : word_at line ≡ Some (name, rest)) (good : is_metric_name name ≡ true) where
  at-name : sample_at line ≡ after_name line name rest (mark_at 123 rest)
  unfolding sample_at
  at-name = ap (named line) word ∙ rw good refl

  pub labels-faulty : (f : Fault) → FaultIs f (after_name line name rest (mark_at 123 rest)) → FaultIs f (sample_at line)
  labels-faulty f e = subst (FaultIs f) (sym at-name) e

  module _ (labels : List Pair) (behind : List ℕ) (said : after_name line name rest (mark_at 123 rest) ≡ cut line name labels behind) where
    raw : List ℕ
    raw = take (length line - length behind) line

    by_measure : (o : Option (List ℕ × Option ℤ × List ℕ)) → measure_at behind ≡ o → sample_at line ≡ made (take (length line - length behind) line) name labels o
    by_measure o e = at-name ∙ said ∙ ap (made (take (length line - length behind) line) name labels) e

    pub no-measure : measure_at behind ≡ None → sample_at line ≡ None
    no-measure e = by_measure None e

    module _ (value : List ℕ) (stamp : Option ℤ) (after : List ℕ) (found : measure_at behind ≡ Some (value, stamp, after)) where
      pub no-end : is_end after ≡ false → sample_at line ≡ None
      no-end e = by_measure (Some (value, stamp, after)) found ∙ rw e refl

      pub whole : is_end after ≡ true → (s : Sample) × (sample_at line ≡ Some s) × (s.raw ≡ take (length line - length behind) line) × (s.value ≡ value) × (s.stamp ≡ stamp)
      whole e = (
        record { raw = take (length line - length behind) line; name = name; labels = labels; value = value; stamp = stamp },
        by_measure (Some (value, stamp, after)) found ∙ rw e refl,
        refl,
        refl,
        refl,
      )
