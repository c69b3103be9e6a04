use Rattle.std.proofs.Common.{ℕ, List, map, slice_get, sym, ap, ◌∙◌, subst}
use Rattle.series_cache.specs.declared.known.Known.{Known}
use Rattle.indexmap.specs.Layout.{set_value_at}
use Rattle.series_cache.specs.declared.texts.Texts.TheInside.{Inside}
use Rattle.series_cache.specs.Remembered.{marked}
use Rattle.series_cache.specs.Caches.{stamped}
use Rattle.series_cache.specs.Places.{AreDistinct, HasAt, texts_of}
use Rattle.series_cache.proofs.TextLemmas.{distinct_texts, none_at, stamped_at, texts_set, values_seen}
use Rattle.series_cache.proofs.texts.Texts.stamp.Goals as goal
use Rattle.series_cache.proofs.texts.Texts.stamp.Goals.{in-Some, in_default}

pub returns-clause-stamped : goal.returns-clause-stamped
returns-clause-stamped c = λ raw at.
    let es = c.self.inside.entries.entries in
    let i = c.args.place in
    let here : HasAt raw (texts_of es) i = subst (λ (ts : List (List ℕ × Known)). HasAt raw ts i) (sym c.self.view_is) at in
    let values = ap (λ (vs : List Known). slice_get vs i) (values_seen es) in
    elim c.match-get_index_mut.branch [
      | in-Some w ↦
          ap (λ (m : Inside). texts_of m.entries.entries) w.self-inside-is
          ∙ ap (λ (k : Known). texts_of (set_value_at es i k)) w.mark.ensures
          ∙ texts_set es i (marked c.args.tracked w.in-Some.known.now)
          ∙ stamped_at raw c.args.tracked (texts_of es) i w.in-Some.known.now (distinct_texts es c.get_index_mut.ensures.unique) here (values ∙ sym w.in-Some.ensures.value)
          ∙ ap (map (stamped raw c.args.tracked)) c.self.view_is
      | in_default w ↦ absurd (none_at raw (texts_of es) i (values ∙ sym w.in_default.ensures.value) here)
    ]

pub returns-clause-distinct : goal.returns-clause-distinct
returns-clause-distinct c = subst AreDistinct c.self.view_is (distinct_texts c.self.inside.entries.entries c.get_index_mut.ensures.unique)
