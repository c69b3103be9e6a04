use Rattle.std.proofs.Common.{◌≡◌, IfSome, Some, slice_get, subst}
use Rattle.std.proofs.lemmas.Option.{IfSome_then}
use Rattle.label_set.specs.declared.forms.Form.{Form}
use Rattle.expo_reader.specs.Like.{IsRawText}
use Rattle.series_cache.specs.Caches.{CacheView}
use Rattle.scrape_loop.specs.Fresh.{texts_in}
use Rattle.scrape_loop.proofs.RawLemmas.{raw_at}
use Rattle.scrape_loop.proofs.last_texts.LastTextsRawTexts.text_at.Goals as goal

pub returns-clause-text : goal.returns-clause-text
returns-clause-text c = subst (λ (v : CacheView × Form). IfSome c.text_at.result (λ t. slice_get (texts_in v.0) c.args.place ≡ Some t.now)) c.self.view_is c.text_at.ensures

pub returns-clause-raw : goal.returns-clause-raw
returns-clause-raw c =
    subst (λ (v : CacheView × Form). IfSome c.text_at.result (λ t. IsRawText v.1 t.now)) c.self.view_is
    (IfSome_then c.text_at.result c.text_at.ensures (λ t at. raw_at c.self.inside.form c.self.inside.cache.now c.args.place t.now c.self.invariant at))
