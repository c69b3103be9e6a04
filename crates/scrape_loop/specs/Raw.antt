-- Which raw texts a life knows: those of rows of bodies of one form that it was given, so that a page which shows them again needn't be read anew.
use Rattle.std.specs.Prelude.{◌≡◌, ℕ, true, List}
use Rattle.label_set.specs.declared.forms.Form.{Form}
use Rattle.expo_reader.specs.Like.{IsRawText}
use Rattle.series_cache.specs.Caches.{CacheView}
use Rattle.scrape_loop.specs.Fresh.{has_text, texts_in}

abbrev pub AreRaw : Form → CacheView → Type 0
AreRaw form c = (raw : List ℕ) → has_text raw (texts_in c) ≡ true → IsRawText form raw
