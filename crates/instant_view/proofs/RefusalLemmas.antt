-- Why a text gives no selector.
use Rattle.std.proofs.Common.{◌≡◌, ℕ, List, Option, Some, None, Result, Ok, Err, IfOk, IfErr, sym, subst, ◌∙◌}
use Rattle.instant_view.specs.declared.matchers.SelectorParts.{SelectorParts}
use Rattle.instant_view.specs.declared.matchers.SelectorError.{SelectorError}
use Rattle.instant_view.specs.declared.matchers.SelectorError.TheVariants.{Syntax, Pattern, Bare, NoMemory}
use Rattle.instant_view.specs.Faults.{FaultIs}
use Rattle.instant_view.specs.Forms.{selector_in}
use Rattle.instant_view.specs.Grammar.{IsSelector}
use Rattle.instant_view.specs.Selectors.{PartsRefused, Refuses}
use Rattle.instant_view.specs.Tests.{IsFaultAmong}
use Rattle.instant_view.proofs.CompleteLemmas.{selector-found}
use Rattle.instant_view.proofs.SoundLemmas.{selector-sound}

pub among-refused : (e : SelectorError) (parts : SelectorParts) → IsFaultAmong e parts.matchers → PartsRefused e parts
among-refused Syntax parts h = h
among-refused Pattern parts h = h
among-refused Bare parts h = absurd h
among-refused NoMemory parts h = tt

refused_text : (e : SelectorError) (text : List ℕ) (parts : SelectorParts) → IsSelector text parts → PartsRefused e parts → Refuses e text
refused_text Syntax text parts is h = absurd h
refused_text Pattern text parts is h = (parts, is, h)
refused_text Bare text parts is h = (parts, is, h)
refused_text NoMemory text parts is h = tt

-- a text that isn't written as a selector
pub not-written : (e : SelectorError) (text : List ℕ) → FaultIs e (selector_in text) → Refuses e text
not-written Syntax text h = λ parts is. (let q : ◌≡◌ {A = Option SelectorParts} None (Some parts) = sym h ∙ selector-found text parts is in absurd cc)
not-written Pattern text h = absurd h
not-written Bare text h = absurd h
not-written NoMemory text h = tt

-- one that is
module _ (text : List ℕ) (parts : SelectorParts) (read : selector_in text ≡ Some parts) where
  pub written-of : (r : Result SelectorParts SelectorError) → IfOk r (λ s. s ≡ parts) → IfOk r (λ s. IsSelector text s)
  written-of (Ok s) h = subst (IsSelector text) (sym h) (selector-sound text parts read)
  written-of (Err e) h = tt

  pub refused-of : (r : Result SelectorParts SelectorError) → IfErr r (λ e. PartsRefused e parts) → IfErr r (λ e. Refuses e text)
  refused-of (Ok s) h = tt
  refused-of (Err e) h = refused_text e text parts (selector-sound text parts read) h
