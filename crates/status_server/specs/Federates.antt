-- What a request for federation is answered ("Federation" of the Prometheus documentation: each match[] is an instant vector selector, and at least
-- one is needed).
use Rattle.std.specs.Prelude.{◌≡◌, ◌≢◌, ◌⊎◌, ℕ, pos, Bool, false, All, List, [], ◌∷◌, ◌++◌, Option, Some, None}
use Rattle.std.specs.List.{Any}
use Rattle.federation.specs.Federations.{IsFederated}
use Rattle.federation.specs.Readings.{IsWellFormed}
use Rattle.federation.specs.Texts.{rows_text}
use Rattle.instant_view.specs.Grammar.{IsSelector}
use Rattle.instant_view.specs.Selectors.{IsBuilt, Refuses, is_bare}
use Rattle.instant_view.specs.declared.matchers.SelectorError.TheVariants.{Bare, Pattern, Syntax}
use Rattle.instant_view.specs.declared.matchers.SelectorParts.{SelectorParts}
use Rattle.instant_view.specs.declared.rows.ViewRow.{ViewRow}
use Rattle.journal_text.specs.Events.{now_of}
use Rattle.journal_text.specs.declared.events.Event.{Event}
use Rattle.request_heads.specs.Queries.{selectors}
use Rattle.scrape_machine.specs.Machine.{book_of}
use Rattle.status_server.specs.Replies.{reply}
use Rattle.status_server.specs.declared.replies.Status.TheVariants.{BadRequest, Done}

-- a text is a selector of these parts: it is written so, each of its patterns is one, and it isn't bare
pub record IsTaken (text : List ℕ) (parts : SelectorParts) : Type 0 where
  pub written : IsSelector text parts
  pub patterns : All IsBuilt parts.matchers
  pub some : is_bare parts ≡ false

-- so is each text, in order
abbrev pub AreSelectors : List (List ℕ) → List SelectorParts → Type 0
AreSelectors [] [] = Unit {0}
AreSelectors (text ∷ texts) (parts ∷ more) = IsTaken text parts × AreSelectors texts more
AreSelectors [] (parts ∷ more) = ⊥
AreSelectors (text ∷ texts) [] = ⊥

-- a text is refused as a selector
abbrev pub IsRefused : List ℕ → Type 0
IsRefused text = Refuses Syntax text ⊎ (Refuses Pattern text ⊎ Refuses Bare text)

-- what the selectors of a query come to: none are asked for, as there is none, or one doesn't decode or is refused; or they have these parts
abbrev pub AsksNone : List ℕ → Type 0
AsksNone query =
    (selectors query ≡ None)
    ⊎ ((selectors query ≡ Some []) ⊎ ((texts : List (List ℕ)) × (selectors query ≡ Some texts) × Any IsRefused texts))

abbrev pub AsksFor : List ℕ → List SelectorParts → Type 0
AsksFor query parts = (texts : List (List ℕ)) × (selectors query ≡ Some texts) × (texts ≢ []) × AreSelectors texts parts

-- the rows that a query asks for, after a journal, at its last moment
pub record SeesRows (es : List Event) (query : List ℕ) (rows : List ViewRow) : Type 0 where
  pub parts : List SelectorParts
  pub asks : AsksFor query parts
  pub sees : IsFederated (book_of es) parts (pos (now_of es)) rows
  pub well : All IsWellFormed rows

-- after a journal, a request for federation with this query is answered so
abbrev pub IsFederate : List Event → List ℕ → Bool → List ℕ → Type 0
IsFederate es query closes text =
    (AsksNone query × (text ≡ reply BadRequest closes []))
    ⊎ ((rows : List ViewRow) × SeesRows es query rows × (text ≡ reply Done closes (rows_text rows)))

-- what a text, some texts and a query come to: the parts of selectors, or that there are none
abbrev pub IsRead : List ℕ → Option SelectorParts → Type 0
IsRead text None = IsRefused text
IsRead text (Some parts) = IsTaken text parts

abbrev pub AreRead : List (List ℕ) → Option (List SelectorParts) → Type 0
AreRead texts None = Any IsRefused texts
AreRead texts (Some parts) = AreSelectors texts parts

abbrev pub AsksSo : List ℕ → Option (List SelectorParts) → Type 0
AsksSo query None = AsksNone query
AsksSo query (Some parts) = AsksFor query parts

-- a text is that of what selectors see
abbrev pub IsTextSeen : List Event → List SelectorParts → List ℕ → Type 0
IsTextSeen es parts text =
    (rows : List ViewRow) × IsFederated (book_of es) parts (pos (now_of es)) rows × All IsWellFormed rows × (text ≡ rows_text rows)

-- a reply was appended
abbrev pub Adds : List Event → List ℕ → Bool → List ℕ → List ℕ → Type 0
Adds es query closes before after = (text : List ℕ) × IsFederate es query closes text × (after ≡ before ++ text)
