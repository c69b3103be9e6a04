-- What `at` prints: what a selector sees at a moment in the book of a script's journal. And what is said of a text that is no selector.
use Rattle.std.specs.Prelude.{◌≡◌, ℕ, ℤ, ⊤, All, false, List, ◌++◌, flat_map, codes}
use Rattle.std.specs.Fmt.{signed_decimal}
use Rattle.std.specs.List.{Any}
use Rattle.label_set.specs.SetText.{set_text}
use Rattle.report_samples.specs.declared.entries.Entry.{Entry}
use Rattle.instant_view.specs.Grammar.{IsSelector}
use Rattle.instant_view.specs.Selectors.{IsBuilt, IsRefused, Refuses, is_bare}
use Rattle.instant_view.specs.Views.{IsInstantView}
use Rattle.instant_view.specs.declared.matchers.SelectorError.{SelectorError}
use Rattle.instant_view.specs.declared.matchers.SelectorError.TheVariants as error
use Rattle.instant_view.specs.declared.matchers.SelectorParts.{SelectorParts}
use Rattle.instant_view.specs.declared.rows.ViewRow.{ViewRow}
use Rattle.command_words.specs.declared.words.Command.{Command}
use Rattle.command_words.specs.declared.words.Command.TheVariants.{Replay, Check, Convert, At}
use Rattle.scrape_commands.specs.declared.refusals.Refusal.{Refusal}
use Rattle.scrape_commands.specs.declared.refusals.Refusal.TheVariants.{Selector, NoMemory}
use Rattle.scrape_commands.specs.declared.refusals.SelectorFault.{SelectorFault}
use Rattle.scrape_commands.specs.declared.refusals.SelectorFault.TheVariants.{Syntax, Pattern, Bare}

-- `<moment> <set> <value>` and a line feed
unfoldable pub row_line : ViewRow → List ℕ
row_line row = signed_decimal row.moment ++ (codes " " ++ (set_text row.series ++ (codes " " ++ (row.value ++ codes "\n"))))

abbrev pub rows_text : List ViewRow → List ℕ
rows_text rows = flat_map row_line rows

-- the lines of the rows that a selector sees at a moment in a book
unfoldable pub IsViewText : List Entry → SelectorParts → ℤ → List ℕ → Type 0
IsViewText entries parts t text = (rows : List ViewRow) × IsInstantView entries parts t rows × (text ≡ rows_text rows)

-- the text is a selector of these parts: its patterns are patterns, and it asks for something
pub record IsSelectorOf (text : List ℕ) (parts : SelectorParts) : Type 0 where
  pub written : IsSelector text parts
  pub built : All IsBuilt parts.matchers
  pub some : is_bare parts ≡ false

-- a command has its selector: that of `at` is one, and the others need none
abbrev pub IsReady : Command → Type 0
IsReady (Replay cut) = ⊤
IsReady Check = ⊤
IsReady Convert = ⊤
IsReady (At i) = (parts : SelectorParts) × IsSelectorOf i.selector parts

-- the text is a selector, asks for something, and no pattern of it may be refused
pub record IsSure (text : List ℕ) : Type 0 where
  pub parts : SelectorParts
  pub written : IsSelector text parts
  pub some : is_bare parts ≡ false
  pub patterns : ¬ Any IsRefused parts.matchers

-- the same of the selector of a command
abbrev pub IsSureOf : Command → Type 0
IsSureOf (Replay cut) = ⊤
IsSureOf Check = ⊤
IsSureOf Convert = ⊤
IsSureOf (At i) = IsSure i.selector

-- a fault as the reading of selectors has it
abbrev pub error_of : SelectorFault → SelectorError
error_of Syntax = error.Syntax
error_of Pattern = error.Pattern
error_of Bare = error.Bare

-- what is said where the reading of a selector gives this
abbrev pub refusal_of : SelectorError → Refusal
refusal_of error.Syntax = Selector Syntax
refusal_of error.Pattern = Selector Pattern
refusal_of error.Bare = Selector Bare
refusal_of error.NoMemory = NoMemory

-- the selector of a command is refused for this fault
abbrev pub RefusesSelector : Command → SelectorFault → Type 0
RefusesSelector (Replay cut) fault = ⊥
RefusesSelector Check fault = ⊥
RefusesSelector Convert fault = ⊥
RefusesSelector (At i) fault = Refuses (error_of fault) i.selector

-- the word of a fault
abbrev pub fault_word : SelectorFault → List ℕ
fault_word Syntax = codes "Syntax"
fault_word Pattern = codes "Pattern"
fault_word Bare = codes "Bare"

-- the message of a fault
abbrev pub fault_message : SelectorFault → List ℕ
fault_message fault = codes "scrape: selector " ++ (fault_word fault ++ codes "\n")
