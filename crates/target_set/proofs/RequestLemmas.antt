-- A target has a URL, or a cause to refuse it.
use Rattle.std.proofs.Common.{◌≡◌, ℕ, Bool, true, false, List, refl, []}
use Rattle.std.specs.Prelude.{Option, Some, None, is_some, is_none, unwrap_or, is_ok, Ok, Err, if◌then◌else◌}
use Rattle.std.specs.List.{list_any}
use Rattle.url.specs.Parser.{Parsed}
use Rattle.url.specs.Parts.{Parts}
use Rattle.label_set.specs.Sets.{value_of}
use Rattle.label_set.specs.declared.texts.Pair.{Pair}
use Rattle.outside.specs.Schemes.{is_scheme}
use Rattle.target_set.specs.Prepared.{address_label, scheme_label}
use Rattle.target_set.specs.Outcomes.{is_url_mark, url_of, scheme_cause, address_cause, cause_of}
use Rattle.target_set.specs.Requests.{if_read, base_of}
use Rattle.target_set.specs.declared.targets.TargetCause.{TargetCause}
use Rattle.target_set.specs.declared.targets.TargetCause.TheVariants.{BadAddress, BadScheme, BadUrl}

-- the URL that is read, unless there is a cause
abbrev pub unless : Option TargetCause → Parsed Parts → Option Parts
unless cause url = if is_some cause then None else if_read url

of_url : (url : Parsed Parts) → is_none (unless (if is_ok url then None else Some BadUrl) url) ≡ is_some (if is_ok url then None else Some BadUrl)
of_url (Ok url) = refl
of_url (Err error) = refl

of_scheme : (spoken : Bool) (url : Parsed Parts) →
    is_none (unless (if spoken then (if is_ok url then None else Some BadUrl) else Some BadScheme) url)
    ≡ is_some (if spoken then (if is_ok url then None else Some BadUrl) else Some BadScheme)
of_scheme true url = of_url url
of_scheme false url = refl

of_value : (address : List ℕ) (scheme : Option (List ℕ)) →
    is_none (unless (scheme_cause address scheme) (url_of (unwrap_or scheme []) address)) ≡ is_some (scheme_cause address scheme)
of_value address None = refl
of_value address (Some scheme) = of_scheme (is_scheme scheme) (url_of scheme address)

of_marks : (marked : Bool) (address : List ℕ) (scheme : Option (List ℕ)) →
    is_none (unless (if marked then Some BadAddress else scheme_cause address scheme) (url_of (unwrap_or scheme []) address))
    ≡ is_some (if marked then Some BadAddress else scheme_cause address scheme)
of_marks true address scheme = refl
of_marks false address scheme = of_value address scheme

of_address : (address scheme : Option (List ℕ)) →
    is_none (unless (address_cause address scheme) (url_of (unwrap_or scheme []) (unwrap_or address []))) ≡ is_some (address_cause address scheme)
of_address None scheme = refl
of_address (Some address) scheme = of_marks (list_any is_url_mark address) address scheme

-- a target has no URL exactly where it has a cause
pub none_by_cause : (identity : List Pair) → is_none (base_of identity) ≡ is_some (cause_of identity)
unfolding base_of cause_of
none_by_cause identity = of_address (value_of identity address_label) (value_of identity scheme_label)

-- what is read as a URL is one
pub read_is_ok : (url : Parsed Parts) → is_some (if_read url) ≡ is_ok url
read_is_ok (Ok url) = refl
read_is_ok (Err error) = refl
