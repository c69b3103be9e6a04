-- Which of several faults is reported: the first of the least number in the walk through the text.
use Rattle.std.specs.Prelude.{ℕ, List, [], ◌∷◌, Bool, true, nat_lt, Option, None, Some, if◌then◌else◌}
use Rattle.config_fields.specs.declared.fault.ConfFault.{ConfFault}
use Rattle.config_fields.specs.declared.fault.ConfFault.TheVariants.{NotJson, Shape, Unknown, Missing, Value, TwiceNamed, TooMany, Rule}
use Rattle.config_fields.specs.declared.fault.Flaw.{Flaw}
use Rattle.config_fields.specs.declared.fault.Flaw.TheVariants as flaw

-- the number of a fault: the lesser one is to be mended first
abbrev pub number_of : ConfFault → ℕ
number_of NotJson = 1
number_of (Shape place) = 2
number_of (Unknown place) = 3
number_of (Missing place) = 4
number_of (Value place) = 5
number_of (TwiceNamed job) = 6
number_of (TooMany place limit) = 7
number_of (Rule place) = 8

abbrev pub flaw_number : Flaw → ℕ
flaw_number flaw.Shape = 2
flaw_number flaw.Unknown = 3
flaw_number flaw.Missing = 4
flaw_number flaw.Value = 5
flaw_number (flaw.TooMany limit) = 7
flaw_number flaw.Rule = 8

-- the fault of a flaw at a place
abbrev pub placed : Flaw → List ℕ → ConfFault
placed flaw.Shape place = Shape place
placed flaw.Unknown place = Unknown place
placed flaw.Missing place = Missing place
placed flaw.Value place = Value place
placed (flaw.TooMany limit) place = TooMany place limit
placed flaw.Rule place = Rule place

-- a fault of this number is reported rather than the one found before
abbrev pub is_reported_over : ℕ → Option ConfFault → Bool
is_reported_over number None = true
is_reported_over number (Some found) = nat_lt number (number_of found)

-- of the fault found before and a later one, the one that is reported
abbrev pub better : Option ConfFault → ConfFault → Option ConfFault
better found later = if is_reported_over (number_of later) found then Some later else found

-- the first fault of the least number, where one was found before
abbrev pub best : Option ConfFault → List ConfFault → Option ConfFault
best found [] = found
best found (f ∷ fs) = best (better found f) fs

-- the first fault of the least number
abbrev pub reported : List ConfFault → Option ConfFault
reported faults = best None faults
