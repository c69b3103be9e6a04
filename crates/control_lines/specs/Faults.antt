-- How a fault of a configuration is written: its word, and behind it its place, and the limit that is passed.
use Rattle.std.specs.Prelude.{ℕ, List, [], ◌++◌, codes}
use Rattle.std.specs.Fmt.{decimal}
use Rattle.config_fields.specs.declared.fault.ConfFault.{ConfFault}
use Rattle.config_fields.specs.declared.fault.ConfFault.TheVariants.{NotJson, Shape, Unknown, Missing, Value, TwiceNamed, TooMany, Rule}

-- the word of a fault
abbrev pub fault_word : ConfFault → List ℕ
fault_word NotJson = codes "NotJson"
fault_word (Shape place) = codes "Shape "
fault_word (Unknown place) = codes "Unknown "
fault_word (Missing place) = codes "Missing "
fault_word (Value place) = codes "Value "
fault_word (TwiceNamed job) = codes "TwiceNamed "
fault_word (TooMany place limit) = codes "TooMany "
fault_word (Rule place) = codes "Rule "

-- the place of a fault, or the name of the job
abbrev pub fault_place : ConfFault → List ℕ
fault_place NotJson = []
fault_place (Shape place) = place
fault_place (Unknown place) = place
fault_place (Missing place) = place
fault_place (Value place) = place
fault_place (TwiceNamed job) = job
fault_place (TooMany place limit) = place
fault_place (Rule place) = place

-- the limit of a fault, behind a blank
abbrev pub fault_limit : ConfFault → List ℕ
fault_limit NotJson = []
fault_limit (Shape place) = []
fault_limit (Unknown place) = []
fault_limit (Missing place) = []
fault_limit (Value place) = []
fault_limit (TwiceNamed job) = []
fault_limit (TooMany place limit) = codes " " ++ decimal limit
fault_limit (Rule place) = []

-- `NotJson`, `TooMany <place> <limit>`, or another word with its place or name
abbrev pub fault_text : ConfFault → List ℕ
fault_text fault = fault_word fault ++ (fault_place fault ++ fault_limit fault)
