-- What is said of a configuration: what a first load of it says.
use Rattle.std.specs.Prelude.{◌≡◌, ℕ, List, [], ◌++◌, codes, Ok, Err}
use Rattle.std.specs.Fmt.{decimal}
use Rattle.jobs_in_force.specs.Jobs.{loaded}
use Rattle.jobs_in_force.specs.declared.jobs.Filed.{Filed}
use Rattle.config_fields.specs.declared.fault.ConfFault.{ConfFault}
use Rattle.control_lines.specs.Faults.{fault_word, fault_place, fault_limit}

-- the bytes are a configuration without a fault, of these jobs
abbrev pub IsConf : List ℕ → List Filed → Type 0
IsConf bytes jobs = loaded [] bytes ≡ Ok jobs

-- the bytes are refused for this fault
abbrev pub IsFault : List ℕ → ConfFault → Type 0
IsFault bytes fault = loaded [] bytes ≡ Err fault

-- the line for a configuration without a fault: how many jobs it has
abbrev pub ok_line : ℕ → List ℕ
ok_line jobs = codes "ok " ++ (decimal jobs ++ codes "\n")

-- the message of a fault: `NotJson`, `TooMany <place> <limit>`, or another word with its place or name
abbrev pub fault_message : ConfFault → List ℕ
fault_message fault = codes "scrape: config " ++ (fault_word fault ++ (fault_place fault ++ (fault_limit fault ++ codes "\n")))
