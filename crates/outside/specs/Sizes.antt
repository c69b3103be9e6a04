-- How long what is handed in may be, in bytes: limits of this project's own.
use Rattle.std.specs.Prelude.{ℕ}

-- the name of a job or of a file: 4,096
abbrev pub most_name_bytes : ℕ
most_name_bytes = 4096

-- a configuration or the list of a file: 4 MiB
abbrev pub most_text_bytes : ℕ
most_text_bytes = 4194304

-- a body: 64 MiB
abbrev pub most_body_bytes : ℕ
most_body_bytes = 67108864
