-- OpenMetrics as a grammar: how lines and bodies are written (OpenMetrics 1.0, "Text format", "ABNF").
-- It says which there are by what they are put together from, and knows nothing of how they are read. What is the same in the text exposition
-- format is cited from there: metric names, texts in quotes and values. Left out are metadata, which isn't judged, and quoted names.
use Rattle.std.specs.Prelude.{◌≡◌, ◌≢◌, ◌⊎◌, ℕ, ℤ, ◌+◌, true, false, List, [], ◌∷◌, ◌++◌, Option, Some, None}
use Rattle.std.specs.Str.{is_utf8}
use Rattle.label_set.specs.Bytes.{is_label_name, is_metric_name}
use Rattle.label_set.specs.declared.texts.Pair.{Pair}
use Rattle.value_text.specs.Grammar.{IsValue}
use Rattle.expo_reader.specs.Bodies.{has_metric_label, lines_of}
use Rattle.expo_reader.specs.Forms.{names_differ}
use Rattle.expo_reader.specs.Grammar.{IsText}
use Rattle.expo_reader.specs.declared.rows.BodyRow.{BodyRow}
use Rattle.om_reader.specs.Bodies.{eof}
use Rattle.om_reader.specs.Timestamps.{stamp_millis}

-- a label ("ABNF", `label = label-name EQ DQUOTE escaped-string DQUOTE`)
abbrev pub IsLabel : List ℕ → Pair → Type 0
IsLabel bs label =
    (text : List ℕ) × (is_label_name label.name ≡ true) × IsText text label.value × (is_utf8 label.value ≡ true)
    × (bs ≡ label.name ++ 61 ∷ 34 ∷ (text ++ 34 ∷ []))

-- labels with commas between them, or none ("ABNF", `[label *(COMMA label)]`)
abbrev pub IsLabels : List ℕ → List Pair → Type 0
IsLabels bs [] = bs ≡ []
IsLabels bs (label ∷ labels) =
    (one : List ℕ) × IsLabel one label
    × (((labels ≡ []) × (bs ≡ one)) ⊎ ((rest : List ℕ) × (labels ≢ []) × (bs ≡ one ++ 44 ∷ rest) × IsLabels rest labels))

-- labels in braces, each of another name ("ABNF", `labels`; "LabelSet": names are unique within it)
abbrev pub IsBraces : List ℕ → List Pair → Type 0
IsBraces bs labels = (inside : List ℕ) × IsLabels inside labels × (names_differ labels ≡ true) × (bs ≡ 123 ∷ (inside ++ 125 ∷ []))

-- a value and its timestamp, or none ("ABNF", `SP number [SP timestamp]`)
abbrev pub IsMeasure : List ℕ → List ℕ → Option ℤ → Type 0
IsMeasure bs value None = IsValue value × (bs ≡ 32 ∷ value)
IsMeasure bs value (Some ms) = IsValue value × (word : List ℕ) × (stamp_millis word ≡ Some ms) × (bs ≡ 32 ∷ (value ++ 32 ∷ word))

-- an exemplar ("ABNF", `exemplar = SP HASH SP labels SP number [SP timestamp]`)
abbrev pub IsExemplar : List ℕ → Type 0
IsExemplar bs =
    (braces : List ℕ) × (labels : List Pair) × (measure : List ℕ) × (value : List ℕ) × (stamp : Option ℤ)
    × IsBraces braces labels × IsMeasure measure value stamp × (bs ≡ 32 ∷ 35 ∷ 32 ∷ (braces ++ measure))

-- what stands behind the name: nothing, or labels in braces, none of which is `__name__`
abbrev pub IsLabelled : List ℕ → List Pair → Type 0
IsLabelled bs labels = ((bs ≡ []) × (labels ≡ [])) ⊎ (IsBraces bs labels × (has_metric_label labels ≡ false))

-- a sample line with its row ("ABNF", `sample = metricname [labels] SP number [SP timestamp] [exemplar] LF`): a
-- metric name, labels or none, a value and a timestamp or none, an exemplar or none
abbrev pub IsSample : ℕ → List ℕ → BodyRow → Type 0
IsSample number line row =
    (braces : List ℕ) × (measure : List ℕ) × (exemplar : List ℕ)
    × (row.line ≡ number) × (is_metric_name row.name ≡ true) × IsLabelled braces row.labels × (row.raw ≡ row.name ++ braces)
    × IsMeasure measure row.value row.stamp × ((exemplar ≡ []) ⊎ IsExemplar exemplar)
    × (line ≡ row.raw ++ (measure ++ exemplar))

-- a line that is skipped: any other than `# EOF` that begins with `#` ("Overall Structure": metadata and comments)
abbrev pub IsSkipped : List ℕ → Type 0
IsSkipped line = (line ≢ eof) × ((rest : List ℕ) × (line ≡ 35 ∷ rest))

-- lines of which the last is `# EOF` ("Overall Structure": an exposition ends with it), each other one is skipped or a sample line, and
-- these are the rows, where the first line has that number
abbrev pub AreLines : ℕ → List (List ℕ) → List BodyRow → Type 0
AreLines number [] rows = ⊥
AreLines number (line ∷ lines) rows =
    ((line ≡ eof) × (lines ≡ []) × (rows ≡ []))
    ⊎ ((IsSkipped line × AreLines (number + 1) lines rows)
    ⊎ ((row : BodyRow) × (more : List BodyRow) × IsSample number line row × (rows ≡ row ∷ more) × AreLines (number + 1) lines more))

-- the first faulty line has number n: it is neither and no `# EOF`, or follows `# EOF`, or where all lines are good and none is `# EOF` it is the one
-- behind the last
abbrev pub IsFirstFaulty : ℕ → List (List ℕ) → ℕ → Type 0
IsFirstFaulty number [] n = number ≡ n
IsFirstFaulty number (line ∷ lines) n =
    ((line ≡ eof) × (lines ≢ []) × (number + 1 ≡ n))
    ⊎ (((number ≡ n) × (line ≢ eof) × ¬ (IsSkipped line) × ((row : BodyRow) → ¬ (IsSample number line row)))
    ⊎ ((IsSkipped line ⊎ ((row : BodyRow) × IsSample number line row)) × IsFirstFaulty (number + 1) lines n))

-- a body and its rows; and a body and its first faulty line
abbrev pub OmLines : List ℕ → List BodyRow → Type 0
OmLines bytes rows = AreLines 1 (lines_of bytes) rows

abbrev pub OmFaulty : List ℕ → ℕ → Type 0
OmFaulty bytes n = IsFirstFaulty 1 (lines_of bytes) n
