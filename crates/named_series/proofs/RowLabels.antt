-- The labels of a row that is read have names, and so have those of the sample that is left of it.
use Rattle.std.proofs.Common.{◌≡◌, ℕ, zero, suc, ℤ, ◌+◌, Bool, true, false, not, inl, inr, List, [], ◌∷◌, ◌++◌, length, filter, All, IfSome, IfOk, Option, Some, None, Result, Ok, Err, codes, bytes_eq, refl, sym, subst}
use Rattle.std.proofs.lemmas.Bool.{and_parts}
use Rattle.std.proofs.lemmas.List.Elements.{All-nil, All-cons, All-head, All-tail, All-append, All-filter, All-map}
use Rattle.label_set.specs.Bytes.{is_label_name}
use Rattle.label_set.specs.SetText.{metric_label}
use Rattle.label_set.specs.declared.forms.Form.{Form}
use Rattle.label_set.specs.declared.forms.Form.TheVariants.{Quoted}
use Rattle.label_set.specs.declared.texts.Pair.{Pair}
use Rattle.expo_reader.specs.Bodies.{lines_of, reading}
use Rattle.expo_reader.specs.Grammar as grammar
use Rattle.expo_reader.specs.Grammar.{AreLines, IsLabelName, IsLabels, IsMiddle, IsNameAndLabels, IsSample}
use Rattle.expo_reader.specs.Names.{is_exposed_name, is_quoted_metric, is_quoted_name}
use Rattle.expo_reader.specs.declared.rows.BodyRow.{BodyRow}
use Rattle.expo_reader.proofs.LawLemmas.{rows-lines}
use Rattle.label_conflict.specs.Merging.{apart_from, bears, conflicts, exported, exported_names, free_name, has_value, joined, merged, name_label, settled, with_free}
use Rattle.label_conflict.specs.Orders.{by_name}
use Rattle.outside.specs.declared.replies.Reply.{Reply}
use Rattle.relabel.specs.Relabelling.{relabelled}
use Rattle.rule_conf.specs.Refusals.{HasNoBadField}
use Rattle.rule_conf.specs.declared.conf.RuleConf.{RuleConf}
use Rattle.sample_rows.specs.Outcomes.{body_of, early_fault, form_of, judged, of_early, or_line, outcome, rows_or_fault, unless_fault}
use Rattle.sample_rows.specs.Rows as rows
use Rattle.sample_rows.specs.Rows.{Left, joined_set, left_from, left_row, row_series, rows_fault, sample_of, series_of}
use Rattle.sample_rows.specs.declared.fault.ScrapeFault.{ScrapeFault}
use Rattle.sample_rows.specs.declared.scrape.RowRules.{RowRules}
use Rattle.sample_rows.specs.declared.scrape.Sample.{Sample}
use Rattle.scrape_loop.specs.Tracked.{samples_of}
use Rattle.named_series.specs.Named.{HasLabels}
use Rattle.named_series.proofs.LabelLemmas.{IsFilled, IsLabelled, byte-filled, found-all, label-alone, labelled, long-filled, name-filled, ordered-labels}
use Rattle.named_series.proofs.RuleLabels.{rules-labels}

-- a name that stands bare or in quotes
exposed-filled : (name : List ℕ) → is_exposed_name name ≡ true → IsFilled name
unfolding is_exposed_name
exposed-filled name e = name-filled name (and_parts (is_label_name name) (not (bytes_eq name (codes "__name__"))) e).0

quoted-filled : (name : List ℕ) → is_quoted_name name ≡ true → IsFilled name
unfolding is_quoted_name is_quoted_metric
quoted-filled name e = long-filled name (and_parts (is_quoted_metric name) (not (bytes_eq name (codes "__name__"))) e).0

written-filled : (form : Form) (bs name : List ℕ) → IsLabelName form bs name → IsFilled name
written-filled form bs name (inl bare) = exposed-filled name bare.0
written-filled form bs name (inr quoted) = quoted-filled name quoted.1

-- the labels between braces
label-written : (form : Form) (bs : List ℕ) (label : Pair) → grammar.IsLabel form bs label → IsLabelled label
label-written form bs label h = written-filled form h.1 label.name h.10

none-written : (labels : List Pair) → labels ≡ [] → HasLabels labels
none-written labels e = subst HasLabels (sym e) (All-nil IsLabelled)

labels-written : (form : Form) (bs : List ℕ) (labels : List Pair) → IsLabels form bs labels → HasLabels labels
labels-written form bs [] h = All-nil IsLabelled
labels-written form bs (label ∷ labels) (one, first, inl last) =
    All-cons IsLabelled label labels (label-written form one label first) (none-written labels last.0)
labels-written form bs (label ∷ labels) (one, first, inr more) =
    All-cons IsLabelled label labels (label-written form one label first) (labels-written form more.0 labels more.2)

middle-labels : (form : Form) (bs raw : List ℕ) (labels : List Pair) → IsMiddle form bs raw labels → HasLabels labels
middle-labels form bs raw labels (inl without) = none-written labels without.3
middle-labels form bs raw labels (inr braces) = labels-written form braces.1 labels braces.5

braced-labels : (bs name : List ℕ) (labels : List Pair) → IsNameAndLabels bs name labels → HasLabels labels
braced-labels bs name labels (b1, quote, b2, s1, s2, metric, text, inl alone) = none-written labels alone.0
braced-labels bs name labels (b1, quote, b2, s1, s2, metric, text, inr more) =
    labels-written Quoted more.0 labels more.2

-- the rows of a body
abbrev RowLabelled : BodyRow → Type 0
RowLabelled r = HasLabels r.labels

sample-labels : (form : Form) (number : ℕ) (line : List ℕ) (row : BodyRow) → IsSample form number line row →
    RowLabelled row
sample-labels form number line row (inl bare) = middle-labels form bare.1 bare.2 row.labels bare.7
sample-labels form number line row (inr (quoted, braces)) = braced-labels braces.1 row.name row.labels braces.7

lines-labels : (form : Form) (number : ℕ) (lines : List (List ℕ)) (rs : List BodyRow) →
    AreLines form number lines rs → All RowLabelled rs
lines-labels form number [] rs e = subst (All RowLabelled) (sym e) (All-nil RowLabelled)
lines-labels form number (line ∷ lines) rs (inl skipped) = lines-labels form (number + 1) lines rs skipped.1
lines-labels form number (line ∷ lines) rs (inr (row, more, is, e, rest)) =
    subst (All RowLabelled) (sym e)
    (All-cons RowLabelled row more (sample-labels form number line row is)
    (lines-labels form (number + 1) lines more rest))

read-labels : (form : Form) (bytes : List ℕ) (r : Result (List BodyRow) ℕ) → reading form bytes ≡ r →
    IfOk r (All RowLabelled)
read-labels form bytes (Ok rs) e = lines-labels form 1 (lines_of bytes) rs (rows-lines form bytes rs e)
read-labels form bytes (Err n) e = tt

line-labels : (r : Result (List BodyRow) ℕ) → IfOk r (All RowLabelled) → IfOk (or_line r) (All RowLabelled)
line-labels (Ok rs) h = h
line-labels (Err n) h = tt

unless-labels : (o : Option ScrapeFault) (r : Result (List BodyRow) ScrapeFault) → IfOk r (All RowLabelled) →
    IfOk (unless_fault o r) (All RowLabelled)
unless-labels None r h = h
unless-labels (Some f) r h = tt

reply-labels : (rules : RowRules) (reply : Reply) (took : ℤ) → IfOk (rows_or_fault rules reply took) (All RowLabelled)
reply-labels rules reply took =
    unless-labels (early_fault rules reply took) (or_line (reading (form_of reply) (body_of reply)))
    (line-labels (reading (form_of reply) (body_of reply))
    (read-labels (form_of reply) (body_of reply) (reading (form_of reply) (body_of reply)) refl))

-- names with `exported_` in front
exported-filled : (n : ℕ) (name : List ℕ) → All IsFilled (exported_names n name)
exported-filled zero name = All-nil IsFilled
exported-filled (suc n) name =
    All-cons IsFilled (exported name) (exported_names n (exported name)) (byte-filled _ _)
    (exported-filled n (exported name))

free-filled : (labels : List Pair) (name : List ℕ) → IfSome (free_name labels name) IsFilled
unfolding free_name
free-filled labels name =
    found-all IsFilled (λ n. not (bears labels n)) (exported_names (suc (length labels)) name)
    (exported-filled (suc (length labels)) name)

with-free-labels : (labels : List Pair) (value : List ℕ) (o : Option (List ℕ)) → HasLabels labels →
    IfSome o IsFilled → HasLabels (with_free labels value o)
with-free-labels labels value None h n = h
with-free-labels labels value (Some name) h n =
    All-append IsLabelled labels (labelled name value ∷ []) h (label-alone name value n)

settled-labels : (ps labels : List Pair) → HasLabels labels → HasLabels (settled ps labels)
settled-labels [] labels h = h
settled-labels (p ∷ ps) labels h =
    settled-labels ps (with_free labels p.value (free_name labels p.name))
    (with-free-labels labels p.value (free_name labels p.name) h (free-filled labels p.name))

-- a row's labels joined with its target's
metric-labels : (name : List ℕ) → HasLabels (name_label name)
metric-labels [] = All-nil IsLabelled
metric-labels (b ∷ bs) = label-alone metric_label (b ∷ bs) (byte-filled _ _)

joined-labels : (name : List ℕ) (exposed target : List Pair) (honor : Bool) → HasLabels exposed → HasLabels target →
    HasLabels (joined name exposed target honor)
joined-labels name exposed target true h k =
    All-append IsLabelled (name_label name) (filter has_value exposed ++ apart_from exposed target) (metric-labels name)
    (All-append IsLabelled (filter has_value exposed) (apart_from exposed target) (All-filter _ IsLabelled exposed h)
    (All-filter _ IsLabelled target k))
joined-labels name exposed target false h k =
    settled-labels (conflicts exposed target) (name_label name ++ (apart_from target exposed ++ target))
    (All-append IsLabelled (name_label name) (apart_from target exposed ++ target) (metric-labels name)
    (All-append IsLabelled (apart_from target exposed) target (All-filter _ IsLabelled exposed h) k))

-- the sample of a row
abbrev pub SampleLabelled : Sample → Type 0
SampleLabelled s = HasLabels s.set

series-labels : (o : Option (List Pair)) → IfSome o HasLabels → IfSome (series_of o) HasLabels
series-labels None h = tt
series-labels (Some []) h = tt
series-labels (Some (p ∷ ps)) h = h

abbrev LeftLabelled : Left → Type 0
LeftLabelled l = SampleLabelled l.sample

-- the rows that are left, where neither the target's labels nor the rules bring in a label without a name
module _ (rules : RowRules) (metric : List RuleConf) (good : All HasNoBadField metric) (target : List Pair) (h : HasLabels target) where
  row-labels : (r : BodyRow) → RowLabelled r → IfSome (row_series rules.honor_labels metric target r) HasLabels
  unfolding row_series joined_set merged
  row-labels r k =
      series-labels (relabelled metric (joined_set rules.honor_labels target r))
      (rules-labels metric (joined_set rules.honor_labels target r) good
      (ordered-labels by_name (joined r.name r.labels target rules.honor_labels)
      (joined-labels r.name r.labels target rules.honor_labels k h)))

  left-labels : (n : ℕ) (r : BodyRow) (o : Option (List Pair)) → IfSome o HasLabels →
      All LeftLabelled (left_row rules n r o)
  left-labels n r None k = All-nil LeftLabelled
  left-labels n r (Some set) k =
      All-cons LeftLabelled (record { row = n; sample = sample_of rules r set }) [] k (All-nil LeftLabelled)

  all-left : (n : ℕ) (rs : List BodyRow) → All RowLabelled rs → All LeftLabelled (left_from rules metric target n rs)
  all-left n [] k = All-nil LeftLabelled
  all-left n (r ∷ rs) k =
      All-append LeftLabelled (left_row rules n r (row_series rules.honor_labels metric target r))
      (left_from rules metric target (n + 1) rs)
      (left-labels n r (row_series rules.honor_labels metric target r) (row-labels r (All-head RowLabelled r rs k)))
      (all-left (n + 1) rs (All-tail RowLabelled r rs k))

  judged-labels : (o : Option ScrapeFault) (ss : List Sample) (n : ℕ) → All SampleLabelled ss →
      All SampleLabelled (samples_of (judged o ss n))
  judged-labels None ss n k = k
  judged-labels (Some f) ss n k = All-nil SampleLabelled

  early-labels : (r : Result (List BodyRow) ScrapeFault) → IfOk r (All RowLabelled) →
      All SampleLabelled (samples_of (of_early rules metric target r))
  early-labels (Ok rs) k =
      judged-labels (rows_fault rules.limits (left_from rules metric target 0 rs))
      (rows.samples_of (left_from rules metric target 0 rs)) (length rs)
      (All-map SampleLabelled (λ (l : Left). l.sample) (left_from rules metric target 0 rs) (all-left 0 rs k))
  early-labels (Err f) k = All-nil SampleLabelled

  pub outcome-labels : (reply : Reply) (took : ℤ) →
      All SampleLabelled (samples_of (outcome rules metric target reply took))
  unfolding outcome
  outcome-labels reply took = early-labels (rows_or_fault rules reply took) (reply-labels rules reply took)
