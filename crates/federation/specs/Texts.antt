-- The text of rows, with the moment of each ("Exposition formats" of the Prometheus documentation, text-based format).
use Rattle.std.specs.Prelude.{ℕ, List, ◌++◌, flat_map, codes}
use Rattle.std.specs.Fmt.{signed_decimal}
use Rattle.label_set.specs.SetText.{set_text}
use Rattle.instant_view.specs.declared.rows.ViewRow.{ViewRow}

-- `<set> <value> <moment>` and a line feed
unfoldable pub row_line : ViewRow → List ℕ
row_line row = set_text row.series ++ (codes " " ++ (row.value ++ (codes " " ++ (signed_decimal row.moment ++ codes "\n"))))

abbrev pub rows_text : List ViewRow → List ℕ
rows_text rows = flat_map row_line rows
