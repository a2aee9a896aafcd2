-- The text of a survey: a row for each entry (profile).
use Rattle.std.specs.Prelude.{true, false, ◌≡◌, ℕ, List, [], ◌∷◌, ◌++◌, flat_map, codes, decimal, encode_utf8_all, Bool, Option, Some, None, Result, Ok, Err, if◌then◌else◌}
use Rattle.jp_devices.specs.Devices.{Begins, Device, Received}
use Rattle.jp_form.specs.declared.form.Table.{Table}
use Rattle.jp_model.specs.Meaning.Paths.{step_text}
use Rattle.jp_model.specs.Rows.{line_feed}
use Rattle.jp_model.specs.Steps.{name_step}
use Rattle.jp_table.specs.Cells.{Cell, bare_cell, text_cell}
use Rattle.jp_table.specs.Tables.{joined}
use Rattle.jp_survey.specs.Paths.{Path, Stride, element, kind_text, member, others}
use Rattle.jp_survey.specs.Surveys.{Entry}
use Rattle.jp_survey.specs.declared.fault.SurveyFault.{SurveyFault}
use Rattle.jp_survey.specs.declared.fault.SurveyFault.TheVariants as faults

-- the scalars of a stride: a name stands as in a normalized path (RFC 9535, section 2.7)
abbrev pub stride_text : Stride → List ℕ
stride_text element = codes "[*]"
stride_text (member scalars) = step_text (name_step scalars)
stride_text others = codes "[**]"

-- the bytes of strides, and of a path
abbrev pub strides_text : Path → List ℕ
strides_text path = flat_map (λ stride. encode_utf8_all (stride_text stride)) path

abbrev pub path_text : Path → List ℕ
path_text path = codes "$" ++ strides_text path

-- a number, or a hyphen where it is not told
abbrev pub told_text : Option ℕ → List ℕ
told_text None = codes "-"
told_text (Some count) = decimal count

-- the cells of an entry
abbrev pub entry_cells : Entry → List Cell
entry_cells entry = bare_cell (told_text entry.lines) ∷ bare_cell (decimal entry.nodes) ∷ text_cell (path_text entry.path) ∷ bare_cell (kind_text entry.kind) ∷ []

-- the row of an entry
abbrev pub entry_text : Table → Entry → List ℕ
entry_text table entry = joined table (entry_cells entry) ++ line_feed

-- the names of the columns
abbrev pub column_cells : List Cell
column_cells = bare_cell (codes "lines") ∷ bare_cell (codes "nodes") ∷ bare_cell (codes "path") ∷ bare_cell (codes "kind") ∷ []

-- the row above the others, where it is wanted
abbrev pub names_text : Table → Bool → List ℕ
names_text table wanted = if wanted then joined table column_cells ++ line_feed else []

-- the text of a survey
abbrev pub survey_text : Table → Bool → List Entry → List ℕ
survey_text table has_names survey = names_text table has_names ++ flat_map (entry_text table) survey

-- The writer received the text of a survey for which this holds; a beginning of it where a write failed; and nothing where memory was
-- refused.
abbrev pub WritesSurvey : {W A : Type 0} → (W → Option (List ℕ)) → Device W → Device W → Result A SurveyFault → (List Entry → Type 0) → Table → Bool → Type 0
WritesSurvey contents old new (Ok done) Is table has_names = (survey : List Entry) × Is survey × Received contents old new (survey_text table has_names survey)
WritesSurvey contents old new (Err faults.Write) Is table has_names =
    (survey : List Entry) × (part : List ℕ) × Is survey × Begins part (survey_text table has_names survey) × Received contents old new part
WritesSurvey contents old new (Err faults.Memory) Is table has_names = new ≡ old

-- a write failed
abbrev pub is_write_fault : {A : Type 0} → Result A SurveyFault → Bool
is_write_fault (Ok done) = false
is_write_fault (Err faults.Write) = true
is_write_fault (Err faults.Memory) = false
