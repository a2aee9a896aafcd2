-- What is written of a line, and what is told of it.
use Rattle.std.specs.Prelude.{ℕ, zero, ◌+◌, List, [], ◌∷◌, ◌++◌, map, flat_map, codes, cond, decimal, count_by, sum_by, Bool, true, false, ◌==◌, ◌&&◌, if◌then◌else◌, ltb, take, Option, Some, None}
use Rattle.jp_sink.specs.Events.{Event, gap_event, node_event, row_event, text_of}
use Rattle.jp_paint.specs.Colours.{painted}
use Rattle.jp_paint.specs.Marked.{marked_part, marked_text}
use Rattle.jp_paint.specs.declared.part.Part.TheVariants as parts
use Rattle.jp_model.specs.declared.Framing.TheVariants as framings
use Rattle.jp_model.specs.declared.LineFault.{LineFault}
use Rattle.jp_model.specs.Json.Status.{LineStatus, blank, refused, parsed}
use Rattle.jp_model.specs.declared.Span.{Span}
use Rattle.jp_model.specs.Json.Tree.{Tree, span}
use Rattle.jp_model.specs.Meaning.Nodes.{Node}
use Rattle.jp_model.specs.Meaning.Paths.{path_text}
use Rattle.jp_model.specs.Script.Machine.{is_refused_status}
use Rattle.jp_model.specs.Rows.{row_start, line_fault_word, line_feed, source, tab}
use Rattle.jp_grep.specs.Matching.{is_selected, nodes_of, queries_of, selected_nodes, selected_of, wanted_of, wants_refused}
use Rattle.jp_grep.specs.Items.{Item, framing_by, is_given_up, judged}
use Rattle.jp_grep.specs.Spelled.{printed, spelled}
use Rattle.jp_grep.specs.Tables.{table_row}
use Rattle.jp_grep.specs.Telling.{gap_where}
use Rattle.jp_form.specs.declared.form.Form.{Form}
use Rattle.jp_form.specs.declared.form.Shown.{Shown}
use Rattle.jp_form.specs.declared.form.Shown.TheVariants as shown
use Rattle.jp_form.specs.declared.form.Spelling.{Spelling}
use Rattle.jp_form.specs.declared.form.Spelling.TheVariants as spellings
use Rattle.jp_form.specs.declared.form.Units.{Units}
use Rattle.jp_form.specs.declared.form.Units.TheVariants as unit
use Rattle.jp_form.specs.declared.form.Summary.{Summary}
use Rattle.jp_form.specs.declared.form.Summary.TheVariants as summaries
use Rattle.jp_grep.specs.declared.question.Question.{Question}

-- what follows the name of a stream: NUL where it is wanted, and else what is given
abbrev pub behind_name : (null : Bool) → List ℕ → List ℕ
behind_name false other = other
behind_name true other = 0x00 ∷ []

-- the name of the stream in front of a row, and a sign after it
abbrev pub name_front : (named null coloured : Bool) → List ℕ → (sign : List ℕ) → List ℕ
name_front false null coloured name sign = []
name_front true null coloured name sign = painted coloured parts.Name name ++ behind_name null (painted coloured parts.Sign sign)

-- the number of the line in front of a row, and a sign after it
abbrev pub number_front : (numbered coloured : Bool) → ℕ → (sign : List ℕ) → List ℕ
number_front false coloured n sign = []
number_front true coloured n sign = painted coloured parts.Place (decimal n) ++ painted coloured parts.Sign sign

-- all that stands in front of a row of line n: in a sequence RS first, as in front of each text there (RFC 7464, section 2.2)
abbrev pub front : (sign : List ℕ) → Form → ℕ → List ℕ
front sign form n = row_start (framing_by form.units) ++ name_front form.named form.null form.coloured form.name.now sign ++ number_front form.numbered form.coloured n sign

-- a row of line n
abbrev pub row : Form → ℕ → List ℕ → List ℕ
row form n body = front (codes ":") form n ++ (body ++ line_feed)

-- a row of line n around selected ones
abbrev pub row_around : Form → ℕ → List ℕ → List ℕ
row_around form n body = front (codes "-") form n ++ (body ++ line_feed)

-- a line as it is printed: its bytes, and of a text or an element those from the first of its value to the last
abbrev pub whole : Units → List ℕ → Tree → List ℕ
whole (unit.Lines framings.Lines) line t = line
whole (unit.Lines framings.Sequence) line t = source line t
whole (unit.Pieces pieces) line t = printed (unit.Pieces pieces) (source line t)

-- such a line, or its value plain or in canonical form
abbrev pub line_text : Spelling → Units → List ℕ → Tree → List ℕ
line_text spellings.Source units line t = whole units line t
line_text spellings.Text units line t = spelled spellings.Text units line t
line_text spellings.Canonical units line t = spelled spellings.Canonical units line t

-- a line as it is printed, its bytes within some spans coloured
abbrev pub whole_marked : Units → List Span → List ℕ → Tree → List ℕ
whole_marked (unit.Lines framings.Lines) spans line t = marked_text spans 0 line
whole_marked (unit.Lines framings.Sequence) spans line t = marked_part spans (span t) line
whole_marked (unit.Pieces pieces) spans line t = printed (unit.Pieces pieces) (marked_part spans (span t) line)

-- where the nodes stand that the queries select of one
abbrev pub marks_of : Question → Tree → Node → List Span
marks_of question t node = map (λ (found : Node). span found.tree) (nodes_of (queries_of question) node t)

-- a selected line, asked at a node, as it is shown
abbrev pub shown_line : Question → Form → List ℕ → Tree → Node → List ℕ
shown_line question form line t node = if form.marked then whole_marked form.units (marks_of question t node) line t else line_text form.spelling form.units line t

-- the path in front of a value, and a tab after it
abbrev pub path_front : (paths coloured : Bool) → Node → List ℕ
path_front false coloured node = []
path_front true coloured node = painted coloured parts.Place (path_text node.location) ++ tab

-- the row of a value in line n
abbrev pub value_row : Form → Bool → ℕ → List ℕ → Node → List ℕ
value_row form paths n line node = row form n (path_front paths form.coloured node ++ spelled form.spelling form.units line node.tree)

-- and what is told of it
abbrev pub value_event : Form → Bool → ℕ → List ℕ → Node → Event
value_event form paths n line node = row_event true (value_row form paths n line node)

-- what is told of a node of line n that is selected: its rows, or the node itself
abbrev pub node_events : Shown → Question → Form → ℕ → List ℕ → Tree → Node → List Event
node_events shown.Nothing question form n line t node = []
node_events (shown.Line faults) question form n line t node = row_event true (row form n (shown_line question form line t node)) ∷ []
node_events shown.Around question form n line t node = row_event true (row form n (shown_line question form line t node)) ∷ []
node_events shown.Nodes question form n line t node = node_event n line node ∷ []
node_events (shown.Values paths) question form n line t node = map (value_event form paths n line) (nodes_of (queries_of question) node t)
node_events (shown.Cells table) question form n line t node = row_event true (table_row table (queries_of question) form n line t node) ∷ []

-- what is told of a node that is asked
abbrev pub asked_events : Question → Form → ℕ → List ℕ → Tree → Node → List Event
asked_events question form n line t node = if is_selected question t node then node_events form.shown question form n line t node else []

-- the text of its one row, where it has one
abbrev pub row_at_once : Shown → Question → Form → ℕ → List ℕ → Tree → Node → List ℕ
row_at_once shown.Nothing question form n line t node = []
row_at_once (shown.Line faults) question form n line t node = row form n (shown_line question form line t node)
row_at_once shown.Around question form n line t node = row form n (shown_line question form line t node)
row_at_once shown.Nodes question form n line t node = []
row_at_once (shown.Values paths) question form n line t node = []
row_at_once (shown.Cells table) question form n line t node = table_row table (queries_of question) form n line t node

-- what is told of a node where that is not the values that the queries select of it, by its row
abbrev pub selected_event : Shown → ℕ → (line : List ℕ) → Node → (row : List ℕ) → List Event
selected_event shown.Nothing n line node row = []
selected_event (shown.Line faults) n line node row = row_event true row ∷ []
selected_event shown.Around n line node row = row_event true row ∷ []
selected_event shown.Nodes n line node row = node_event n line node ∷ []
selected_event (shown.Values paths) n line node row = []
selected_event (shown.Cells table) n line node row = row_event true row ∷ []

-- the word of its fault in front of a refused line
abbrev pub fault_front : Bool → LineFault → List ℕ
fault_front false fault = []
fault_front true fault = line_fault_word fault ++ tab

-- what is told of a refused line that is selected: its bytes, and no values or cells, since it has none
abbrev pub refused_events : Shown → Form → ℕ → List ℕ → LineFault → List Event
refused_events (shown.Line faults) form n line fault = row_event true (row form n (fault_front faults fault ++ line)) ∷ []
refused_events shown.Around form n line fault = row_event true (row form n line) ∷ []
refused_events _ form n line fault = []

-- what is told of the nodes of a line, a text or an element that are selected, as far as they are wanted
abbrev pub selected_events : Question → Form → ℕ → List ℕ → (most : Option ℕ) → LineStatus → List Event
selected_events question form n line most blank = []
selected_events question form n line most (refused fault) = if wants_refused question.wanted then refused_events form.shown form n line fault else []
selected_events question form n line most (parsed t) = flat_map (node_events form.shown question form n line t) (wanted_of most (selected_nodes question t))

-- a line as it stands around selected ones: as it is
abbrev pub text_around : Units → List ℕ → LineStatus → List ℕ
text_around units line blank = line
text_around units line (refused fault) = line
text_around units line (parsed t) = whole units line t

-- the row of a line of which `selected` nodes are selected, where those around selected ones are shown: where it is none
abbrev pub events_around : Shown → Form → ℕ → List ℕ → (selected : ℕ) → LineStatus → List Event
events_around shown.Around form n line zero status = row_event false (row_around form n (text_around form.units line status)) ∷ []
events_around _ form n line selected status = []

-- what is told of a line, a text or an element that counts as one of this status: of one that is not judged as of a blank one
abbrev pub counted_events : Question → Form → ℕ → List ℕ → (most : Option ℕ) → (counted : LineStatus) → LineStatus → List Event
counted_events question form n line most counted status = selected_events question form n line most counted ++ events_around form.shown form n line (selected_of question most counted) status

abbrev pub status_events : Question → Form → ℕ → List ℕ → (most : Option ℕ) → LineStatus → List Event
status_events question form n line most status = counted_events question form n line most (judged most status) status

-- those that are told: all, or where memory was refused the first
abbrev pub told_of_all : (given_up : Option ℕ) → List Event → List Event
told_of_all None events = events
told_of_all (Some count) events = take count events

-- the number of the line of the stream in which a text or an element begins, after the word of its fault
abbrev pub from_line_text : Option ℕ → List ℕ
from_line_text None = []
from_line_text (Some line) = codes ", from line " ++ decimal line

-- a message on a line: what is said of it after the program's name, that of the stream and the number of the line
abbrev pub line_message : (name : List ℕ) → ℕ → (said : List ℕ) → (from_line : Option ℕ) → List ℕ
line_message name n said from_line =
    codes "jpgrep: " ++ name_front true false false name (codes ":") ++ number_front true false n (codes ":") ++ codes " " ++ said ++ (from_line_text from_line ++ line_feed)

-- the message on a refused line, where messages are wanted
abbrev pub refusal : Bool → List ℕ → ℕ → LineFault → (from_line : Option ℕ) → List ℕ
refusal true name n fault from_line = []
refusal false name n fault from_line = line_message name n (line_fault_word fault) from_line

-- the refused lines of a stream that are told one by one are the first ten (profile)
abbrev pub most_told : ℕ
most_told = 10

-- what is told of a line that comes after refused ones
abbrev pub status_message : Form → (before : ℕ) → ℕ → (from_line : Option ℕ) → LineStatus → List ℕ
status_message form before n from_line blank = []
status_message form before n from_line (refused fault) = if ltb before most_told then refusal form.silent form.told_name.now n fault from_line else []
status_message form before n from_line (parsed t) = []

-- the message on a line that is given up for want of memory, which is always wanted
abbrev pub given_up_message : List ℕ → ℕ → (from_line : Option ℕ) → List ℕ
given_up_message name n from_line = line_message name n (codes "out of memory") from_line

-- ---- all of a line, a text or an element, by whether it is given up

abbrev pub selected_where : (given_up : Bool) → Question → (most : Option ℕ) → LineStatus → ℕ
selected_where false question most status = selected_of question most status
selected_where true question most status = 0

abbrev pub refused_where : (given_up : Bool) → LineStatus → Bool
refused_where false status = is_refused_status status
refused_where true status = false

abbrev pub message_where : (given_up : Bool) → Form → (before : ℕ) → ℕ → (from_line : Option ℕ) → LineStatus → List ℕ
message_where false form before n from_line status = status_message form before n from_line status
message_where true form before n from_line status = given_up_message form.told_name.now n from_line

-- how many of its nodes are selected, as far as they are wanted: of one that is given up none, and of one that is not judged
abbrev pub selected_in : Question → Item → ℕ
selected_in question item = selected_where (is_given_up item) question item.most (judged item.most item.status)

abbrev pub refused_item : Item → Bool
refused_item item = refused_where (is_given_up item) (judged item.most item.status)

-- what is told of it: where it is given up, what comes next does not follow it
abbrev pub item_events : Question → Form → ℕ → Item → List Event
item_events question form n item = told_of_all item.given_up (status_events question form n item.text item.most item.status) ++ gap_where (is_given_up item)

abbrev pub item_message : Form → (before : ℕ) → ℕ → Item → List ℕ
item_message form before n item = message_where (is_given_up item) form before n item.from_line (judged item.most item.status)

-- the text of it
abbrev pub item_rows : Question → Form → ℕ → Item → List ℕ
item_rows question form n item = text_of (item_events question form n item)

-- what is told of some items, where the first has number n
abbrev pub events_from : Question → Form → ℕ → List Item → List Event
events_from question form n [] = []
events_from question form n (item ∷ rest) = item_events question form n item ++ events_from question form (n + 1) rest

-- and of a stream of them, which begins after another
abbrev pub stream_events : Question → Form → List Item → List Event
stream_events question form items = gap_event ∷ events_from question form 1 items

-- the text of some items
abbrev pub output_from : Question → Form → ℕ → List Item → List ℕ
output_from question form n items = text_of (events_from question form n items)

-- how many of them are refused
abbrev pub refused_count : List Item → ℕ
refused_count items = count_by refused_item items

-- the messages on them, where some items in front of them are refused
abbrev pub messages_from : Form → (before : ℕ) → ℕ → List Item → List ℕ
messages_from form before n [] = []
messages_from form before n (item ∷ rest) = item_message form before n item ++ messages_from form (before + cond (refused_item item) 1 0) (n + 1) rest

-- how many of their nodes are selected
abbrev pub selected_count : Question → List Item → ℕ
selected_count question items = sum_by (selected_in question) items

-- what is written after the rows of a stream, where `count` of its lines were selected, and all were answered or not: a stream
-- without selected lines is one of which all were
abbrev pub summary_of : Summary → Form → (count : ℕ) → (all : Bool) → List ℕ
summary_of summaries.Nothing form count all = []
summary_of summaries.Count form count all = name_front form.named form.null form.coloured form.name.now (codes ":") ++ (decimal count ++ line_feed)
summary_of summaries.NameWith form count all = if count == 0 then [] else painted form.coloured parts.Name form.name.now ++ behind_name form.null line_feed
summary_of summaries.NameWithout form count all = if (count == 0) && all then painted form.coloured parts.Name form.name.now ++ behind_name form.null line_feed else []
