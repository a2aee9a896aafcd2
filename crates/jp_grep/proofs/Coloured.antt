-- Rows in colours, and the same without.
use Rattle.std.proofs.Common.{◌≡◌, ℕ, zero, suc, ◌+◌, cond, List, [], ◌∷◌, ◌++◌, refl, sym, subst, codes, decimal, filter, flat_map, map, take, Bool, true, false, if◌then◌else◌, Option, Some, None}
use Rattle.std.specs.Prelude.{All, not, ◌==◌, ◌&&◌}
use Rattle.jp_sink.specs.Events.{Event, event_text, gap_event, node_event, row_event, text_of}
use Rattle.std.proofs.lemmas.List.Elements.{All-head, All-tail, filter-append}
use Rattle.jp_context.specs.Colours.{EventInColours, TellInColours}
use Rattle.jp_context.proofs.InColours.{tell_both, told_alike}
use Rattle.jp_form.specs.declared.form.Form.{Form}
use Rattle.jp_form.specs.declared.form.Shown.{Shown}
use Rattle.jp_form.specs.declared.form.Shown.TheVariants as shown
use Rattle.jp_form.specs.declared.form.Spelling.{Spelling}
use Rattle.jp_form.specs.declared.form.Summary.{Summary}
use Rattle.jp_form.specs.declared.form.Summary.TheVariants as summaries
use Rattle.jp_form.specs.declared.form.Units.{Units}
use Rattle.jp_form.specs.declared.form.Units.TheVariants as unit
use Rattle.jp_model.specs.declared.Framing.TheVariants as framings
use Rattle.jp_model.specs.declared.LineFault.{LineFault}
use Rattle.jp_model.specs.declared.Span.{Span}
use Rattle.jp_model.specs.Json.Status.{LineStatus, blank, refused, parsed}
use Rattle.jp_model.specs.Json.Tree.{Tree, span}
use Rattle.jp_model.specs.Meaning.Nodes.{Node}
use Rattle.jp_model.specs.Meaning.Paths.{path_text}
use Rattle.jp_model.specs.Rows.{line_feed, row_start, source, tab}
use Rattle.jp_paint.specs.Colours.{painted, without_sequences}
use Rattle.jp_paint.specs.Laws.{Paints}
use Rattle.jp_paint.specs.Marked.{is_marked, marked_from, turn}
use Rattle.jp_paint.specs.declared.part.Part.TheVariants as parts
use Rattle.jp_paint.proofs.Sequences.{joined_paints, marked_paints, painted_paints, plain_stays}
use Rattle.jp_grep.specs.Colours.{ColoursComeOffContext, ColoursComeOffRows, ColoursComeOffSummaries, HeadersHaveNoColours, IsMarked, MarksSources, Searched, events_of, searched_without, without_colours}
use Rattle.jp_grep.specs.Items.{Item, framing_by, is_given_up, judged}
use Rattle.jp_grep.specs.Matching.{nodes_of, queries_of, selected_nodes, selected_of, wanted_of, wants_refused}
use Rattle.jp_grep.specs.Rows.{behind_name, events_around, events_from, fault_front, front, item_events, line_text, marks_of, name_front, node_events, number_front, path_front, refused_events, row, row_around, selected_events, shown_line, status_events, stream_events, summary_of, text_around, told_of_all, value_event, value_row, whole, whole_marked}
use Rattle.jp_grep.specs.Telling.{gap_where}
use Rattle.jp_grep.specs.Spelled.{is_line_break, spelled}
use Rattle.jp_grep.specs.Tables.{header_text, table_row}
use Rattle.jp_grep.specs.declared.question.Question.{Question}

-- ---- what stands in front

behind_paints : (null coloured : Bool) (sign : List ℕ) → Paints (behind_name null sign) (behind_name null (painted coloured parts.Sign sign))
behind_paints false coloured sign = painted_paints coloured parts.Sign sign
behind_paints true coloured sign = plain_stays (0x00 ∷ [])

name_paints : (named null coloured : Bool) (name sign : List ℕ) → Paints (name_front named null false name sign) (name_front named null coloured name sign)
name_paints false null coloured name sign = plain_stays []
name_paints true null coloured name sign =
    joined_paints name (painted coloured parts.Name name) (behind_name null sign) (behind_name null (painted coloured parts.Sign sign))
    (painted_paints coloured parts.Name name) (behind_paints null coloured sign)

number_paints : (numbered coloured : Bool) (n : ℕ) (sign : List ℕ) → Paints (number_front numbered false n sign) (number_front numbered coloured n sign)
number_paints false coloured n sign = plain_stays []
number_paints true coloured n sign =
    joined_paints (decimal n) (painted coloured parts.Place (decimal n)) sign (painted coloured parts.Sign sign)
    (painted_paints coloured parts.Place (decimal n)) (painted_paints coloured parts.Sign sign)

front_paints : (sign : List ℕ) (form : Form) (n : ℕ) → Paints (front sign (without_colours form) n) (front sign form n)
front_paints sign form n =
    let name = form.name.now in
    let begun = row_start (framing_by form.units) in
    let plain_name = name_front form.named form.null false name sign in
    let plain_number = number_front form.numbered false n sign in
    let name_painted = name_front form.named form.null form.coloured name sign in
    let number_painted = number_front form.numbered form.coloured n sign in
    joined_paints (begun ++ plain_name) (begun ++ name_painted) plain_number number_painted
    (joined_paints begun begun plain_name name_painted (plain_stays begun) (name_paints form.named form.null form.coloured name sign))
    (number_paints form.numbered form.coloured n sign)

-- a row with either sign in front
row_paints : (sign : List ℕ) (form : Form) (n : ℕ) (body other : List ℕ) → Paints body other
    → Paints (front sign (without_colours form) n ++ (body ++ line_feed)) (front sign form n ++ (other ++ line_feed))
row_paints sign form n body other same =
    joined_paints (front sign (without_colours form) n) (front sign form n) (body ++ line_feed) (other ++ line_feed) (front_paints sign form n)
    (joined_paints body other line_feed line_feed same (plain_stays line_feed))

path_paints : (paths coloured : Bool) (node : Node) → Paints (path_front paths false node) (path_front paths coloured node)
path_paints false coloured node = plain_stays []
path_paints true coloured node =
    let path = path_text node.location in
    joined_paints path (painted coloured parts.Place path) tab tab (painted_paints coloured parts.Place path) (plain_stays tab)

value_row_paints : (form : Form) (paths : Bool) (n : ℕ) (line : List ℕ) (node : Node) → Paints (value_row (without_colours form) paths n line node) (value_row form paths n line node)
value_row_paints form paths n line node =
    let value = spelled form.spelling form.units line node.tree in
    row_paints (codes ":") form n (path_front paths false node ++ value) (path_front paths form.coloured node ++ value)
    (joined_paints (path_front paths false node) (path_front paths form.coloured node) value value (path_paints paths form.coloured node) (plain_stays value))

-- ---- a line in which nodes are coloured

abbrev keeps : ℕ → Bool
keeps byte = not (is_line_break byte)

-- no byte of a colour is a line break
turned : (before now : Bool) (rest : List ℕ) → without_sequences (filter keeps (turn before now) ++ rest) ≡ without_sequences rest
turned false false rest = refl
turned false true rest = refl
turned true false rest = refl
turned true true rest = refl

turn_paints : (before now : Bool) → Paints [] (filter keeps (turn before now))
turn_paints before now e rest = turned before now rest

abbrev kept : Bool → ℕ → List ℕ → List ℕ
kept is byte more = cond is (byte ∷ more) more

kept_paints : (is : Bool) (byte : ℕ) (more others : List ℕ) → Paints more others → Paints (kept is byte more) (kept is byte others)
kept_paints true byte more others same = joined_paints (byte ∷ []) (byte ∷ []) more others (plain_stays (byte ∷ [])) same
kept_paints false byte more others same = same

filtered_paints : (spans : List Span) (before : Bool) (place : ℕ) (text : List ℕ) → Paints (filter keeps text) (filter keeps (marked_from spans before place text))
filtered_paints spans before place [] = turn_paints before false
filtered_paints spans before place (byte ∷ text) =
    let now = is_marked spans place in
    let more = marked_from spans now (place + 1) text in
    subst (λ (l : List ℕ). Paints (filter keeps (byte ∷ text)) l) (sym (filter-append keeps (turn before now) (byte ∷ more)))
    (joined_paints [] (filter keeps (turn before now)) (filter keeps (byte ∷ text)) (filter keeps (byte ∷ more)) (turn_paints before now)
    (kept_paints (keeps byte) byte (filter keeps text) (filter keeps more) (filtered_paints spans now (place + 1) text)))

whole_paints : (units : Units) (spans : List Span) (line : List ℕ) (t : Tree) → Paints (whole units line t) (whole_marked units spans line t)
whole_paints (unit.Lines framings.Lines) spans line t = marked_paints spans 0 line
whole_paints (unit.Lines framings.Sequence) spans line t = marked_paints spans (span t).start (source line t)
whole_paints (unit.Pieces pieces) spans line t = filtered_paints spans false (span t).start (source line t)

shown_paints : (question : Question) (form : Form) (line : List ℕ) (t : Tree) (node : Node) → MarksSources form
    → Paints (shown_line question (without_colours form) line t node) (shown_line question form line t node)
shown_paints question form line t node marks = by form.marked refl
  where
    marked_text : List ℕ
    marked_text = whole_marked form.units (marks_of question t node) line t

    by : (b : Bool) → form.marked ≡ b → Paints (line_text form.spelling form.units line t) (if b then marked_text else line_text form.spelling form.units line t)
    by false e = plain_stays (line_text form.spelling form.units line t)
    by true e = subst (λ (s : Spelling). Paints (line_text s form.units line t) marked_text) (sym (marks e)) (whole_paints form.units (marks_of question t node) line t)

-- ---- what is told, one thing after another

taken : (count : ℕ) (events others : List Event) → TellInColours events others → TellInColours (take count events) (take count others)
taken zero events others same = tt
taken (suc count) [] [] same = tt
taken (suc count) [] (other ∷ others) same = absurd same
taken (suc count) (event ∷ events) [] same = absurd same
taken (suc count) (event ∷ events) (other ∷ others) same = (same.0, taken count events others same.1)

mapped : {X : Type 0} (f g : X → Event) (xs : List X) → ((x : X) → EventInColours (f x) (g x)) → TellInColours (map f xs) (map g xs)
mapped f g [] same = tt
mapped f g (x ∷ xs) same = (same x, mapped f g xs same)

flat_mapped : {X : Type 0} (f g : X → List Event) (xs : List X) → ((x : X) → TellInColours (f x) (g x)) → TellInColours (flat_map f xs) (flat_map g xs)
flat_mapped f g [] same = tt
flat_mapped f g (x ∷ xs) same = tell_both (f x) (g x) (flat_map f xs) (flat_map g xs) (same x) (flat_mapped f g xs same)

row_alike : (selected : Bool) (text other : List ℕ) → Paints text other → EventInColours (row_event selected text) (row_event selected other)
row_alike selected text other same = record { gap = refl; selected = refl; text = same }

gap_alike : EventInColours gap_event gap_event
gap_alike = record { gap = refl; selected = refl; text = plain_stays [] }

module _ (question : Question) (form : Form) (marks : MarksSources form) (n : ℕ) (line : List ℕ) where
  abbrev plain : Form
  plain = without_colours form

  line_alike : (t : Tree) (node : Node) → EventInColours (row_event true (row plain n (shown_line question plain line t node))) (row_event true (row form n (shown_line question form line t node)))
  line_alike t node =
      row_alike true (row plain n (shown_line question plain line t node)) (row form n (shown_line question form line t node))
      (row_paints (codes ":") form n (shown_line question plain line t node) (shown_line question form line t node) (shown_paints question form line t node marks))

  node_alike : (s : Shown) (t : Tree) (node : Node) → TellInColours (node_events s question plain n line t node) (node_events s question form n line t node)
  node_alike shown.Nothing t node = tt
  node_alike (shown.Line faults) t node = (line_alike t node, tt)
  node_alike shown.Around t node = (line_alike t node, tt)
  node_alike shown.Nodes t node = (record { gap = refl; selected = refl; text = plain_stays (event_text (node_event n line node)) }, tt)
  node_alike (shown.Values paths) t node =
      mapped (value_event plain paths n line) (value_event form paths n line) (nodes_of (queries_of question) node t)
      (λ found. row_alike true (value_row plain paths n line found) (value_row form paths n line found) (value_row_paints form paths n line found))
  node_alike (shown.Cells table) t node =
      let cells = table_row table (queries_of question) form n line t node in
      (row_alike true cells cells (plain_stays cells), tt)

  refused_alike : (s : Shown) (fault : LineFault) → TellInColours (refused_events s plain n line fault) (refused_events s form n line fault)
  refused_alike shown.Nothing fault = tt
  refused_alike (shown.Line faults) fault =
      let body = fault_front faults fault ++ line in
      (row_alike true (row plain n body) (row form n body) (row_paints (codes ":") form n body body (plain_stays body)), tt)
  refused_alike shown.Around fault = (row_alike true (row plain n line) (row form n line) (row_paints (codes ":") form n line line (plain_stays line)), tt)
  refused_alike shown.Nodes fault = tt
  refused_alike (shown.Values paths) fault = tt
  refused_alike (shown.Cells table) fault = tt

  around_alike : (s : Shown) (selected : ℕ) (status : LineStatus) → TellInColours (events_around s plain n line selected status) (events_around s form n line selected status)
  around_alike shown.Nothing selected status = tt
  around_alike (shown.Line faults) selected status = tt
  around_alike shown.Around zero status =
      let body = text_around form.units line status in
      (row_alike false (row_around plain n body) (row_around form n body) (row_paints (codes "-") form n body body (plain_stays body)), tt)
  around_alike shown.Around (suc selected) status = tt
  around_alike shown.Nodes selected status = tt
  around_alike (shown.Values paths) selected status = tt
  around_alike (shown.Cells table) selected status = tt

  wanted_alike : (s : Shown) (wanted : Bool) (fault : LineFault)
      → TellInColours (if wanted then refused_events s plain n line fault else []) (if wanted then refused_events s form n line fault else [])
  wanted_alike s true fault = refused_alike s fault
  wanted_alike s false fault = tt

  selected_alike : (most : Option ℕ) (status : LineStatus) → TellInColours (selected_events question plain n line most status) (selected_events question form n line most status)
  selected_alike most blank = tt
  selected_alike most (refused fault) = wanted_alike form.shown (wants_refused question.wanted) fault
  selected_alike most (parsed t) =
      flat_mapped (node_events form.shown question plain n line t) (node_events form.shown question form n line t) (wanted_of most (selected_nodes question t))
      (λ node. node_alike form.shown t node)

  status_alike : (most : Option ℕ) (status : LineStatus) → TellInColours (status_events question plain n line most status) (status_events question form n line most status)
  status_alike most status =
      let count = selected_of question most (judged most status) in
      tell_both (selected_events question plain n line most (judged most status)) (selected_events question form n line most (judged most status))
      (events_around form.shown plain n line count status) (events_around form.shown form n line count status)
      (selected_alike most (judged most status)) (around_alike form.shown count status)

-- ---- the output

told_alike_of : (given_up : Option ℕ) (events others : List Event) → TellInColours events others → TellInColours (told_of_all given_up events) (told_of_all given_up others)
told_alike_of None events others same = same
told_alike_of (Some count) events others same = taken count events others same

gap_where_alike : (given_up : Bool) → TellInColours (gap_where given_up) (gap_where given_up)
gap_where_alike false = tt
gap_where_alike true = (gap_alike, tt)

events_alike : (question : Question) (form : Form) → MarksSources form → (n : ℕ) (items : List Item) → TellInColours (events_from question (without_colours form) n items) (events_from question form n items)
events_alike question form marks n [] = tt
events_alike question form marks n (item ∷ items) =
    tell_both (item_events question (without_colours form) n item) (item_events question form n item) (events_from question (without_colours form) (n + 1) items) (events_from question form (n + 1) items)
    (tell_both (told_of_all item.given_up (status_events question (without_colours form) n item.text item.most item.status)) (told_of_all item.given_up (status_events question form n item.text item.most item.status))
    (gap_where (is_given_up item)) (gap_where (is_given_up item))
    (told_alike_of item.given_up (status_events question (without_colours form) n item.text item.most item.status) (status_events question form n item.text item.most item.status)
    (status_alike question form marks n item.text item.most item.status))
    (gap_where_alike (is_given_up item)))
    (events_alike question form marks (n + 1) items)

text_paints : (events others : List Event) → TellInColours events others → Paints (text_of events) (text_of others)
text_paints [] [] same = plain_stays []
text_paints [] (other ∷ others) same = absurd same
text_paints (event ∷ events) [] same = absurd same
text_paints (event ∷ events) (other ∷ others) same = joined_paints (event_text event) (event_text other) (text_of events) (text_of others) same.0.text (text_paints events others same.1)

pub output_paints : ColoursComeOffRows
output_paints question form marks n items = text_paints (events_from question (without_colours form) n items) (events_from question form n items) (events_alike question form marks n items)

pub summary_paints : ColoursComeOffSummaries
summary_paints form count all = by form.summary
  where
    name : List ℕ
    name = form.name.now

    named : Paints (name ++ behind_name form.null line_feed) (painted form.coloured parts.Name name ++ behind_name form.null line_feed)
    named = joined_paints name (painted form.coloured parts.Name name) (behind_name form.null line_feed) (behind_name form.null line_feed)
        (painted_paints form.coloured parts.Name name) (plain_stays (behind_name form.null line_feed))

    unless : (b : Bool) → Paints (if b then [] else name ++ behind_name form.null line_feed) (if b then [] else painted form.coloured parts.Name name ++ behind_name form.null line_feed)
    unless true = plain_stays []
    unless false = named

    where_told : (b : Bool) → Paints (if b then name ++ behind_name form.null line_feed else []) (if b then painted form.coloured parts.Name name ++ behind_name form.null line_feed else [])
    where_told true = named
    where_told false = plain_stays []

    by : (s : Summary) → Paints (summary_of s (without_colours form) count all) (summary_of s form count all)
    by summaries.Nothing = plain_stays []
    by summaries.Count =
        let number = decimal count ++ line_feed in
        joined_paints (name_front form.named form.null false name (codes ":")) (name_front form.named form.null form.coloured name (codes ":")) number number
        (name_paints form.named form.null form.coloured name (codes ":")) (plain_stays number)
    by summaries.NameWith = unless (count == 0)
    by summaries.NameWithout = where_told ((count == 0) && all)

pub headers_same : HeadersHaveNoColours
headers_same form names = by form.shown
  where
    by : (s : Shown) → header_text s form names ≡ header_text s (without_colours form) names
    by shown.Nothing = refl
    by (shown.Line faults) = refl
    by shown.Around = refl
    by shown.Nodes = refl
    by (shown.Values paths) = refl
    by (shown.Cells table) = refl

-- ---- streams

streams_alike : (question : Question) (streams : List Searched) → All IsMarked streams → TellInColours (events_of question (map searched_without streams)) (events_of question streams)
streams_alike question [] told = tt
streams_alike question (one ∷ streams) told =
    tell_both (stream_events question (without_colours one.form) one.items) (stream_events question one.form one.items) (events_of question (map searched_without streams)) (events_of question streams)
    (gap_alike, events_alike question one.form (All-head IsMarked one streams told) 1 one.items)
    (streams_alike question streams (All-tail IsMarked one streams told))

pub context_paints : ColoursComeOffContext
context_paints question streams told is_coloured before after =
    told_alike is_coloured before after (events_of question (map searched_without streams)) (events_of question streams) (streams_alike question streams told)
