-- A line of the collection, and where nodes stand in it.
use Rattle.std.specs.Prelude.{◌≡◌, ℕ, List, Option, Some, None}
use Rattle.jp_model.specs.declared.QueryFault.{QueryFault}
use Rattle.jp_model.specs.Query.Status.{query, refused_query}
use Rattle.jp_model.specs.Query.Syntax.{Segments}
use Rattle.jp_query.specs.Status.{query_of}
use Rattle.jp_store.specs.Collections.{Collection}
use Rattle.jp_cli.specs.Marks.{line_at, marks_at}
use Rattle.jp_cli.specs.Runs.{setup_of, state_of}
use Rattle.jp_c.specs.declared.lines.ShowFault.{ShowFault}
use Rattle.jp_c.specs.declared.lines.ShowFault.TheVariants as faults
use Rattle.jp_c.specs.declared.session.Session.{Session}

-- the line of a number of what a handle has, counted from 1
abbrev pub line_of : ℕ → Option Session → Option (List ℕ)
line_of number None = None
line_of number (Some session) = line_at number (state_of session.collection).lines

-- why a line is not left: there is none, or, where there is one, a growth was refused
abbrev pub TellsNoLine : ShowFault → Option (List ℕ) → Type 0
TellsNoLine faults.Query line = ⊥
TellsNoLine faults.Line line = line ≡ None
TellsNoLine faults.Memory line = line ≡ None → ⊥

-- the text is read as a query, and these are the marks of what it selects in the line of a number
abbrev pub AreMarked : (text : List ℕ) → ℕ → Collection → List ℕ → Type 0
AreMarked text number c marks = (q : Segments) × (query_of text ≡ query q) × (marks_at q number c ≡ Some marks)

-- the same of what a handle has
abbrev pub AreMarkedIn : (text : List ℕ) → ℕ → Option Session → List ℕ → Type 0
AreMarkedIn text number None marks = ⊥
AreMarkedIn text number (Some session) marks = AreMarked text number session.collection.store marks

-- the text is refused as a query
abbrev pub IsRefusedText : List ℕ → Type 0
IsRefusedText text = (fault : QueryFault) × (query_of text ≡ refused_query fault)

-- why no marks are left: the query is refused, there is no line, or a growth was refused
abbrev pub TellsNoMarks : ShowFault → (text : List ℕ) → Option (List ℕ) → Type 0
TellsNoMarks faults.Query text line = IsRefusedText text
TellsNoMarks faults.Line text line = line ≡ None
TellsNoMarks faults.Memory text line = Unit {0}

-- the lines, the indexes and the setup are the same
abbrev pub KeepsLines : Option Session → Option Session → Type 0
KeepsLines (Some old) (Some new) = (state_of new.collection ≡ state_of old.collection) × (setup_of new.collection ≡ setup_of old.collection)
KeepsLines (Some old) None = ⊥
KeepsLines None new = new ≡ None
