-- What a tally stands for once it is told more.
use Rattle.std.proofs.Common.{◌≡◌, ◌∙◌, ◌+◌, ℕ, List, [], ◌∷◌, ap, ap₂, append-nil, sym, true, Result, Ok, Err}
use Rattle.std.specs.Prelude.{OnErr, OnOk}
use Rattle.std.proofs.lemmas.Bool.{false≢true}
use Rattle.jp_sink.specs.Events.{Event, gap_event}
use Rattle.jp_sink.specs.Telling.{Takes, Tells, has_failed}
use Rattle.jp_sink.specs.declared.Untold.{Untold}
use Rattle.jp_sink.specs.declared.Untold.TheVariants as untold
use Rattle.jp_tally.specs.Rows.{rows_told}
use Rattle.jp_tally.specs.Standing.{CountsRow, Stands}
use Rattle.jp_tally.specs.Tallies.{times}
use Rattle.jp_tally.specs.declared.tally.Tally.{Tally}
use Rattle.jp_tally.proofs.OneMore.{told_more}
use Rattle.jp_tally.proofs.Weights.{times-append}

abbrev pub Anything : Tally → List Event → Type 0
Anything tally told = Unit {0}

-- a gap is no row
pub takes_gap : (tally : Tally) → Takes Stands tally tally (gap_event ∷ [])
takes_gap tally told stands row = stands row ∙ ap (times row) (sym (told_more told (gap_event ∷ []) ∙ append-nil (rows_told told)))

-- a row is counted, or the tally failed
pub tells_row : (old new : Tally) (result : Result Unit Untold) (event : Event) (came : List ℕ) → rows_told (event ∷ []) ≡ came ∷ [] → OnOk result (CountsRow old new came)
    → OnErr result (has_failed result ≡ true) → Tells Stands Anything old new result (event ∷ [])
tells_row old new (Ok done) event came is counts failed = λ told stands row.
    counts row
    ∙ (ap₂ (λ m n. m + n) (stands row) (ap (times row) (sym is))
    ∙ (sym (times-append row (rows_told told) (rows_told (event ∷ []))) ∙ ap (times row) (sym (told_more told (event ∷ [])))))
tells_row old new (Err untold.Line) event came is counts failed = absurd (false≢true failed)
tells_row old new (Err untold.Sink) event came is counts failed = λ told later stands. tt
