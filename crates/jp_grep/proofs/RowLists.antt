-- The first of some events.
use Rattle.std.proofs.Common.{◌≡◌, ◌∙◌, List, [], ◌++◌, length, take, sym, ap, subst, append-nil, Some}
use Rattle.std.proofs.Math.Seq.{take-append_seam}
use Rattle.jp_sink.specs.Events.{Event}
use Rattle.jp_grep.specs.Rows.{told_of_all}
use Rattle.jp_grep.specs.Telling.{TakesPart}
use Rattle.jp_grep.proofs.Putting.{part_put_more}

-- the first of some events are those of an item that is given up
pub first_told : (events first others : List Event) → events ≡ first ++ others → told_of_all (Some (length first)) events ≡ first
first_told events first others split = ap (take (length first)) split ∙ take-append_seam first others

-- those that are all are first
pub all_first : (events first others : List Event) → events ≡ first ++ others → others ≡ [] → first ≡ events
all_first events first others split none = sym (append-nil first) ∙ ap (λ l. first ++ l) (sym none) ∙ sym split

-- a part of the first events is one of all
pub part_of_first : {S : Type 0} (stands stopped : S → List Event → Type 0) (a b : S) (events first others : List Event) → events ≡ first ++ others → TakesPart stands stopped a b first → TakesPart stands stopped a b events
part_of_first stands stopped a b events first others split part = subst (TakesPart stands stopped a b) (sym split) (part_put_more stands stopped a b first others part)
