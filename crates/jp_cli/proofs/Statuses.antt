-- The status of a line, at its index and as it is told.
use Rattle.std.proofs.Common.{◌≡◌, ◌∙◌, ◌+◌, ◌-◌, ◌<◌, ℕ, [], length, sym, ap, arith, get_or}
use Rattle.std.specs.Prelude.{Option, Some, slice_get, List, ◌∷◌}
use Rattle.std.specs.Option.{option_map}
use Rattle.std.proofs.lemmas.Option.{slice_get-map, slice_get-get_or, get_or_from_slice_get}
use Rattle.jp_model.specs.declared.LineFault.{LineFault}
use Rattle.jp_model.specs.Json.Reader.{status_of}
use Rattle.jp_model.specs.Json.Status.{LineStatus, blank, refused, parsed}
use Rattle.jp_model.specs.Script.Machine.{text_or_nothing, refusals_from}
use Rattle.jp_store.specs.Collections.{Collection, line_status, statuses_in}
use Rattle.jp_lines.specs.Views.{status_kind}
use Rattle.jp_lines.specs.declared.Status.{Status}
use Rattle.jp_lines.specs.declared.Status.TheVariants as told
use Rattle.jp_model.specs.declared.Framing.{Framing}
use Rattle.jp_devices.specs.Devices.{Device, Received}
use Rattle.jp_devices.proofs.Devices.{received_none}

-- the status of a line stands at its index
pub status_at : (c : Collection) (i : ℕ) (d : LineStatus) → i < length c.state.lines → get_or (statuses_in c) i d ≡ line_status (i + 1) c
status_at c i d l =
    let index : (i + 1) - 1 ≡ i = omega arith in
    let told : slice_get (statuses_in c) i ≡ Some (status_of c.framing (get_or c.state.lines i [])) =
    slice_get-map (status_of c.framing) c.state.lines i ∙ ap (option_map (status_of c.framing)) (slice_get-get_or c.state.lines i [] l) in
    get_or_from_slice_get (statuses_in c) i (status_of c.framing (get_or c.state.lines i [])) d told
    ∙ ap (λ o. status_of c.framing (text_or_nothing o)) (sym (slice_get-get_or c.state.lines i [] l) ∙ ap (slice_get c.state.lines) (sym index))

-- what is told of a refused line
pub told_refused : (s : LineStatus) (fault : LineFault) → told.Refused fault ≡ status_kind s → s ≡ refused fault
told_refused blank fault e = absurd (cc)
told_refused (refused other) fault e = cc
told_refused (parsed t) fault e = absurd (cc)

-- nothing is written of a blank line
pub nothing_of_blank : {W : Type 0} (contents : W → Option (List ℕ)) (w : Device W) (f : Framing) (n : ℕ) (s : LineStatus) (k : Status) → k ≡ status_kind s → k ≡ told.Blank → Received contents w w (refusals_from f n (s ∷ []))
nothing_of_blank contents w f n blank k e is = received_none contents w
nothing_of_blank contents w f n (refused fault) k e is = absurd (cc)
nothing_of_blank contents w f n (parsed t) k e is = received_none contents w

-- nor of one with a tree
pub nothing_of_tree : {W : Type 0} (contents : W → Option (List ℕ)) (w : Device W) (f : Framing) (n : ℕ) (s : LineStatus) (k : Status) → k ≡ status_kind s → k ≡ told.Tree → Received contents w w (refusals_from f n (s ∷ []))
nothing_of_tree contents w f n blank k e is = received_none contents w
nothing_of_tree contents w f n (refused fault) k e is = absurd (cc)
nothing_of_tree contents w f n (parsed t) k e is = received_none contents w
