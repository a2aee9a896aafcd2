-- The bytes are the beginning of a byte order mark, or it shows whether they are framed.
use Rattle.std.proofs.Common.{◌≡◌, Bool, List, ℕ, true, false, eqb, sym, ◌∙◌}
use Rattle.std.specs.Prelude.{MatchBool}
use Rattle.std.specs.List.{starts_with}
use Rattle.jp_model.specs.declared.Framing.{Framing}
use Rattle.jp_model.specs.Lines.{is_framed}
use Rattle.jp_grep.specs.Fronts.{IsUnframed, MayBeFramed}
use Rattle.jp_grep.proofs.Fronted.{framed_may, mark_may, stays_unframed}
use Rattle.jp_grep.proofs.Marked.{Mark}
use Rattle.jp_grep.proofs.stream.may_be_framed.Goals as goal

by_mark : (framing : Framing) (bytes : List ℕ) (r : Bool) → r ≡ starts_with eqb Mark bytes → r ≡ true → MatchBool r (MayBeFramed framing bytes) (IsUnframed framing bytes)
by_mark framing bytes true e h = mark_may framing bytes (sym e)
by_mark framing bytes false e h = absurd (cc)

by_frame : (framing : Framing) (bytes : List ℕ) (r : Bool) → starts_with eqb Mark bytes ≡ false → r ≡ is_framed framing bytes → MatchBool r (MayBeFramed framing bytes) (IsUnframed framing bytes)
by_frame framing bytes true s e = framed_may framing bytes (sym e)
by_frame framing bytes false s e = stays_unframed framing bytes s (sym e)

pub returns-then-starts_with : goal.returns-then-starts_with
returns-then-starts_with c = by_mark c.args.framing c.args.bytes.now c.starts_with.result c.starts_with.ensures.value c.if-starts_with.true

pub returns-else-starts_with : goal.returns-else-starts_with
returns-else-starts_with c = by_frame c.args.framing c.args.bytes.now c.is_framed_text.result (sym c.starts_with.ensures.value ∙ c.if-starts_with.false) c.is_framed_text.ensures
