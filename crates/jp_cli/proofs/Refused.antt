-- A query that is refused is told by its fault.
use Rattle.std.proofs.Common.{◌≡◌, ℕ, List, ap, sym, refl, ◌∙◌}
use Rattle.std.specs.Prelude.{Result, Ok, Err, OnOk}
use Rattle.jp_model.specs.declared.Setup.{Setup}
use Rattle.jp_model.specs.Script.Commands.{query_line, explain_line}
use Rattle.jp_model.specs.Script.Machine.{State, query_answer, explain_answer}
use Rattle.jp_query.specs.Refusals.{TellsRefusal}
use Rattle.jp_query.specs.Status.{query_of}
use Rattle.jp_query.specs.declared.reading.Refusal.{Refusal}
use Rattle.jp_query.specs.declared.reading.Refusal.TheVariants as refusals
use Rattle.jp_cli.specs.Refusals.{RepliesToRefusal}
use Rattle.jp_cli.specs.Runs.{opened_by, opens, RepliesTo}
use Rattle.jp_cli.specs.declared.reply.Reply.{Reply}

pub query_refused : {E : Type 0} (setup : Setup) (state : State) (text : List ℕ) (refusal : Refusal) (reply : Result Reply E) → TellsRefusal text refusal → RepliesToRefusal refusal reply
    → RepliesTo query_of setup (query_line text) state state reply
query_refused setup state text (refusals.Fault found) (Ok r) e t = (t ∙ ap (query_answer setup.framing state) (sym e.0), refl)
query_refused setup state text (refusals.Fault found) (Err r) e t = absurd t
query_refused setup state text refusals.Memory (Ok r) e t = absurd t
query_refused setup state text refusals.Memory (Err r) e t = (tt, refl)

-- a query that is refused opens no line
pub none_opened : {E : Type 0} (setup : Setup) (state : State) (text : List ℕ) (refusal : Refusal) (reply : Result Reply E) → TellsRefusal text refusal → RepliesToRefusal refusal reply
    → OnOk reply (opens query_of setup state (query_line text) ≡ 0)
none_opened setup state text (refusals.Fault found) (Ok r) e t = ap (opened_by setup state) e.0
none_opened setup state text (refusals.Fault found) (Err r) e t = absurd t
none_opened setup state text refusals.Memory (Ok r) e t = absurd t
none_opened setup state text refusals.Memory (Err r) e t = tt

pub explain_refused : {E : Type 0} (setup : Setup) (state : State) (text : List ℕ) (refusal : Refusal) (reply : Result Reply E) → TellsRefusal text refusal → RepliesToRefusal refusal reply
    → RepliesTo query_of setup (explain_line text) state state reply
explain_refused setup state text (refusals.Fault found) (Ok r) e t = (t ∙ ap (explain_answer setup.framing state) (sym e.0), refl)
explain_refused setup state text (refusals.Fault found) (Err r) e t = absurd t
explain_refused setup state text refusals.Memory (Ok r) e t = absurd t
explain_refused setup state text refusals.Memory (Err r) e t = (tt, refl)
