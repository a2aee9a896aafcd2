-- What is answered where a query's text is refused.
use Rattle.std.specs.Prelude.{◌≡◌, ◌++◌, Result, Ok, Err, codes}
use Rattle.jp_model.specs.Script.Machine.{error, query_fault_word}
use Rattle.jp_query.specs.declared.reading.Refusal.{Refusal}
use Rattle.jp_query.specs.declared.reading.Refusal.TheVariants as refusals
use Rattle.jp_cli.specs.Replies.{reply_text}
use Rattle.jp_cli.specs.declared.reply.Reply.{Reply}

-- the reply tells why; want of memory has none
abbrev pub RepliesToRefusal : {E : Type 0} → Refusal → Result Reply E → Type 0
RepliesToRefusal (refusals.Fault found) (Ok reply) = reply_text reply ≡ error (codes "query " ++ query_fault_word found.fault)
RepliesToRefusal refusals.Memory (Err refused) = Unit {0}
RepliesToRefusal _ _ = ⊥
