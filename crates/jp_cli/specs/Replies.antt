-- The text of a reply.
use Rattle.std.specs.Prelude.{◌≡◌, ℕ, List, ◌++◌, Result, Ok, Err, codes, decimal}
use Rattle.jp_model.specs.Script.Machine.{said, error}
use Rattle.jp_store.specs.declared.EditFault.{EditFault}
use Rattle.jp_store.specs.declared.EditFault.TheVariants as edits
use Rattle.jp_cli.specs.declared.reply.Reply.{Reply}
use Rattle.jp_cli.specs.declared.reply.Reply.TheVariants as replies

-- what is written for it
abbrev pub reply_text : Reply → List ℕ
reply_text (replies.Fixed words) = words.now
reply_text (replies.Numbered words number) = said (words.now ++ decimal number)
reply_text (replies.Lines lines) = lines.items

-- what is written for it, or where a growth was refused
abbrev pub answered_text : {E : Type 0} → Result Reply E → List ℕ
answered_text (Ok reply) = reply_text reply
answered_text (Err refused) = error (codes "memory")

-- the reply tells why an edit is refused; want of memory has none
abbrev pub TellsEditFault : {E : Type 0} → EditFault → Result Reply E → Type 0
TellsEditFault edits.NoLine (Ok reply) = reply_text reply ≡ error (codes "line")
TellsEditFault edits.Size (Ok reply) = reply_text reply ≡ error (codes "size")
TellsEditFault edits.Separator (Ok reply) = reply_text reply ≡ error (codes "separator")
TellsEditFault edits.Memory (Err refused) = Unit {0}
TellsEditFault _ _ = ⊥
