-- What an edit that is refused answers.
use Rattle.std.proofs.Common.{◌≡◌, ℕ, List, Bool, true, false, refl, if◌then◌else◌, codes, length}
use Rattle.std.specs.Prelude.{Result, Ok, Err, Option, Some, None, nat_le, nat_lt, ◌&&◌, decimal, ◌++◌, ◌+◌}
use Rattle.jp_model.specs.Query.Status.{QueryStatus}
use Rattle.jp_model.specs.Script.Commands.{append_line, replace_line}
use Rattle.jp_model.specs.Script.Machine.{State, Outcome, keeps, error, said, edited, bytes_held}
use Rattle.jp_store.specs.Collections.{appended, replaced}
use Rattle.jp_store.specs.Faults.{RefusesEdit, append_fault, replace_fault, edit_fault, has_separator}
use Rattle.jp_store.specs.declared.EditFault.{EditFault}
use Rattle.jp_store.specs.declared.EditFault.TheVariants as edits
use Rattle.jp_cli.specs.Replies.{reply_text, TellsEditFault}
use Rattle.jp_cli.specs.Runs.{RepliesTo, setup_of}
use Rattle.jp_cli.specs.declared.reply.Reply.{Reply}
use Rattle.jp_cli.specs.declared.session.Session.{Session}

-- a reply and the state that stays are those of an outcome; a refused growth has no reply
abbrev Tells : {E : Type 0} → Outcome → State → Result Reply E → Type 0
Tells o state (Ok reply) = (reply_text reply ≡ o.written) × (state ≡ o.after)
Tells o state (Err refused) = Unit {0} × (state ≡ state)

-- by the two tests of an edit
abbrev fault : Bool → Bool → Option EditFault
fault big split = if big then Some edits.Size else if split then Some edits.Separator else None

abbrev chosen : State → Bool → Bool → Outcome → Outcome
chosen state big split o = if big then keeps (error (codes "size")) state else if split then keeps (error (codes "separator")) state else o

told : {E : Type 0} (state : State) (b s : Bool) (o : Outcome) (f : EditFault) (reply : Result Reply E) → RefusesEdit f (fault b s) → TellsEditFault f reply → Tells (chosen state b s o) state reply
told state true s o edits.Size (Ok r) e t = (t, refl)
told state false true o edits.Size (Ok r) e t = absurd (cc)
told state false false o edits.Size (Ok r) e t = absurd (cc)
told state b s o edits.Size (Err r) e t = absurd t
told state true s o edits.Separator (Ok r) e t = absurd (cc)
told state false true o edits.Separator (Ok r) e t = (t, refl)
told state false false o edits.Separator (Ok r) e t = absurd (cc)
told state b s o edits.Separator (Err r) e t = absurd t
told state true s o edits.NoLine (Ok r) e t = absurd (cc)
told state false true o edits.NoLine (Ok r) e t = absurd (cc)
told state false false o edits.NoLine (Ok r) e t = absurd (cc)
told state b s o edits.NoLine (Err r) e t = absurd t
told state b s o edits.Memory (Ok r) e t = absurd t
told state b s o edits.Memory (Err r) e t = (tt, refl)

module _ (query_of : List ℕ → QueryStatus) (session : Session) (text : List ℕ) where
  refused : {E : Type 0} (lines : List (List ℕ)) (done : List ℕ) (f : EditFault) (reply : Result Reply E) → RefusesEdit f (edit_fault text lines session.store) → TellsEditFault f reply → Tells (edited (setup_of session) session.store.state text lines done) session.store.state reply
  refused lines done f reply e t = told session.store.state (nat_lt session.store.most (bytes_held lines)) (has_separator text session.store)
      (record { written = done; after = record session.store.state { lines = lines } }) f reply e t

  as_append : {E : Type 0} (reply : Result Reply E) → Tells (edited (setup_of session) session.store.state text (appended text session.store) (said (codes "appended " ++ decimal (length session.store.state.lines + 1)))) session.store.state reply → RepliesTo query_of (setup_of session) (append_line text) session.store.state session.store.state reply
  as_append (Ok r) h = h
  as_append (Err r) h = h

  pub append_refused : {E : Type 0} (f : EditFault) (reply : Result Reply E) → RefusesEdit f (append_fault text session.store) → TellsEditFault f reply → RepliesTo query_of (setup_of session) (append_line text) session.store.state session.store.state reply
  append_refused f reply e t = as_append reply (refused (appended text session.store) (said (codes "appended " ++ decimal (length session.store.state.lines + 1))) f reply e t)

  abbrev replacing : ℕ → Bool → Outcome
  replacing n there = if there then edited (setup_of session) session.store.state text (replaced n text session.store) (said (codes "replaced " ++ decimal n)) else keeps (error (codes "line")) session.store.state

  no_line : {E : Type 0} (f : EditFault) (o : Outcome) (reply : Result Reply E) → RefusesEdit f (Some edits.NoLine) → TellsEditFault f reply → Tells (keeps (error (codes "line")) session.store.state) session.store.state reply
  no_line edits.NoLine o (Ok r) e t = (t, refl)
  no_line edits.NoLine o (Err r) e t = absurd t
  no_line edits.Size o reply e t = absurd (cc)
  no_line edits.Separator o reply e t = absurd (cc)
  no_line edits.Memory o reply e t = absurd (cc)

  by_line : {E : Type 0} (n : ℕ) (there : Bool) (f : EditFault) (reply : Result Reply E) → RefusesEdit f (if there then edit_fault text (replaced n text session.store) session.store else Some edits.NoLine) → TellsEditFault f reply → Tells (replacing n there) session.store.state reply
  by_line n true f reply e t = refused (replaced n text session.store) (said (codes "replaced " ++ decimal n)) f reply e t
  by_line n false f reply e t = no_line f (replacing n false) reply e t

  as_replace : {E : Type 0} (n : ℕ) (reply : Result Reply E) → Tells (replacing n (nat_le 1 n && nat_le n (length session.store.state.lines))) session.store.state reply → RepliesTo query_of (setup_of session) (replace_line n text) session.store.state session.store.state reply
  as_replace n (Ok r) h = h
  as_replace n (Err r) h = h

  pub replace_refused : {E : Type 0} (n : ℕ) (f : EditFault) (reply : Result Reply E) → RefusesEdit f (replace_fault n text session.store) → TellsEditFault f reply → RepliesTo query_of (setup_of session) (replace_line n text) session.store.state session.store.state reply
  replace_refused n f reply e t = as_replace n reply (by_line n (nat_le 1 n && nat_le n (length session.store.state.lines)) f reply e t)
