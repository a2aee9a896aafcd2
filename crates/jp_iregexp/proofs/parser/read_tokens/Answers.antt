use Rattle.std.proofs.Common.{◌≡◌, ◌≤◌, ◌-◌, ◌+◌, length, None, Some, rules, arith}
use Rattle.jp_model.specs.Pattern.Groups.{after_token}
use Rattle.jp_iregexp.specs.Groups.{groups_of}
use Rattle.jp_iregexp.specs.Tokens.{token_of}
use Rattle.jp_iregexp.proofs.Turning.{first_and_rest, turns_start, turns_step, turns_refused, turns_taken, turns_end}
use Rattle.jp_iregexp.proofs.parser.read_tokens.Goals as goal

pub loop-turn-init : goal.loop-turn-init
loop-turn-init c =
    let made = c.new-groups.ensures in
    record { read = turns_start c.args.text.now (groups_of c.new-groups.result) made.groups; few = omega (arith, made.none) }

pub returns-in-None : goal.returns-in-None
returns-in-None c =
    let left = c.loop-turn.left.now in
    turns_step left _ c.first-item.result (length c.args.text.now) c.loop-turn.turn (groups_of c.loop-turn.groups) None _ (omega arith) (first_and_rest left c.first-item.result (search rules) c.first-item.is)
    (rw c.in-None.is at c.in_ok-next_token-in-len1-up.ensures) c.loop-turn.invariant.read

pub returns-in-None-2 : goal.returns-in-None-2
returns-in-None-2 c =
    let left = c.loop-turn.left.now in
    let groups = groups_of c.loop-turn.groups in
    let t = token_of c.in-Some.token in
    let refused : after_token t groups ≡ None = rw c.in-None-2.is at c.in_ok-add-in-Some.ensures.groups in
    turns_refused (length c.args.text.now - (c.loop-turn.turn + 1)) groups t c.in-Some.rest.now _ refused
    (turns_step left _ c.first-item.result (length c.args.text.now) c.loop-turn.turn groups (Some (t, c.in-Some.rest.now)) _ (omega arith) (first_and_rest left c.first-item.result (search rules) c.first-item.is)
    (rw c.in-Some.is at c.in_ok-next_token-in-len1-up.ensures) c.loop-turn.invariant.read)

pub loop-turn-preserved : goal.loop-turn-preserved
loop-turn-preserved c =
    let left = c.loop-turn.left.now in
    let groups = groups_of c.loop-turn.groups in
    let more = c.in-Some-2.more in
    let t = token_of c.in-Some.token in
    let taken : after_token t groups ≡ Some (groups_of more) = rw c.in-Some-2.is at c.in_ok-add-in-Some.ensures.groups in
    let one : more.repeated ≤ c.loop-turn.groups.repeated + 1 = rw c.in-Some-2.is at c.in_ok-add-in-Some.ensures.repeated in
    record {
      read = turns_taken (length c.args.text.now - (c.loop-turn.turn + 1)) groups (groups_of more) t c.in-Some.rest.now _ taken
          (turns_step left _ c.first-item.result (length c.args.text.now) c.loop-turn.turn groups (Some (t, c.in-Some.rest.now)) _ (omega arith) (first_and_rest left c.first-item.result (search rules) c.first-item.is)
          (rw c.in-Some.is at c.in_ok-next_token-in-len1-up.ensures) c.loop-turn.invariant.read);
      few = omega (arith, one, c.loop-turn.invariant.few);
    }

pub returns-else-is_empty : goal.returns-else-is_empty
returns-else-is_empty c =
    turns_end (length c.args.text.now) c.loop-turn.turn c.loop-turn.left.now (groups_of c.loop-turn.groups) _ (omega arith) (search rules) c.loop-turn.invariant.read
