use Rattle.std.proofs.Common.{◌≡◌, ◌-◌, ◌≤◌, length, option_and_then}
use Rattle.jp_model.specs.Pattern.Groups.{pattern_of_tokens}
use Rattle.jp_model.specs.Pattern.Reading.{tokens_of}
use Rattle.jp_iregexp.specs.Groups.{groups_of}
use Rattle.jp_iregexp.specs.Tokens.{read_on}
use Rattle.jp_iregexp.proofs.parser.read_tokens.Given as goal

abbrev pub invariant-loop-turn : goal.invariant-loop-turn
invariant-loop-turn l = record { read : read_on (length l.text - l.turn) l.left (groups_of l.groups) ≡ option_and_then pattern_of_tokens (tokens_of l.text); few : l.groups.repeated ≤ l.turn }
