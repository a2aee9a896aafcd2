use Rattle.std.proofs.Common.{rules, option_map}
use Rattle.jp_cli.proofs.JoinedCommands.{script_joined}
use Rattle.jp_cli.proofs.words.Options.script_source.Goals as goal

pub returns-then-not-is_empty : goal.returns-then-not-is_empty
returns-then-not-is_empty c =
    script_joined (option_map (λ s. s.now) c.args.self.now.script) c.args.self.now.commands.items c.in_ok-script.script c.push.new.self
    (λ none. search rules)
    (search rules)
    (search rules)
