use Rattle.std.proofs.Common.{◌≡◌, drop, map, false}
use Rattle.clap.specs.Words.{app_of}
use Rattle.clap.specs.declared.builder.command.Command.TheViews.{out-Command as fields_of}
use Rattle.command_line.specs.CommandWords.{command_app, rule_of_word, with_rules}
use Rattle.command_line.proofs.word.command_of.Given as goal

abbrev pub invariant-loop-word : goal.invariant-loop-word
invariant-loop-word l = record {
  app : with_rules (app_of l.made) (map rule_of_word (drop l.word-index l.words))
      ≡ command_app l.fn.name (map rule_of_word l.words);
  local : (fields_of l.made).has_globals ≡ false;
}
