use Rattle.std.proofs.Common.{refl}
use Rattle.tag.specs.Names.{is_key}
use Rattle.tag.specs.declared.names.NameError.TheVariants.{BadKey}
use Rattle.fault_script.proofs.NumberLemmas.{named_gives}
use Rattle.fault_script.proofs.numbers.key_of.Goals as goal

pub returns : goal.returns
returns c =
    let made = c.new.ensures in
    named_gives BadKey c.args.word.now (is_key c.args.word.now) c.new.result c.named.result c.named.ensures refl made.value made.bad made.only
