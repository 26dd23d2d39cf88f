use Rattle.std.proofs.Common.{refl}
use Rattle.tag.specs.Names.{is_value}
use Rattle.tag.specs.declared.names.NameError.TheVariants.{BadValue}
use Rattle.fault_script.proofs.NumberLemmas.{named_gives}
use Rattle.fault_script.proofs.numbers.value_of.Goals as goal

pub returns : goal.returns
returns c =
    let made = c.new.ensures in
    named_gives BadValue c.args.text.now (is_value c.args.text.now) c.new.result c.named.result c.named.ensures refl made.value made.bad made.only
