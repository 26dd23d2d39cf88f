use Rattle.std.proofs.Common.{◌∙◌}
use Rattle.fault_details.proofs.Quoted.{alone}
use Rattle.fault_details.proofs.shown.quoted_of.Goals as goal

pub returns : goal.returns
returns c =
    let held = c.in_ok-string.ensures.room.0 ∙ c.new-writer.ensures.before ∙ c.new.ensures.items in
    alone c.into_inner.result.items c.string.new.self.before c.args.word.now c.new-writer.result.tokens c.string.new.self.tokens
    c.into_inner.ensures.items c.in_ok-string.ensures.ok c.new-writer.ensures.tokens held
