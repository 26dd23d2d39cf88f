use Rattle.std.proofs.Common.{rules}
use Rattle.tag.proofs.tags.TagOrd.cmp.Goals as goal

pub returns : goal.returns
returns c = search rules
