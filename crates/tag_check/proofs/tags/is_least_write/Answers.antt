use Rattle.std.proofs.Common.{Some, ap, sym, ◌∙◌}
use Rattle.std.proofs.lemmas.Option.{none-some, same_Some}
use Rattle.tag.specs.Tags.{least}
use Rattle.tag_check.proofs.tags.is_least_write.Goals as goal

pub returns-in-Some : goal.returns-in-Some
returns-in-Some c = (
  λ yes. (c.write_tag.ensures least).0 (c.in-Some.is ∙ ap Some (c.is_least.ensures.0 yes)),
  λ h. c.is_least.ensures.1 (same_Some c.in-Some.tag least (sym c.in-Some.is ∙ (c.write_tag.ensures least).1 h)),
)

pub returns-in-None : goal.returns-in-None
returns-in-None c = (λ no. absurd (cc), λ h. absurd (none-some least (sym c.in-None.is ∙ (c.write_tag.ensures least).1 h)))
