use Rattle.markup.proofs.ReadTags.{page_read}
use Rattle.markup.proofs.laws.the_tags_of_a_page_are_its_elements.Goals as goal

pub returns : goal.returns
returns c = page_read
