use Rattle.std.proofs.Common.{◌≡◌, ◌++◌, drop, flat_map, map}
use Rattle.markup.specs.Markup.{attribute_of, attribute_text}
use Rattle.markup.proofs.attributes.append_attributes.Given as goal

abbrev pub invariant-loop-attribute : goal.invariant-loop-attribute
invariant-loop-attribute l = l.page.items ++ flat_map attribute_text (map attribute_of (drop l.attribute-index l.attributes))
    ≡ l.fn.page.items ++ flat_map attribute_text (map attribute_of l.attributes)
