use Rattle.std.proofs.Common.{List, ℕ, Option, ap, sym, ◌∙◌, subst}
use Rattle.std.specs.Prelude.{Vec, option_and_then}
use Rattle.std.specs.declared.alloc.Global.{Global}
use Rattle.json.specs.Find.{as_array}
use Rattle.json.specs.Json.{Json}
use Rattle.json.specs.Value.{value_view}
use Rattle.counted_devices.specs.Answers.{Gives}
use Rattle.file_format.specs.Members.{needed_member}
use Rattle.file_format.specs.Trees.{all_unsigned}
use Rattle.file_format.proofs.FoundMembers.{numbers_there}
use Rattle.file_format.proofs.document.Document.needed_numbers.Goals as goal

abbrev numbers_of : Option Json → Option (List ℕ)
numbers_of found = option_and_then all_unsigned (option_and_then as_array found)

pub returns-in_default : goal.returns-in_default
returns-in_default c =
    let j = value_view c.args.self.now.value in
    let fits = c.args.self.now.numbers in
    let name = c.args.name.now in
    ap needed_member (sym (ap numbers_of c.in_default.ensures ∙ numbers_there name j fits))

pub returns-in-Some-items_in : goal.returns-in-Some-items_in
returns-in-Some-items_in c =
    let j = value_view c.args.self.now.value in
    let fits = c.args.self.now.numbers in
    let name = c.args.name.now in
    let here = ap (option_and_then all_unsigned) c.in-Some-items_in.ensures ∙ ap numbers_of c.in-Some.ensures ∙ numbers_there name j fits in
    let P : Option (List ℕ) → Type 0 = λ o. Gives (λ (numbers : Vec ℕ Global). numbers.items) c.numbers_in.result (needed_member o) in
    subst P here c.numbers_in.ensures

pub returns-in-None : goal.returns-in-None
returns-in-None c =
    let j = value_view c.args.self.now.value in
    let fits = c.args.self.now.numbers in
    let name = c.args.name.now in
    ap needed_member (sym (ap (option_and_then all_unsigned) c.in-None.ensures ∙ ap numbers_of c.in-Some.ensures
    ∙ numbers_there name j fits))
