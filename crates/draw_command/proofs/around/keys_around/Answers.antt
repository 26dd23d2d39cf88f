use Rattle.std.proofs.Common.{ℕ, List, Option, ap, map, sym, ◌∙◌}
use Rattle.std.specs.Borrow.{Bor}
use Rattle.std.proofs.lemmas.Result.{IfOk-weaker}
use Rattle.parallel_keys.specs.KeysToCheck.{what_of}
use Rattle.draw_command.specs.Pages.{keys_around}
use Rattle.draw_command.proofs.Searched.{named_so}
use Rattle.draw_command.proofs.around.keys_around.Goals as goal

pub returns-in-Some : goal.returns-in-Some
returns-in-Some c =
    let keys = c.args.keys.now in
    IfOk-weaker c.keys_with.result _ _
    (λ names is. ap (map (λ (key : Bor (List ℕ)). key.now)) is ∙ named_so c.in-Some.number keys ∙ ap (λ (around : Option ℕ). keys_around around (map what_of keys)) (sym c.in-Some.is)) c.keys_with.ensures
