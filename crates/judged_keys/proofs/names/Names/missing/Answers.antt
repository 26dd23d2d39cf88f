use Rattle.std.proofs.Common.{List, [], ◌∷◌, ℕ, ap, map, sym, ◌∙◌}
use Rattle.std.specs.Borrow.{Bor}
use Rattle.std.proofs.lemmas.Result.{IfOk-weaker}
use Rattle.parallel_keys.specs.KeysToCheck.{what_of}
use Rattle.judged_keys.specs.Selected.{missing_names, names_in}
use Rattle.judged_keys.specs.declared.names.Names.{Names}
use Rattle.judged_keys.proofs.Selecting.{missing_is}
use Rattle.judged_keys.proofs.names.Names.missing.Goals as goal

pub returns-in-One : goal.returns-in-One
returns-in-One c =
    let keys = c.args.keys.now in
    let names = λ (listed : List (Bor (List ℕ))). map (λ name. name.now) listed in
    let said = λ (listed : List (Bor (List ℕ))). missing_is keys listed in
    IfOk-weaker c.missing_of.result _ _ (λ few is. ap names is ∙ said (c.in-One.name ∷ []) ∙ ap (λ (n : Names). missing_names (map what_of keys) (names_in n)) (sym c.in-One.is)) c.missing_of.ensures

pub returns-in-Several : goal.returns-in-Several
returns-in-Several c =
    let keys = c.args.keys.now in
    IfOk-weaker c.missing_of-in-Several.result _ _
    (λ few is. ap (map (λ name. name.now)) is ∙ missing_is keys c.in-Several.names.now ∙ ap (λ (names : Names). missing_names (map what_of keys) (names_in names)) (sym c.in-Several.is)) c.missing_of-in-Several.ensures
