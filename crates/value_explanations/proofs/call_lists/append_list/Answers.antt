use Rattle.std.proofs.Common.{ℕ, ◌≡◌, List, ◌++◌, codes, decimal, ap, ◌∙◌}
use Rattle.std.specs.List.{fold}
use Rattle.std.proofs.lemmas.List.{take_all}
use Rattle.std.proofs.lemmas.Result.{on_ok_weaker}
use Rattle.sentences.proofs.Appending.{more}
use Rattle.value_explanations.specs.ValueSentences.{with_call}
use Rattle.value_explanations.proofs.Sayings.{listed}
use Rattle.value_explanations.proofs.call_lists.append_list.Goals as goal

pub returns : goal.returns
returns c =
    let old = c.args.text.now.items in
    let others = c.args.others.now in
    let first = codes "[" ++ decimal c.args.first.0 in
    let whole = take_all c.loop-other.other-index others c.loop-other-test.false in
    let began : c.append_op.new.text.items ≡ old ++ first = c.in_ok-append_op.ensures in
    let all : c.loop-other.text.items ≡ old ++ fold with_call first others =
    c.loop-other.invariant ∙ ap (fold with_call c.append_op.new.text.items) whole
    ∙ ap (λ (text : List ℕ). fold with_call text others) began ∙ listed old first others in
    on_ok_weaker c.append.result (more old _ _ _ _ all) c.append.ensures
