use Rattle.std.proofs.lemmas.Result.{on_ok_weaker}
use Rattle.fault_details.specs.LineDetails.{should_text}
use Rattle.fault_details.proofs.Pieces.{more}
use Rattle.fault_details.proofs.line_details.append_demand_line.Goals as goal

pub returns : goal.returns
unfolding should_text
returns c =
    let with_is = c.append_is.new.text.items in
    let with_allowed = more with_is _ _ _ _ c.in_ok-append.ensures c.in_ok-append_allowed.ensures in
    on_ok_weaker c.append-2.result
    (λ last. more c.args.text.now.items with_is _ _ _ c.in_ok-append_is.ensures (more with_is _ _ _ _ with_allowed last)) c.append-2.ensures
