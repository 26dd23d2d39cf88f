use Rattle.std.proofs.Common.{◌≡◌, true, take}
use Rattle.std.proofs.lemmas.Result.{IfOk-weaker}
use Rattle.row_members.specs.Values.{HasValue}
use Rattle.fault_details.specs.Beginnings.{BeginsJson}
use Rattle.fault_details.proofs.Stops.{continued, joined}
use Rattle.fault_details.proofs.json_beginning.begins_json.Goals as goal

pub returns : goal.returns
returns c =
    let front = take c.args.place c.args.line.now in
    let text = c.as_slice-2.result.now in
    let whole = joined c.new-text.result.items c.extend_from_slice.new.self.items c.extend_from_slice-2.new.self.items
    c.extend_from_slice-3.new.self.items text front _ _ c.new-text.ensures.items c.in_ok-extend_from_slice.ensures.items
    c.in_ok-extend_from_slice-2.ensures.items c.in_ok-extend_from_slice-3.ensures.items c.as_slice-2.ensures.value in
    IfOk-weaker c.is_json.result (λ yes. yes ≡ true → HasValue text) (λ yes. yes ≡ true → BeginsJson front)
    (λ yes h t. continued c.args.line.now text _ _ c.args.place whole (h t)) c.is_json.ensures
