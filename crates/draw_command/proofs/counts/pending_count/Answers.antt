use Rattle.std.proofs.Common.{ℕ, ◌≡◌, ◌<◌, ◌+◌, Option, Some, None, length, get_or, is_none, ap, sym, ◌∙◌, not, refl}
use Rattle.std.proofs.lemmas.List.Sums.{count_by_more_yes, count_by_more_no}
use Rattle.std.proofs.lemmas.Option.{slice_get_within, get_or_from_slice_get}
use Rattle.recorder.specs.declared.part.Call.{Call}
use Rattle.recorder.specs.declared.part.Response.{Response}
use Rattle.recorder.specs.States.{place_in}
use Rattle.draw_command.proofs.counts.pending_count.Goals as goal
use Rattle.draw_command.proofs.counts.pending_count.Goals.{then-is_none, else-is_none}

-- a response has a place
none_of : (response : Option Response) → is_none (place_in response) ≡ is_none response
none_of None = refl
none_of (Some response) = refl

pub loop-place-preserved : goal.loop-place-preserved
loop-place-preserved c =
    let part = c.args.part.now in
    let n = c.loop-place.place in
    let of = c.state-state.ensures in
    let call = of.0 in
    let alike : is_none c.state-state.result.response ≡ is_none call.response = ap (λ (r : Option ℕ). is_none r) of.2.response ∙ none_of call.response in
    let is_open = (λ (one : Call). is_none one.response) in
    let within : n < length part = slice_get_within part n call of.1 in
    let there : is_open (get_or part n call) ≡ is_open call = ap is_open (get_or_from_slice_get part n call call of.1) in
    elim c.if-is_none.branch [
      | then-is_none w ↦ w.pending-is ∙ ap (λ (m : ℕ). m + 1) c.loop-place.invariant ∙ sym (count_by_more_yes is_open part n call within (there ∙ sym alike ∙ ap not (c.is_none.ensures ∙ ap not w.if-is_none.true)))
      | else-is_none w ↦ w.pending-is ∙ c.loop-place.invariant ∙ sym (count_by_more_no is_open part n call within (there ∙ sym alike ∙ ap not (c.is_none.ensures ∙ ap not w.if-is_none.false)))
    ]
