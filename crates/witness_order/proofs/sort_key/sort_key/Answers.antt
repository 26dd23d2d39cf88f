use Rattle.std.proofs.Common.{ℕ, ◌≡◌, Option, true, true≢false, not, sym, ◌∙◌, ap}
use Rattle.std.specs.Option.{is_some}
use Rattle.tag.proofs.Options.{none_from_is_some}
use Rattle.witness_order.proofs.CallKeys.{key_of-state, none_pending, none_unnoted, some_key}
use Rattle.witness_order.proofs.sort_key.sort_key.Goals as goal
use Rattle.witness_order.proofs.sort_key.sort_key.Goals.{else-is_read-via-then-is_read+else-is_none, else-is_read-via-else-is_read}

pub returns-then-is_none : goal.returns-then-is_none
returns-then-is_none c call same of =
    let s = c.args.state.now in
    none_pending c.args.op s.is_write s.note s.response c.if-is_read.true (none_from_is_some s.response (c.is_none.ensures ∙ ap not c.if-is_none.true)) ∙ sym (key_of-state call c.args.op s same of)

pub returns-in_err-tag : goal.returns-in_err-tag
returns-in_err-tag c call same of =
    let s = c.args.state.now in
    c.from_residual.ensures ∙ (none_unnoted c.args.op s.is_write s.note s.response c.in_err-tag.was ∙ sym (key_of-state call c.args.op s same of))

pub returns : goal.returns
returns c call same of =
    let s = c.args.state.now in
    some_key c.args.op s.is_write s.note s.response c.in_ok-tag.tag c.in_ok-tag.was (λ reads waits. elim c.else-is_read.branch [
      | else-is_read-via-then-is_read+else-is_none w ↦
          let some : is_some s.response ≡ true = w.is_none.ensures ∙ ap not w.if-is_none.false in
          true≢false (sym some ∙ ap (λ (r : Option ℕ). is_some r) waits)
      | else-is_read-via-else-is_read w ↦ true≢false (sym w.if-is_read.false ∙ reads)
    ]) ∙ sym (key_of-state call c.args.op s same of)
