use Rattle.std.proofs.Common.{◌≡◌, ◌++◌, nat_lt, false, drop}
use Rattle.serde_json.specs.Written.{items_text}
use Rattle.file_format.specs.Texts.{numbers_data}
use Rattle.file_format.proofs.texts.append_votes.Given as goal

abbrev pub invariant-loop-number : goal.invariant-loop-number
invariant-loop-number l = l.out.items ++ items_text (nat_lt 0 l.number) (numbers_data (drop l.number l.quorums.votes))
    ≡ l.initial.out.items ++ items_text false (numbers_data l.quorums.votes)
