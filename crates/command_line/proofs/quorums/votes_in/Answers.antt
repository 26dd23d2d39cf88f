use Rattle.std.proofs.Common.{List, ℕ, sym, subst}
use Rattle.command_line.specs.RunWords.{AreDigits}
use Rattle.command_line.proofs.Digits.{no_digit}
use Rattle.command_line.proofs.quorums.votes_in.Goals as goal

pub returns-then-not-is_vote : goal.returns-then-not-is_vote
returns-then-not-is_vote c =
    let bytes = c.as_bytes-byte-items.result.now in
    λ _ votes digits. no_digit bytes c.loop-byte.byte-index c.loop-byte-test.true
    (λ least most. let told = c.if-not-is_vote.ensures.1 (least, most) in absurd (cc))
    votes (subst (λ (t : List ℕ). AreDigits t votes) (sym c.as_bytes-byte-items.ensures.value) digits)
