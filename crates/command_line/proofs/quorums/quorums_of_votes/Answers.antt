-- Votes that are asked for are those of the text, with the numbers after the other two options.
use Rattle.std.proofs.Common.{◌≡◌, ℕ, List, codes, sym, subst, ◌∙◌}
use Rattle.std.proofs.lemmas.Option.{same_Some}
use Rattle.quorum.specs.Quorums.{IsLawful, Quorums}
use Rattle.command_line.specs.Forms.{votes_range}
use Rattle.command_line.specs.Reading.{rows_in}
use Rattle.command_line.specs.RunWords.{AreDigits}
use Rattle.command_line.proofs.Digits.{same_votes}
use Rattle.command_line.proofs.Numbers.{one_number}
use Rattle.command_line.proofs.quorums.quorums_of_votes.Goals as goal

lawful_as : (q : Quorums) (votes : List ℕ) (ask put : ℕ) → votes ≡ q.votes → ask ≡ q.ask → put ≡ q.put → IsLawful q → IsLawful (record { votes = votes; ask = ask; put = put })
lawful_as q votes ask put votes_are ask_is put_is lawful =
    subst (λ v. IsLawful (record { votes = v; ask = ask; put = put })) (sym votes_are)
    (subst (λ n. IsLawful (record { votes = q.votes; ask = n; put = put })) (sym ask_is)
    (subst (λ n. IsLawful (record { votes = q.votes; ask = q.ask; put = n })) (sym put_is) lawful))

pub returns-in_default : goal.returns-in_default
returns-in_default c = λ _ q asks. c.in_default.ensures q.ask asks.0.ask

pub returns-in_default-number_in : goal.returns-in_default-number_in
returns-in_default-number_in c = λ _ q asks. c.in_default-number_in.ensures q.put asks.0.put

pub returns : goal.returns
returns c = λ _ q asks.
    let rows = rows_in c.args.matches.now in
    let text = c.args.text.now in
    let asked = asks.0 in
    let digits : AreDigits text q.votes = subst (λ (t : List ℕ). AreDigits t q.votes) (same_Some asked.text text (sym asked.given ∙ c.requires)) asked.digits in
    let votes_are : c.deref.result.now ≡ q.votes = c.deref.ensures.value ∙ same_votes text c.in_ok-votes.votes.items q.votes c.in_ok-votes.ensures digits in
    let ask_is : c.in-Ok.ask ≡ q.ask = one_number rows (codes "ask") votes_range votes_range c.in-Ok.ask q.ask c.in-Ok.ensures asked.ask in
    let put_is : c.in-Ok-number_in.put ≡ q.put = one_number rows (codes "put") votes_range votes_range c.in-Ok-number_in.put q.put c.in-Ok-number_in.ensures asked.put in
    let some = c.in-None.ensures.some.1 (lawful_as q c.deref.result.now c.in-Ok.ask c.in-Ok-number_in.put votes_are ask_is put_is asked.lawful) in
    absurd (cc)
