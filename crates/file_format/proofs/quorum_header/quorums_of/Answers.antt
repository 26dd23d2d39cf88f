use Rattle.std.proofs.Common.{List, ℕ, Ok, false, refl, ap, sym, ◌∙◌, subst, arith}
use Rattle.quorum.specs.Quorums.{Quorums, IsLawful}
use Rattle.std.proofs.lemmas.Bool.{both_ways}
use Rattle.file_format.proofs.QuorumRules.{refused_great, refused_big, refused_unlawful, lawful_taken}
use Rattle.file_format.proofs.quorum_header.quorums_of.Goals as goal
use Rattle.file_format.proofs.quorum_header.quorums_of.Goals.{then-ask-gt255-via-then-ask-gt255}
use Rattle.file_format.proofs.quorum_header.quorums_of.Goals.{then-ask-gt255-via-else-ask-gt255+then-put-gt255}

pub returns-then-ask-gt255 : goal.returns-then-ask-gt255
returns-then-ask-gt255 c =
    refused_great c.args.votes.now c.args.ask c.args.put (λ small. elim c.then-ask-gt255.branch [
      | then-ask-gt255-via-then-ask-gt255 w ↦ omega (arith, w.if-ask-gt255.true, small.0)
      | then-ask-gt255-via-else-ask-gt255+then-put-gt255 w ↦ omega (arith, w.if-put-gt255.true, small.1)
    ])

pub returns-then-not-are_small : goal.returns-then-not-are_small
returns-then-not-are_small c =
    refused_big c.args.votes.now c.args.ask c.args.put
    (λ yes. both_ways c.are_small.result c.if-not-are_small.true (c.are_small.ensures ∙ yes))

pub returns-in-Some : goal.returns-in-Some
returns-in-Some c =
    let ask = c.args.ask in
    let put = c.args.put in
    let with : List ℕ → Quorums = λ votes. record { votes = votes; ask = ask; put = put } in
    let same = c.as_slice.ensures.value ∙ c.in_ok-votes.ensures in
    lawful_taken c.args.votes.now ask put (subst (λ votes. IsLawful (with votes)) same (c.in-Some.ensures.some.0 refl))
    ∙ ap (λ (q : Quorums). Ok q) (ap with (sym same) ∙ sym c.in-Some.ensures.value)

pub returns : goal.returns
returns c =
    let ask = c.args.ask in
    let put = c.args.put in
    let with : List ℕ → Quorums = λ votes. record { votes = votes; ask = ask; put = put } in
    let same = c.as_slice.ensures.value ∙ c.in_ok-votes.ensures in
    refused_unlawful c.args.votes.now ask put
    (λ law. both_ways false refl (c.in-None.ensures.some.1 (subst (λ votes. IsLawful (with votes)) (sym same) law)))
