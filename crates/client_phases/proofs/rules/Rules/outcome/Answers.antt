use Rattle.std.proofs.Common.{◌≡◌, true, sym, ◌∙◌, arith}
use Rattle.std.proofs.lemmas.Bool.Decides.{nat_tests}
use Rattle.quorum.specs.Quorums.{is_ask_quorum}
use Rattle.client_phases.proofs.Ends.{outcome-agreed, outcome-read}
use Rattle.client_phases.proofs.rules.Rules.outcome.Goals as goal

pub returns-then-is_agreed : goal.returns-then-is_agreed
returns-then-is_agreed c found =
    let ask : is_ask_quorum c.args.self.now.quorums c.args.tally.now.counted ≡ true = grind (arith, nat_tests) in
    outcome-agreed c.args.self.now c.args.call.now c.args.tally.now found ask (sym (c.is_agreed.ensures found) ∙ c.if-is_agreed.true)

pub returns-in-Read : goal.returns-in-Read
returns-in-Read c found =
    let ask : is_ask_quorum c.args.self.now.quorums c.args.tally.now.counted ≡ true = grind (arith, nat_tests) in
    outcome-read c.args.self.now c.args.call.now c.args.tally.now found c.in-Read.is ask (sym (c.is_agreed.ensures found) ∙ c.if-is_agreed.false)
