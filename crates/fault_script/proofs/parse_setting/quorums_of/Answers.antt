use Rattle.std.proofs.Common.{◌≡◌, Bool, true, false, cond, Result, Ok, Err, refl, sym, ap, ◌∙◌}
use Rattle.std.proofs.lemmas.Bool.{false_from_ne_true}
use Rattle.quorum.specs.Quorums.{Quorums}
use Rattle.fault_script.specs.declared.fault.LineFault.{LineFault}
use Rattle.fault_script.specs.declared.fault.LineFault.TheVariants.{Range}
use Rattle.fault_script.specs.Settings.{is_lawful, quorums_of}
use Rattle.fault_script.proofs.VoteLemmas.{lawful_decides}
use Rattle.fault_script.proofs.parse_setting.quorums_of.Goals as goal

when : (q : Quorums) (b : Bool) → is_lawful q ≡ b → quorums_of q.votes q.ask q.put ≡ cond b (Ok q) (Err Range)
when q b e = ap (λ (t : Bool). cond {A = Result Quorums LineFault} t (Ok q) (Err Range)) e

pub returns-in-Some-clause-said : goal.returns-in-Some-clause-said
returns-in-Some-clause-said c =
    let q : Quorums = record { votes = c.args.votes.now; ask = c.args.ask; put = c.args.put } in
    when q true ((lawful_decides q).1 (c.in-Some.ensures.some.0 refl)) ∙ ap {B = Result Quorums LineFault} Ok (sym c.in-Some.ensures.value)

pub returns-in-None-clause-said : goal.returns-in-None-clause-said
returns-in-None-clause-said c =
    let q : Quorums = record { votes = c.args.votes.now; ask = c.args.ask; put = c.args.put } in
    when q false (false_from_ne_true (is_lawful q) (λ t. absurd (let e = c.in-None.ensures.some.1 ((lawful_decides q).0 t) in cc)))
