use Rattle.std.proofs.Common.{refl}
use Rattle.history_file.specs.declared.headed.Headed.{Headed}
use Rattle.history_file.proofs.Bodies.{followed, kept_behind}
use Rattle.history_file.proofs.headed.HeadedContents.follow.Goals as goal

pub returns-in-Some-clause-read : goal.returns-in-Some-clause-read
returns-in-Some-clause-read g c = λ before text under read told shown counted.
    followed g.B.Body.format g.B.Body.Makes g.B.Body.told g.met.B.Body.tells before text under _ c.follow.new.self c.args.item (λ (file : Headed g.row.B.Denot). file.body) _ refl c.args.self.now.body c.in-Some.is read told shown c.args.line counted c.follow.result c.follow.ensures.follows

pub returns-in-Some-clause-kept : goal.returns-in-Some-clause-kept
returns-in-Some-clause-kept g c = λ before read.
    kept_behind g.B.Body.format g.B.Body.Makes before _ c.follow.new.self (λ (file : Headed g.row.B.Denot). file.body) _ refl c.args.self.now.body c.in-Some.is read c.follow.result c.follow.ensures.kept
