use Rattle.std.proofs.Common.{sym, ◌∙◌, arith}
use Rattle.std.proofs.lemmas.List.{map-id}
use Rattle.std.proofs.lemmas.Iterator.Adapters.{YieldsList-from_vec}
use Rattle.std.proofs.lemmas.Iterator.Consumers.{YieldsList-end}
use Rattle.world_steps.specs.Systems.{opening}
use Rattle.script_runs.proofs.Commands.{all_seen, none_seen, one_more}
use Rattle.script_runs.proofs.whole_run.observe.Goals as goal

pub loop-numbered-init : goal.loop-numbered-init
loop-numbered-init g c =
    none_seen g.O.Observer.sees (opening c.args.script.config) c.in_ok-world.world c.args.observer c.in_ok-world.ensures.opening

pub loop-numbered-preserved : goal.loop-numbered-preserved
loop-numbered-preserved g c =
    let l = c.loop-numbered in
    one_more g.O.Observer.sees (opening c.args.script.config) l.yielded c.args.observer l.run.observer c.run.new.self.observer l.run.world
    c.run.new.self.world c.in-Some.numbered l.invariant c.in_ok-run.ensures

pub returns : goal.returns
returns g c =
    let l = c.loop-numbered in
    let commands = c.args.script.commands in
    let gives = c.into_iter-numbered-iterator.ensures.into_iter_gives in
    let ended = YieldsList-end (YieldsList-from_vec commands.items gives.0 (omega (arith, gives.1, commands.ok.0))) l.yielded
    l.numbered-iterator l.yielded_by c.next.result c.next.new.self c.in-None.is c.next.ensures.steps in
    all_seen g.O.Observer.sees c.args.script l.yielded c.args.observer l.run.observer l.run.world (sym (map-id l.yielded) ∙ ended.0) l.invariant
