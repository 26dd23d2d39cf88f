-- The steps that a script tries, each in the system that the one before it left.
use Rattle.std.proofs.Common.{ℕ, zero, suc, ◌≡◌, List, [], ◌∷◌, ◌++◌, length, refl}
use Rattle.random_steps.specs.Choices.{draw, step_of}
use Rattle.world_steps.specs.Runs.{after_from, next}
use Rattle.world_steps.specs.declared.step.Step.{Step}
use Rattle.world_steps.specs.declared.system.System.{System}
use Rattle.script_runs.specs.Walks.{Walk, random_walk, stride, walk_after, walk_from}
use Rattle.script_runs.specs.declared.command.Command.{Command}
use Rattle.script_runs.specs.declared.command.Command.TheVariants as command
use Rattle.script_runs.specs.declared.command.NumberedCommand.{NumberedCommand}
use Rattle.script_runs.specs.Chains.{AreInOrder}
use Rattle.script_runs.specs.Chains.AreInOrder.{over, then_notice, then_step}
use Rattle.script_runs.specs.Events.{Event, Happens, HappensAll, of_line, notices, stride_tried, tried, tries, walk_tried}
use Rattle.script_runs.specs.Events.Happens.{steps, finishes, stays, randomly}
use Rattle.script_runs.specs.Events.HappensAll.{done, goes}
use Rattle.script_runs.specs.declared.notice.Notice.{Notice}
use Rattle.script_runs.specs.declared.notice.Notice.TheVariants as notice
use Rattle.script_runs.specs.declared.origin.CommandKind.TheVariants as kind
use Rattle.script_runs.specs.declared.origin.Origin.{Origin}

-- some, and then further ones
order_on : (a b c : System) (events further : List Event) → AreInOrder a events b → AreInOrder b further c → AreInOrder a (events ++ further) c
order_on a b c events further (over s) more = more
order_on a b c events further (then_step origin s step others last rest) more =
    then_step origin s step (others ++ further) c (order_on (next s step) b c others further rest more)
order_on a b c events further (then_notice line notice s others last rest) more =
    then_notice line notice s (others ++ further) c (order_on s b c others further rest more)

one_step : (origin : Origin) (s : System) (step : Step) → AreInOrder s (tries origin s step ∷ []) (next s step)
one_step origin s step = then_step origin s step [] (next s step) (over (next s step))

-- some between two notices
between : (line : ℕ) (head foot : Notice) (a b : System) (events : List Event) → AreInOrder a events b
    → AreInOrder a (notices line head ∷ events ++ notices line foot ∷ []) b
between line head foot a b events all =
    then_notice line head a (events ++ notices line foot ∷ []) b
    (order_on a b b events (notices line foot ∷ []) all (then_notice line foot b [] b (over b)))

settle_order : (origin : Origin) (s : System) (all : List Step) → AreInOrder s (tried origin s all) (after_from s all)
settle_order origin s [] = over s
settle_order origin s (step ∷ all) =
    then_step origin s step (tried origin (next s step) all) (after_from (next s step) all) (settle_order origin (next s step) all)

stride_order : (origin : Origin) (walk : Walk) → AreInOrder walk.system (stride_tried origin walk ∷ []) (stride walk).system
unfolding stride
stride_order origin walk = one_step origin walk.system (step_of walk.system (draw walk.generator))

walk_order : (origin : Origin) (start : Walk) (n : ℕ) → AreInOrder start.system (walk_tried origin start n) (walk_after start n).system
walk_order origin start zero = over start.system
walk_order origin start (suc n) =
    order_on start.system (walk_after start n).system (stride (walk_after start n)).system (walk_tried origin start n)
    (stride_tried origin (walk_after start n) ∷ []) (walk_order origin start n) (stride_order origin (walk_after start n))

one_order : (line : ℕ) (a b : System) (c : Command) (events : List Event) → Happens line a c b events → AreInOrder a events b
one_order line a b c events (steps s step) = one_step (of_line line kind.Step) s step
one_order line a b c events (finishes s name all may settles) =
    between line (notice.Finishes name) (notice.Finished (length all)) s (after_from s all) (tried (of_line line (kind.Finish name)) s all)
    (settle_order (of_line line (kind.Finish name)) s all)
one_order line a b c events (stays s name why holds) = then_notice line (notice.Unfinished name why) s [] s (over s)
one_order line a b c events (randomly s seed count) =
    let all : Walk = random_walk s seed count in
    between line (notice.Randomizes seed count) (notice.Randomized all.taken count) s all.system
    (walk_tried (of_line line (kind.Random seed count)) (walk_from s seed) count)
    (walk_order (of_line line (kind.Random seed count)) (walk_from s seed) count)

pub all_in_order : (a b : System) (commands : List NumberedCommand) (events : List Event) → HappensAll a commands b events → AreInOrder a events b
all_in_order a b commands events (done s) = over s
all_in_order a b commands events (goes s mid last numbered others first further one all) =
    order_on s mid last first further (one_order numbered.line s mid numbered.command first one) (all_in_order mid last others further all)

-- the steps that are tried in order lead to the system at the end
pub order_steps : (a b : System) (events : List Event) → AreInOrder a events b → (all : List Step) × (b ≡ after_from a all)
order_steps a b events (over s) = ([], refl)
order_steps a b events (then_step origin s step others last rest) =
    let (all, is) = order_steps (next s step) last others rest in
    (step ∷ all, is)
order_steps a b events (then_notice line notice s others last rest) = order_steps s last others rest
