-- What a script's run tries, each in the system that the one before it left.
use Rattle.std.proofs.Common.{ℕ, zero, suc, ◌≡◌, List, [], ◌∷◌, ◌++◌, flat_map, Option, None, Some, is_some, cond, refl, sym, subst}
use Rattle.std.specs.Prelude.{take}
use Rattle.world_steps.specs.Refusals.{refusal_of}
use Rattle.world_steps.specs.Runs.{next}
use Rattle.world_steps.specs.Systems.{system_after}
use Rattle.world_steps.specs.declared.refusal.Refusal.{Refusal}
use Rattle.world_steps.specs.declared.step.Step.{Step}
use Rattle.world_steps.specs.declared.system.System.{System}
use Rattle.script_runs.specs.declared.command.NumberedCommand.{NumberedCommand}
use Rattle.script_runs.specs.declared.origin.Origin.{Origin}
use Rattle.script_runs.specs.Chains.{AreInOrder}
use Rattle.script_runs.specs.Chains.AreInOrder.{over, then_notice, then_step}
use Rattle.script_runs.specs.Events.{Event}
use Rattle.script_runs.proofs.Chains.{all_in_order}
use Rattle.script_runs.specs.declared.notice.Notice.{Notice}
use Rattle.script_runs.specs.declared.notice.Notice.TheVariants as notice
use Rattle.world_settle.specs.declared.errors.SettleError.{SettleError}
use Rattle.message_scenes.specs.Tried.{Tried, TriesAll, refused, took, unfinished, unfinished_by, taken_step, tried_in, tried_of, tried_unless}

pub data AreChained : System → List Tried → System → Type 0 where
  ends : (s : System) → AreChained s [] s
  begins : (origin : Origin) (s : System) (step : Step) (tried : List Tried) (last : System)
      → refusal_of s step ≡ None → AreChained (system_after s step) tried last → AreChained s (took (taken_step origin s step) ∷ tried) last
  refuses : (origin : Origin) (s : System) (step : Step) (why : Refusal) (tried : List Tried) (last : System)
      → AreChained s tried last → AreChained s (refused origin step why ∷ tried) last
  leaves : (line name : ℕ) (why : SettleError) (s : System) (tried : List Tried) (last : System)
      → AreChained s tried last → AreChained s (unfinished line name why ∷ tried) last

-- a step that is tried
chain_by : (origin : Origin) (s last : System) (step : Step) (tried : List Tried) (why : Option Refusal) → refusal_of s step ≡ why
    → AreChained (cond (is_some why) s (system_after s step)) tried last → AreChained s (tried_unless origin s step why ∷ tried) last
chain_by origin s last step tried None is rest = begins origin s step tried last is rest
chain_by origin s last step tried (Some why) is rest = refuses origin s step why tried last rest

chain_step : (origin : Origin) (s last : System) (step : Step) (tried : List Tried) → AreChained (next s step) tried last
    → AreChained s (tried_of origin s step ∷ tried) last
unfolding tried_of
chain_step origin s last step tried rest = chain_by origin s last step tried (refusal_of s step) refl rest

-- what is said of a command
chain_said : (line : ℕ) (said : Notice) (s last : System) (tried : List Tried) → AreChained s tried last
    → AreChained s (unfinished_by line said ++ tried) last
chain_said line (notice.Unfinished name why) s last tried rest = leaves line name why s tried last rest
chain_said line (notice.Finishes name) s last tried rest = rest
chain_said line (notice.Finished count) s last tried rest = rest
chain_said line (notice.Randomizes seed count) s last tried rest = rest
chain_said line (notice.Randomized taken count) s last tried rest = rest

-- what is tried by events in order
chain_of : (a b : System) (events : List Event) → AreInOrder a events b → AreChained a (flat_map tried_in events) b
chain_of a b events (over s) = ends s
chain_of a b events (then_step origin s step others last rest) =
    chain_step origin s last step (flat_map tried_in others) (chain_of (next s step) last others rest)
chain_of a b events (then_notice line said s others last rest) =
    chain_said line said s last (flat_map tried_in others) (chain_of s last others rest)

pub chain_all : (a b : System) (commands : List NumberedCommand) (tried : List Tried) → TriesAll a commands b tried → AreChained a tried b
chain_all a b commands tried all =
    subst (λ (list : List Tried). AreChained a list b) (sym all.are)
    (chain_of a b all.events (all_in_order a b commands all.events all.happen))

-- the first of it
pub chain_first : (n : ℕ) (a b : System) (tried : List Tried) → AreChained a tried b → (mid : System) × AreChained a (take n tried) mid
chain_first zero a b tried (ends s) = (s, ends s)
chain_first (suc n) a b tried (ends s) = (s, ends s)
chain_first zero a b tried (begins origin s step others last none rest) = (s, ends s)
chain_first (suc n) a b tried (begins origin s step others last none rest) =
    let (mid, all) = chain_first n (system_after s step) last others rest in
    (mid, begins origin s step (take n others) mid none all)
chain_first zero a b tried (refuses origin s step why others last rest) = (s, ends s)
chain_first (suc n) a b tried (refuses origin s step why others last rest) =
    let (mid, all) = chain_first n s last others rest in
    (mid, refuses origin s step why (take n others) mid all)
chain_first zero a b tried (leaves line name why s others last rest) = (s, ends s)
chain_first (suc n) a b tried (leaves line name why s others last rest) =
    let (mid, all) = chain_first n s last others rest in
    (mid, leaves line name why s (take n others) mid all)
