-- What the commands of a script make of an observer.
use Rattle.std.proofs.Common.{ℕ, ◌≡◌, List, [], ◌∷◌, ◌++◌, length, sym, subst, append_assoc, append-nil}
use Rattle.world_settle.specs.Refusing.{IsUnsettled, MaySettle}
use Rattle.world_settle.specs.declared.errors.SettleError.{SettleError}
use Rattle.world_steps.specs.Runs.{next}
use Rattle.world_steps.specs.Systems.{opening}
use Rattle.world_steps.specs.declared.step.Step.{Step}
use Rattle.world_steps.specs.declared.system.System.{System}
use Rattle.script_runs.specs.Events.{Event, Happens, HappensAll, of_line, notices, tried, tries, walk_tried}
use Rattle.script_runs.specs.Events.Happens.{steps, finishes, stays, randomly}
use Rattle.script_runs.specs.Events.HappensAll.{done, goes}
use Rattle.script_runs.specs.Observing.{Observes, ObservesRun}
use Rattle.script_runs.specs.Observing.Observes.{nothing}
use Rattle.script_runs.specs.Running.{ObservesOn, ObservesSettling, Walks}
use Rattle.script_runs.specs.Walks.{random_walk, walk_from}
use Rattle.script_runs.specs.declared.command.Command.TheVariants as command
use Rattle.script_runs.specs.declared.command.NumberedCommand.{NumberedCommand}
use Rattle.script_runs.specs.declared.command.Script.{Script}
use Rattle.script_runs.specs.declared.notice.Notice.TheVariants as notice
use Rattle.script_runs.specs.declared.origin.CommandKind.TheVariants as kind
use Rattle.script_runs.proofs.Observing.{between, more_seen, one_seen}

-- one command more
one_happens : (a b c : System) (commands : List NumberedCommand) (x : NumberedCommand) (events more : List Event) → HappensAll a commands b events
    → Happens x.line b x.command c more → HappensAll a (commands ++ x ∷ []) c (events ++ more)
one_happens a b c commands x events more (done s) one =
    subst (λ (all : List Event). HappensAll s (x ∷ []) c all) (append-nil more) (goes s c c x [] more [] one (done c))
one_happens a b c commands x events more (goes s mid last numbered others first rest before all) one =
    subst (λ (every : List Event). HappensAll s (numbered ∷ (others ++ x ∷ [])) c every) (sym (append_assoc first rest more))
    (goes s mid c numbered (others ++ x ∷ []) first (rest ++ more) before (one_happens mid last c others x rest more all one))

module _ {O : Type 0} (sees : O → Event → O → Type 0) where
  -- a step
  pub step_seen : (old new : O) (s after : System) (line : ℕ) (step : Step) → after ≡ next s step
      → sees old (tries (of_line line kind.Step) s step) new → ObservesOn sees old s line (command.Step step) new after
  step_seen old new s after line step is seen =
      let event : Event = tries (of_line line kind.Step) s step in
      let P : System → Type 0 = λ w. Happens line s (command.Step step) w (event ∷ []) in
      record { events = event ∷ []; happens = subst P (sym is) (steps s step); observes = one_seen sees old new event seen }

  -- a call that was completed
  pub finish_seen : (old above mid new : O) (s after : System) (line name count : ℕ) → MaySettle s name
      → sees old (notices line (notice.Finishes name)) above
      → ObservesSettling sees (of_line line (kind.Finish name)) name count above s mid after
      → sees mid (notices line (notice.Finished count)) new → ObservesOn sees old s line (command.Finish name) new after
  finish_seen old above mid new s after line name count may head all foot =
      let head_is : Event = notices line (notice.Finishes name) in
      let foot_is : Event = notices line (notice.Finished (length all.steps)) in
      let inner : List Event = tried (of_line line (kind.Finish name)) s all.steps in
      let events : List Event = head_is ∷ inner ++ foot_is ∷ [] in
      let P : System → Type 0 = λ w. Happens line s (command.Finish name) w events in
      let Q : ℕ → Type 0 = λ n. sees mid (notices line (notice.Finished n)) new in
      record {
        events = events;
        happens = subst P (sym all.there) (finishes s name all.steps may all.settles);
        observes = between sees old above mid new head_is foot_is inner head all.observes (subst Q all.counted foot);
      }

  -- a call that can't be completed
  pub stay_seen : (old new : O) (s : System) (line name : ℕ) (why : SettleError) → IsUnsettled s name why
      → sees old (notices line (notice.Unfinished name why)) new → ObservesOn sees old s line (command.Finish name) new s
  stay_seen old new s line name why holds seen =
      let event : Event = notices line (notice.Unfinished name why) in
      record { events = event ∷ []; happens = stays s name why holds; observes = one_seen sees old new event seen }

  -- random steps
  pub walk_seen : (old above mid new : O) (s after : System) (line seed count taken : ℕ) → Walks s seed count after taken
      → sees old (notices line (notice.Randomizes seed count)) above
      → Observes sees above (walk_tried (of_line line (kind.Random seed count)) (walk_from s seed) count) mid
      → sees mid (notices line (notice.Randomized taken count)) new → ObservesOn sees old s line (command.Random seed count) new after
  walk_seen old above mid new s after line seed count taken walks head all foot =
      let head_is : Event = notices line (notice.Randomizes seed count) in
      let foot_is : Event = notices line (notice.Randomized (random_walk s seed count).taken count) in
      let inner : List Event = walk_tried (of_line line (kind.Random seed count)) (walk_from s seed) count in
      let events : List Event = head_is ∷ inner ++ foot_is ∷ [] in
      let P : System → Type 0 = λ w. Happens line s (command.Random seed count) w events in
      let Q : ℕ → Type 0 = λ n. sees mid (notices line (notice.Randomized n count)) new in
      record {
        events = events;
        happens = subst P (sym walks.0) (randomly s seed count);
        observes = between sees old above mid new head_is foot_is inner head all (subst Q walks.1 foot);
      }

  -- the system that the commands so far left, and the observer that saw them
  pub record HasSeen (start : System) (commands : List NumberedCommand) (old : O) (system : System) (now : O) : Type 0 where
    pub events : List Event
    pub happen : HappensAll start commands system events
    pub observes : Observes sees old events now

  -- no command yet
  pub none_seen : (start system : System) (old : O) → system ≡ start → HasSeen start [] old system old
  none_seen start system old same =
      let P : System → Type 0 = λ w. HappensAll start [] w [] in
      record { events = []; happen = subst P (sym same) (done start); observes = nothing old }

  -- one more
  pub one_more : (start : System) (commands : List NumberedCommand) (old now new : O) (s after : System) (numbered : NumberedCommand)
      → HasSeen start commands old s now → ObservesOn sees now s numbered.line numbered.command new after
      → HasSeen start (commands ++ numbered ∷ []) old after new
  one_more start commands old now new s after numbered so_far on = record {
    events = so_far.events ++ on.events;
    happen = one_happens start s after commands numbered so_far.events on.events so_far.happen on.happens;
    observes = more_seen sees old now new so_far.events on.events so_far.observes on.observes;
  }

  -- all of them
  pub all_seen : (script : Script) (commands : List NumberedCommand) (old new : O) (last : System) → commands ≡ script.commands.items
      → HasSeen (opening script.config) commands old last new → ObservesRun sees script last old new
  all_seen script commands old new last are seen = record {
    events = seen.events;
    happen = subst (λ (all : List NumberedCommand). HappensAll (opening script.config) all last seen.events) are seen.happen;
    observes = seen.observes;
  }
