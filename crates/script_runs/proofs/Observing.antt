-- What is seen, one after another.
use Rattle.std.proofs.Common.{List, [], ◌∷◌, ◌++◌, flat_map, refl, sym, ap, subst, ◌≡◌, append_assoc, append-nil}
use Rattle.world_steps.specs.Runs.{after_from, next}
use Rattle.world_steps.specs.declared.step.Step.{Step}
use Rattle.world_steps.specs.declared.system.System.{System}
use Rattle.script_runs.specs.declared.origin.Origin.{Origin}
use Rattle.script_runs.specs.Events.{Event, tried, tries}
use Rattle.script_runs.specs.Observing.{Adds, Observes}
use Rattle.script_runs.specs.Observing.Observes.{first, nothing}

module _ {O : Type 0} (sees : O → Event → O → Type 0) where
  -- one event
  pub one_seen : (old new : O) (event : Event) → sees old event new → Observes sees old (event ∷ []) new
  one_seen old new event seen = first old new new event [] seen (nothing new)

  -- some, and then further ones
  pub more_seen : (old mid new : O) (events further : List Event) → Observes sees old events mid → Observes sees mid further new
      → Observes sees old (events ++ further) new
  more_seen old mid new events further (nothing o) more = more
  more_seen old mid new events further (first start second end event others seen rest) more =
      first start second new event (others ++ further) seen (more_seen second mid new others further rest more)

  -- some between a first and a last one
  pub between : (old above below new : O) (head foot : Event) (events : List Event) → sees old head above → Observes sees above events below
      → sees below foot new → Observes sees old (head ∷ events ++ foot ∷ []) new
  between old above below new head foot events one all last =
      first old above new head (events ++ foot ∷ []) one (more_seen above below new events (foot ∷ []) all (one_seen below new foot last))

-- the items that all of them add
pub all_added : {O P A : Type 0} (Makes : P → List A → O → Type 0) (items_of : Event → List A) (old new : O) (events : List Event)
    → Observes (Adds Makes items_of) old events new → (p : P) (items : List A) → Makes p items old
    → Makes p (items ++ flat_map items_of events) new
all_added Makes items_of old new events (nothing o) p items made = subst (λ (all : List _). Makes p all o) (sym (append-nil items)) made
all_added Makes items_of old new events (first start mid end event others adds rest) p items made =
    subst (λ (all : List _). Makes p all end) (append_assoc items (items_of event) (flat_map items_of others))
    (all_added Makes items_of mid end others rest p (items ++ items_of event) (adds p items made))

-- steps, and then further ones
pub tried_on : (origin : Origin) (s : System) (steps further : List Step)
    → tried origin s (steps ++ further) ≡ tried origin s steps ++ tried origin (after_from s steps) further
tried_on origin s [] further = refl
tried_on origin s (step ∷ steps) further =
    ap (λ (events : List Event). tries origin s step ∷ events) (tried_on origin (next s step) steps further)
