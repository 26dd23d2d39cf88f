-- Taking the steps of a call, one after another.
use Rattle.std.proofs.Common.{◌≡◌, ℕ, suc, ◌+◌, ◌<◌, ◌≤◌, true, List, [], ◌∷◌, ◌++◌, length, None, Some, Result, Ok, Err, refl, sym, ◌∙◌, ap, subst, arith, append_assoc, append-nil, length-append}
use Rattle.std.specs.Prelude.{IfOk, OnOk}
use Rattle.quorum.specs.Quorums.{IsLawful, IsAskQuorum, IsPutQuorum}
use Rattle.std.specs.FinSet as finite
use Rattle.client_phases.specs.declared.states.State.{State}
use Rattle.client_phases.specs.declared.states.State.TheVariants.{Idle, Ask, Put, Ready, Stopped}
use Rattle.world_steps.specs.Refusals.{refusal_of, has_request, phase_at}
use Rattle.world_steps.specs.Runs.{AreAccepted, next, after_from}
use Rattle.world_steps.specs.SoundSystems.{IsSound}
use Rattle.world_steps.specs.Systems.{send}
use Rattle.world_steps.specs.declared.step.Step.{Step}
use Rattle.world_steps.specs.declared.step.Step.TheVariants as step
use Rattle.world_steps.specs.declared.system.System.{System}
use Rattle.world_steps.proofs.Passed.{send_passed}
use Rattle.world_settle.specs.Settling.{AreSettleSteps, candidates, counted_at, round}
use Rattle.world_settle.specs.Settling.AreSettleSteps.{answers, asks}
use Rattle.world_settle.specs.Refusing.{MaySettle, Needs, NeedsAt}
use Rattle.world_settle.specs.SettleAnswers.{Completes, IsWithin, KeepsEarlier, SettlesBy}
use Rattle.world_settle.specs.StepsLeft.{AreLeft, AreLeftAfter, BeginsAt, IsNext}
use Rattle.world_settle.specs.declared.errors.SettleError.{SettleError}
use Rattle.world_settle.specs.declared.errors.SettleError.TheVariants as error
use Rattle.world_settle.specs.declared.settle_steps.SettleSteps.{SettleSteps}
use Rattle.world_settle.specs.declared.settle_steps.Stage.TheVariants.{Between}
use Rattle.world_settle.proofs.LeastCounts.{few_candidates, least_within}
use Rattle.world_settle.proofs.Earlier.{keeps_earlier}
use Rattle.world_settle.proofs.Plans.{Plan, StepsKeepSound, plan_of, ready_or_asking, steps_once, within_of}
use Rattle.world_steps.proofs.Onward.{after_append}
use Rattle.world_steps.proofs.StepAnswers.{next_moved}
use Rattle.world_settle.proofs.Rounds.{sent_by}

-- ---- the next step

-- a request that isn't refused takes the next number
sent_next : (s : System) (name replica : ℕ) → refusal_of s (step.Send name replica) ≡ None → (next s (step.Send name replica)).pool.sent ≡ s.pool.sent + 1
sent_next s name replica none =
    let (client, request, is, sends, room) = send_passed s name replica none in
    ap (λ (t : System). t.pool.sent) (next_moved s (step.Send name replica) none ∙ ap (send s replica) is ∙ sent_by s replica client request sends)

-- after a round to the first candidate further steps complete the call
pub ahead : (name : ℕ) (s : System) (replica : ℕ) (others : List ℕ) (steps : List Step) → has_request (phase_at s name) ≡ true
    → candidates s (counted_at s name) ≡ replica ∷ others → AreSettleSteps name s steps → AreLeftAfter name s (round s name replica) steps
ahead name s replica others steps requests found (answers t r) = absurd (ready_or_asking (phase_at s name) r requests)
ahead name s replica others steps requests found (asks t first others' further asking found' more) =
    let same : first ≡ replica = cc in
    record {
      others = further;
      are = ap (λ n. round s name n ++ further) same;
      onward = subst (λ n. AreSettleSteps name (after_from s (round s name n)) further) same more;
    }

pub round_more : (name : ℕ) (s : System) (replica : ℕ) (steps : List Step) (left : AreLeftAfter name s (round s name replica) steps)
    → length steps ≡ suc (suc (suc (length left.others)))
round_more name s replica steps left = ap length left.are

-- a round begins with its request
pub request_next : (name : ℕ) (s : System) (replica sent : ℕ) (steps : List Step) → sent ≡ s.pool.sent
    → AreLeftAfter name s (round s name replica) steps → AreAccepted s steps
    → (rest : List Step) × (steps ≡ step.Send name replica ∷ rest) × AreLeftAfter name (next s (step.Send name replica))
    (step.Deliver sent ∷ step.Deliver (next s (step.Send name replica)).pool.sent ∷ []) rest
request_next name s replica sent steps is left accepted =
    let first : System = next s (step.Send name replica) in
    let reply : s.pool.sent + 1 ≡ first.pool.sent = sym (sent_next s name replica (subst (AreAccepted s) left.are accepted).0) in (
      step.Deliver s.pool.sent ∷ step.Deliver (s.pool.sent + 1) ∷ left.others,
      left.are,
      record {
        others = left.others;
        are = λ i. step.Deliver (sym is i) ∷ step.Deliver (reply i) ∷ left.others;
        onward = subst (λ (t : System). AreSettleSteps name t left.others)
            (λ i. next (next first (step.Deliver (sym is i))) (step.Deliver (reply i))) left.onward;
      },
    )

-- the request arrives, and the reply is next
pub arrival_next : (name : ℕ) (s : System) (request reply : ℕ) (steps : List Step) → reply ≡ s.pool.sent
    → AreLeftAfter name s (step.Deliver request ∷ step.Deliver s.pool.sent ∷ []) steps
    → (rest : List Step) × (steps ≡ step.Deliver request ∷ rest) × AreLeftAfter name (next s (step.Deliver request)) (step.Deliver reply ∷ []) rest
arrival_next name s request reply steps is left = (
  step.Deliver s.pool.sent ∷ left.others,
  left.are,
  record {
    others = left.others;
    are = λ i. step.Deliver (sym is i) ∷ left.others;
    onward = subst (λ n. AreSettleSteps name (next (next s (step.Deliver request)) (step.Deliver n)) left.others) (sym is) left.onward;
  },
)

-- ---- a call: the steps that are taken, and those that are left
pub record Going (old : System) (name : ℕ) (current : System) (settling : SettleSteps) (count : ℕ) : Type 0 where
  pub taken : List Step
  pub rest : List Step
  pub settles : AreSettleSteps name old (taken ++ rest)
  pub there : current ≡ after_from old taken
  pub counted : count ≡ length taken
  pub left : AreLeft settling current rest
  pub accepted : AreAccepted current rest
  pub few : length taken + length rest ≤ 91

needs_few : (s : System) (name a b : ℕ) → IsLawful s.config.quorums → NeedsAt s name a b → a + b ≤ 30
needs_few s name a b lawful needs = by needs.client.state needs.needs
  where
    by : (state : State) → Needs s state a b → a + b ≤ 30
    by (Ask asking) n =
        let most = lawful.most_replicas in
        let first = least_within (IsAskQuorum s.config.quorums) asking.counted (candidates s asking.counted) a n.0 in
        let second = least_within (IsPutQuorum s.config.quorums) finite.empty (candidates s finite.empty) b n.1 in
        let few = few_candidates s asking.counted in
        let all = few_candidates s finite.empty in
        omega (arith, most, first, second, few, all)
    by (Put chosen counted) n =
        let most = lawful.most_replicas in
        let none = n.0 in
        let second = least_within (IsPutQuorum s.config.quorums) counted (candidates s counted) b n.1 in
        let few = few_candidates s counted in
        omega (arith, most, none, second, few)
    by (Ready chosen) n = let none = n.0 in let nor = n.1 in omega (arith, none, nor)
    by Idle n = absurd n
    by Stopped n = absurd n

-- where a call can be completed, all of its steps are left
pub begins : StepsKeepSound → (s : System) (name : ℕ) → IsSound s → MaySettle s name → BeginsAt s name (record { client = name; stage = Between })
begins keeps s name sound may =
    let plan : Plan s name may.room.asked may.room.kept = plan_of keeps s sound name may in
    let few = plan.few in
    let most = needs_few s name may.room.asked may.room.kept sound.sound.lawful may.room.needs in
    record { may = may; steps = plan.steps; settles = plan.settles; accepted = plan.taken; few = omega (arith, few, most); left = plan.settles }

pub going_none : (s : System) (name : ℕ) (settling : SettleSteps) → BeginsAt s name settling → Going s name s settling 0
going_none s name settling b = record {
  taken = [];
  rest = b.steps;
  settles = b.settles;
  there = refl;
  counted = refl;
  left = b.left;
  accepted = b.accepted;
  few = let few = b.few in omega (arith, few);
}

pub going_none-taken : (s : System) (name : ℕ) (settling : SettleSteps) (b : BeginsAt s name settling) → (going_none s name settling b).taken ≡ []
unfolding going_none
going_none-taken s name settling b = refl

module _ (old : System) (name : ℕ) (current : System) (settling : SettleSteps) (count : ℕ) (going : Going old name current settling count) where
  module _ (first : Step) (new : SettleSteps) (is : IsNext settling current (Some first) new) where
    onward : (others : List Step) × (going.rest ≡ first ∷ others) × AreLeft new (next current first) others
    onward = is going.rest going.left going.accepted

    accepted_on : AreAccepted current (first ∷ onward.0)
    accepted_on = subst (AreAccepted current) onward.1 going.accepted

    pub going_taken : refusal_of current first ≡ None
    going_taken = accepted_on.0

    long : length going.rest ≡ suc (length onward.0)
    long = ap length onward.1

    pub going_few : count < 100
    going_few = let few = going.few in let counted = going.counted in omega (arith, few, counted)

    all : AreSettleSteps name old (going.taken ++ first ∷ onward.0)
    all = subst (λ xs. AreSettleSteps name old (going.taken ++ xs)) onward.1 going.settles

    -- the next step is taken
    pub going_on : (after : System) → after ≡ next current first → Going old name after new (count + 1)
    going_on after moved =
        let counted = going.counted in
        let few = going.few in
        let longer = length-append going.taken (first ∷ []) in
        let split = long in
        record {
          taken = going.taken ++ first ∷ [];
          rest = onward.0;
          settles = subst (AreSettleSteps name old) (sym (append_assoc going.taken (first ∷ []) onward.0)) all;
          there = moved ∙ ap (λ s. next s first) going.there ∙ sym (after_append old going.taken (first ∷ []));
          counted = omega (arith, counted, longer);
          left = subst (λ s. AreLeft new s onward.0) (sym moved) onward.2;
          accepted = subst (λ s. AreAccepted s onward.0) (sym moved) accepted_on.1;
          few = omega (arith, few, longer, split);
        }

    pub going_on-taken : (after : System) (moved : after ≡ next current first) → (going_on after moved).taken ≡ going.taken ++ first ∷ []
    unfolding going_on
    going_on-taken after moved = refl

    -- an allocation is refused
    pub going_stopped : (why : SettleError) (after : System) → MaySettle old name → why ≡ error.Memory count → after ≡ current → SettlesBy old name (Err why) after
    going_stopped why after may memory same =
        subst (λ w. SettlesBy old name (Err w) after) (sym memory) (record {
          may = may;
          taken = going.taken;
          rest = first ∷ onward.0;
          settles = all;
          some_left = λ e. absurd cc;
          counted = sym going.counted;
          after = same ∙ going.there;
        })

  pub going_sound : StepsKeepSound → IsSound old → IsSound current
  going_sound keeps sound = subst IsSound (sym going.there) (keeps old going.taken sound)

  -- no step is left
  pub going_all : (new : SettleSteps) → IsNext settling current None new → AreSettleSteps name old going.taken
  going_all new is =
      subst (AreSettleSteps name old) (ap (λ xs. going.taken ++ xs) (is going.rest going.left going.accepted) ∙ append-nil going.taken) going.settles

  pub going_ended : (new : SettleSteps) → MaySettle old name → IsNext settling current None new → SettlesBy old name (Ok count) current
  going_ended new may is = record {
    may = may;
    steps = going.taken;
    settles = going_all new is;
    counted = sym going.counted;
    after = going.there;
  }

-- ---- what is answered, and what it leaves
pub settled_earlier : (old : System) (name : ℕ) (result : Result ℕ SettleError) (new : System) → SettlesBy old name result new → KeepsEarlier old new
settled_earlier old name (Ok count) new h =
    subst (KeepsEarlier old) (sym h.after) (keeps_earlier old name h.steps [] (subst (AreSettleSteps name old) (sym (append-nil h.steps)) h.settles))
settled_earlier old name (Err (error.Memory count)) new h = subst (KeepsEarlier old) (sym h.after) (keeps_earlier old name h.taken h.rest h.settles)
settled_earlier old name (Err error.NoMajority) new h = subst (KeepsEarlier old) (sym h.1) (λ flight less. refl)
settled_earlier old name (Err error.NotPending) new h = subst (KeepsEarlier old) (sym h.1) (λ flight less. refl)
settled_earlier old name (Err error.Room) new h = subst (KeepsEarlier old) (sym h.1) (λ flight less. refl)

pub settled_completes : StepsKeepSound → (old : System) (name : ℕ) (result : Result ℕ SettleError) (new : System) → IsSound old → SettlesBy old name result new → OnOk result (Completes old name new)
settled_completes keeps old name (Ok count) new sound h =
    let plan : Plan old name h.may.room.asked h.may.room.kept = plan_of keeps old sound name h.may in
    let same : plan.steps ≡ h.steps = steps_once name old plan.steps h.steps plan.settles h.settles in
    subst (Completes old name) (ap (after_from old) same ∙ sym h.after) plan.completes
settled_completes keeps old name (Err why) new sound h = tt

pub settled_within : StepsKeepSound → (old : System) (name : ℕ) (result : Result ℕ SettleError) (new : System) → IsSound old → SettlesBy old name result new → IfOk result (λ count. IsWithin old name count)
settled_within keeps old name (Ok count) new sound h =
    let plan : Plan old name h.may.room.asked h.may.room.kept = plan_of keeps old sound name h.may in
    let same : plan.steps ≡ h.steps = steps_once name old plan.steps h.steps plan.settles h.settles in
    let few = plan.few in
    let long : length plan.steps ≡ length h.steps = ap length same in
    let counted = h.counted in
    within_of old name h.may.room.asked h.may.room.kept count h.may.room.needs (omega (arith, few, long, counted))
settled_within keeps old name (Err why) new sound h = tt
