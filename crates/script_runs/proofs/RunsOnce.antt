-- Commands have one run.
use Rattle.std.proofs.Common.{ℕ, ◌≡◌, List, [], ◌∷◌, ◌++◌, length, Option, None, Some, IsSome, refl, sym, ap, subst, arith}
use Rattle.tag.specs.declared.numbers.OpId.{OpId}
use Rattle.world_settle.specs.Refusing.{IsUnsettled, MaySettle, pending_at}
use Rattle.world_settle.specs.declared.errors.SettleError.{SettleError}
use Rattle.world_settle.specs.declared.errors.SettleError.TheVariants as settle
use Rattle.world_settle.proofs.LeastCounts.{needs_once}
use Rattle.world_settle.specs.Settling.{AreSettleSteps}
use Rattle.world_steps.specs.Runs.{after_from}
use Rattle.world_steps.specs.declared.step.Step.{Step}
use Rattle.world_steps.specs.declared.system.System.{System}
use Rattle.script_runs.specs.Events.{Event, Happens, HappensAll, notices, of_line, tried}
use Rattle.script_runs.specs.Events.Happens.{steps, finishes, stays, randomly}
use Rattle.script_runs.specs.Events.HappensAll.{done, goes}
use Rattle.script_runs.specs.declared.command.Command.{Command}
use Rattle.script_runs.specs.declared.command.NumberedCommand.{NumberedCommand}
use Rattle.script_runs.specs.declared.notice.Notice.TheVariants as notice
use Rattle.script_runs.specs.declared.origin.CommandKind.TheVariants as kind

-- a call is pending, or it isn't
never_both : (found : Option OpId) → IsSome found → found ≡ None → ⊥
never_both None is none = absurd cc
never_both (Some op) is none = absurd cc

-- a call can be completed, or there is one reason that it can't
may_not : (s : System) (name : ℕ) (why : SettleError) → MaySettle s name → IsUnsettled s name why → ⊥
may_not s name settle.NoMajority may fewer = omega (arith, may.majority, fewer)
may_not s name settle.NotPending may (majority, none) = never_both (pending_at s name) may.pending none
may_not s name settle.Room may (majority, pending, full) =
    let (first, second) = needs_once s name may.room.asked may.room.kept full.asked full.kept may.room.needs full.needs in
    omega (arith, may.room.left, full.left, first, second)
may_not s name (settle.Memory count) may never = never

one_reason : (s : System) (name : ℕ) (why because : SettleError) → IsUnsettled s name why → IsUnsettled s name because → why ≡ because
one_reason s name settle.NoMajority settle.NoMajority h k = refl
one_reason s name settle.NoMajority settle.NotPending h (majority, none) = absurd (omega (arith, h, majority))
one_reason s name settle.NoMajority settle.Room h (majority, pending, full) = absurd (omega (arith, h, majority))
one_reason s name settle.NoMajority (settle.Memory count) h k = absurd k
one_reason s name settle.NotPending settle.NoMajority (majority, none) k = absurd (omega (arith, k, majority))
one_reason s name settle.NotPending settle.NotPending h k = refl
one_reason s name settle.NotPending settle.Room (majority, none) (again, pending, full) =
    absurd (never_both (pending_at s name) pending none)
one_reason s name settle.NotPending (settle.Memory count) h k = absurd k
one_reason s name settle.Room settle.NoMajority (majority, pending, full) k = absurd (omega (arith, k, majority))
one_reason s name settle.Room settle.NotPending (majority, pending, full) (again, none) =
    absurd (never_both (pending_at s name) pending none)
one_reason s name settle.Room settle.Room h k = refl
one_reason s name settle.Room (settle.Memory count) h k = absurd k
one_reason s name (settle.Memory count) because h k = absurd h

-- the steps that complete a call are one list, as the law of settling says
abbrev pub StepsAreOneList : Type 0
StepsAreOneList = (s : System) (name : ℕ) (steps other : List Step) → AreSettleSteps name s steps → AreSettleSteps name s other → steps ≡ other

-- what happens by a command is one
happens_once : StepsAreOneList → (line : ℕ) (command : Command) (s a b : System) (m n : List Event) → Happens line s command a m
    → Happens line s command b n → (a ≡ b) × (m ≡ n)
happens_once steps_once line command s a b m n (steps t step) (steps u other) = (refl, refl)
happens_once steps_once line command s a b m n (finishes t name all may settles) (finishes u other others again settled) =
    let same : all ≡ others = steps_once t name all others settles settled in (
      ap (after_from t) same,
      ap (λ (xs : List Step). notices line (notice.Finishes name) ∷ tried (of_line line (kind.Finish name)) t xs
          ++ notices line (notice.Finished (length xs)) ∷ []) same,
    )
happens_once steps_once line command s a b m n (finishes t name all may settles) (stays u other why holds) =
    absurd (may_not t name why may holds)
happens_once steps_once line command s a b m n (stays t name why holds) (finishes u other all may settles) =
    absurd (may_not t name why may holds)
happens_once steps_once line command s a b m n (stays t name why holds) (stays u other because again) =
    (refl, ap (λ (w : SettleError). notices line (notice.Unfinished name w) ∷ []) (one_reason t name why because holds again))
happens_once steps_once line command s a b m n (randomly t seed count) (randomly u first more) = (refl, refl)

pub all_once : StepsAreOneList → (a b c : System) (commands : List NumberedCommand) (m n : List Event) → HappensAll a commands b m
    → HappensAll a commands c n → (b ≡ c) × (m ≡ n)
all_once steps_once a b c commands m n (done s) (done t) = (refl, refl)
all_once steps_once a b c commands m n (goes s mid last numbered others first rest one all)
    (goes t between end same tail firsts rests two also) =
    let w = happens_once steps_once numbered.line numbered.command s mid between first firsts one two in
    let P : System → Type 0 = λ x. HappensAll x others end rests in
    let v = all_once steps_once mid last end others rest rests all (subst P (sym w.0) also) in
    (v.0, λ i. w.1 i ++ v.1 i)
