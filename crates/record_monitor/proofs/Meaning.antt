-- What reports mean of the calls of a record.
use Rattle.std.proofs.Common.{ℕ, ◌≡◌, ◌+◌, List, [], ◌∷◌, Option, Some, None, Bool, true, false, IfSome, MatchOption, is_none, take, sym, ◌∙◌}
use Rattle.std.proofs.Common.{subst, refl, arith}
use Rattle.std.specs.List.{slice_get, Contains}
use Rattle.std.proofs.lemmas.List.{take-take}
use Rattle.std.proofs.lemmas.Option.{slice_get_within}
use Rattle.tag.specs.declared.actions.Action.TheVariants.{Read}
use Rattle.tag.specs.declared.numbers.OpId.{OpId}
use Rattle.tag.proofs.Lists.{Contains-slice_get, get_at, in_front, place_of, slice_get-take}
use Rattle.recorder.specs.declared.row.Row.{Row}
use Rattle.recorder.specs.declared.row.Row.TheVariants.{Invoke}
use Rattle.recorder.specs.declared.part.Call.{Call}
use Rattle.recorder.specs.Histories.{HasResponse, IsWellFormed, MayFollow}
use Rattle.recorder.specs.Orders.{IsLinearizable}
use Rattle.recorder.specs.Records.{IsPart}
use Rattle.kept_families.proofs.Orders.{free_is_linearizable}
use Rattle.growing_parts.specs.PartsWithout.{AreReadsOf, IsPartWithout}
use Rattle.growing_parts.proofs.Empty.{nothing_followed}
use Rattle.growing_parts.proofs.Orders.{order_less, order_of_part, order_of_whole}
use Rattle.monitored_key.specs.Changes.{nothing_held}
use Rattle.monitored_key.specs.Held.{Held, state_of}
use Rattle.monitored_key.specs.declared.judged.Judged.TheVariants as judged
use Rattle.monitored_key.specs.declared.judged.Refusal.{Refusal}
use Rattle.record_monitor.specs.declared.report.Finding.{Finding}
use Rattle.record_monitor.specs.declared.report.Finding.TheVariants.{Refused, EndedAfterAll}
use Rattle.record_monitor.specs.declared.report.Report.{Report}
use Rattle.record_monitor.specs.declared.taken.Taken.{Taken}
use Rattle.record_monitor.specs.declared.watched.Watched.{Watched}
use Rattle.record_monitor.specs.Followed.{IsFollowed, told_in}
use Rattle.record_monitor.specs.Judgements.{WasJudged}
use Rattle.record_monitor.specs.Monitored.{HasTaken, give_up_of, keys_of, reports_of, watched_of}
use Rattle.record_monitor.specs.Taken.{KeepsRows}
use Rattle.record_monitor.specs.Told.{IsTold}
use Rattle.record_monitor.specs.Waiting.{AreGivenUp}
use Rattle.record_monitor.specs.Watched.{HasReport, WasDoubted}
use Rattle.record_monitor.proofs.Beginning.{knows_nothing}
use Rattle.record_monitor.proofs.Following.{ordered}

-- ---- a refusal is final

formed_front : (rows : List Row) → IsWellFormed rows → (n : ℕ) → IsWellFormed (take n rows)
formed_front rows formed n k row at =
    let front = in_front rows n k row at in
    subst (λ (rs : List Row). MayFollow rs row) (sym (take-take k n rows (omega (arith, front.0)))) (formed k row front.1)

module _ (most : ℕ) (rows : List Row) (formed : IsWellFormed rows) (key : List ℕ) (place : ℕ) (refusal : Refusal)
    (w : WasJudged most rows key place (judged.Refused refusal)) where
  gone_are : AreReadsOf (take (place + 1) rows) w.gone
  gone_are op h =
      let g = w.given_up op h in
      let front = in_front rows place g.begin (Invoke op g.client g.key Read) g.begins in (
        g.client,
        g.key,
        Contains-slice_get (take (place + 1) rows) g.begin (Invoke op g.client g.key Read)
            (slice_get-take rows (place + 1) g.begin (omega (arith, front.0)) ∙ front.1),
      )

  pub refuted : (part : List Call) → IsPart (take (place + 1) rows) key part → IsLinearizable part → ⊥
  refuted part is lin =
      let front = formed_front rows formed (place + 1) in
      w.means (
        order_less (take (place + 1) rows) front key w.gone part w.after is w.is gone_are lin.0 lin.1,
        order_of_part (take (place + 1) rows) front key w.gone part w.after is w.is gone_are lin.0 lin.1,
      )

pub refusal_is_final : (rows : List Row) (monitor : Option Taken) (place number : ℕ) (refusal : Refusal) → IsWellFormed rows
    → HasTaken rows monitor → HasReport (reports_of monitor) place number (Refused refusal) → (key : List ℕ)
    × (slice_get (keys_of monitor) number ≡ Some key)
    × ((part : List Call) → IsPart (take (place + 1) rows) key part → IsLinearizable part → ⊥)
refusal_is_final rows None place number refusal formed taken reported = absurd taken
refusal_is_final rows (Some taken) place number refusal formed k reported =
    let t = k.keys.knows.keys.reported (record { place = place; key = number; finding = Refused refusal }) reported in
    (t.key, t.seen, refuted taken.give_up rows formed t.key place refusal t.found)

-- ---- until a refusal there was an order

pub ordered_before : (rows : List Row) (monitor : Option Taken) (place number : ℕ) (refusal : Refusal) (key : List ℕ) (watched : Watched)
    → HasTaken rows monitor → HasReport (reports_of monitor) place number (Refused refusal)
    → slice_get (keys_of monitor) number ≡ Some key → slice_get (watched_of monitor) number ≡ Some watched
    → watched.is_doubtful ≡ false → (gone : List ℕ) × AreGivenUp (give_up_of monitor) (take place rows) gone
    × (before : List Call) × IsPartWithout (take place rows) key gone before × IsLinearizable before
ordered_before rows None place number refusal key watched taken reported at_key at sure = absurd taken
ordered_before rows (Some taken) place number refusal key watched k reported at_key at sure =
    let h = (k.keys.knows.keys.each number key watched at_key at).ordered sure place refusal reported in
    (h.gone, h.given_up, h.before, h.was, h.ordered)

-- ---- a key that is followed

followed_of : (A : Type 0) (B : Held → Type 0) (o : Option Held) → is_none o ≡ false → MatchOption o A B → (held : Held) × B held
followed_of A B None e m = absurd (cc e)
followed_of A B (Some held) e m = (held, m)

module _ (rows : List Row) (formed : IsWellFormed rows) (taken : Taken) (k : KeepsRows rows taken) (key : List ℕ) (part : List Call)
    (is : IsPart rows key part) (none : (place number : ℕ) (op : OpId) → HasReport taken.keys.reports.items place number (EndedAfterAll op)
    → ⊥) (held : Held) (f : IsFollowed rows key k.gone false held) where
  still_pending : (op : OpId) → Contains k.gone op.0 → HasResponse rows op → ⊥
  still_pending op there h =
      let e = k.keys.knows.keys.ended op there h in
      none e.0 e.1 op e.2

  pub followed_linearizable : IsLinearizable part
  followed_linearizable =
      let lin = ordered rows formed key k.gone false held f refl in
      (lin.0, order_of_whole rows formed key k.gone part f.part is f.is still_pending lin.0 lin.1)

pub undoubted_is_linearizable : (rows : List Row) (monitor : Option Taken) (number : ℕ) (key : List ℕ) (watched : Watched)
    (part : List Call) → IsWellFormed rows → HasTaken rows monitor → slice_get (keys_of monitor) number ≡ Some key
    → slice_get (watched_of monitor) number ≡ Some watched → is_none watched.state ≡ false → watched.is_doubtful ≡ false
    → ((place n : ℕ) (op : OpId) → HasReport (reports_of monitor) place n (EndedAfterAll op) → ⊥) → IsPart rows key part
    → IsLinearizable part
undoubted_is_linearizable rows None number key watched part formed taken at_key at seen sure none is = absurd taken
undoubted_is_linearizable rows (Some taken) number key watched part formed k at_key at seen sure none is =
    let w = k.keys.knows.keys.each number key watched at_key at in
    let f = followed_of _ _ watched.state seen w.state in
    followed_linearizable rows formed taken k key part is none f.0 (subst (λ (d : Bool). IsFollowed rows key k.gone d f.0) sure f.1)

-- ---- no report

nothing_reported : (reports : List Report) → reports ≡ [] → (place number : ℕ) (finding : Finding)
    → HasReport reports place number finding → ⊥
nothing_reported reports e place number finding h =
    let none = subst (λ (l : List Report). Contains l (record { place = place; key = number; finding = finding })) e h in
    absurd (omega (arith, none.1))

-- no calls have an order
no_calls_linearizable : IsLinearizable []
no_calls_linearizable =
    let f = (nothing_followed (λ _. None) 0 (state_of nothing_held) knows_nothing (λ _. refl)).follows in
    free_is_linearizable [] (λ _. None) 0 f.judged.sequence f.judged.last f.judged.sound
    (λ read there reads done. absurd (omega (arith, there.1))) f.judged.free f.in_time

state_followed : (A : Type 0) (B : Held → Type 0) (o : Option Held) → (A → ⊥) → MatchOption o A B → (held : Held) × B held
state_followed A B None none m = absurd (none m)
state_followed A B (Some held) none m = (held, m)

undoubted : (P : Type 0) (doubt : Bool) → (P → ⊥) → (doubt ≡ true → P) → doubt ≡ false
undoubted P false none h = refl
undoubted P true none h = absurd (none (h refl))

module _ (rows : List Row) (formed : IsWellFormed rows) (taken : Taken) (k : KeepsRows rows taken)
    (none : taken.keys.reports.items ≡ []) (key : List ℕ) where
  unreported : (place number : ℕ) (finding : Finding) → HasReport taken.keys.reports.items place number finding → ⊥
  unreported = nothing_reported taken.keys.reports.items none

  -- of a key with a call
  seen_linearizable : (part : List Call) → IsPart rows key part → (call : Call) → Contains part call → IsLinearizable part
  seen_linearizable part is call there =
      let r = (is.each call there).begun in
      let keys = k.keys.knows.keys in
      let at_key = place_of taken.keys.numbers key (keys.seen.all key call.invoked (call.op, call.client, call.action, r)) in
      let w = get_at taken.keys.watched.items at_key.0
      (omega (arith, keys.many, slice_get_within taken.keys.numbers at_key.0 key at_key.1)) in
      let own = keys.each at_key.0 key w.0 at_key.1 w.1 in
      let f = state_followed _ _ w.0.state (λ x. unreported x.place at_key.0 (Refused x.refusal) x.reported) own.state in
      let sure = undoubted _ w.0.is_doubtful (λ
      (x : WasDoubted taken.keys.reports.items at_key.0). unreported x.0 at_key.0 _ x.4) own.doubt in
      followed_linearizable rows formed taken k key part is (λ place number op h. unreported place number (EndedAfterAll op) h) f.0
      (subst (λ (d : Bool). IsFollowed rows key k.gone d f.0) sure f.1)

  all_linearizable : (part : List Call) → IsPart rows key part → IsLinearizable part
  all_linearizable [] is = no_calls_linearizable
  all_linearizable (call ∷ calls) is = seen_linearizable (call ∷ calls) is call (Contains-slice_get (call ∷ calls) 0 call refl)

pub unreported_is_linearizable : (rows : List Row) (monitor : Option Taken) (key : List ℕ) (part : List Call) → IsWellFormed rows
    → HasTaken rows monitor → reports_of monitor ≡ [] → IsPart rows key part → IsLinearizable part
unreported_is_linearizable rows None key part formed taken none is = absurd taken
unreported_is_linearizable rows (Some taken) key part formed k none is = all_linearizable rows formed taken k none key part is

-- ---- what is told

pub told_is_so : (rows : List Row) (taken : Taken) → KeepsRows rows taken → (number : ℕ) (name : List ℕ)
    → slice_get taken.keys.numbers number ≡ Some name → IfSome (told_in (slice_get taken.keys.watched.items number)) (IsTold rows name)
told_is_so rows taken k number name at =
    let keys = k.keys.knows.keys in
    let w = get_at taken.keys.watched.items number
    (omega (arith, keys.many, slice_get_within taken.keys.numbers number name at)) in
    subst (λ (o : Option Watched). IfSome (told_in o) (IsTold rows name)) (sym w.1) (keys.each number name w.0 at w.1).told.told
