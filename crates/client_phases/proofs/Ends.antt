-- What an asking comes to, by its tests.
use Rattle.std.proofs.Common.{◌≡◌, ℕ, Bool, true, false, cond, List, Option, refl, sym, ap, subst, ◌∙◌}
use Rattle.std.specs.FinSet as finite
use Rattle.tag.specs.declared.numbers.OpId.{OpId}
use Rattle.tag.specs.declared.actions.Action.{Action}
use Rattle.tag.specs.declared.actions.Action.TheVariants.{Read}
use Rattle.std.specs.Ordering.{is_lt}
use Rattle.tag.specs.Tags.{Tag, tag_cmp}
use Rattle.quorum.specs.Quorums.{is_ask_quorum, is_put_quorum}
use Rattle.replica.specs.declared.pairs.Pair.{Pair}
use Rattle.replica.specs.declared.replies.Reply.{Reply}
use Rattle.replica.specs.declared.replies.Reply.TheVariants.{Held, Kept}
use Rattle.client_phases.specs.declared.rules.Rules.{Rules}
use Rattle.client_phases.specs.declared.asking.Tally.{Tally}
use Rattle.client_phases.specs.declared.outcomes.Taken.{Taken}
use Rattle.client_phases.specs.declared.outcomes.Taken.TheVariants.{Stale, Counted, Noted, Agreed}
use Rattle.client_phases.specs.declared.outcomes.Taken.TheVariants as outcome
use Rattle.client_phases.specs.declared.states.State.{State}
use Rattle.client_phases.specs.declared.states.State.TheVariants.{Ask, Put, Ready}
use Rattle.client_phases.specs.Calls.{Call, pair_to_put}
use Rattle.client_phases.specs.Asking.{Asking, asking_from, is_agreed, LeavesRoom, asking_with, counts}
use Rattle.client_phases.specs.States.{asking_outcome, reply_outcome, putting_outcome, MayReceiveIn}

pub asked-agreed : (rules : Rules) (asking : Asking) → is_ask_quorum rules.quorums asking.counted ≡ true → is_agreed rules asking ≡ true
    → asking_outcome rules asking ≡ (Ready (record { call = asking.call; pair = asking.best }), Agreed asking.best.tag)
asked-agreed rules asking p q = rw (p, q) refl

pub asked-noted : (rules : Rules) (asking : Asking) → is_ask_quorum rules.quorums asking.counted ≡ true → is_agreed rules asking ≡ false
    → asking_outcome rules asking ≡ (Put (record { call = asking.call; pair = pair_to_put rules.name asking.call.action asking.best }) finite.empty, Noted (pair_to_put rules.name asking.call.action asking.best).tag)
asked-noted rules asking p q = rw (p, q) refl

pub outcome-agreed : (rules : Rules) (call : Call) (tally : Tally) (found : Option (List ℕ)) → is_ask_quorum rules.quorums tally.counted ≡ true → is_agreed rules (asking_from call tally found) ≡ true
    → Agreed tally.best ≡ (asking_outcome rules (asking_from call tally found)).1
outcome-agreed rules call tally found p q = sym (ap (λ (r : State × Taken). r.1) (asked-agreed rules (asking_from call tally found) p q))

tag-read : (name : ℕ) (action : Action) (pair : Pair) → action ≡ Read → (pair_to_put name action pair).tag ≡ pair.tag
tag-read name action pair e = rw e refl

pub outcome-read : (rules : Rules) (call : Call) (tally : Tally) (found : Option (List ℕ)) → call.action ≡ Read → is_ask_quorum rules.quorums tally.counted ≡ true → is_agreed rules (asking_from call tally found) ≡ false
    → Noted tally.best ≡ (asking_outcome rules (asking_from call tally found)).1
outcome-read rules call tally found e p q =
    let asking = asking_from call tally found in
    ap (λ t. Noted t) (sym (tag-read rules.name call.action asking.best e)) ∙ sym (ap (λ (r : State × Taken). r.1) (asked-noted rules asking p q))

-- of two tags that leave room the greater one does
room_either : (action : Action) (b : Bool) (best pair : Pair) → LeavesRoom action best.tag → LeavesRoom action pair.tag → LeavesRoom action (cond b pair best).tag
room_either action true best pair p q = q
room_either action false best pair p q = p

pub room_with : (call : Call) (tally more : Tally) (found other : Option (List ℕ)) (replica : ℕ) (pair : Pair)
    → asking_with (asking_from call tally found) replica pair ≡ asking_from call more other
    → LeavesRoom call.action tally.best → LeavesRoom call.action pair.tag → LeavesRoom call.action more.best
room_with call tally more found other replica pair is p q =
    subst (λ (a : Asking). LeavesRoom call.action a.best.tag) is
    (room_either call.action (is_lt (tag_cmp tally.best pair.tag)) (record { tag = tally.best; value = found }) pair p q)

pub room_of : (asking shown : Asking) (tag : Tag) → shown ≡ asking → LeavesRoom asking.call.action tag → LeavesRoom shown.call.action tag
room_of asking shown tag is h = subst (λ (a : Asking). LeavesRoom a.call.action tag) (sym is) h

-- what the two premises of a reply that counts come to
pub may_count : (rules : Rules) (state : State) (reply : Reply) (asking : Asking) (op : OpId) (replica : ℕ) (tag : Tag) (value : Option (List ℕ))
    → state ≡ Ask asking → reply ≡ Held op replica tag value → MayReceiveIn rules state reply → counts rules asking.call asking.counted op replica ≡ true → LeavesRoom asking.call.action tag
may_count rules state reply asking op replica tag value p q may counted = (rw (p, q) at may) counted

pub heard-held : (rules : Rules) (state : State) (reply : Reply) (asking : Asking) (op : OpId) (replica : ℕ) (tag : Tag) (value : Option (List ℕ))
    → state ≡ Ask asking → reply ≡ Held op replica tag value → counts rules asking.call asking.counted op replica ≡ true
    → reply_outcome rules state reply ≡ asking_outcome rules (asking_with asking replica (record { tag = tag; value = value }))
heard-held rules state reply asking op replica tag value p q counted = rw (p, q, counted) refl

pub counts-shown : (rules : Rules) (shown asking : Asking) (op : OpId) (replica : ℕ) → shown ≡ asking
    → counts rules shown.call shown.counted op replica ≡ true → counts rules asking.call asking.counted op replica ≡ true
counts-shown rules shown asking op replica is h = subst (λ (a : Asking). counts rules a.call a.counted op replica ≡ true) is h

never : (a b : Bool) (r s t : State) (x y : Tag) → (cond {A = State × Taken} a (cond {A = State × Taken} b (r, Agreed x) (s, Noted y)) (t, Counted)).1 ≡ Stale → ⊥
never true true r s t x y h = cc
never true false r s t x y h = cc
never false b r s t x y h = cc

never_kept : (a : Bool) (r s : State) → (cond {A = State × Taken} a (r, outcome.Ready) (s, Counted)).1 ≡ Stale → ⊥
never_kept true r s h = cc
never_kept false r s h = cc

same_where_stale : (b : Bool) (r : State × Taken) (s : State) → (r.1 ≡ Stale → ⊥) → (cond {A = State × Taken} b r (s, Stale)).1 ≡ Stale → (cond {A = State × Taken} b r (s, Stale)).0 ≡ s
same_where_stale true r s no_stale h = absurd (no_stale h)
same_where_stale false r s no_stale h = refl

-- a stale reply changes nothing
pub stale_same : (rules : Rules) (state : State) (reply : Reply) → (reply_outcome rules state reply).1 ≡ Stale → (reply_outcome rules state reply).0 ≡ state
stale_same rules (Ask asking) (Held op replica tag value) h =
    let further = asking_with asking replica (record { tag = tag; value = value }) in
    let pair = pair_to_put rules.name further.call.action further.best in
    same_where_stale (counts rules asking.call asking.counted op replica) (asking_outcome rules further) (Ask asking)
    (λ stale. never (is_ask_quorum rules.quorums further.counted) (is_agreed rules further) (Ready (record { call = further.call; pair = further.best })) (Put (record { call = further.call; pair = pair }) finite.empty) (Ask further) further.best.tag pair.tag stale) h
stale_same rules (Put chosen counted) (Kept op replica) h =
    let further = finite.insert counted replica in
    same_where_stale (counts rules chosen.call counted op replica) (putting_outcome rules chosen further) (Put chosen counted)
    (λ stale. never_kept (is_put_quorum rules.quorums further) (Ready chosen) (Put chosen further) stale) h
stale_same rules state reply h = refl
