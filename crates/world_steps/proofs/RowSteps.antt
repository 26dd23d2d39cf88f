-- The steps that add a row keep the world sound.
use Rattle.std.proofs.Common.{◌≡◌, ◌≢◌, ℕ, ◌+◌, ◌<◌, ◌≤◌, Bool, true, false, List, length, Option, refl, sym, ◌∙◌, ap, subst, nat_eq, eqb-true, inl, inr, arith}
use Rattle.std.proofs.lemmas.Bool.{eqb-false}
use Rattle.std.specs.FinSet as finite
use Rattle.std.proofs.lemmas.Option.{slice_get_within}
use Rattle.tag.proofs.Lists.{push_cases, slice_get-push_last}
use Rattle.tag.proofs.SameTags.{same_op}
use Rattle.tag.specs.Tags.{Tag, IsBelow, next_of}
use Rattle.tag.specs.declared.numbers.OpId.{OpId}
use Rattle.tag.specs.declared.actions.Action.{Action}
use Rattle.tag.specs.declared.actions.Action.TheVariants.{Read, Write}
use Rattle.tag.specs.declared.actions.Returned.{Returned}
use Rattle.recorder.specs.declared.row.Row.{Row}
use Rattle.recorder.specs.declared.row.Row.TheVariants.{Invoke, Note, Respond}
use Rattle.recorder.specs.Histories.{call_count}
use Rattle.quorum.specs.Sets.{Replicas}
use Rattle.quorum.specs.Quorums.{Quorums, Share, is_ask_quorum}
use Rattle.replica.specs.declared.pairs.Pair.{Pair}
use Rattle.replica.specs.declared.replies.Reply.TheVariants.{Held}
use Rattle.network.specs.declared.messages.Message.{Message}
use Rattle.network.specs.declared.messages.Message.TheVariants.{ToClient}
use Rattle.client_phases.specs.declared.calls.Call.{Call}
use Rattle.client_phases.specs.Calls.{Chosen, answer_from, pair_to_put}
use Rattle.client_phases.specs.Asking.{Asking, opening_of}
use Rattle.client_phases.specs.declared.states.State.{State}
use Rattle.client_phases.specs.declared.states.State.TheVariants.{Idle, Ask, Ready}
use Rattle.world_steps.specs.Sound.{At, IsNoGreater, Invoked, Noted, Completed, NotNoted, NotCompleted, OthersCompleted, Pending, IsGood, Answered, noted_below, write_count, RowsSound, QuorumHolds, MessageSound, StateSound, Told, QuorumTells, Sound, Tags, tags_of}
use Rattle.world_steps.specs.Sound.IsGood.{Unwritten, Wrote}
use Rattle.world_steps.specs.Sound.MessageSound.{SoundHeld}
use Rattle.world_steps.specs.Sound.StateSound.{SoundIdle, SoundAsking, SoundReady}
use Rattle.world_steps.specs.Sound.Told.{InReply, InAsking}
use Rattle.world_steps.proofs.TagLaws.{at_most_itself, at_most_below, below_next}
use Rattle.world_steps.proofs.RowLaws.{more, Extends, extends, before, same_client, same_key}
use Rattle.world_steps.proofs.Counts.{noted_below_all, not_noted}
use Rattle.world_steps.proofs.WriteCounts.{from_counted, good_from}
use Rattle.world_steps.proofs.Quorums.{in_nobody, quorums_meet}
use Rattle.world_steps.proofs.Frames.{completed_more, good_more, message_more, state_more, tells_more, Older, NoneInvoked, NoneNoted, NoneDone, told_older}
use Rattle.world_steps.proofs.SameRows.{Became, CountsAnswers, became_older, tags_stay}
use Rattle.world_steps.proofs.SameRows.Became.{Other, This}
use Rattle.world_steps.proofs.MoreRows.{rows_respond, rows_invoke, rows_note, AboveDone, IsOwn}

-- ---- what is known of a state
idle_done : (quorums : Quorums) (R : List Row) (tags : Tags) (c : ℕ) → StateSound quorums R tags c Idle → (p : ℕ) (o : OpId) (k : List ℕ) (a : Action) → At R p (Invoke o c k a) → Completed R o
idle_done quorums R tags c (SoundIdle done) = done

pub asking_pending : (quorums : Quorums) (R : List Row) (tags : Tags) (c : ℕ) (asking : Asking) → StateSound quorums R tags c (Ask asking) → Pending R c asking.call
asking_pending quorums R tags c asking (SoundAsking w n g h) = w

asking_quiet : (quorums : Quorums) (R : List Row) (tags : Tags) (c : ℕ) (asking : Asking) → StateSound quorums R tags c (Ask asking) → NotNoted R asking.call.op
asking_quiet quorums R tags c asking (SoundAsking w n g h) = n

-- all that is known of a ready client
record ReadyIs (quorums : Quorums) (R : List Row) (tags : Tags) (c : ℕ) (chosen : Chosen) : Type 0 where
  pending : Pending R c chosen.call
  noted : Noted R chosen.call.op chosen.pair.tag
  good : IsGood R chosen.call.key chosen.pair
  holds : QuorumHolds quorums tags chosen.call.key chosen.pair.tag

ready_is : (quorums : Quorums) (R : List Row) (tags : Tags) (c : ℕ) (chosen : Chosen) → StateSound quorums R tags c (Ready chosen) → ReadyIs quorums R tags c chosen
ready_is quorums R tags c chosen (SoundReady w n g q) = record { pending = w; noted = n; good = g; holds = q }

-- the states after one more row
pub became_more : (quorums : Quorums) (R S : List Row) (tags : Tags) (C : ℕ → State → Type 0) (c : ℕ) (new : State) → Extends R S
    → ((d : ℕ) → d ≢ c → NoneInvoked R S d) → ((d : ℕ) → d ≢ c → NoneNoted R S d) → ((d : ℕ) → d ≢ c → NoneDone R S d)
    → ((d : ℕ) (x : State) → C d x → StateSound quorums R tags d x) → StateSound quorums S tags c new
    → (d : ℕ) (x : State) → Became C c new d x → StateSound quorums S tags d x
became_more quorums R S tags C c new more none quiet same all good d x (Other ne h) =
    state_more quorums R S tags tags more (λ r k. at_most_itself (tags r k)) d (none d ne) (quiet d ne) (same d ne) x (all d x h)
became_more quorums R S tags C c new more none quiet same all good d x (This e is) =
    subst (λ n. StateSound quorums S tags n x) (sym e) (subst (StateSound quorums S tags c) (sym is) good)

-- a call that a client has pending is its own
its_own : (R : List Row) → RowsSound R → (c : ℕ) (call : Call) → Pending R c call
    → (q : ℕ) (o : OpId) (d : ℕ) (k : List ℕ) (a : Action) → o ≡ call.op → At R q (Invoke o d k a) → d ≡ c
its_own R rows c call w q o d k a e i =
    same_client R rows q w.place call.op d c k call.key a call.action (subst (λ z. At R q (Invoke z d k a)) e i) w.is

-- a row of that call adds none to the calls of another client
others_same : (R : List Row) → RowsSound R → (c : ℕ) (call : Call) → Pending R c call → (x : Row) (d : ℕ) → d ≢ c
    → (row : OpId → Row) → ((u : OpId) → x ≡ row u → u ≡ call.op)
    → (p q : ℕ) (o : OpId) (k : List ℕ) (a : Action) → At R q (Invoke o d k a) → At (more R x) p (row o) → At R p (row o)
others_same R rows c call w x d ne row only p q o k a i j =
    elim (push_cases R x p (row o) j) [ inl old ↦ old | inr now ↦ absurd (ne (its_own R rows c call w q o d k a (only o now.1) i)) ]

-- ---- a call gets its response
done_now : (R : List Row) (x : Row) (c : ℕ) (call : Call) (returned : Returned) → x ≡ Respond call.op returned → Pending R c call
    → (o : OpId) (b : Bool) → nat_eq o.0 call.op.0 ≡ b → (p : ℕ) (k : List ℕ) (a : Action) → At R p (Invoke o c k a) → Completed (more R x) o
done_now R x c call returned e w o true t p k a i =
    let eo : o ≡ call.op = same_op o call.op (eqb-true o.0 call.op.0 t) in
    let here : At (more R x) (length R) x = slice_get-push_last R x in
    let f : x ≡ Respond o returned = cc in
    record { place = length R; returned = returned; is = subst (At (more R x) (length R)) f here }
done_now R x c call returned e w o false t p k a i =
    completed_more R (more R x) (extends R x) o (w.others p o k a i (λ eo. eqb-false o.0 call.op.0 t (ap (λ (u : OpId). u.0) eo)))

pub responding : (quorums : Quorums) (R : List Row) (P : ℕ → List ℕ → Pair) (F : Message → Type 0) (C D : ℕ → State → Type 0) (c : ℕ) (chosen : Chosen)
    → Sound quorums R P F C → C c (Ready chosen)
    → ((d : ℕ) (x : State) → D d x → Became C c Idle d x)
    → ((d : ℕ) (x : State) → C d x → (y : State) × D d y)
    → Sound quorums (more R (Respond chosen.call.op (answer_from chosen))) P F D
responding quorums R P F C D c chosen sound is became there =
    let call : Call = chosen.call in
    let pair : Pair = chosen.pair in
    let x : Row = Respond call.op (answer_from chosen) in
    let ready : ReadyIs quorums R (tags_of P) c chosen = ready_is quorums R (tags_of P) c chosen (sound.states c (Ready chosen) is) in
    let w : Pending R c call = ready.pending in
    let n : Noted R call.op pair.tag = ready.noted in
    let h : QuorumHolds quorums (tags_of P) call.key pair.tag = ready.holds in
    let answer : Answered R call.op (answer_from chosen) =
    record { place = w.place; client = c; key = call.key; action = call.action; is = w.is; note = n.place; pair = pair; noted = n.is; good = ready.good; answer = refl } in
    let invokes : (p : ℕ) (o : OpId) (c : ℕ) (k : List ℕ) (a : Action) → At (more R x) p (Invoke o c k a) → At R p (Invoke o c k a) = λ p o c k a i. before R x p (Invoke o c k a) (λ e. cc) i in
    let notes : (p : ℕ) (o : OpId) (t : Tag) → At (more R x) p (Note o t) → At R p (Note o t) = λ p o t i. before R x p (Note o t) (λ e. cc) i in
    let done : (p : ℕ) (o : OpId) (k : List ℕ) (a : Action) → At (more R x) p (Invoke o c k a) → Completed (more R x) o =
    λ p o k a i. done_now R x c call (answer_from chosen) refl w o (nat_eq o.0 call.op.0) refl p k a (invokes p o c k a i) in
    let others_open : (d : ℕ) → d ≢ c → NoneDone R (more R x) d =
    λ d ne p q o k a r i j. others_same R sound.recorded c call w x d ne (λ u. Respond u r) (λ (u : OpId) (e : x ≡ Respond u r). cc) p q o k a i j in
    record {
      lawful = sound.lawful;
      recorded = rows_respond R call.op (answer_from chosen) sound.recorded answer;
      pairs = λ r k. good_more R (more R x) (extends R x) k (P r k) (sound.pairs r k);
      messages = λ m f. message_more R (more R x) (tags_of P) (tags_of P) (extends R x) (tags_stay P) m (sound.messages m f);
      states = λ d y z. became_more quorums R (more R x) (tags_of P) C c Idle (extends R x) (λ e ne p o k a i. invokes p o e k a i) (λ e ne p q o k a t i j. notes p o t j) others_open sound.states (SoundIdle done) d y (became d y z);
      joined = λ p o d k a i. let old : (y : State) × C d y = sound.joined p o d k a (invokes p o d k a i) in there d old.0 old.1;
      completed = λ s p m o d r k a t i j l.
          let hp : At R p (Invoke o d k a) = invokes p o d k a j in
          let hm : At R m (Note o t) = notes m o t l in
          elim (push_cases R x s (Respond o r) i) [
            | inl old ↦
                tells_more quorums R (more R x) (tags_of P) (tags_of P) F F C D (tags_stay P) s k t
                (λ r q u d b v z y. (invokes q u d k b z, became_older F C D (tags_of P) c Idle tt became k u r v y))
                (sound.completed s p m o d r k a t old hp hm)
            | inr new ↦
                let eo : o ≡ call.op = cc in
                let ek : k ≡ call.key = same_key R sound.recorded p w.place call.op d c k call.key a call.action (subst (λ z. At R p (Invoke z d k a)) eo hp) w.is in
                let et : t ≡ pair.tag = sound.recorded.noted_once m n.place call.op t pair.tag (subst (λ z. At R m (Note z t)) eo hm) n.is in
                let there : QuorumHolds quorums (tags_of P) k t = subst (λ z. QuorumHolds quorums (tags_of P) z t) (sym ek) (subst (λ z. QuorumHolds quorums (tags_of P) call.key z) (sym et) h) in
                record {
                  quorum = there.quorum;
                  is_quorum = there.is_quorum;
                  hold = there.hold;
                  told = λ r q u e b v z y lt ask. let late : q < length R = slice_get_within R q (Invoke u e k b) (invokes q u e k b y) in absurd (omega (arith, late, lt, new.0));
                }
          ];
    }

-- ---- a client invokes a call
held_known : (R : List Row) (tags : Tags) (c : ℕ) (op : OpId) (r : ℕ) (t : Tag) (value : Option (List ℕ)) → MessageSound R tags (ToClient c (Held op r t value)) → (k : List ℕ) × Invoked R op k
held_known R tags c op r t value (SoundHeld k i g h) = (k, i)

none_told : (quorums : Quorums) (R : List Row) (P : ℕ → List ℕ → Pair) (F : Message → Type 0) (C D : ℕ → State → Type 0) (c : ℕ) (call : Call)
    → Sound quorums R P F C → ((d : ℕ) (x : State) → D d x → Became C c (Ask (opening_of call)) d x)
    → (r : ℕ) (u : OpId) (v : Tag) → u.0 ≡ call_count R → Told F D u r v → ⊥
none_told quorums R P F C D c call sound became r u v e (InReply d value f) =
    let known : (k : List ℕ) × Invoked R u k = held_known R (tags_of P) d u r v value (sound.messages _ f) in
    let h : u.0 < call_count R = sound.recorded.fresh known.1.place u known.1.client known.0 known.1.action known.1.is in
    omega (arith, h, e)
none_told quorums R P F C D c call sound became r u v e (InAsking d asking f eu h t) =
    elim (became d _ f) [
      | Other ne old ↦
          let w : Pending R d asking.call = asking_pending quorums R (tags_of P) d asking (sound.states d _ old) in
          let g : asking.call.op.0 < call_count R = sound.recorded.fresh w.place asking.call.op d asking.call.key asking.call.action w.is in
          let z : asking.call.op.0 ≡ u.0 = ap (λ (o : OpId). o.0) eu in
          omega (arith, g, z, e)
      | This ed ex ↦
          let same : asking ≡ opening_of call = cc in
          in_nobody r (subst (λ (a : Asking). finite.contains a.counted r ≡ true) same h)
    ]

pub invoking : (quorums : Quorums) (R : List Row) (P : ℕ → List ℕ → Pair) (F : Message → Type 0) (C D : ℕ → State → Type 0) (c : ℕ) (call : Call)
    → Sound quorums R P F C → C c Idle → call.op.0 ≡ call_count R
    → ((d : ℕ) (x : State) → D d x → Became C c (Ask (opening_of call)) d x)
    → ((d : ℕ) (x : State) → C d x → (y : State) × D d y)
    → Sound quorums (more R (Invoke call.op c call.key call.action)) P F D
invoking quorums R P F C D c call sound is next became there =
    let x : Row = Invoke call.op c call.key call.action in
    let new : State = Ask (opening_of call) in
    let done : (p : ℕ) (o : OpId) (k : List ℕ) (a : Action) → At R p (Invoke o c k a) → Completed R o = idle_done quorums R (tags_of P) c (sound.states c Idle is) in
    let notes : (p : ℕ) (o : OpId) (t : Tag) → At (more R x) p (Note o t) → At R p (Note o t) = λ p o t i. before R x p (Note o t) (λ e. cc) i in
    let responds : (p : ℕ) (o : OpId) (r : Returned) → At (more R x) p (Respond o r) → At R p (Respond o r) = λ p o r i. before R x p (Respond o r) (λ e. cc) i in
    let others_same : (d : ℕ) → d ≢ c → NoneInvoked R (more R x) d =
    λ d ne p o k a i. elim (push_cases R x p (Invoke o d k a) i) [ inl old ↦ old | inr new ↦ absurd (ne cc) ] in
    let others : OthersCompleted (more R x) c call.op =
    λ p o k a i ne. elim (push_cases R x p (Invoke o c k a) i) [ inl old ↦ completed_more R (more R x) (extends R x) o (done p o k a old) | inr new ↦ absurd (ne cc) ] in
    let quiet : NotNoted (more R x) call.op = λ p t i. let h : call.op.0 < call_count R = sound.recorded.noted_known p call.op t (notes p call.op t i) in absurd (omega (arith, h, next)) in
    let still : NotCompleted (more R x) call.op =
    λ p r i.
    let found : Answered R call.op r = sound.recorded.answered p call.op r (responds p call.op r i) in
    let h : call.op.0 < call_count R = sound.recorded.fresh found.place call.op found.client found.key found.action found.is in
    absurd (omega (arith, h, next)) in
    let here : StateSound quorums (more R x) (tags_of P) c new =
    SoundAsking (record { place = length R; is = slice_get-push_last R x; others = others; unanswered = still }) quiet (Unwritten refl) (λ r h. absurd (in_nobody r h)) in
    let counts : CountsAnswers F C (tags_of P) new = λ r k h. absurd (in_nobody r h) in
    record {
      lawful = sound.lawful;
      recorded = rows_invoke R call.op c call.key call.action sound.recorded next done;
      pairs = λ r k. good_more R (more R x) (extends R x) k (P r k) (sound.pairs r k);
      messages = λ m f. message_more R (more R x) (tags_of P) (tags_of P) (extends R x) (tags_stay P) m (sound.messages m f);
      states = λ d y z. became_more quorums R (more R x) (tags_of P) C c new (extends R x) others_same (λ e ne p q o k a t i j. notes p o t j) (λ e ne p q o k a r i j. responds p o r j) sound.states here d y (became d y z);
      joined = λ p o d k a i.
          elim (push_cases R x p (Invoke o d k a) i) [
            | inl old ↦ let was : (y : State) × C d y = sound.joined p o d k a old in there d was.0 was.1
            | inr now ↦ let e : c ≡ d = cc in there d Idle (subst (λ z. C z Idle) e is)
          ];
      completed = λ s p m o d r k a t i j l.
          let hs : At R s (Respond o r) = responds s o r i in
          let hm : At R m (Note o t) = notes m o t l in
          let hp : At R p (Invoke o d k a) =
          elim (push_cases R x p (Invoke o d k a) j) [
            | inl old ↦ old
            | inr now ↦
                let e : call.op ≡ o = cc in
                let z : call.op.0 ≡ o.0 = ap (λ (u : OpId). u.0) e in
                let f : o.0 < call_count R = sound.recorded.noted_known m o t hm in
                absurd (omega (arith, z, f, next))
          ] in
          tells_more quorums R (more R x) (tags_of P) (tags_of P) F F C D (tags_stay P) s k t
          (λ r q u d b v z y.
          elim (push_cases R x q (Invoke u d k b) z) [
            | inl old ↦ (old, became_older F C D (tags_of P) c new counts became k u r v y)
            | inr now ↦
                let e : u ≡ call.op = cc in
                let n : u.0 ≡ call_count R = ap (λ (o : OpId). o.0) e ∙ next in
                absurd (none_told quorums R P F C D c call sound became r u v n y)
          ])
          (sound.completed s p m o d r k a t hs hp hm);
    }

-- ---- a call gets its note
above_put : (t : Tag) (c : ℕ) (action : Action) (best : Pair) → IsNoGreater t best.tag
    → IsNoGreater t (pair_to_put c action best).tag × ((value : List ℕ) → action ≡ Write value → IsBelow t (pair_to_put c action best).tag)
above_put t c Read best le = (le, λ value e. absurd cc)
above_put t c (Write text) best le = (at_most_below t (next_of best.tag c) (below_next t best.tag c le), λ value e. below_next t best.tag c le)

own_put : (c : ℕ) (action : Action) (best : Pair) → IsOwn c action (pair_to_put c action best).tag
own_put c Read best value e = absurd cc
own_put c (Write text) best value e = (omega arith, refl)

-- the tag of a good pair has no number above the count of noted calls
pub good_bounded : (R : List Row) (k : List ℕ) (pair : Pair) → RowsSound R → IsGood R k pair → pair.tag.number ≤ noted_below R (call_count R)
good_bounded R k pair rows (Unwritten e) = let z : pair.tag.number ≡ 0 = ap (λ (p : Pair). p.tag.number) e in omega (arith, z)
good_bounded R k pair rows (Wrote s) = rows.bounded s.write.note s.write.op pair.tag s.write.noted

small_put : (c : ℕ) (action : Action) (best : Pair) (m : ℕ) → best.tag.number ≤ m → (pair_to_put c action best).tag.number ≤ m + 1
small_put c Read best m h = omega arith
small_put c (Write text) best m h = omega arith

-- a call that is still asking meets a number below the count of calls
pub asking_small : (quorums : Quorums) (R : List Row) (P : ℕ → List ℕ → Pair) (F : Message → Type 0) (C : ℕ → State → Type 0) → Sound quorums R P F C
    → (c : ℕ) (asking : Asking) → C c (Ask asking) → (k : List ℕ) (pair : Pair) → IsGood R k pair → pair.tag.number < call_count R
asking_small quorums R P F C sound c asking is k pair good =
    let call : Call = asking.call in
    let w : Pending R c call = asking_pending quorums R (tags_of P) c asking (sound.states c _ is) in
    let quiet : NotNoted R call.op = asking_quiet quorums R (tags_of P) c asking (sound.states c _ is) in
    let a : call.op.0 < call_count R = sound.recorded.fresh w.place call.op c call.key call.action w.is in
    let b : noted_below R (call_count R) < call_count R = noted_below_all R call.op.0 (call_count R) (not_noted R call.op quiet) a in
    let d : pair.tag.number ≤ noted_below R (call_count R) = good_bounded R k pair sound.recorded good in
    omega (arith, b, d)

good_put : (R : List Row) (p : ℕ) (op : OpId) (c : ℕ) (key : List ℕ) (action : Action) (best : Pair) → At R p (Invoke op c key action) → IsGood R key best
    → IsGood (more R (Note op (pair_to_put c action best).tag)) key (pair_to_put c action best)
good_put R p op c key Read best i good = good_more R (more R (Note op best.tag)) (extends R (Note op best.tag)) key best good
good_put R p op c key (Write text) best i good =
    let x : Row = Note op (next_of best.tag c) in
    Wrote (record {
      write = record { op = op; client = c; value = text; place = p; invoked = extends R x p (Invoke op c key (Write text)) i; note = length R; noted = slice_get-push_last R x };
      same = refl;
    })

-- an asking is over with an ask quorum that told it the best pair, and the tag of the pair that is put is noted
pub noting : (quorums : Quorums) (R : List Row) (P : ℕ → List ℕ → Pair) (F : Message → Type 0) (C D : ℕ → State → Type 0) (c : ℕ) (asking : Asking) (counted : Replicas) (best : Pair) (new : State)
    → Sound quorums R P F C → C c (Ask asking)
    → is_ask_quorum quorums counted ≡ true
    → ((r : ℕ) (k : List ℕ) → finite.contains counted r ≡ true → Older F C (tags_of P) k asking.call.op r best.tag)
    → IsGood R asking.call.key best
    → ((S : List Row) → Pending S c asking.call → Noted S asking.call.op (pair_to_put c asking.call.action best).tag → IsGood S asking.call.key (pair_to_put c asking.call.action best) → StateSound quorums S (tags_of P) c new)
    → CountsAnswers F C (tags_of P) new
    → ((d : ℕ) (x : State) → D d x → Became C c new d x)
    → ((d : ℕ) (x : State) → C d x → (y : State) × D d y)
    → Sound quorums (more R (Note asking.call.op (pair_to_put c asking.call.action best).tag)) P F D
noting quorums R P F C D c asking counted best new sound is full answers good arrives counts became there =
    let call : Call = asking.call in
    let pair : Pair = pair_to_put c call.action best in
    let x : Row = Note call.op pair.tag in
    let state : StateSound quorums R (tags_of P) c (Ask asking) = sound.states c (Ask asking) is in
    let w : Pending R c call = asking_pending quorums R (tags_of P) c asking state in
    let quiet : NotNoted R call.op = asking_quiet quorums R (tags_of P) c asking state in
    let above : AboveDone R w.place call.key call.action pair.tag =
    λ s p o d m r a t i j l lt.
    let kept : QuorumTells quorums R (tags_of P) F C s call.key t = sound.completed s p m o d r call.key a t i j l in
    let shared : Share quorums counted kept.quorum = quorums_meet quorums counted kept.quorum sound.lawful full kept.is_quorum in
    let le : IsNoGreater t best.tag =
    told_older quorums R (tags_of P) F C s call.key t kept shared.replica w.place call.op c call.action best.tag shared.in_other w.is lt
    (answers shared.replica call.key shared.in_some) in
    above_put t c call.action best le in
    let invokes : (p : ℕ) (o : OpId) (c : ℕ) (k : List ℕ) (a : Action) → At (more R x) p (Invoke o c k a) → At R p (Invoke o c k a) = λ p o c k a i. before R x p (Invoke o c k a) (λ e. cc) i in
    let responds : (p : ℕ) (o : OpId) (r : Returned) → At (more R x) p (Respond o r) → At R p (Respond o r) = λ p o r i. before R x p (Respond o r) (λ e. cc) i in
    let others_quiet : (d : ℕ) → d ≢ c → NoneNoted R (more R x) d =
    λ d ne p q o k a t i j. others_same R sound.recorded c call w x d ne (λ u. Note u t) (λ (u : OpId) (e : x ≡ Note u t). cc) p q o k a i j in
    let here : StateSound quorums (more R x) (tags_of P) c new =
    arrives (more R x)
    (record {
      place = w.place;
      is = extends R x w.place (Invoke call.op c call.key call.action) w.is;
      others = λ p o k a i ne. completed_more R (more R x) (extends R x) o (w.others p o k a (invokes p o c k a i) ne);
      unanswered = λ p r i. w.unanswered p r (responds p call.op r i);
    })
    (record { place = length R; is = slice_get-push_last R x })
    (good_put R w.place call.op c call.key call.action best w.is good) in
    record {
      lawful = sound.lawful;
      recorded = rows_note R call.op c w.place call.key call.action pair.tag sound.recorded w.is quiet above (own_put c call.action best) (small_put c call.action best (noted_below R (call_count R)) (good_bounded R call.key best sound.recorded good))
          (good_from (more R x) call.key pair (good_put R w.place call.op c call.key call.action best w.is good))
          (small_put c call.action best (write_count R call.key) (from_counted R sound.recorded call.key best.tag (good_from R call.key best good)));
      pairs = λ r k. good_more R (more R x) (extends R x) k (P r k) (sound.pairs r k);
      messages = λ m f. message_more R (more R x) (tags_of P) (tags_of P) (extends R x) (tags_stay P) m (sound.messages m f);
      states = λ d y z. became_more quorums R (more R x) (tags_of P) C c new (extends R x) (λ e ne p o k a i. invokes p o e k a i) others_quiet (λ e ne p q o k a r i j. responds p o r j) sound.states here d y (became d y z);
      joined = λ p o d k a i. let old : (y : State) × C d y = sound.joined p o d k a (invokes p o d k a i) in there d old.0 old.1;
      completed = λ s p m o d r k a t i j l.
          let hs : At R s (Respond o r) = responds s o r i in
          let hp : At R p (Invoke o d k a) = invokes p o d k a j in
          let hm : At R m (Note o t) =
          elim (push_cases R x m (Note o t) l) [
            | inl old ↦ old
            | inr now ↦
                let e : o ≡ call.op = cc in
                let found : Answered R o r = sound.recorded.answered s o r hs in
                absurd (quiet found.note found.pair.tag (subst (λ z. At R found.note (Note z found.pair.tag)) e found.noted))
          ] in
          tells_more quorums R (more R x) (tags_of P) (tags_of P) F F C D (tags_stay P) s k t
          (λ r q u d b v z y. (invokes q u d k b z, became_older F C D (tags_of P) c new counts became k u r v y))
          (sound.completed s p m o d r k a t hs hp hm);
    }
