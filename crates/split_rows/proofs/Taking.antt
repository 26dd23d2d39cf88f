-- What is kept of rows with one more.
use Rattle.std.proofs.Common.{ℕ, ◌≡◌, ◌<◌, ◌≤◌, ◌+◌, ◌%◌, inl, inr, List, [], ◌∷◌, ◌++◌, Some, Bool, true, false, cond, nat_eq, true≢false}
use Rattle.std.proofs.Common.{get_or, length, set, ap, sym, ◌∙◌, subst, refl, arith}
use Rattle.std.specs.List.{slice_get, Contains}
use Rattle.std.proofs.lemmas.Bool.{cases_eq, eq-eqb, ne_eqb}
use Rattle.std.proofs.lemmas.List.{length-set}
use Rattle.std.proofs.lemmas.List.Elements.{Contains-push}
use Rattle.std.proofs.lemmas.Nat.{mod_below}
use Rattle.tag.specs.declared.actions.Action.{Action}
use Rattle.tag.specs.declared.actions.Returned.{Returned}
use Rattle.tag.specs.declared.numbers.OpId.{OpId}
use Rattle.tag.specs.Tags.{Tag}
use Rattle.tag.proofs.Lists.{Contains-slice_get, item_at, set_cases, slice_get-push_left, slice_get-push_last}
use Rattle.recorder.specs.declared.row.Row.{Row}
use Rattle.recorder.specs.declared.row.Row.TheVariants.{Invoke, Note, Respond}
use Rattle.recorder.specs.Histories.{call_count, is_invoke, IsWellFormed, MayFollow}
use Rattle.recorder.specs.Records.{AreFirstSeen}
use Rattle.key_index.specs.Numbers.{Numbers}
use Rattle.key_index.specs.Numbers.Numbers.{known, first}
use Rattle.open_calls.specs.declared.open_call.OpenCall.{OpenCall}
use Rattle.open_calls.specs.Open.{Open, begun_call, call_at, with_answer, with_begun, with_note}
use Rattle.open_calls.specs.Rows.{KeepsOpen}
use Rattle.split_rows.specs.declared.moved.Moved.{Moved}
use Rattle.split_rows.specs.declared.taken.Taken.{Taken}
use Rattle.split_rows.specs.Pieces.{op_of, with_op, with_row, ArePieces, IsCallOf, IsKeyOf}
use Rattle.split_rows.specs.Taken.{AreCounts, AreMoved, IsNext, KeepsRows}
use Rattle.split_rows.proofs.Rows.{count_push, formed_next}
use Rattle.split_rows.proofs.Stepping.{call_push}
use Rattle.split_rows.proofs.FirstSeen.{AreFirstSeen-first, AreFirstSeen-same, BeginsCall}
use Rattle.split_rows.proofs.Dealt.{StillThere, call_below, one_piece_of_call, pieces_after, with_here, with_other}
use Rattle.split_rows.proofs.Calls.{IsMoved, moved_answered, moved_begun, moved_noted}

-- ---- counts

same_kind : (row : Row) (new : OpId) → is_invoke (with_op row new) ≡ is_invoke row
same_kind (Invoke op client key action) new = refl
same_kind (Note op tag) new = refl
same_kind (Respond op returned) new = refl

no_more : (n : ℕ) (b : Bool) → b ≡ false → n + cond b 1 0 ≡ n
no_more n b e = ap (λ (x : Bool). n + cond x 1 0) e ∙ omega arith

one_more : (n : ℕ) (b : Bool) → b ≡ true → n + cond b 1 0 ≡ n + 1
one_more n b e = ap (λ (x : Bool). n + cond x 1 0) e

count_moved : (rows : List Row) (row : Row) (new : OpId) → call_count (rows ++ with_op row new ∷ []) ≡ call_count rows + cond (is_invoke row) 1 0
count_moved rows row new = count_push rows (with_op row new) ∙ ap (λ (b : Bool). call_count rows + cond b 1 0) (same_kind row new)

module _ (parts : ℕ) (rows : List Row) (row : Row) (new : OpId) (pieces : ℕ → List Row) (p : ℕ) (counts : List ℕ)
    (are : AreCounts parts rows pieces counts) where
  -- a row that begins no call
  pub counts_same : is_invoke row ≡ false → AreCounts parts (rows ++ row ∷ []) (with_row pieces p (with_op row new)) counts
  counts_same none = record {
    one = are.one;
    each = λ q n at. elim (cases_eq q p) [
      | inl here ↦ are.each q n at ∙ sym (ap call_count (with_here pieces p q (with_op row new) here)
          ∙ (count_moved (pieces q) row new ∙ no_more (call_count (pieces q)) (is_invoke row) none))
      | inr apart ↦ are.each q n at ∙ sym (ap call_count (with_other pieces p q (with_op row new) apart))
    ];
    few = λ q n at. omega (arith, are.few q n at, count_push rows row);
  }

  -- one that does
  pub counts_more : is_invoke row ≡ true → (count : ℕ) → slice_get counts p ≡ Some count → (later : List ℕ)
      → later ≡ set counts p (count + 1) → AreCounts parts (rows ++ row ∷ []) (with_row pieces p (with_op row new)) later
  counts_more begins count at_p later is = subst (AreCounts parts (rows ++ row ∷ []) (with_row pieces p (with_op row new))) (sym is) (record {
    one = length-set counts p (count + 1) ∙ are.one;
    each = λ q n at. elim (set_cases counts p (count + 1) q n at) [
      | inl w ↦
          let here : call_count (with_row pieces p (with_op row new) q) ≡ call_count (pieces q) + 1 = ap call_count
          (with_here pieces p q (with_op row new) w.0) ∙ (count_moved (pieces q) row new ∙ one_more (call_count (pieces q)) (is_invoke
          row) begins) in
          let was : count ≡ call_count (pieces q) = are.each q count (ap (slice_get counts) w.0 ∙ at_p) in
          omega (arith, here, was, w.1)
      | inr w ↦ are.each q n w.1 ∙ sym (ap call_count (with_other pieces p q (with_op row new) w.0))
    ];
    few = λ q n at.
        let all = count_push rows row ∙ one_more (call_count rows) (is_invoke row) begins in
        elim (set_cases counts p (count + 1) q n at) [
          | inl w ↦ omega (arith, are.few p count at_p, all, w.1)
          | inr w ↦ omega (arith, are.few q n w.1, all)
        ];
  })

-- a count that stands at a number modulo how many there are is as small as all of them
pub few_at : (counts : List ℕ) (n size count most : ℕ) → 0 < size → size ≡ length counts
    → ((p m : ℕ) → slice_get counts p ≡ Some m → m ≤ most) → count ≡ get_or counts (n % size) count → count ≤ most
few_at counts n size count most some all few is =
    let low = mod_below n size some in
    few (n % size) count (item_at counts (n % size) count (omega (arith, low, all)) is)

-- ---- a row that begins no call

module _ (parts : ℕ) (rows : List Row) (formed : IsWellFormed rows) (pieces : ℕ → List Row) (old : Taken)
    (k : KeepsRows parts rows pieces old) (row : Row) (may : MayFollow rows row) where
  -- what is kept of a call stays that of it
  pub moved_on : (later : List (List ℕ)) (next : OpId → OpId) → StillThere old.keys later
      → ((op : OpId) → op.0 < call_count rows → next op ≡ k.number op) → (op : OpId) (moved : Moved)
      → IsMoved parts rows old.keys k.number op moved → IsMoved parts (rows ++ row ∷ []) later next op moved
  moved_on later next still same op moved m =
      let of = m.0 in (
        call_push rows row (IsKeyOf parts later moved.piece) op (of.0, (of.1.0, still of.1.0 of.0 of.1.1, of.1.2), of.2),
        m.1 ∙ sym (same op (call_below rows formed (IsKeyOf parts old.keys moved.piece) op of)),
      )

  module _ (kind : is_invoke row ≡ false) where
    none_begun : (key : List ℕ) → BeginsCall row key → Contains old.keys key
    none_begun key b = absurd (true≢false (sym (ap is_invoke b.3) ∙ kind))

    now : AreFirstSeen (rows ++ row ∷ []) old.keys
    now = AreFirstSeen-same rows row old.keys k.are.seen none_begun

    pub quiet_on : (op : OpId) (moved : Moved) → IsMoved parts rows old.keys k.number op moved
        → IsMoved parts (rows ++ row ∷ []) old.keys k.number op moved
    quiet_on op moved m = moved_on old.keys k.number (λ n key e. e) (λ o below. refl) op moved m

    pub quiet_keeps : (moved : Moved) → IsMoved parts rows old.keys k.number (op_of row) moved → (calls : Open Moved)
        → KeepsOpen (rows ++ row ∷ []) calls → AreMoved parts (rows ++ row ∷ []) old.keys k.number calls
        → KeepsRows parts (rows ++ row ∷ []) (with_row pieces moved.piece (with_op row moved.op)) (record old { calls = calls })
    quiet_keeps moved m calls opens are =
        let own = (quiet_on (op_of row) moved m).0 in
        record {
          number = k.number;
          some = k.some;
          are = subst (λ (o : OpId). ArePieces parts (rows ++ row ∷ []) old.keys k.number (with_row pieces moved.piece (with_op row o)))
              (sym m.1)
              (pieces_after parts rows formed row old.keys old.keys k.number k.number pieces k.are now (λ n key e. e) (λ o below. refl)
              moved.piece own
              (λ q of. one_piece_of_call (rows ++ row ∷ []) (formed_next rows row formed may) old.keys now parts q moved.piece (op_of row) of
              own)
              (λ op client key action e. absurd (true≢false (sym (ap is_invoke e) ∙ kind))));
          opens = opens;
          moved = are;
          counts = counts_same parts rows row moved.op pieces moved.piece old.counts.items k.counts kind;
        }

-- ---- a call that begins

-- what the key's number is, and what the keys are then
pub record IsNumbered (rows : List Row) (keys : List (List ℕ)) (key : List ℕ) (n : ℕ) (later : List (List ℕ)) (row : Row) : Type 0 where
  pub now : AreFirstSeen (rows ++ row ∷ []) later
  pub still : StillThere keys later
  pub here : slice_get later n ≡ Some key

one_key_begun : (op : OpId) (client : ℕ) (key other : List ℕ) (action : Action) → BeginsCall (Invoke op client key action) other → key ≡ other
one_key_begun op client key other action b =
    let same : ◌≡◌ {A = Row} (Invoke op client key action) (Invoke b.0 b.1 other b.2) = b.3 in
    cc

numbered_known : (rows : List Row) (keys later : List (List ℕ)) (key : List ℕ) (m n : ℕ) → AreFirstSeen rows keys → (op : OpId) (client : ℕ)
    (action : Action) → slice_get keys m ≡ Some key → later ≡ keys → IsNext keys key n
    → IsNumbered rows keys key n later (Invoke op client key action)
numbered_known rows keys later key m n seen op client action at same next = record {
  now = subst (AreFirstSeen (rows ++ Invoke op client key action ∷ [])) (sym same)
      (AreFirstSeen-same rows (Invoke op client key action) keys seen
      (λ other b. subst (Contains keys) (one_key_begun op client key other action b) (Contains-slice_get keys m key at)));
  still = λ i k e. ap (λ (l : List (List ℕ)). slice_get l i) same ∙ e;
  here = ap (λ (l : List (List ℕ)). slice_get l n) same ∙ elim next [
    | inl w ↦ w
    | inr w ↦ absurd (w.0 (Contains-slice_get keys m key at))
  ];
}

numbered_first : (rows : List Row) (keys later : List (List ℕ)) (key : List ℕ) (n : ℕ) → AreFirstSeen rows keys → (op : OpId) (client : ℕ)
    (action : Action) → (Contains keys key → ⊥) → later ≡ keys ++ key ∷ [] → IsNext keys key n
    → IsNumbered rows keys key n later (Invoke op client key action)
numbered_first rows keys later key n seen op client action unseen same next = record {
  now = subst (AreFirstSeen (rows ++ Invoke op client key action ∷ [])) (sym same)
      (AreFirstSeen-first rows (Invoke op client key action) keys seen key unseen (op, client, action, refl));
  still = λ i k e. ap (λ (l : List (List ℕ)). slice_get l i) same ∙ slice_get-push_left keys key i k e;
  here = ap (λ (l : List (List ℕ)). slice_get l n) same ∙ elim next [
    | inl w ↦ absurd (unseen (Contains-slice_get keys n key w))
    | inr w ↦ ap (slice_get (keys ++ key ∷ [])) w.1 ∙ slice_get-push_last keys key
  ];
}

pub numbered : (rows : List Row) (keys later : List (List ℕ)) (key : List ℕ) (m n : ℕ) → AreFirstSeen rows keys → (op : OpId) (client : ℕ)
    (action : Action) → Numbers keys key m later → IsNext keys key n → IsNumbered rows keys key n later (Invoke op client key action)
numbered rows keys later key m n seen op client action (known at same) next = numbered_known rows keys later key m n seen op client action at
    same next
numbered rows keys later key m n seen op client action (first unseen at same) next = numbered_first rows keys later key n seen op client
    action unseen same next

-- the numbers, and that of the call
pub with_number : (OpId → OpId) → OpId → OpId → OpId → OpId
with_number number op new other = cond (nat_eq other.0 op.0) new (number other)

number_here : (number : OpId → OpId) (op new : OpId) → with_number number op new op ≡ new
unfolding with_number
number_here number op new = ap (λ (b : Bool). cond b new (number op)) (eq-eqb op.0 op.0 refl)

number_other : (number : OpId → OpId) (op new other : OpId) → other.0 < op.0 → with_number number op new other ≡ number other
unfolding with_number
number_other number op new other less = ap (λ (b : Bool). cond b new (number other)) (ne_eqb other.0 op.0 (λ e. absurd (omega (
  arith,
  less,
  e,
))))

module _ (parts : ℕ) (rows : List Row) (formed : IsWellFormed rows) (pieces : ℕ → List Row) (old : Taken)
    (k : KeepsRows parts rows pieces old) (op : OpId) (client : ℕ) (key : List ℕ) (action : Action)
    (may : MayFollow rows (Invoke op client key action)) (n : ℕ) (later : List (List ℕ))
    (keyed : IsNumbered rows old.keys key n later (Invoke op client key action)) (moved : Moved) (piece : moved.piece ≡ n % parts)
    (number : moved.op.0 ≡ call_count (pieces moved.piece)) where
  pub next_number : OpId → OpId
  next_number = with_number k.number op moved.op

  next_here : next_number op ≡ moved.op
  unfolding next_number
  next_here = number_here k.number op moved.op

  next_same : (o : OpId) → o.0 < call_count rows → next_number o ≡ k.number o
  unfolding next_number
  next_same o below = number_other k.number op moved.op o (omega (arith, below, may.0))

  own : IsCallOf (rows ++ Invoke op client key action ∷ []) (IsKeyOf parts later moved.piece) op
  own = (key, (n, keyed.here, sym piece), (client, action, Contains-push rows (Invoke op client key action)))

  pub begun_moved : IsMoved parts (rows ++ Invoke op client key action ∷ []) later next_number op moved
  begun_moved = (own, sym next_here)

  begun_fresh : (o : OpId) (c : ℕ) (l : List ℕ) (a : Action) → Invoke op client key action ≡ Invoke o c l a
      → (o.0 ≡ call_count rows) × ((next_number o).0 ≡ call_count (pieces moved.piece))
  begun_fresh o c l a e =
      let same : op ≡ o = cc in (
        ap (λ (x : OpId). x.0) (sym same) ∙ may.0,
        ap (λ (x : OpId). (next_number x).0) (sym same) ∙ (ap (λ (x : OpId). x.0) next_here ∙ number),
      )

  pub begun_on : (o : OpId) (m : Moved) → IsMoved parts rows old.keys k.number o m
      → IsMoved parts (rows ++ Invoke op client key action ∷ []) later next_number o m
  begun_on o m x = moved_on parts rows formed pieces old k (Invoke op client key action) may later next_number keyed.still next_same o m x

  pub begun_piece : moved.piece < parts
  begun_piece = (let low = mod_below n parts k.some in omega (arith, low, piece))

  pub begun_keeps : (new : Taken) → new.keys ≡ later → KeepsOpen (rows ++ Invoke op client key action ∷ []) new.calls
      → AreMoved parts (rows ++ Invoke op client key action ∷ []) later next_number new.calls
      → (count : ℕ) → slice_get old.counts.items moved.piece ≡ Some count → new.counts.items ≡ set old.counts.items moved.piece (count + 1)
      → KeepsRows parts (rows ++ Invoke op client key action ∷ []) (with_row pieces moved.piece (with_op (Invoke op client key action) moved.op))
      new
  begun_keeps new keys_are opens are count at counts_are = record {
    number = next_number;
    some = k.some;
    are = subst (λ (ks : List (List ℕ)). ArePieces parts (rows ++ Invoke op client key action ∷ []) ks next_number
        (with_row pieces moved.piece (with_op (Invoke op client key action) moved.op))) (sym keys_are)
        (subst (λ (o : OpId). ArePieces parts (rows ++ Invoke op client key action ∷ []) later next_number
        (with_row pieces moved.piece (with_op (Invoke op client key action) o))) next_here
        (pieces_after parts rows formed (Invoke op client key action) old.keys later k.number next_number pieces k.are keyed.now keyed.still next_same
        moved.piece own
        (λ q of. one_piece_of_call (rows ++ Invoke op client key action ∷ []) (formed_next rows (Invoke op client key action) formed may) later
        keyed.now parts q moved.piece op of own)
        begun_fresh));
    opens = opens;
    moved = subst (λ (ks : List (List ℕ)). AreMoved parts (rows ++ Invoke op client key action ∷ []) ks next_number new.calls) (sym keys_are) are;
    counts = counts_more parts rows (Invoke op client key action) moved.op pieces moved.piece old.counts.items k.counts refl count at
        new.counts.items counts_are;
  }

-- ---- what each row leaves

module _ (parts : ℕ) (rows : List Row) (formed : IsWellFormed rows) (pieces : ℕ → List Row) (old : Taken)
    (k : KeepsRows parts rows pieces old) (op : OpId) (calls : Open Moved) (call : OpenCall Moved) (was : call_at old.calls op.0 ≡ Some call)
  where
    pub piece_below : call.payload.piece < parts
    piece_below =
        let x = (k.moved op call was).0.1 in
        let low = mod_below x.0 parts k.some in
        omega (arith, low, x.2)

    pub noted_keeps : (tag : Tag) → MayFollow rows (Note op tag) → KeepsOpen (rows ++ Note op tag ∷ []) calls
        → calls ≡ with_note old.calls op.0 call
        → KeepsRows parts (rows ++ Note op tag ∷ []) (with_row pieces call.payload.piece (Note call.payload.op tag)) (record old { calls = calls })
    noted_keeps tag may opens is =
        let on = quiet_on parts rows formed pieces old k (Note op tag) may refl in
        quiet_keeps parts rows formed pieces old k (Note op tag) may refl call.payload (k.moved op call was) calls opens
        (moved_noted parts rows (rows ++ Note op tag ∷ []) old.keys old.keys k.number k.number old.calls calls on k.moved op call was is)

    pub answered_keeps : (returned : Returned) → MayFollow rows (Respond op returned) → KeepsOpen (rows ++ Respond op returned ∷ []) calls
        → calls ≡ with_answer old.calls op.0
        → KeepsRows parts (rows ++ Respond op returned ∷ []) (with_row pieces call.payload.piece (Respond call.payload.op returned))
        (record old { calls = calls })
    answered_keeps returned may opens is =
        let on = quiet_on parts rows formed pieces old k (Respond op returned) may refl in
        quiet_keeps parts rows formed pieces old k (Respond op returned) may refl call.payload (k.moved op call was) calls opens
        (moved_answered parts rows (rows ++ Respond op returned ∷ []) old.keys old.keys k.number k.number old.calls calls on k.moved op is)

pub begun_keeps_all : (parts : ℕ) (rows : List Row) (formed : IsWellFormed rows) (pieces : ℕ → List Row) (old : Taken)
    (k : KeepsRows parts rows pieces old) (op : OpId) (client : ℕ) (key : List ℕ) (action : Action)
    (may : MayFollow rows (Invoke op client key action)) (m n : ℕ) (new : Taken) (moved : Moved) → Numbers old.keys key m new.keys
    → IsNext old.keys key n → moved.piece ≡ n % parts → (count : ℕ) → slice_get old.counts.items moved.piece ≡ Some count → moved.op.0 ≡ count
    → new.counts.items ≡ set old.counts.items moved.piece (count + 1) → KeepsOpen (rows ++ Invoke op client key action ∷ []) new.calls
    → (is_write : Bool) → new.calls ≡ with_begun old.calls (begun_call client is_write moved)
    → KeepsRows parts (rows ++ Invoke op client key action ∷ []) (with_row pieces moved.piece (Invoke moved.op client key action)) new
begun_keeps_all parts rows formed pieces old k op client key action may m n new moved numbers next piece count at op_is counts_are opens
    is_write calls_are =
    let keyed = numbered rows old.keys new.keys key m n k.are.seen op client action numbers next in
    let number : moved.op.0 ≡ call_count (pieces moved.piece) = op_is ∙ k.counts.each moved.piece count at in
    let on = begun_on parts rows formed pieces old k op client key action may n new.keys keyed moved piece number in
    let own = begun_moved parts rows formed pieces old k op client key action may n new.keys keyed moved piece number in
    let later = next_number parts rows formed pieces old k op client key action may n new.keys keyed moved piece number in
    begun_keeps parts rows formed pieces old k op client key action may n new.keys keyed moved piece number new refl opens
    (moved_begun parts rows (rows ++ Invoke op client key action ∷ []) old.keys new.keys k.number later old.calls new.calls on k.moved op
    client is_write moved (may.0 ∙ sym k.opens.begun) calls_are own) count at counts_are
