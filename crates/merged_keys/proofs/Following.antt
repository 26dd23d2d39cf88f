-- A row may follow once all calls are on one key if it might before; then nothing but memory refuses it.
use Rattle.std.proofs.Common.{ℕ, ◌≡◌, ◌≤◌, List, Some, map, take, refl, ap, sym, ◌∙◌, subst}
use Rattle.std.proofs.Common.{arith}
use Rattle.std.specs.List.{slice_get}
use Rattle.tag.specs.declared.actions.Action.{Action}
use Rattle.tag.specs.declared.actions.Returned.{Returned}
use Rattle.tag.specs.declared.numbers.OpId.{OpId}
use Rattle.tag.specs.Tags.{Tag}
use Rattle.tag.proofs.Lists.{place_of, Contains-slice_get}
use Rattle.recorder.specs.declared.row.Row.{Row}
use Rattle.recorder.specs.declared.row.Row.TheVariants.{Invoke, Note, Respond}
use Rattle.recorder.specs.declared.row.RowRefusal.{RowRefusal}
use Rattle.recorder.specs.declared.row.RowRefusal.TheVariants.{OpsFull, ClientBusy, NotPending, WrongKind, NoteTwice, Memory}
use Rattle.recorder.specs.Answers.{IsRefused}
use Rattle.recorder.specs.Histories.{FitsAction, IsPendingCall, IsWellFormed, MayFollow, Recorded, call_count}
use Rattle.merged_keys.proofs.Numbers.{begun_once, count_below}
use Rattle.merged_keys.specs.MergedKeys.{CanFollow, on_key}
use Rattle.merged_keys.proofs.SameRows.{answered_back, answered_to, begun_back, begun_to, count_same, invoke_same, noted_back}

module _ (key : List ℕ) (rows : List Row) where
  -- the same calls are pending
  pending_to : (op : OpId) (client : ℕ) (action : Action) → IsPendingCall rows op client action
      → IsPendingCall (map (on_key key) rows) op client action
  pending_to op client action p =
      let k = place_of rows (Invoke op client p.key action) p.invoked in
      record {
        key = key;
        invoked = Contains-slice_get (map (on_key key) rows) k.0 (Invoke op client key action) (begun_to key rows k.0 op client p.key action k.1);
        unanswered = λ h.
            let at = place_of (map (on_key key) rows) (Respond op h.0) h.1 in
            p.unanswered (h.0, Contains-slice_get rows at.0 (Respond op h.0) (answered_back key rows at.0 op h.0 at.1));
      }

  pending_back : (op : OpId) (client : ℕ) (action : Action) → IsPendingCall (map (on_key key) rows) op client action
      → IsPendingCall rows op client action
  pending_back op client action p =
      let k = place_of (map (on_key key) rows) (Invoke op client p.key action) p.invoked in
      let own = begun_back key rows k.0 op client p.key action k.1 in
      record {
        key = own.0;
        invoked = Contains-slice_get rows k.0 (Invoke op client own.0 action) own.1;
        unanswered = λ h.
            let at = place_of rows (Respond op h.0) h.1 in
            p.unanswered (h.0, Contains-slice_get (map (on_key key) rows) at.0 (Respond op h.0) (answered_to key rows at.0 op h.0 at.1));
      }

  pub follows_so : (row : Row) → MayFollow rows row → MayFollow (map (on_key key) rows) (on_key key row)
  follows_so (Invoke op client own action) may =
      (may.0 ∙ sym (count_same key rows), λ busy. may.1 (busy.0, busy.1, pending_back busy.0 client busy.1 busy.2))
  follows_so (Note op tag) may = (
    (may.0.0, may.0.1, pending_to op may.0.0 may.0.1 may.0.2),
    λ h. may.1 (h.0, noted_back key rows op h.0 h.1),
  )
  follows_so (Respond op returned) may = (may.0, may.1, pending_to op may.0 may.1 may.2, may.3)

-- the next row may follow, and there is room for its call
pub can_follow : (key : List ℕ) (rows : List Row) (limit k : ℕ) (row : Row) → IsWellFormed rows → call_count rows ≤ limit
    → slice_get rows k ≡ Some row → CanFollow (record { rows = map (on_key key) (take k rows); limit = limit }) (on_key key row)
can_follow key rows limit k row formed most at = record {
  follows = follows_so key (take k rows) row (formed k row at);
  room = λ begins.
      let below = count_below rows k row at (sym (invoke_same key row) ∙ begins) in
      let same = count_same key (take k rows) in
      omega (arith, below, same, most);
}

-- ---- why a row is refused that may follow

pub begin_refused : (h : Recorded) (op : OpId) (client : ℕ) (key : List ℕ) (action : Action) (why : RowRefusal)
    → CanFollow h (Invoke op client key action) → IsRefused h (Invoke op client key action) why → why ≡ Memory
begin_refused h op client key action OpsFull can is = absurd (let room = can.room refl in omega (arith, room, is))
begin_refused h op client key action ClientBusy can is = absurd (can.follows.1 is.1)
begin_refused h op client key action NotPending can is = absurd is
begin_refused h op client key action WrongKind can is = absurd is
begin_refused h op client key action NoteTwice can is = absurd is
begin_refused h op client key action Memory can is = refl

pub note_refused : (h : Recorded) (op : OpId) (tag : Tag) (why : RowRefusal) → MayFollow h.rows (Note op tag)
    → IsRefused h (Note op tag) why
    → why ≡ Memory
note_refused h op tag OpsFull may is = absurd is
note_refused h op tag ClientBusy may is = absurd is
note_refused h op tag NotPending may is = absurd (is may.0)
note_refused h op tag WrongKind may is = absurd is
note_refused h op tag NoteTwice may is = absurd (may.1 is.1)
note_refused h op tag Memory may is = refl

-- a pending call has one action
one_action : (rows : List Row) → IsWellFormed rows → (op : OpId) (c d : ℕ) (x y : Action) → IsPendingCall rows op c x
    → IsPendingCall rows op d y
    → x ≡ y
one_action rows formed op c d x y p q =
    let i = place_of rows (Invoke op c p.key x) p.invoked in
    let j = place_of rows (Invoke op d q.key y) q.invoked in
    let same = begun_once rows formed i.0 j.0 op c d p.key q.key x y i.1 j.1 in
    let row : Invoke op c p.key x ≡ Invoke op d q.key y = cc (i.1, j.1, ap (slice_get rows) same) in
    cc

pub respond_refused : (h : Recorded) → IsWellFormed h.rows → (op : OpId) (returned : Returned) (why : RowRefusal)
    → MayFollow h.rows (Respond op returned) → IsRefused h (Respond op returned) why → why ≡ Memory
respond_refused h formed op returned OpsFull may is = absurd is
respond_refused h formed op returned ClientBusy may is = absurd is
respond_refused h formed op returned NotPending may is = absurd (is (may.0, may.1, may.2))
respond_refused h formed op returned WrongKind may is =
    let same = one_action h.rows formed op may.0 is.0 may.1 is.1 may.2 is.2 in
    absurd (is.3 (subst (λ (a : Action). FitsAction a returned) same may.3))
respond_refused h formed op returned NoteTwice may is = absurd is
respond_refused h formed op returned Memory may is = refl
