use Rattle.std.proofs.Common.{ℕ, ◌≡◌, ◌∙◌, List, Result, Err, Some, length, set, ap, sym, subst, refl, arith}
use Rattle.std.specs.List.{slice_get}
use Rattle.std.proofs.lemmas.List.{length-set}
use Rattle.std.proofs.lemmas.Result.{on_err_weaker}
use Rattle.recorder.specs.Halls.{RecordedHalls, FallsTo, hall_calls}
use Rattle.recorder.specs.Histories.{Recorded}
use Rattle.recorder.specs.declared.row.Row.{Row}
use Rattle.file_format.specs.FileHeaders.{halls_in, quorums_in}
use Rattle.file_format.specs.HallStates.{IsPlacedInHall, histories_in}
use Rattle.file_format.specs.Places.{FollowsAfter, IsPlacedAfter}
use Rattle.file_format.specs.Faults.{LineStop}
use Rattle.counted_devices.specs.declared.read_fault.Stop.TheVariants as stop
use Rattle.file_format.specs.HistoriesFormat.{MakesHistories}
use Rattle.file_format.proofs.OneRowMore.{given, grows, counted_after, lawful_after, room_after, unchanged_after, follows_after}
use Rattle.file_format.proofs.RowsAcrossHalls.{IsNext}
use Rattle.file_format.proofs.hall_histories.HallHistories.follow.Goals as goal

pub overflow_sub-self : goal.overflow_sub-self
overflow_sub-self c =
    let old = c.index_mut-history.result.now in
    let took = c.follow_in_hall-result in
    let g = given c.self.inside c.self.invariant c.from.result old took.new.history c.args.item.row took.result
    (omega (arith, c.from.ensures, c.if-hall-halls.false, c.halls.ensures.count))
    c.index_mut-history.ensures.value took.ensures.follows in
    omega (
      arith,
      grows c.self.inside.halls.items c.from.result old took.new.history c.args.item.row took.result g.here g.after,
      c.calls-before.ensures.count,
      c.calls.ensures.count,
    )

pub invariant_of-self : goal.invariant_of-self
invariant_of-self c =
    let inside = c.self.inside in
    let halls = inside.halls.items in
    let at = c.from.result in
    let old = c.index_mut-history.result.now in
    let took = c.follow_in_hall-result in
    let new = took.new.history in
    let row = c.args.item.row in
    let inner = c.self.invariant in
    let g = given inside inner at old new row took.result (omega (arith, c.from.ensures, c.if-hall-halls.false, c.halls.ensures.count))
    c.index_mut-history.ensures.value took.ensures.follows in
    let told : FallsTo (halls_in inside.header) c.args.item.hall row = c.falls_to.ensures.0 c.if-not-falls_to.false in
    let named : FallsTo (halls_in inside.header) at row =
    subst (λ (k : ℕ). FallsTo (halls_in inside.header) k row) (sym c.from.ensures) told in
    let falls : FallsTo (length halls) at row = subst (λ (n : ℕ). FallsTo n at row) (sym inner.count) named in
    record {
      lawful = lawful_after halls at old new row took.result g.here g.after (quorums_in inside.header) inner.lawful falls;
      count = length-set halls at new ∙ inner.count;
      counted = omega (
        arith,
        counted_after halls at old new row took.result g.here g.after,
        inner.counted,
        c.calls-before.ensures.count,
        c.calls.ensures.count,
      );
      room = room_after halls at old new row took.result g.here g.after inner.room;
    }

pub returns-clause-follows : goal.returns-clause-follows
returns-clause-follows c = λ header items made fits.
    let inside = c.self.inside in
    let item = c.args.item in
    let old = c.index_mut-history.result.now in
    let took = c.follow_in_hall-result in
    let new = took.new.history in
    let g = given inside c.self.invariant c.from.result old new item.row took.result
    (omega (arith, c.from.ensures, c.if-hall-halls.false, c.halls.ensures.count))
    c.index_mut-history.ensures.value took.ensures.follows in
    let own : MakesHistories header items (histories_in inside) =
    subst (λ (now : RecordedHalls). MakesHistories header items now) (sym c.self.view_is) made in
    let same : halls_in inside.header ≡ halls_in header = sym c.self.invariant.count ∙ own.count in
    let next : IsNext header items (histories_in inside) item old = record {
      made = own;
      fits = fits;
      placed = record {
        below = omega (arith, g.below, c.from.ensures, own.count);
        falls = subst (λ (n : ℕ). FallsTo n item.hall item.row) same (c.falls_to.ensures.0 c.if-not-falls_to.false);
      };
      here = subst (λ (k : ℕ). slice_get inside.halls.items k ≡ Some old) c.from.ensures g.here;
    } in
    follows_after header items item (histories_in inside)
    (record { halls = set inside.halls.items c.from.result new; quorums = quorums_in inside.header }) old new took.result next
    took.ensures.formed g.after (ap (λ (k : ℕ). set inside.halls.items k new) c.from.ensures) refl

pub returns-clause-unchanged : goal.returns-clause-unchanged
returns-clause-unchanged c =
    let old = c.index_mut-history.result.now in
    let took = c.follow_in_hall-result in
    let g = given c.self.inside c.self.invariant c.from.result old took.new.history c.args.item.row took.result
    (omega (arith, c.from.ensures, c.if-hall-halls.false, c.halls.ensures.count))
    c.index_mut-history.ensures.value took.ensures.follows in
    let with : List Recorded → RecordedHalls = λ halls. record { halls = halls; quorums = quorums_in c.self.inside.header } in
    on_err_weaker took.result (λ same. ap with same ∙ c.self.view_is)
    (unchanged_after c.self.inside.halls.items c.from.result old took.new.history c.args.item.row took.result g.here g.after)

-- memory was wanted for a row without a fault
placed_where_refused : (calls : ℕ) (old new : Recorded) (row : Row) (result : Result (Unit {0}) LineStop) → FollowsAfter calls old row result new
    → result ≡ Err stop.Memory → IsPlacedAfter calls old.rows row
placed_where_refused calls old new row result follows is = (subst (λ r. FollowsAfter calls old row r new) is follows).0

pub returns-clause-memory : goal.returns-clause-memory
returns-clause-memory c = λ refused.
    let inside = c.self.inside in
    let halls = inside.halls.items in
    let item = c.args.item in
    let old = c.index_mut-history.result.now in
    let took = c.follow_in_hall-result in
    let g = given inside c.self.invariant c.from.result old took.new.history item.row took.result
    (omega (arith, c.from.ensures, c.if-hall-halls.false, c.halls.ensures.count))
    c.index_mut-history.ensures.value took.ensures.follows in
    subst (λ (now : RecordedHalls). IsPlacedInHall now.halls item) c.self.view_is (record {
      history = old;
      there = subst (λ (k : ℕ). slice_get halls k ≡ Some old) c.from.ensures g.here;
      falls = subst (λ (n : ℕ). FallsTo n item.hall item.row) (sym c.self.invariant.count) (c.falls_to.ensures.0 c.if-not-falls_to.false);
      placed = placed_where_refused (hall_calls halls) old took.new.history item.row took.result g.after refused;
    })
