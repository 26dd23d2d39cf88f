-- How many rows the states of the calls account for.
use Rattle.std.proofs.Common.{ℕ, ◌≡◌, ◌≤◌, ◌<◌, ◌+◌, ◌*◌, List, Option, Some, None, set, length, arith, ap, sym, ◌∙◌, length-set}
use Rattle.std.specs.List.{slice_get, slice_index_or, All}
use Rattle.std.proofs.lemmas.List.Sums.{sum_by-set, sum_by-le}
use Rattle.std.proofs.lemmas.Option.{slice_get_within, get_or_from_slice_get}
use Rattle.tag.specs.Tags.{Tag}
use Rattle.tag.specs.Limits.{call_limit}
use Rattle.recorder.specs.Tables.{row_limit}
use Rattle.recorder.specs.declared.record.CallState.{CallState}
use Rattle.recorder.specs.declared.row_table.Span.{Span}
use Rattle.recorder.specs.States.{rows_of, row_count}

-- of a call there are at most three
few : (state : CallState) (note : Option Tag) (response : Option ℕ) → rows_of (record state { note = note; response = response }) ≤ 3
few state None None = omega (arith)
few state (Some tag) None = omega (arith)
few state None (Some place) = omega (arith)
few state (Some tag) (Some place) = omega (arith)

all-few : (states : List CallState) → All (λ state. rows_of state ≤ 3) states
all-few states k d below =
    let state = slice_index_or states k d in
    few state state.note state.response

pub row_count-few : (states : List CallState) → row_count states ≤ length states * 3
row_count-few states = sum_by-le rows_of 3 states (all-few states)

pub row_count-set : (states : List CallState) (k : ℕ) (state new : CallState) → slice_get states k ≡ Some state → row_count (set states k new) + rows_of state ≡ row_count states + rows_of new
row_count-set states k state new at =
    ap (λ (s : CallState). row_count (set states k new) + rows_of s) (sym (get_or_from_slice_get states k state state at)) ∙ sum_by-set rows_of states k new state (slice_get_within states k state at)

-- a note, or a response, makes one more
pub rows_of-noted : (state : CallState) (tag : Tag) → state.note ≡ None → rows_of (record state { note = Some tag }) ≡ rows_of state + 1
rows_of-noted state tag none = rw none (omega (arith))

pub rows_of-answered : (state : CallState) (place : ℕ) (value : Option Span) → state.response ≡ None → rows_of (record state { response = Some place; value = value }) ≡ rows_of state + 1
rows_of-answered state place value none = rw none (omega (arith))

-- so there is room for a row more while a call may begin, and while one has no note or no response
pub room-begin : (states : List CallState) (rows limit calls : ℕ) → rows ≤ row_count states → length states ≡ calls → calls < limit → limit ≤ call_limit → rows < row_limit
room-begin states rows limit calls few count below most = omega (arith, few, count, below, most, row_count-few states)

pub room-more : (states : List CallState) (rows k limit calls : ℕ) (state new : CallState) → slice_get states k ≡ Some state → rows_of new ≡ rows_of state + 1 → rows ≤ row_count states → length states ≡ calls → calls ≤ limit → limit ≤ call_limit → rows < row_limit
room-more states rows k limit calls state new at more few count below most =
    omega (arith, few, count, below, most, more, row_count-few (set states k new), row_count-set states k state new at, length-set states k new)
