-- A piece of a history is a history.
use Rattle.std.proofs.Common.{ℕ, ◌≡◌, ◌<◌, List, Some, take, length, sym, subst, arith}
use Rattle.std.specs.List.{slice_get, Contains}
use Rattle.std.proofs.lemmas.Option.{slice_get_within}
use Rattle.tag.specs.declared.actions.Action.{Action}
use Rattle.tag.specs.declared.numbers.OpId.{OpId}
use Rattle.recorder.specs.declared.row.Row.{Row}
use Rattle.recorder.specs.declared.row.Row.TheVariants.{Invoke, Note, Respond}
use Rattle.recorder.specs.Histories.{HasNote, HasResponse, IsPendingCall, IsWellFormed, MayFollow}
use Rattle.split_rows.specs.Pieces.{op_of, with_op, IsCallOf, IsPiece}
use Rattle.split_rows.proofs.Rows.{front_of, to_front}
use Rattle.split_rows.proofs.PieceRows.{invoke_out, note_out, respond_out, lower, one_number, row_in}

module _ (rows : List Row) (formed : IsWellFormed rows) (mine : List ℕ → Type 0) (number : OpId → OpId) (piece : List Row)
    (is : IsPiece rows mine number piece) (k : ℕ) (within : k < length piece) where
  -- what stands before a row of the piece, and of the history
  abbrev before : List Row
  before = take (is.place k) rows

  abbrev before_in : List Row
  before_in = take k piece

  -- a row of the piece's calls before that place stands before the row in the piece
  forth : (row : Row) → IsCallOf rows mine (op_of row) → Contains before row → Contains before_in (with_op row (number (op_of row)))
  forth row of h =
      let f = front_of rows (is.place k) row h in
      let s = row_in rows formed mine number piece is f.0 row f.2 of in
      let less : is.place s.k < is.place k = omega (arith, s.place, f.1) in
      to_front piece k s.k (with_op row (number (op_of row))) (lower rows formed mine number piece is s.k k s.within less) s.stands

  -- and what does is of one of these
  note_back : (op : OpId) → IsCallOf rows mine op → HasNote before_in (number op) → HasNote before op
  note_back op of h =
      let f = front_of piece k (Note (number op) h.0) h.1 in
      let s = note_out rows formed mine number piece is f.0 (number op) h.0 f.2 in
      let same : s.op ≡ op = one_number rows formed mine number piece is s.op op s.of of (sym s.new_is) in
      let there = to_front rows (is.place k) (is.place f.0) (Note s.op h.0) (is.rises f.0 k f.1 within) s.stands in
      (h.0, subst (λ (o : OpId). Contains (take (is.place k) rows) (Note o h.0)) same there)

  response_back : (op : OpId) → IsCallOf rows mine op → HasResponse before_in (number op) → HasResponse before op
  response_back op of h =
      let f = front_of piece k (Respond (number op) h.0) h.1 in
      let s = respond_out rows formed mine number piece is f.0 (number op) h.0 f.2 in
      let same : s.op ≡ op = one_number rows formed mine number piece is s.op op s.of of (sym s.new_is) in
      let there = to_front rows (is.place k) (is.place f.0) (Respond s.op h.0) (is.rises f.0 k f.1 within) s.stands in
      (h.0, subst (λ (o : OpId). Contains (take (is.place k) rows) (Respond o h.0)) same there)

  -- a call of the piece that is pending before the place is pending before the row
  pending_forth : (op : OpId) (client : ℕ) (action : Action) → IsCallOf rows mine op → IsPendingCall before op client action
      → IsPendingCall before_in (number op) client action
  pending_forth op client action of p = record {
    key = p.key;
    invoked = forth (Invoke op client p.key action) of p.invoked;
    unanswered = λ h. p.unanswered (response_back op of h);
  }

  -- and back
  pending_back : (new : OpId) (client : ℕ) (action : Action) → IsPendingCall before_in new client action
      → (op : OpId) × IsPendingCall before op client action
  pending_back new client action p =
      let f = front_of piece k (Invoke new client p.key action) p.invoked in
      let s = invoke_out rows formed mine number piece is f.0 new client p.key action f.2 in (
        s.op,
        record {
          key = p.key;
          invoked = to_front rows (is.place k) (is.place f.0) (Invoke s.op client p.key action) (is.rises f.0 k f.1 within) s.stands;
          unanswered = λ h. p.unanswered (
            h.0,
            subst (λ (o : OpId). Contains (take k piece) (Respond o h.0)) (sym s.new_is) (forth (Respond s.op h.0) s.of h.1),
          );
        },
      )

  may_follow : (row : Row) → slice_get piece k ≡ Some row → MayFollow before_in row
  may_follow (Invoke new client key action) at =
      let s = invoke_out rows formed mine number piece is k new client key action at in
      let may = formed (is.place k) (Invoke s.op client key action) s.stands in (
        is.anew k new client key action at,
        λ b. let p = pending_back b.0 client b.1 b.2 in may.1 (p.0, b.1, p.1),
      )
  may_follow (Note new tag) at =
      let s = note_out rows formed mine number piece is k new tag at in
      let may = formed (is.place k) (Note s.op tag) s.stands in
      let pending = pending_forth s.op may.0.0 may.0.1 s.of may.0.2 in
      subst (λ (o : OpId). MayFollow (take k piece) (Note o tag)) (sym s.new_is) (
        (may.0.0, may.0.1, pending),
        λ h. may.1 (note_back s.op s.of h),
      )
  may_follow (Respond new returned) at =
      let s = respond_out rows formed mine number piece is k new returned at in
      let may = formed (is.place k) (Respond s.op returned) s.stands in
      let pending = pending_forth s.op may.0 may.1 s.of may.2 in
      subst (λ (o : OpId). MayFollow (take k piece) (Respond o returned)) (sym s.new_is) (may.0, may.1, pending, may.3)

pub formed_piece : (rows : List Row) → IsWellFormed rows → (mine : List ℕ → Type 0) (number : OpId → OpId) (piece : List Row)
    → IsPiece rows mine number piece → IsWellFormed piece
formed_piece rows formed mine number piece is k row at = may_follow rows formed mine number piece is k (slice_get_within piece k row at) row at
