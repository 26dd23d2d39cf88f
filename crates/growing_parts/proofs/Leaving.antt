-- The part without a read more.
use Rattle.std.proofs.Common.{ℕ, ◌≡◌, ◌≢◌, inl, inr, List, ◌∷◌, Some, ap, sym, ◌∙◌, subst, arith}
use Rattle.std.specs.List.{slice_get, Contains}
use Rattle.std.proofs.lemmas.Bool.{cases_eq}
use Rattle.tag.specs.declared.actions.Action.TheVariants.{Read}
use Rattle.tag.specs.declared.numbers.OpId.{OpId}
use Rattle.tag.proofs.Lists.{place_of, Contains-slice_get}
use Rattle.tag.proofs.SameTags.{same_op}
use Rattle.recorder.specs.declared.row.Row.{Row}
use Rattle.recorder.specs.declared.row.Row.TheVariants.{Invoke}
use Rattle.recorder.specs.declared.part.Call.{Call}
use Rattle.recorder.specs.Histories.{IsWellFormed, HasResponse}
use Rattle.recorder.proofs.Sequences.{same_call}
use Rattle.value_order.proofs.CallKinds.{not_both}
use Rattle.kept_families.specs.Continued.{CountsBy}
use Rattle.key_monitor.specs.Judged.{GoOn, LeavesOut}
use Rattle.growing_parts.specs.PartsWithout.{AreReadsOf, IsPartWithout, StandsBy}
use Rattle.growing_parts.proofs.GoingOn.{go_on, open_forth}
use Rattle.growing_parts.proofs.Rows.{agree_same, begun_once}
use Rattle.growing_parts.proofs.Standing.{sequence}
use Rattle.growing_parts.proofs.Without.{first_in, others_in, in_cases, without, was_in, stays_in, both}

-- ---- a part without a call more

module _ (rows : List Row) (key gone : List ℕ) (before : List Call) (is : IsPartWithout rows key gone before) (op : OpId) where
  pub without_part : IsPartWithout rows key (op.0 ∷ gone) (without op.0 before)
  without_part = record {
    each = λ call h. is.each call (was_in op.0 before call h).0;
    none = λ call h at.
        let w = was_in op.0 before call h in
        elim (in_cases op.0 gone call.op.0 at) [ inl same ↦ w.1 (sym same) | inr g ↦ is.none call w.0 g ];
    all = λ place o client action at out.
        let c = is.all place o client action at (λ h. out (others_in op.0 gone o.0 h)) in
        let x = (is.each c.0 c.1).begun in
        let one : ◌≡◌ {A = Row} (Invoke c.0.op c.0.client key c.0.action) (Invoke o client key action) = cc (
          x,
          at,
          ap (slice_get rows)
              c.2,
        ) in
        let number : c.0.op ≡ o = cc in
        let other : c.0.op.0 ≢ op.0 = λ e. out (subst (Contains (op.0 ∷ gone)) (sym e ∙ ap (λ (n : OpId). n.0) number) (first_in op.0
        gone)) in
        (c.0, stays_in op.0 before c.0 c.1 other, c.2);
    ordered = λ i j a b less at_i at_j.
        let s = both op.0 before i j a b less at_i at_j in
        is.ordered s.i s.j a b s.less s.at_i s.at_j;
  }

  -- a call that isn't on the key isn't in the part
  pub without_other : ((call : Call) → Contains before call → call.op ≡ op → ⊥) → IsPartWithout rows key (op.0 ∷ gone) before
  without_other apart = record {
    each = is.each;
    none = λ call there at. elim (in_cases op.0 gone call.op.0 at) [
      | inl same ↦ apart call there (same_op call.op op (sym same))
      | inr g ↦ is.none call there g
    ];
    all = λ place o client action at out. is.all place o client action at (λ h. out (others_in op.0 gone o.0 h));
    ordered = is.ordered;
  }

  -- ---- a pending read

  module _ (formed : IsWellFormed rows) (client : ℕ) (begun : Contains rows (Invoke op client key Read)) (stays : Contains gone op.0 → ⊥)
    where
      pub begins : (k : ℕ) × (slice_get rows k ≡ Some (Invoke op client key Read))
      begins = place_of rows (Invoke op client key Read) begun

      pub found : (call : Call) × Contains before call × (call.invoked ≡ begins.0)
      found = is.all begins.0 op client Read begins.1 stays

      abbrev pub the_read : Call
      the_read = found.0

      pub read_there : Contains before the_read
      read_there = found.1

      read_row : ◌≡◌ {A = Row} (Invoke the_read.op the_read.client key the_read.action) (Invoke op client key Read)
      read_row = cc ((is.each found.0 found.1).begun, begins.1, ap (slice_get rows) found.2)

      pub read_number : the_read.op ≡ op
      read_number = (let row = read_row in cc)

      pub read_reads : the_read.action ≡ Read
      read_reads = (let row = read_row in cc)

      pub read_at : (place : ℕ) → slice_get rows place ≡ Some (Invoke op client key Read) → the_read.invoked ≡ place
      read_at place at = found.2 ∙ begun_once rows formed begins.0 place op client client key key Read Read begins.1 at

      -- the calls of its number are the read
      the_only : (call : Call) → Contains before call → call.op.0 ≡ op.0 → call ≡ the_read
      the_only call there same = same_call before (sequence rows formed key gone before is) call the_read there read_there (same ∙ ap
          (λ (o : OpId). o.0) (sym read_number))

      module _ (pending : HasResponse rows op → ⊥) (by : ℕ) (stands : StandsBy before by) where
        counted : (call : Call) → Contains before call → CountsBy by call → Contains (op.0 ∷ gone) call.op.0 → ⊥
        counted call there counts at = elim (in_cases op.0 gone call.op.0 at) [
          | inl same ↦
              let one = the_only call there (sym same) in
              elim counts [
                | inl w ↦ not_both call (ap (λ (c : Call). c.action) one ∙ read_reads) w.0
                | inr a ↦
                    let at_row = ((is.each call there).answered a.response.place a.response.returned).0 a.responds in
                    let number : call.op ≡ op = same_op call.op op (sym same) in
                    pending (subst (HasResponse rows) number (a.response.returned, Contains-slice_get rows a.response.place _ at_row))
              ]
          | inr g ↦ is.none call there g
        ]

        pub leaves_on : GoOn by by before (without op.0 before)
        leaves_on = go_on by rows rows key (agree_same by rows) gone (op.0 ∷ gone) before (without op.0 before) formed is without_part
            stands (others_in op.0 gone) counted by (omega arith) (λ call h. stands.begun call (was_in op.0 before call h).0)

        pub leaves_out : LeavesOut by before (without op.0 before) the_read
        leaves_out = record {
          goes = leaves_on;
          last = λ call response h e. stands.last call response (was_in op.0 before call h).0 e;
          gone = λ other o same.
              let w = was_in op.0 before other o.recorded in
              let row : ◌≡◌ {A = Row} (Invoke other.op other.client key other.action) (Invoke the_read.op the_read.client key
              the_read.action) = cc ((is.each other w.0).begun, (is.each the_read read_there).begun, ap (slice_get rows) same) in
              let number : other.op ≡ the_read.op = cc in
              w.1 (ap (λ (n : OpId). n.0) (number ∙ read_number));
          others = λ other o. elim (cases_eq other.op.0 op.0) [
            | inl same ↦ inl (the_only other o.recorded same)
            | inr apart ↦ inr (open_forth by rows rows key (agree_same by rows) gone (op.0 ∷ gone) before (without op.0 before) formed is
                without_part stands (others_in op.0 gone) other o (λ h. elim (in_cases op.0 gone other.op.0 h) [
                  | inl e ↦ apart (sym e)
                  | inr g ↦ is.none other o.recorded g
                ]))
          ];
        }

-- the numbers are of reads
pub reads_more : (rows : List Row) (gone : List ℕ) → AreReadsOf rows gone → (op : OpId) (client : ℕ) (key : List ℕ)
    → Contains rows (Invoke op client key Read) → AreReadsOf rows (op.0 ∷ gone)
reads_more rows gone are op client key begun o h = elim (in_cases op.0 gone o.0 h) [
  | inl same ↦ (client, key, subst (λ (n : OpId). Contains rows (Invoke n client key Read)) (same_op op o same) begun)
  | inr g ↦ are o g
]
