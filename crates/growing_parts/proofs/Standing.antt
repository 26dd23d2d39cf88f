-- A part without reads that were given up is a sequence, of calls that were answered at places of their own.
use Rattle.std.proofs.Common.{ℕ, ◌≡◌, List, ap}
use Rattle.std.specs.List.{slice_get}
use Rattle.tag.specs.declared.numbers.OpId.{OpId}
use Rattle.tag.proofs.Lists.{Contains-slice_get}
use Rattle.recorder.specs.declared.row.Row.{Row}
use Rattle.recorder.specs.declared.row.Row.TheVariants.{Respond}
use Rattle.recorder.specs.declared.part.Call.{Call}
use Rattle.recorder.specs.Histories.{IsWellFormed}
use Rattle.recorder.specs.Parts.{IsSequence}
use Rattle.recorder.proofs.Sequences.{same_call}
use Rattle.key_monitor.specs.ZonesOf.{HaveOwnEnds}
use Rattle.growing_parts.specs.PartsWithout.{IsPartWithout}
use Rattle.growing_parts.proofs.Rows.{numbers_rise, begun_before}

module _ (rows : List Row) (formed : IsWellFormed rows) (key gone : List ℕ) (part : List Call) (is : IsPartWithout rows key gone part)
  where
    pub sequence : IsSequence part
    sequence = record {
      numbers = λ i j a b less at_i at_j.
          let x = is.each a (Contains-slice_get part i a at_i) in
          let y = is.each b (Contains-slice_get part j b at_j) in
          numbers_rise rows formed a.invoked b.invoked a.op b.op a.client b.client key key a.action b.action (is.ordered i j a b less at_i
          at_j) x.begun y.begun;
      places = is.ordered;
      responses = λ call response there e.
          let x = is.each call there in
          begun_before rows formed response.place call.op response.returned ((x.answered response.place response.returned).0 e)
          call.invoked call.client key call.action x.begun;
    }

    -- a row answers one call
    pub own_ends : HaveOwnEnds part
    own_ends a b r s in_a in_b e f same =
        let at_a = ((is.each a in_a).answered r.place r.returned).0 e in
        let at_b = ((is.each b in_b).answered s.place s.returned).0 f in
        let one : ◌≡◌ {A = Row} (Respond a.op r.returned) (Respond b.op s.returned) = cc (at_a, at_b, ap (slice_get rows) same) in
        let number : a.op ≡ b.op = cc in
        same_call part sequence a b in_a in_b (ap (λ (o : OpId). o.0) number)
